-- Statement n of an accepted file is that statement's own bytes, a part of the file.
use mathlib.Core.Path.{◌≡◌, refl, sym, ap, ◌∙◌}
use mathlib.Core.Logic.{◌⊎◌, inl, inr, ⊎_elim, ◌↔◌}
use mathlib.Core.Bool.{Bool, true, false}
use mathlib.Core.List.{List, [], ◌∷◌, ◌++◌, append_assoc}
use mathlib.Core.Option.{some}
use Prim.Native.Nat.{ℕ, suc, ◌+◌, ◌≤◌, ◌<◌}
use native.Mathlib.Omega.{arith}
use borrow.Author.Tests.{ltb-true, ltb-false, lt-ltb, le-ltb}
use lib.Dec.{ltb}
use lib.ListN.{length, take, drop, get_elem?, length-append}
use lib.Seq.{length-take-le, drop-append_seam, take-append_seam}
use Rattle.base.specs.Lists.{Bytes}
use Rattle.base.proofs.Elements.{place_some, some_place, place_split, all_take, all_at}
use Rattle.base.proofs.Positions.{append_after}
use Rattle.paper.specs.Sizes.{most_statements}
use Rattle.paper.specs.Numbers.{Read, got, fault, number_bytes}
use Rattle.paper.specs.Runs.{Statement}
use Rattle.paper.specs.Reached.{StatementOk, FileOk}
use Rattle.paper.specs.Files.{end, ◌>>=◌, times, statement_form, count_form, before_statement, File, reading, read_file, each, statement_bytes, table_bytes, file_bytes, Span, empty_span, span_in, span_at, statement_span, statement_part}
use Rattle.paper.proofs.NumberCodec.{number_some}
use Rattle.paper.proofs.Forms.{Spells, number_spells, made_spells, bind_spells, spelt_read, times_codec, codec_there}
use Rattle.paper.proofs.RoundTrip.{table_codec, statement_codec, read_written}

-- the bytes of all that stands before statement n
unfoldable pub bytes_before : File → ℕ → List ℕ
bytes_before f n = table_bytes f.table ++ (number_bytes (length f.statements) ++ each statement_bytes (take n f.statements))

-- where statement n starts, and its length
abbrev pub own_span : File → ℕ → Statement → Span
own_span f n q = record { start = length (bytes_before f n); size = length (statement_bytes q) }

-- lists written one after the other
pub each_append : {A : Type 0} (w : A → List ℕ) (l m : List A) → each w (l ++ m) ≡ each w l ++ each w m
each_append w [] m = refl
each_append w (a ∷ l) m = rw append_assoc (append_after (w a) (each_append w l m))

regroup : (a b c d : List ℕ) → a ++ (b ++ (c ++ d)) ≡ (a ++ (b ++ c)) ++ d
regroup a b c d = simp append_assoc

-- a file, and statement n of it
module _ (f : File) (n : ℕ) (q : Statement) (i : get_elem? f.statements n ≡ some q) where
  bytes_after : List ℕ
  bytes_after = each statement_bytes (drop (suc n) f.statements)

  -- the file: what stands before, the statement, what stands after
  file_parts : file_bytes f ≡ bytes_before f n ++ (statement_bytes q ++ bytes_after)
  unfolding file_bytes bytes_before bytes_after
  file_parts =
      append_after (table_bytes f.table) (append_after (number_bytes (length f.statements))
      (ap (each statement_bytes) (place_split f.statements n q i)
      ∙ each_append statement_bytes (take n f.statements) (q ∷ drop (suc n) f.statements)))
      ∙ regroup (table_bytes f.table) (number_bytes (length f.statements)) (each statement_bytes (take n f.statements))
      (statement_bytes q ++ bytes_after)

  -- the statement's own bytes stand where all before it ends
  part_stands : (s : List ℕ) → s ≡ file_bytes f → drop (length (bytes_before f n)) s ≡ statement_bytes q ++ bytes_after
  part_stands s e = ap (drop (length (bytes_before f n))) (e ∙ file_parts) ∙ drop-append_seam (bytes_before f n) (statement_bytes q ++ bytes_after)

  module _ (k : FileOk f.table f.statements) where
    -- what stands before is read up to there, and then the statement
    before_spells : Spells (before_statement n) (bytes_before f n) f.table
    unfolding bytes_before
    before_spells =
        let few : length f.statements < suc most_statements = omega (arith, k.count) in
        let here : n < length f.statements = some_place f.statements n q i in
        bind_spells (λ t. count_form >>= λ e. times n (statement_form t) >>= λ qs. end t) (table_codec.there f.table k.table)
        (number_spells (length f.statements) few (omega arith)
        (made_spells (λ qs. f.table)
        ((times_codec (statement_codec f.table k.table) n).there (take n f.statements)
        (length-take-le n f.statements (omega arith), all_take (StatementOk f.table) f.statements n k.statements)))
        refl)

    span_read : (s : List ℕ) → s ≡ file_bytes f → span_at s (reading (before_statement n) s 0) ≡ own_span f n q
    span_read s e =
        let b = length (bytes_before f n) in
        let t : reading (before_statement n) s 0 ≡ got f.table b =
        spelt_read s before_spells 0 (statement_bytes q ++ bytes_after) (e ∙ file_parts) ∙ ap (got f.table) (omega arith) in
        let o : StatementOk f.table q = all_at (StatementOk f.table) f.statements n q i k.statements in
        rw (t, codec_there (statement_codec f.table k.table) s b q bytes_after o (part_stands s e))
        (ap (λ (x : ℕ). record { start = b; size = x }) (omega arith))

-- a statement is not empty
statement_some : (q : Statement) → 0 < length (statement_bytes q)
unfolding statement_bytes
statement_some q = simp length-append (omega (arith, number_some q.cabinet))

-- there is no statement n: the file is refused, or n is not below E
pub data Absent (s : List ℕ) (n : ℕ) : Type 0 where
  refused : {k p : ℕ} → read_file s ≡ fault k p → Absent s n
  beyond : {f : File} {at : ℕ} → read_file s ≡ got f at → length f.statements ≤ n → Absent s n

-- the file is accepted, and q is statement n
pub record Present (s : List ℕ) (n : ℕ) : Type 0 where
  pub file : File
  pub end : ℕ
  pub read : read_file s ≡ got file end
  pub statement : Statement
  pub place : get_elem? file.statements n ≡ some statement

-- one of the two
pub present_or_absent : (s : List ℕ) (n : ℕ) → Present s n ⊎ Absent s n
present_or_absent s n = go (read_file s) refl
  where
    here : (f : File) (at : ℕ) → read_file s ≡ got f at → (b : Bool) → ltb n (length f.statements) ≡ b → Present s n ⊎ Absent s n
    here f at e true c =
        let w = place_some f.statements n (ltb-true n (length f.statements) c) in
        inl (record { file = f; end = at; read = e; statement = w.0; place = w.1 })
    here f at e false c = inr (beyond e (ltb-false n (length f.statements) c))

    go : (x : Read File) → read_file s ≡ x → Present s n ⊎ Absent s n
    go (got f at) e = here f at e (ltb n (length f.statements)) refl
    go (fault k p) e = inr (refused e)

-- with no statement n the span is the empty one
pub absent_span : (s : List ℕ) (n : ℕ) → Absent s n → statement_span s n ≡ empty_span
unfolding statement_span
absent_span s n (refused e) = ap (span_in s n) e
absent_span s n (beyond {f} e h) = ap (span_in s n) e ∙ rw (le-ltb n (length f.statements) h)

module _ (s : List ℕ) (y : Bytes s) (n : ℕ) where
  -- in an accepted file, the span of statement n starts where all before it ends and is as long as its bytes
  pub statement_span_lem : (h : Present s n) → statement_span s n ≡ own_span h.file n h.statement
  unfolding statement_span
  statement_span_lem h =
      let a = read_written s y h.file h.end h.read in
      let l : n < length h.file.statements = some_place h.file.statements n h.statement h.place in
      ap (span_in s n) h.read
      ∙ rw (lt-ltb n (length h.file.statements) l) (span_read h.file n h.statement h.place a.ok s a.bytes)

  -- "the answer is that statement's own bytes, a part of the lent file"
  pub statement_part_lem : (h : Present s n) → statement_part s n ≡ statement_bytes h.statement
  unfolding statement_part
  statement_part_lem h =
      let a = read_written s y h.file h.end h.read in
      ap (λ (p : Span). take p.size (drop p.start s)) (statement_span_lem h)
      ∙ rw (part_stands h.file n h.statement h.place s a.bytes) (take-append_seam (statement_bytes h.statement) _)

  -- what holds of no statement that is there holds only where there is none
  only_absent : (X : Type 0) → (Present s n → X → ⊥) → X → Absent s n
  only_absent X h x = ⊎_elim (λ (p : Present s n). absurd (h p x)) (λ (a : Absent s n). a) (present_or_absent s n)

  -- "an empty part exactly when the file is refused or n is not below E"
  pub empty_exactly : (statement_part s n ≡ []) ↔ Absent s n
  unfolding statement_part
  empty_exactly = (
    only_absent (statement_part s n ≡ []) (λ h e. omega (arith, ap length (sym e ∙ statement_part_lem h), statement_some h.statement)),
    λ h. ap (λ (p : Span). take p.size (drop p.start s)) (absent_span s n h),
  )

  -- the same of its length
  pub size_zero_exactly : ((statement_span s n).size ≡ 0) ↔ Absent s n
  size_zero_exactly = (
    only_absent ((statement_span s n).size ≡ 0)
        (λ h e. omega (arith, e, ap (λ (p : Span). p.size) (statement_span_lem h), statement_some h.statement)),
    λ h. ap (λ (p : Span). p.size) (absent_span s n h),
  )

  -- the span is "a part of the lent file"
  pub span_inside : (statement_span s n).start + (statement_span s n).size ≤ length s
  span_inside = ⊎_elim present absent (present_or_absent s n)
    where
      present : Present s n → (statement_span s n).start + (statement_span s n).size ≤ length s
      present h =
          let a = read_written s y h.file h.end h.read in
          rw (statement_span_lem h)
          (omega (arith, simp length-append at (ap length (a.bytes ∙ file_parts h.file n h.statement h.place))))

      absent : Absent s n → (statement_span s n).start + (statement_span s n).size ≤ length s
      absent h = rw (absent_span s n h) (omega arith)
