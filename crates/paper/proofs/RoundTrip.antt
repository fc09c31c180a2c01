-- A file written and read is the file, and an accepted file read and written is its bytes, at most 836.
use mathlib.Core.Path.{◌≡◌, refl, sym, subst, ap, ap₂, ◌∙◌}
use mathlib.Core.Bool.{Bool, true, false}
use mathlib.Core.List.{List, [], ◌∷◌, ◌++◌, map, append-nil}
use Prim.Native.Nat.{ℕ, suc, ◌+◌, ◌-◌, ◌*◌, ◌≤◌, ◌<◌}
use native.Mathlib.Omega.{arith}
use borrow.Author.Tests.{ltb-false, le-ltb}
use lib.Dec.{ltb}
use lib.ListN.{length, replicate, drop, length-append, length-replicate, drop_of_length-le}
use Rattle.base.specs.Choice.{pick}
use Rattle.base.specs.Lists.{All, Bytes}
use Rattle.base.proofs.Elements.{all_replicate}
use Rattle.base.proofs.Positions.{append_after}
use Rattle.paper.specs.Sizes.{most_cabinets, most_unknowns, most_records, most_parts, most_statements, most_groups, number_limit, longest_file}
use Rattle.paper.specs.Refusals.{part_not_unknown, no_such_entry, bytes_left}
use Rattle.paper.specs.Numbers.{Read, got, fault, number_bytes}
use Rattle.paper.specs.Tables.{Record, RecordOk, Table, TableOk, entries}
use Rattle.paper.specs.Runs.{Statement, Run, as_item, initial}
use Rattle.paper.specs.Reached.{StatementOk, FileOk}
use Rattle.paper.specs.Files.{Form, end, ◌>>=◌, number, times, record_form, table_form, statement_form, count_form, file_form, File, reading, ended, read_file, each, record_bytes, statement_bytes, table_bytes, file_bytes, padded_file}
use Rattle.paper.specs.Replies.{AsLoaded}
use Rattle.paper.proofs.NumberCodec.{fault_got, number_one, number_most}
use Rattle.paper.proofs.Forms.{Spells, more, number_spells, spells_next, number_codec, Codec, spells_made, made_spells, spells_bind, bind_spells, times_codec, codec_there, codec_back}

-- a record: "symbol, part count, parts"
pub record_codec : (v : ℕ) → v ≤ most_unknowns → Codec (record_form v) record_bytes (RecordOk v)
unfolding record_bytes
record_codec v l = record { there = there; back = back }
  where
    parts : (n : ℕ) → Codec (times n (number 0 v part_not_unknown)) (each number_bytes) (λ ps. (length ps ≡ n) × All (λ p. p < v) ps)
    parts n = times_codec (number_codec v part_not_unknown (omega arith)) n

    there : (q : Record) → RecordOk v q → Spells (record_form v) (record_bytes q) q
    there q h =
        let few : length q.parts < suc most_parts = omega (arith, h.count) in
        number_spells q.symbol h.symbol h.symbol
        (number_spells (length q.parts) few (omega arith)
        (made_spells (λ ps. record { symbol = q.symbol; parts = ps }) ((parts (length q.parts)).there q.parts (refl, h.parts)))
        refl)
        refl

    back : {b : List ℕ} {q : Record} → Spells (record_form v) b q → (b ≡ record_bytes q) × RecordOk v q
    back {b} j =
        let y = spells_next j in
        let n = spells_next y.goes_on in
        let i = spells_made (times n.value (number 0 v part_not_unknown)) (λ ps. record { symbol = y.value; parts = ps }) n.goes_on in
        let p = (parts n.value).back i.spells in
        let m : length i.value ≡ n.value = p.1.0 in
        subst (λ (q : Record). (b ≡ record_bytes q) × RecordOk v q) i.is (
          y.bytes ∙ append_after (number_bytes y.value) (n.bytes ∙ ap₂ ◌++◌ (ap number_bytes (sym m)) p.0),
          record { symbol = y.most; count = omega (arith, n.most); parts = p.1.1 },
        )

-- a table: "S, V, R; for each record .."
pub table_codec : Codec table_form table_bytes TableOk
unfolding table_bytes
table_codec = record { there = there; back = back }
  where
    there : (t : Table) → TableOk t → Spells table_form (table_bytes t) t
    there t h =
        let c : t.cabinets < suc most_cabinets = omega (arith, h.cabinets) in
        let v : t.unknowns < suc most_unknowns = omega (arith, h.unknowns) in
        let r : length t.records < suc most_records = omega (arith, h.count) in
        more t.cabinets h.one c (omega arith)
        (number_spells t.unknowns v (omega arith)
        (number_spells (length t.records) r (omega arith)
        (made_spells (λ qs. record { cabinets = t.cabinets; unknowns = t.unknowns; records = qs })
        ((times_codec (record_codec t.unknowns h.unknowns) (length t.records)).there t.records (refl, h.records)))
        refl)
        refl)
        refl

    back : {b : List ℕ} {t : Table} → Spells table_form b t → (b ≡ table_bytes t) × TableOk t
    back {b} j =
        let c = spells_next j in
        let v = spells_next c.goes_on in
        let r = spells_next v.goes_on in
        let i =
        spells_made (times r.value (record_form v.value)) (λ qs. record { cabinets = c.value; unknowns = v.value; records = qs })
        r.goes_on in
        let few : v.value ≤ most_unknowns = omega (arith, v.most) in
        let p = (times_codec (record_codec v.value few) r.value).back i.spells in
        let m : length i.value ≡ r.value = p.1.0 in
        subst (λ (t : Table). (b ≡ table_bytes t) × TableOk t) i.is (
          c.bytes
              ∙ append_after (number_bytes c.value)
              (v.bytes ∙ append_after (number_bytes v.value) (r.bytes ∙ ap₂ ◌++◌ (ap number_bytes (sym m)) p.0)),
          record {
            one = c.least;
            cabinets = omega (arith, c.most);
            unknowns = few;
            count = omega (arith, r.most);
            records = p.1.1;
          },
        )

-- a statement: "cabinet, left, right"
pub statement_codec : (t : Table) → TableOk t → Codec (statement_form t) statement_bytes (StatementOk t)
unfolding statement_bytes
statement_codec t k = record { there = there; back = back }
  where
    few : entries t ≤ number_limit
    few = omega (arith, k.unknowns, k.count)

    there : (q : Statement) → StatementOk t q → Spells (statement_form t) (statement_bytes q) q
    there q h =
        let c : q.cabinet < t.cabinets = h.cabinet in
        let a : q.left < entries t = h.left in
        number_spells q.cabinet c (omega (arith, k.cabinets))
        (number_spells q.left a (omega (arith, few))
        (made_spells (λ b. record { cabinet = q.cabinet; left = q.left; right = b })
        ((number_codec (entries t) no_such_entry few).there q.right h.right))
        refl)
        refl

    back : {b : List ℕ} {q : Statement} → Spells (statement_form t) b q → (b ≡ statement_bytes q) × StatementOk t q
    back {b} j =
        let c = spells_next j in
        let a = spells_next c.goes_on in
        let i =
        spells_made (number 0 (entries t) no_such_entry) (λ b. record { cabinet = c.value; left = a.value; right = b }) a.goes_on in
        let p = (number_codec (entries t) no_such_entry few).back i.spells in
        subst (λ (q : Statement). (b ≡ statement_bytes q) × StatementOk t q) i.is (
          c.bytes ∙ append_after (number_bytes c.value) (a.bytes ∙ append_after (number_bytes a.value) p.0),
          record { cabinet = c.most; left = a.most; right = p.1 },
        )

-- a file, but for bytes left over: a table, E and statements
pub file_codec : Codec file_form file_bytes (λ f. FileOk f.table f.statements)
unfolding file_form file_bytes
file_codec = record { there = there; back = back }
  where
    rest : Table → Form File
    rest t = count_form >>= λ e. times e (statement_form t) >>= λ qs. end (record { table = t; statements = qs })

    there : (f : File) → FileOk f.table f.statements → Spells file_form (file_bytes f) f
    there f h =
        let e : length f.statements < suc most_statements = omega (arith, h.count) in
        bind_spells rest (table_codec.there f.table h.table)
        (number_spells (length f.statements) e (omega arith)
        (made_spells (λ qs. record { table = f.table; statements = qs })
        ((times_codec (statement_codec f.table h.table) (length f.statements)).there f.statements (refl, h.statements)))
        refl)

    back : {b : List ℕ} {f : File} → Spells file_form b f → (b ≡ file_bytes f) × FileOk f.table f.statements
    back {b} j =
        let d = spells_bind table_form rest j in
        let t = table_codec.back d.spells in
        let e = spells_next d.goes_on in
        let i =
        spells_made (times e.value (statement_form d.value)) (λ qs. record { table = d.value; statements = qs }) e.goes_on in
        let p = (times_codec (statement_codec d.value t.1) e.value).back i.spells in
        let m : length i.value ≡ e.value = p.1.0 in
        subst (λ (f : File). (b ≡ file_bytes f) × FileOk f.table f.statements) i.is (
          d.bytes ∙ ap₂ ◌++◌ t.0 (e.bytes ∙ ap₂ ◌++◌ (ap number_bytes (sym m)) p.0),
          record { table = t.1; count = omega (arith, e.most); statements = p.1.1 },
        )

-- what is written is accepted and read as the same
pub written_read : (f : File) → FileOk f.table f.statements → read_file (file_bytes f) ≡ got f (length (file_bytes f))
unfolding read_file
written_read f h =
    let n = length (file_bytes f) in
    let e : reading file_form (file_bytes f) 0 ≡ got f n =
    codec_there file_codec (file_bytes f) 0 f [] h (sym (append-nil (file_bytes f))) ∙ ap (got f) (omega arith) in
    rw (e, le-ltb n n (omega arith))

-- a file that is read as f up to a position
pub record Accepted (s : List ℕ) (f : File) (at : ℕ) : Type 0 where
  pub bytes : s ≡ file_bytes f
  pub ok : FileOk f.table f.statements
  pub ends : at ≡ length s

-- an accepted file is what is written of what was read, in its ranges, to its end
pub read_written : (s : List ℕ) → Bytes s → (f : File) (at : ℕ) → read_file s ≡ got f at → Accepted s f at
unfolding read_file
read_written s y f at e = go (reading file_form s 0) refl e
  where
    all : (g : File) (to : ℕ) → reading file_form s 0 ≡ got g to → length s ≤ to → Accepted s g to
    all g to d h =
        let i = codec_back file_codec s 0 g to y d in
        let n : drop to s ≡ [] = drop_of_length-le s h in
        let b : s ≡ file_bytes g = i.bytes ∙ append_after (file_bytes g) n ∙ append-nil (file_bytes g) in
        record { bytes = b; ok = i.ok; ends = omega (arith, i.ends, ap length b) }

    over : (g : File) (to : ℕ) → reading file_form s 0 ≡ got g to → (b : Bool) → ltb to (length s) ≡ b
        → pick b (fault bytes_left to) (got g to) ≡ got f at → Accepted s f at
    over g to d true c e = absurd (fault_got e)
    over g to d false c e =
        let v : g ≡ f = cc in
        let o : to ≡ at = cc in
        subst (λ (x : File). Accepted s x at) v (subst (λ (n : ℕ). Accepted s g n) o (all g to d (ltb-false to (length s) c)))

    go : (x : Read File) → reading file_form s 0 ≡ x → ended s x ≡ got f at → Accepted s f at
    go (got g to) d e = over g to d (ltb to (length s)) refl e
    go (fault k p) d e = absurd (fault_got e)

-- what is written of a list, where no element takes more than k bytes
module _ {A : Type 0} (w : A → List ℕ) (P : A → Type 0) (k : ℕ) (most : (a : A) → P a → length (w a) ≤ k) where
  each_most : (l : List A) → All P l → length (each w l) ≤ length l * k
  each_most [] h = omega arith
  each_most (a ∷ l) h = omega (arith, length-append (w a) (each w l), most a h.0, each_most l h.1)

-- a record's symbol, part count and parts
abbrev record_most : ℕ
record_most = most_groups + 1 + most_parts

record_most_lem : (v : ℕ) → v ≤ most_unknowns → (q : Record) → RecordOk v q → length (record_bytes q) ≤ record_most
unfolding record_bytes
record_most_lem v l q h =
    let count = number_one (length q.parts) (omega (arith, h.count)) in
    let parts = each_most number_bytes (λ p. p < v) 1 (λ p m. omega (arith, number_one p (omega arith))) q.parts h.parts in
    simp length-append (omega (arith, number_most q.symbol, h.count))

-- a statement's three numbers
statement_most : (t : Table) → TableOk t → (q : Statement) → StatementOk t q → length (statement_bytes q) ≤ 3
unfolding statement_bytes
statement_most t k q h =
    let few : entries t < 128 = omega (arith, k.unknowns, k.count) in
    let c = number_one q.cabinet (omega (arith, h.cabinet, k.cabinets)) in
    let a = number_one q.left (omega (arith, h.left)) in
    let b = number_one q.right (omega (arith, h.right)) in
    simp length-append (omega arith)

-- what is written is no longer than the longest file
pub written_no_longer : (f : File) → FileOk f.table f.statements → length (file_bytes f) ≤ longest_file
unfolding file_bytes table_bytes
written_no_longer f ok =
    let t = f.table in
    let k = ok.table in
    let c = number_one t.cabinets (omega (arith, k.cabinets)) in
    let v = number_one t.unknowns (omega (arith, k.unknowns)) in
    let r = number_one (length t.records) (omega (arith, k.count)) in
    let n = number_one (length f.statements) (omega (arith, ok.count)) in
    let records =
    each_most record_bytes (RecordOk t.unknowns) record_most (record_most_lem t.unknowns k.unknowns) t.records k.records in
    let statements = each_most statement_bytes (StatementOk t) 3 (statement_most t k) f.statements ok.statements in
    simp length-append (omega (arith, k.count, ok.count))

-- "The longest is 836 bytes."
pub no_longer : (s : List ℕ) → Bytes s → (f : File) (at : ℕ) → read_file s ≡ got f at → length s ≤ longest_file
no_longer s y f at e = let i = read_written s y f at e in rw i.bytes (written_no_longer f i.ok)

padded : (b : List ℕ) → length b ≤ longest_file → length (b ++ replicate (longest_file - length b) 0) ≡ 836
padded b h = simp (length-append, length-replicate) (omega arith)

-- The writer's "exactly 836 bytes": of every accepted file the padded bytes are as many.
pub padded_is_836 : (f : File) → FileOk f.table f.statements → length (padded_file f) ≡ 836
unfolding padded_file
padded_is_836 f ok = padded (file_bytes f) (written_no_longer f ok)

-- as many records, parts and statements as may be, and the largest symbol
longest : File
longest =
    record {
      table = record {
        cabinets = 1;
        unknowns = 1;
        records = replicate most_records (record { symbol = 4294967295; parts = replicate most_parts 0 });
      };
      statements = replicate most_statements (record { cabinet = 0; left = 0; right = 0 });
    }

-- and there is a file of that length
pub as_long : (f : File) × FileOk f.table f.statements × (length (file_bytes f) ≡ longest_file)
unfolding file_bytes longest
as_long = (longest, ok, refl)
  where
    ok : FileOk longest.table longest.statements
    ok =
        record {
          table = record {
            one = omega arith;
            cabinets = omega arith;
            unknowns = omega arith;
            count = omega arith;
            records =
                all_replicate (RecordOk 1) most_records _
                (record { symbol = omega arith; count = omega arith; parts = all_replicate (λ p. p < 1) most_parts 0 (omega arith) });
          };
          count = omega arith;
          statements =
              all_replicate (StatementOk longest.table) most_statements _
              (record { cabinet = omega arith; left = omega arith; right = omega arith });
        }

-- pending items tell their statements
same_statements : (qs qs' : List Statement) → map as_item qs ≡ map as_item qs' → qs ≡ qs'
same_statements [] [] e = refl
same_statements [] (q ∷ qs') e = absurd (let z : ◌≡◌ {A = ℕ} 0 1 = cc in omega arith)
same_statements (q ∷ qs) [] e = absurd (let z : ◌≡◌ {A = ℕ} 0 1 = cc in omega arith)
same_statements (q ∷ qs) (q' ∷ qs') e =
    let c : q.cabinet ≡ q'.cabinet = cc in
    let a : q.left ≡ q'.left = cc in
    let b : q.right ≡ q'.right = cc in
    let l : map as_item qs ≡ map as_item qs' = cc in
    let one : q ≡ q' = λ i. record { cabinet = c i; left = a i; right = b i } in
    ap₂ ◌∷◌ one (same_statements qs qs' l)

-- "The writer accepts a run only as loading some file leaves it": of one list of statements, so that the file is one
pub loaded_from_one_file : (t : Table) (r : Run) (v w : AsLoaded t r) → v.statements ≡ w.statements
unfolding initial
loaded_from_one_file t r v w = same_statements v.statements w.statements (ap (λ (p : Run). p.pending) (sym v.is ∙ w.is))
