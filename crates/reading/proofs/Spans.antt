-- Laws of statement n: one for each way out of `find_statement` and `statement`, and the span lies in the file.
use Prim.Native.Nat.{ℕ, ◌+◌, ◌-◌, ◌≤◌, ◌<◌}
use mathlib.Core.Path.{◌≡◌, refl, sym, ap, ◌∙◌}
use mathlib.Core.Bool.{Bool, true, false}
use mathlib.Core.List.{List}
use native.Mathlib.Omega.{arith}
use borrow.Author.Tests.{lt-ltb, le-ltb}
use lib.Dec.{ltb}
use lib.ListN.{length, take, drop}
use Rattle.base.specs.Choice.{pick}
use Rattle.paper.specs.Sizes.{most_cabinets, most_unknowns, most_records}
use Rattle.paper.specs.Tables.{Table}
use Rattle.paper.specs.Runs.{Statement}
use Rattle.paper.specs.Numbers.{Read, got, fault}
use Rattle.paper.specs.Files.{Form, end, ◌>>=◌, times, table_form, statement_form, count_form, before_statement, File, reading, read_file, Span as FileSpan, empty_span, span_from, span_at, span_in, statement_span, statement_part}
use Rattle.reading.specs.declared.Checked.{Checked}
use Rattle.reading.specs.declared.Span.{Span}
use Rattle.std.specs.Prelude.{Option, Some, None, Result, Ok, Err}
use Rattle.std.specs.Result.{result_ok}
use Rattle.std.proofs.lemmas.Option.{none-some}
use Rattle.paper.specs.declared.refused.Fault.{Fault}
use Rattle.paper.proofs.NumberCodec.{fault_got}
use Rattle.reading.specs.Reads.{statement_form_of, checked_of, checked_file, span_of}
use Rattle.reading.proofs.Times.{EndsAs}
use Rattle.reading.proofs.Onward.{bind_on, bind_fault, reading_within}
use Rattle.reading.proofs.FileAccepted.{Accepted, accepted}

-- a span that lies in the file
abbrev InFile : List ℕ → FileSpan → Type 0
InFile f x = x.start + x.size ≤ length f

-- what follows the table before statement n
abbrev statements_before : ℕ → Table → Form Table
statements_before n t = count_form >>= λ e. times n (statement_form t) >>= λ l. end t

-- a statement ends no earlier than it starts
pub own_forward : (s e : ℕ) (f : List ℕ) (start : ℕ) (q : Statement) (next : ℕ) → got q next ≡ reading (statement_form_of s e) f start
    → start ≤ next
own_forward s e f start q next d = (reading_within f (statement_form_of s e) start q next (sym d)).0

-- what `.ok()` was made of
pub ok_of : {A : Type 0} (r : Result A Fault) (o : Option A) (x : A) → o ≡ result_ok r → o ≡ Some x → r ≡ Ok x
ok_of (Ok y) o x e h = cc
ok_of (Err d) o x e h = absurd (none-some x (sym e ∙ h))

pub err_of : {A : Type 0} (r : Result A Fault) (o : Option A) → o ≡ result_ok r → o ≡ None → (e : Fault) × (r ≡ Err e)
err_of (Ok y) o e h = absurd (none-some y (sym h ∙ e))
err_of (Err d) o e h = (d, refl)

module _ (f : List ℕ) (n : ℕ) where
  -- the ways out of `find_statement`
  abbrev NoSpan : Type 0
  NoSpan = span_of (record { start = 0; size = 0 }) ≡ statement_span f n

  pub refused_no_span : (k p : ℕ) → fault k p ≡ checked_file f → NoSpan
  unfolding checked_file statement_span
  refused_no_span k p e = go (read_file f) e
    where
      go : (r : Read File) → fault k p ≡ checked_of f r → empty_span ≡ span_in f n r
      go (fault j q) h = refl
      go (got x t) h = absurd (fault_got h)

  module _ (c : Checked) (to : ℕ) (e1 : got c to ≡ checked_file f) where
    known : Accepted f c
    known = accepted f c to e1

    abbrev table : Table
    table = known.file.table

    pub cabinets_few : c.sizes.cabinets ≤ most_cabinets
    cabinets_few = known.ok.cabinets

    pub entries_few : c.sizes.unknowns + c.sizes.records ≤ most_unknowns + most_records
    entries_few = omega (arith, known.ok.unknowns, known.ok.count)

    pub entries_known : (c.sizes.unknowns ≤ most_unknowns) × (c.sizes.records ≤ most_records)
    entries_known = (known.ok.unknowns, known.ok.count)

    pub no_such_statement : c.statements ≤ n → NoSpan
    unfolding statement_span
    no_such_statement h = rw (known.read, known.statements, le-ltb n c.statements h) refl

    abbrev own_form : Form Statement
    own_form = statement_form_of c.sizes.cabinets (c.sizes.unknowns + c.sizes.records)

    module _ (h : n < c.statements) where
      -- the span is that of the statement after all that stands before it
      span_there : statement_span f n ≡ span_at f (reading (before_statement n) f 0)
      unfolding statement_span
      span_there = rw (known.read, known.statements, lt-ltb n c.statements h) refl

      -- and before it stand n statements, after E
      before_read : reading (before_statement n) f 0 ≡ reading (times n (statement_form table) >>= λ l. end table) f c.list
      before_read = bind_on table_form (statements_before n) f 0 table known.between known.table_read ∙ rw known.count_read refl

      same_reads : reading (times n (statement_form table)) f c.list ≡ reading (times n own_form) f c.list
      same_reads = ap (λ (u : Form Statement). reading (times n u) f c.list) known.form

      pub before_refused : (e : Fault) → EndsAs (Err e) (reading (times n own_form) f c.list) → NoSpan
      before_refused e d =
          let g = before_read ∙ bind_fault (times n (statement_form table)) (λ l. end table) f c.list _ _ (same_reads ∙ d) in
          sym (span_there ∙ ap (span_at f) g)

      module _ (start : ℕ) (d2 : EndsAs (Ok start) (reading (times n own_form) f c.list)) where
        -- so it starts where they end
        own_read : statement_span f n ≡ span_from start (reading own_form f start)
        own_read =
            let g =
            before_read ∙ bind_on (times n (statement_form table)) (λ l. end table) f c.list d2.0 start (same_reads ∙ d2.1) in
            span_there ∙ ap (span_at f) g ∙ ap (span_from start) (ap (λ (u : Form Statement). reading u f start) known.form)

        pub own_refused : (k p : ℕ) → fault k p ≡ reading own_form f start → NoSpan
        own_refused k p e = sym (own_read ∙ rw (← e) refl)

        pub own_found : (q : Statement) (next : ℕ) → got q next ≡ reading own_form f start
            → span_of (record { start = start; size = next - start }) ≡ statement_span f n
        own_found q next e = sym (own_read ∙ rw (← e) refl)

  -- the span lies in the file
  span_from_in : (t : Table) (at : ℕ) → at ≤ length f → InFile f (span_from at (reading (statement_form t) f at))
  span_from_in t at h = go (reading (statement_form t) f at) refl
    where
      go : (r : Read Statement) → reading (statement_form t) f at ≡ r → InFile f (span_from at r)
      go (got q to) e =
          let v = reading_within f (statement_form t) at q to e in
          let a : at ≤ to = v.0 in
          let b : to ≤ length f = v.1 h in
          omega arith
      go (fault k p) e = omega arith

  span_at_in : InFile f (span_at f (reading (before_statement n) f 0))
  span_at_in = go (reading (before_statement n) f 0) refl
    where
      go : (r : Read Table) → reading (before_statement n) f 0 ≡ r → InFile f (span_at f r)
      go (got t at) e = span_from_in t at ((reading_within f (before_statement n) 0 t at e).1 (omega arith))
      go (fault k p) e = omega arith

  span_in_file : InFile f (statement_span f n)
  unfolding statement_span
  span_in_file = go (read_file f)
    where
      picked : (b : Bool) → InFile f (pick b (span_at f (reading (before_statement n) f 0)) empty_span)
      picked true = span_at_in
      picked false = omega arith

      go : (r : Read File) → InFile f (span_in f n r)
      go (got x to) = picked (ltb n (length x.statements))
      go (fault k p) = omega arith

  -- the ways out of `statement`
  module _ (x : Span) (e : span_of x ≡ statement_span f n) where
    pub part_ends : x.start + x.size ≤ length f
    part_ends = rw (← e) at span_in_file

    pub part_is : take (x.start + x.size - x.start) (drop x.start f) ≡ statement_part f n
    unfolding statement_part
    part_is = let z : x.start + x.size - x.start ≡ x.size = omega arith in rw (← e, z) refl
