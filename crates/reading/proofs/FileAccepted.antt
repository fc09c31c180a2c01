-- What callers of `check_file` know of an accepted file: what was read, from where to where.
use Prim.Native.Nat.{ℕ, suc, ◌≤◌}
use mathlib.Core.Path.{◌≡◌, refl, sym, subst, ◌∙◌}
use mathlib.Core.Bool.{Bool, true, false}
use mathlib.Core.List.{List}
use native.Mathlib.Omega.{arith}
use borrow.Author.Tests.{le-ltb, ltb-false}
use lib.Dec.{ltb}
use lib.ListN.{length}
use Rattle.base.specs.Choice.{pick}
use Rattle.numbers.proofs.Reading.{ranged_next}
use Rattle.paper.specs.Sizes.{most_statements}
use Rattle.paper.specs.Refusals.{too_many_statements, bytes_left}
use Rattle.paper.specs.Numbers.{Read, got, fault}
use Rattle.paper.specs.Files.{times, table_form, statement_form, file_form, File, reading, ended, read_file}
use Rattle.paper.proofs.NumberCodec.{fault_got}
use Rattle.reading.specs.declared.Checked.{Checked}
use Rattle.reading.specs.Reads.{Heading, sizes_form, heading, checked_of, checked_file}
use Rattle.reading.proofs.Onward.{got_value}
use Rattle.reading.proofs.SizesRead.{HeadingOk, heading_ok}
use Rattle.reading.proofs.FileStages.{records_after, statement_after, count_at, Stages, staged_file, stages_read, stages_table, stages_form, stages_records, stages_statements, went_through}
use Rattle.reading.proofs.FileChecks.{accepting, accepting_is}

-- S, V and R, of a file that was checked
abbrev pub sizes_of : Checked → Heading
sizes_of c = heading c.sizes

-- the file, its sizes, and the reads that make it: the sizes, the records, E at `between`, the statements
pub record Accepted (f : List ℕ) (c : Checked) : Type 0 where
  pub file : File
  pub last : ℕ
  pub read : read_file f ≡ got file last
  pub cabinets : file.table.cabinets ≡ c.sizes.cabinets
  pub unknowns : file.table.unknowns ≡ c.sizes.unknowns
  pub records : length file.table.records ≡ c.sizes.records
  pub statements : length file.statements ≡ c.statements
  pub ok : HeadingOk (sizes_of c)
  pub few : c.statements ≤ most_statements
  pub sizes_read_lem : reading sizes_form f 0 ≡ got (sizes_of c) c.table
  pub between : ℕ
  pub records_read : reading (records_after (sizes_of c)) f c.table ≡ got file.table.records between
  pub table_read : reading table_form f 0 ≡ got file.table between
  pub count_read : count_at f between ≡ got c.statements c.list
  pub form : statement_form file.table ≡ statement_after (sizes_of c)
  pub statements_read : reading (times c.statements (statement_after (sizes_of c))) f c.list ≡ got file.statements last

-- a file that went through all stages
stages_accepted : {f : List ℕ} (w : Stages f) → length f ≤ w.last → Accepted f (accepting w)
unfolding read_file
stages_accepted {f} w h =
    record {
      file = staged_file w;
      last = w.last;
      read = rw (stages_read w, le-ltb w.last (length f) h) refl;
      cabinets = refl;
      unknowns = refl;
      records = stages_records w;
      statements = stages_statements w;
      ok = heading_ok f w.heading w.table w.sizes_read_lem;
      few =
          omega (arith, (ranged_next 0 (suc most_statements) too_many_statements f w.between w.count w.list w.count_read).3);
      sizes_read_lem = w.sizes_read_lem;
      between = w.between;
      records_read = w.records_read;
      table_read = stages_table w;
      count_read = w.count_read;
      form = stages_form w;
      statements_read = w.statements_read;
    }

-- an accepted file has no byte left
pub ended_got : (f : List ℕ) (r : Read File) (x : File) (to : ℕ) → ended f r ≡ got x to → (r ≡ got x to) × (length f ≤ to)
ended_got f (fault k p) x to e = absurd (fault_got e)
ended_got f (got y t) x to e = go (ltb t (length f)) refl e
  where
    go : (b : Bool) → ltb t (length f) ≡ b → pick b (fault bytes_left t) (got y t) ≡ got x to
        → (got y t ≡ got x to) × (length f ≤ to)
    go true c e = absurd (fault_got e)
    go false c e = let o : t ≡ to = cc in let m = ltb-false t (length f) c in (e, omega arith)

-- where `check_file` gives sizes and positions, the file is accepted
pub accepted : (f : List ℕ) (c : Checked) (to : ℕ) → got c to ≡ checked_file f → Accepted f c
unfolding checked_file read_file
accepted f c to e = go (read_file f) refl e
  where
    go : (r : Read File) → read_file f ≡ r → got c to ≡ checked_of f r → Accepted f c
    go (fault k p) g h = absurd (fault_got (sym h))
    go (got x t) g h =
        let p = ended_got f (reading file_form f 0) x t g in
        let s = went_through f x t p.0 in
        let l : length f ≤ s.0.last = omega (arith, p.1, s.1) in
        subst (Accepted f) (got_value (accepting_is s.0 l ∙ sym e)) (stages_accepted s.0 l)
