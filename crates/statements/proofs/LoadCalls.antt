-- Laws of the call that loads: one for each way out, and what its callees ask of an accepted file.
use Prim.Native.Nat.{ℕ, ◌+◌, ◌≤◌}
use mathlib.Core.Path.{◌≡◌, refl, ap, ◌∙◌}
use mathlib.Core.List.{List, map}
use native.Mathlib.Omega.{arith}
use borrow.Author.Tests.{eq-eqb, ne_eqb}
use Rattle.std.specs.Prelude.{Result, Err}
use lib.ListN.{length, length-map}
use mir.Syntax.{w8}
use mir.Val.{Fits}
use Rattle.paper.specs.Sizes.{most_cabinets, most_unknowns, most_records, room}
use Rattle.paper.specs.Refusals.{refusal_number}
use Rattle.paper.specs.declared.refused.Refusal.TheVariants.{WrongLength}
use Rattle.paper.specs.declared.refused.Fault.{Fault}
use Rattle.paper.specs.Tables.{Record}
use Rattle.paper.specs.Runs.{Statement, as_item}
use Rattle.paper.specs.Reached.{FileOk}
use Rattle.paper.specs.Numbers.{Read, got, fault}
use Rattle.paper.specs.Files.{times, record_form, File, reading, read_file}
use Rattle.paper.proofs.NumberCodec.{fault_got}
use Rattle.layout.specs.Offsets.{run_bytes}
use Rattle.layout.specs.Fields.{count_of}
use Rattle.layout.specs.Changes.{cleared, with_sizes, with_records, appended_all}
use Rattle.reading.specs.declared.Checked.{Checked}
use Rattle.reading.specs.Reads.{WasRead, list_of, statement_form_of, checked_of, checked_file}
use Rattle.reading.proofs.FileAccepted.{Accepted, accepted}
use Rattle.statements.specs.Loads.{loaded_bytes}
use Rattle.statements.specs.Writes.{answer, load_answer, loaded_read, load_bytes}
use Rattle.statements.proofs.ReadValues.{file_ok}
use Rattle.statements.proofs.Loaded.{sized, tabled, few_items}

same_sizes : {s s' v v' r r' e e' : ℕ} (d : List ℕ) → s' ≡ s → v' ≡ v → r' ≡ r → e' ≡ e → d ≡ cleared
    → with_sizes s v r e d ≡ with_sizes s' v' r' e' cleared
same_sizes d a b c g h = rw (a, b, c, g, h) refl

module _ (s d : List ℕ) where
  pub load_wrong_length : (length d ≡ run_bytes → ⊥) → (y : Fault) → y.refusal ≡ WrongLength → y.at ≡ 0 → load_answer (Err y) d ≡ load_bytes s d
  unfolding load_bytes
  load_wrong_length h y r p = rw (ne_eqb (length d) run_bytes h, r, p) refl

  pub load_refused : length d ≡ run_bytes → (d' : List ℕ) → d' ≡ d → (r : Result (Unit {0}) Fault) (y : Fault) → r ≡ Err y
      → fault (refusal_number y.refusal) y.at ≡ checked_file s → load_answer r d' ≡ load_bytes s d
  unfolding load_bytes checked_file
  load_refused h d' o r y x e = rw (eq-eqb (length d) run_bytes h, o, x) (go (read_file s) e)
    where
      go : (x : Read File) → fault (refusal_number y.refusal) y.at ≡ checked_of s x → answer (refusal_number y.refusal) y.at d ≡ loaded_read d x
      go (got f to) e = absurd (fault_got e)
      go (fault j q) e = cc

  module _ (c : Checked) (to : ℕ) (e : got c to ≡ checked_file s) where
    known : Accepted s c
    known = accepted s c to e

    ok : FileOk known.file.table known.file.statements
    ok = file_ok s known.file known.last known.read

    pub load_cabinets_few : c.sizes.cabinets ≤ most_cabinets
    load_cabinets_few = known.ok.cabinets

    pub load_unknowns_few : c.sizes.unknowns ≤ most_unknowns
    load_unknowns_few = known.ok.unknowns

    pub load_records_few : c.sizes.records ≤ most_records
    load_records_few = known.ok.count

    pub cabinets_byte : Fits w8 c.sizes.cabinets
    cabinets_byte = omega (arith, load_cabinets_few)

    pub unknowns_byte : Fits w8 c.sizes.unknowns
    unknowns_byte = omega (arith, load_unknowns_few)

    pub records_byte : Fits w8 c.sizes.records
    records_byte = omega (arith, load_records_few)

    pub statements_byte : Fits w8 c.statements
    statements_byte = omega (arith, known.few)

    pub table_was_read : WasRead (reading (times c.sizes.records (record_form c.sizes.unknowns)) s c.table)
    table_was_read = rw known.records_read tt

    module _ (n : ℕ) (en : n ≡ c.sizes.unknowns + c.sizes.records) where
      pub load_entries_few : n ≤ most_unknowns + most_records
      load_entries_few = omega (arith, load_unknowns_few, load_records_few, en)

      pub list_was_read : WasRead (reading (times c.statements (statement_form_of c.sizes.cabinets n)) s c.list)
      list_was_read = rw (en, known.statements_read) tt

    module _ (d1 d2 d3 : List ℕ) (e1 : d1 ≡ cleared) (e2 : d2 ≡ with_sizes c.sizes.cabinets c.sizes.unknowns c.sizes.records c.statements d1)
        (e3 : d3 ≡ with_records 0 (list_of (reading (times c.sizes.records (record_form c.sizes.unknowns)) s c.table)) d2) where
      table_filled : d3 ≡ tabled known.file ok
      unfolding sized
      table_filled =
          e3 ∙ ap (λ (l : Read (List Record)). with_records 0 (list_of l) d2) known.records_read
          ∙ ap (with_records 0 known.file.table.records)
          (e2 ∙ same_sizes d1 known.cabinets known.unknowns known.records known.statements e1)

      pub load_room : count_of d3 + c.statements ≤ room
      load_room =
          omega (arith, ap count_of table_filled, few_items known.file ok, length-map known.file.statements as_item, known.statements)

      pub load_done : length d ≡ run_bytes → (n : ℕ) → n ≡ c.sizes.unknowns + c.sizes.records → (d4 : List ℕ)
          → d4 ≡ appended_all (map as_item (list_of (reading (times c.statements (statement_form_of c.sizes.cabinets n)) s c.list))) d3
          → answer 0 0 d4 ≡ load_bytes s d
      unfolding load_bytes loaded_bytes sized
      load_done h n en d4 e4 =
          rw (eq-eqb (length d) run_bytes h, known.read)
          (ap (answer 0 0)
          (e4 ∙ ap (λ (k : ℕ). appended_all (map as_item (list_of (reading (times c.statements (statement_form_of c.sizes.cabinets k)) s c.list))) d3) en
          ∙ ap (λ (l : Read (List Statement)). appended_all (map as_item (list_of l)) d3) known.statements_read
          ∙ ap (appended_all (map as_item known.file.statements)) table_filled))
