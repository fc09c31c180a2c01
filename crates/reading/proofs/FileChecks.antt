-- Laws of the whole file: one for each way out of `check_file`.
use Prim.Native.Nat.{ℕ, ◌+◌, ◌≤◌, ◌<◌}
use mathlib.Core.Path.{◌≡◌, refl, sym}
use mathlib.Core.List.{List}
use native.Mathlib.Omega.{arith}
use borrow.Author.Tests.{lt-ltb, le-ltb}
use lib.ListN.{length}
use Rattle.paper.specs.Sizes.{most_cabinets, most_unknowns, most_records}
use Rattle.paper.specs.Refusals.{refusal_number, bytes_left}
use Rattle.paper.specs.Numbers.{got, fault}
use Rattle.paper.specs.Files.{times, record_form, file_form, reading, read_file}
use Rattle.reading.specs.declared.Sizes.{Sizes}
use Rattle.reading.specs.declared.Checked.{Checked}
use Rattle.std.specs.Prelude.{Result, Ok, Err}
use Rattle.paper.specs.declared.Found.{Found}
use Rattle.paper.specs.declared.Statement.{Statement}
use Rattle.reading.specs.declared.RecordRead.{RecordRead}
use Rattle.paper.specs.Found.{as_read}
use Rattle.paper.specs.declared.refused.Fault.{Fault}
use Rattle.reading.specs.Reads.{read_as, heading, sizes_form, RecordFound, record_of, statement_form_of, statement_of, Skipped, checked_file}
use Rattle.reading.proofs.Times.{EndsAs, skipped_ends}
use Rattle.reading.proofs.SizesRead.{heading_ok}
use Rattle.reading.proofs.FileStages.{count_at, sizes_fault, records_fault, count_fault, statements_fault, Stages, stages_read, stages_list, stages_records, stages_statements}

-- the answer for a file that went through all stages
abbrev pub accepting : {f : List ℕ} → Stages f → Checked
accepting w =
    record {
      sizes = record { cabinets = w.heading.cabinets; unknowns = w.heading.unknowns; records = w.heading.count };
      statements = w.count;
      table = w.table;
      list = w.list;
    }

-- it is what checking the file finds
pub accepting_is : {f : List ℕ} (w : Stages f) → length f ≤ w.last → got (accepting w) w.last ≡ checked_file f
unfolding checked_file read_file
accepting_is {f} w h =
    rw (stages_read w, le-ltb w.last (length f) h, w.sizes_read_lem, stages_list w, stages_records w, stages_statements w) refl

-- where the reads of so many records and of so many statements ended
pub records_end : {P : ℕ → Result (Found RecordRead) Fault → Type 0} (v : ℕ) (f : List ℕ)
    → ((at : ℕ) (x : Result (Found RecordRead) Fault) → P at x → RecordFound (record_form v) f at x)
    → (n at : ℕ) (r : Result ℕ Fault) → Skipped P n at r → EndsAs r (reading (times n (record_form v)) f at)
records_end v f found n at r h = skipped_ends _ record_of (record_form v) f (λ at x p. (found at x p).read) n at r h

pub statements_end : {P : ℕ → Result (Found Statement) Fault → Type 0} (s e : ℕ) (f : List ℕ)
    → ((at : ℕ) (x : Result (Found Statement) Fault) → P at x → read_as statement_of x ≡ reading (statement_form_of s e) f at)
    → (n at : ℕ) (r : Result ℕ Fault) → Skipped P n at r → EndsAs r (reading (times n (statement_form_of s e)) f at)
statements_end s e f found n at r h = skipped_ends _ statement_of (statement_form_of s e) f found n at r h

module _ (f : List ℕ) where
  -- a refused file is checked so
  faulty_file : (k p : ℕ) → reading file_form f 0 ≡ fault k p → fault k p ≡ checked_file f
  unfolding checked_file read_file
  faulty_file k p d = rw d refl

  pub refused_in_sizes : (e : Fault) → read_as heading (Err e) ≡ reading sizes_form f 0 → as_read (Err e) ≡ checked_file f
  refused_in_sizes e d = faulty_file _ _ (sizes_fault f _ _ (sym d))

  module _ (x : Sizes) (t1 : ℕ) (d1 : got (heading x) t1 ≡ reading sizes_form f 0) where
    pub cabinets_few : x.cabinets ≤ most_cabinets
    cabinets_few = (heading_ok f (heading x) t1 (sym d1)).cabinets

    pub unknowns_few : x.unknowns ≤ most_unknowns
    unknowns_few = (heading_ok f (heading x) t1 (sym d1)).unknowns

    pub entries_few : x.unknowns + x.records ≤ most_unknowns + most_records
    entries_few = let h = heading_ok f (heading x) t1 (sym d1) in omega (arith, h.unknowns, h.count)

    pub entries_known : (x.unknowns ≤ most_unknowns) × (x.records ≤ most_records)
    entries_known = let h = heading_ok f (heading x) t1 (sym d1) in (h.unknowns, h.count)

    pub refused_in_records : (e : Fault) → EndsAs (Err e) (reading (times x.records (record_form x.unknowns)) f t1)
        → as_read (Err e) ≡ checked_file f
    refused_in_records e d = faulty_file _ _ (records_fault f (heading x) t1 (sym d1) _ _ d)

    module _ (t2 : ℕ) (d2 : EndsAs (Ok t2) (reading (times x.records (record_form x.unknowns)) f t1)) where
      pub refused_in_count : (e : Fault) → fault (refusal_number e.refusal) e.at ≡ count_at f t2 → as_read (Err e) ≡ checked_file f
      refused_in_count e d = faulty_file _ _ (count_fault f (heading x) t1 (sym d1) d2.0 t2 d2.1 _ _ (sym d))

      module _ (n t3 : ℕ) (d3 : got n t3 ≡ count_at f t2) where
        pub refused_in_statements : (e : Fault)
            → EndsAs (Err e) (reading (times n (statement_form_of x.cabinets (x.unknowns + x.records))) f t3)
            → as_read (Err e) ≡ checked_file f
        refused_in_statements e d = faulty_file _ _ (statements_fault f (heading x) t1 (sym d1) d2.0 t2 d2.1 n t3 (sym d3) _ _ d)

        module _ (t4 : ℕ) (d4 : EndsAs (Ok t4) (reading (times n (statement_form_of x.cabinets (x.unknowns + x.records))) f t3)) where
          stages : Stages f
          stages =
              record {
                heading = heading x;
                table = t1;
                sizes_read_lem = sym d1;
                records = d2.0;
                between = t2;
                records_read = d2.1;
                count = n;
                list = t3;
                count_read = sym d3;
                statements = d4.0;
                last = t4;
                statements_read = d4.1;
              }

          pub refused_bytes_left : t4 < length f → fault bytes_left t4 ≡ checked_file f
          unfolding checked_file read_file stages
          refused_bytes_left h = rw (stages_read stages, lt-ltb t4 (length f) h) refl

          pub accepted_whole : length f ≤ t4
              → got (record { sizes = x; statements = n; table = t1; list = t3 }) t4
              ≡ checked_file f
          unfolding stages
          accepted_whole h = accepting_is stages h
