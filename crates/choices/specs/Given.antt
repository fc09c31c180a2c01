-- What the choice of a rule asks of the run and of the statement.
use Rattle.std.specs.Prelude.{List, ℕ, ◌+◌, ◌≤◌, ◌<◌}
use Rattle.paper.specs.Sizes.{most_cabinets, most_unknowns, most_records, most_parts}
use Rattle.layout.specs.Offsets.{unknowns_at, records_at}
use Rattle.layout.specs.Fields.{byte_at, part_count_of}

-- a statement a = b at cabinet c, and the table that it speaks of, in their ranges
pub record StatementIn (d : List ℕ) (c a b : ℕ) : Type 0 where
  pub unknowns : byte_at d unknowns_at ≤ most_unknowns
  pub records : byte_at d records_at ≤ most_records
  pub parts : (i : ℕ) → i < most_records → part_count_of d i ≤ most_parts
  pub cabinet : c < most_cabinets
  pub left : a < byte_at d unknowns_at + byte_at d records_at
  pub right : b < byte_at d unknowns_at + byte_at d records_at
