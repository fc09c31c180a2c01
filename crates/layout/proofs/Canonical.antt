-- What the view of a sound run's bytes does not show: bytes of no meaning. With the view's soundness it is the bytes' own.
use mathlib.Core.Path.{◌≡◌}
use mathlib.Core.List.{List}
use Prim.Native.Nat.{ℕ, ◌+◌, ◌≤◌, ◌<◌}
use Rattle.paper.specs.Sizes.{most_cabinets, most_unknowns, most_records, most_parts}
use Rattle.layout.specs.Offsets.{record_bytes, clash_at, clash_cabinet_at, records_at, run_bytes, record_from, memo_from, item_from}
use Rattle.layout.specs.Fields.{byte_at, count_of, part_count_of, part_of}

pub record Canonical (d : List ℕ) : Type 0 where
  -- byte 0 is 0 or 1, and byte 1 is 0 in a running run
  pub flag : byte_at d clash_at ≤ 1
  pub quiet : byte_at d clash_at ≡ 0 → byte_at d clash_cabinet_at ≡ 0
  -- records from R on, and part places beyond the count, are 0
  pub records : (i k : ℕ) → byte_at d records_at ≤ i → i < most_records → k < record_bytes → byte_at d (record_from i + k) ≡ 0
  pub parts : (i k : ℕ) → i < byte_at d records_at → part_count_of d i ≤ k → k < most_parts → part_of d i k ≡ 0
  -- memo bytes are 0 or 1
  pub memos : (c x y : ℕ) → c < most_cabinets → x < most_unknowns → y < most_unknowns → byte_at d (memo_from c x y) ≤ 1
  -- an item is of one of three kinds; items from the pending count on are 0
  pub kinds : (p : ℕ) → p < count_of d → (1 ≤ byte_at d (item_from p)) × (byte_at d (item_from p) ≤ 3)
  pub items : (i : ℕ) → item_from (count_of d) ≤ i → i < run_bytes → byte_at d i ≡ 0
