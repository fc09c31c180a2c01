-- What the functions of this crate ask of the run.
use Rattle.std.specs.Prelude.{◌≡◌, true, List, ℕ, ◌≤◌, ◌<◌, length}
use Rattle.paper.specs.Sizes.{most_unknowns, most_records, most_parts}
use Rattle.layout.specs.Offsets.{unknowns_at, records_at, run_bytes}
use Rattle.layout.specs.Fields.{byte_at, part_count_of}
use Rattle.layout.specs.Soundness.{sound_bytes}

-- the bytes of a sound run with v unknowns, and the two ranges that its soundness gives
pub record SoundRun (d : List ℕ) (v : ℕ) : Type 0 where
  pub long : length d ≡ run_bytes
  pub sound : sound_bytes d ≡ true
  pub unknowns : v ≡ byte_at d unknowns_at
  pub few_unknowns : v ≤ most_unknowns
  pub few_records : byte_at d records_at ≤ most_records

-- record i of such a run, with n parts, which are few
pub record OneRecord (d : List ℕ) (v i n : ℕ) : Type 0 where
  pub run : SoundRun d v
  pub here : i < byte_at d records_at
  pub count : n ≡ part_count_of d i
  pub few : n ≤ most_parts
