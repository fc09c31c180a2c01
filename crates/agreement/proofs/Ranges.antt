-- Ranges in a sound run: what a reader asks for and what the code's casts and calls need.
use mathlib.Core.Path.{◌≡◌}
use mathlib.Core.Bool.{true}
use mathlib.Core.List.{List}
use Prim.Native.Nat.{ℕ, ◌-◌, ◌≤◌, ◌<◌}
use native.Mathlib.Omega.{arith}
use lib.ListN.{length}
use Rattle.paper.specs.Sizes.{most_unknowns}
use Rattle.layout.specs.Offsets.{unknowns_at, records_at, run_bytes}
use Rattle.layout.specs.Fields.{byte_at, part_count_of, part_of}
use Rattle.layout.specs.Given.{Reads, byte_limit}
use Rattle.layout.specs.Soundness.{sound_bytes}
use Rattle.layout.proofs.SoundViews.{Tested, tested, in_range, part_count, part_low}
use Rattle.agreement.specs.Given.{SoundRun, OneRecord}
use Rattle.agreement.specs.Ends.{EndsAt}

-- the check passed
pub checked_run : (d : List ℕ) (v : ℕ) → length d ≡ run_bytes → sound_bytes d ≡ true → Reads (byte_at d unknowns_at) byte_limit v → SoundRun d v
checked_run d v l s r =
    let w = in_range d (tested d s) in
    record { long = l; sound = s; unknowns = r.same; few_unknowns = omega (arith, r.same, w.unknowns); few_records = w.records }

module _ (d : List ℕ) (v : ℕ) (g : SoundRun d v) where
  pub tests : Tested d
  tests = tested d g.sound

-- a record with its parts counted, and the one at which marks end
pub counted_record : (d : List ℕ) (v i n : ℕ) → SoundRun d v → i < byte_at d records_at → n ≡ part_count_of d i → OneRecord d v i n
counted_record d v i n g h c =
    record { run = g; here = h; count = c; few = omega (arith, part_count d g.long (tests d v g) i h) }

pub ended_record : (d : List ℕ) (v x a n : ℕ) → SoundRun d v → EndsAt d x a → v ≤ a → n ≡ part_count_of d (a - v) → OneRecord d v (a - v) n
ended_record d v x a n g e h c = counted_record d v (a - v) n g (omega (arith, g.unknowns, e.entry)) c

-- a part is an unknown
pub part_unknown : (d : List ℕ) (v i n j p : ℕ) → OneRecord d v i n → j < n → Reads (part_of d i j) byte_limit p → p < v
part_unknown d v i n j p w h r =
    let u = w.run.unknowns in
    let c = w.count in
    omega (arith, r.same, part_low d w.run.long (tests d v w.run) i w.here j (omega arith))

pub part_few : (d : List ℕ) (v i n j p : ℕ) → OneRecord d v i n → j < n → Reads (part_of d i j) byte_limit p → p < most_unknowns
part_few d v i n j p w h r = omega (arith, w.run.few_unknowns, part_unknown d v i n j p w h r)
