-- Laws of a conjunction whose first test says b, and the tests that a region's loop makes.
use mathlib.Core.Path.{◌≡◌}
use mathlib.Core.Bool.{Bool, true, false, ◌&&◌}
use mathlib.Core.List.{List}
use Prim.Native.Nat.{ℕ, ◌+◌}
use lib.Dec.{ltb, eqb}
use Rattle.base.specs.Choice.{pick}
use Rattle.layout.specs.Offsets.{store_from}
use Rattle.layout.specs.Fields.{byte_at, part_count_of, part_of}
use Rattle.layout.specs.Soundness.{mark_ok}

-- it goes on to the rest, or stops
module _ (b p q : Bool) (e : b ≡ p) where
  pub and_then : (t : Bool) → b ≡ true → t ≡ q → t ≡ (p && q)
  and_then t k h = rw (← e, k) h

  pub and_stops : b ≡ false → b ≡ (p && q)
  and_stops k = rw (← e, k)

-- the test of part place k of record i, and of the mark for x in cabinet c's store
abbrev pub part_ok : ℕ → ℕ → List ℕ → ℕ → Bool
part_ok v i d k = pick (ltb k (part_count_of d i)) (ltb (part_of d i k) v) (eqb (part_of d i k) 0)

abbrev pub held_ok : ℕ → ℕ → ℕ → List ℕ → ℕ → ℕ → Bool
held_ok s v r d c x = pick (ltb c s) (mark_ok v r x (byte_at d (store_from c + x))) (eqb (byte_at d (store_from c + x)) 255)
