-- What a reader's way out asks, with premises as its tests and reads give them.
use Prim.Native.Nat.{ℕ, suc, ◌+◌, ◌-◌, ◌*◌, ◌≤◌, ◌<◌}
use mathlib.Core.Path.{◌≡◌, refl, ap}
use mathlib.Core.Bool.{Bool, true, ◌&&◌}
use mathlib.Core.List.{List, [], ◌∷◌}
use lib.Dec.{eqb}
use lib.ListN.{length, get_or, take, drop, length-take, length-drop}
use lib.Seq.{drop-cons}
use native.Mathlib.Numerals.{towards_suc}
use native.Mathlib.Omega.{arith}
use Rattle.base.specs.Regions.{get}
use Rattle.base.proofs.Ranges.{tested_none, tested_next}
use Rattle.base.proofs.Regions.{part_at}
use Rattle.paper.specs.Sizes.{most_records}
use Rattle.layout.specs.Offsets.{run_bytes, record_from}
use Rattle.layout.specs.Fields.{byte_at, symbol_of}
use Rattle.layout.specs.Soundness.{all_are}

-- a loop over a part of a run: no byte is tested, and one more
module _ (v n at : ℕ) (d : List ℕ) where
  pub all_none : true ≡ all_are v 0 at d
  unfolding all_are
  all_none = tested_none (λ i. eqb (byte_at d (at + i)) v)

  pub all_next : (i : ℕ) (clean : Bool) → at + n ≤ length d → i < length (take (at + n - at) (drop at d)) → clean ≡ all_are v i at d
      → (clean && eqb (get_or (take (at + n - at) (drop at d)) i 0) v) ≡ all_are v (i + 1) at d
  unfolding all_are
  all_next i clean h l e =
      let k : i < n = omega (arith, simp (length-take, length-drop) at l) in
      tested_next (λ j. eqb (byte_at d (at + j)) v) i _ clean (ap (λ (b : ℕ). eqb b v) (part_at at n i d k)) e

-- a region, from its first byte
get_first : (d : List ℕ) (at n : ℕ) → at < length d → get at (suc n) d ≡ byte_at d at ∷ get (suc at) n d
unfolding get
get_first d at n h = rw (drop-cons d at 0 h) refl

get_four : (d : List ℕ) (at : ℕ) → at + 4 ≤ length d → get at 4 d ≡ byte_at d at ∷ byte_at d (at + 1) ∷ byte_at d (at + 2) ∷ byte_at d (at + 3) ∷ []
unfolding get
get_four d at h =
    simp towards_suc
    (rw (get_first d at 3 (omega arith), get_first d (suc at) 2 (omega arith), get_first d (suc (suc at)) 1 (omega arith), get_first d (suc (suc (suc at))) 0 (omega arith)) refl)

-- a symbol in its four bytes
pub symbol_read : (d : List ℕ) (i : ℕ) → length d ≡ run_bytes → i < most_records
    → symbol_of d i ≡ byte_at d (record_from i) + byte_at d (record_from i + 1) * 256 + byte_at d (record_from i + 2) * 65536 + byte_at d (record_from i + 3) * 16777216
unfolding symbol_of
symbol_read d i h l = rw (get_four d (record_from i) (omega arith)) (omega arith)
