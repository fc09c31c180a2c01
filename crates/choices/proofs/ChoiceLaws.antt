-- What the choice of a rule says of a statement's sides.
use mathlib.Core.Path.{◌≡◌, refl, sym, ◌∙◌}
use mathlib.Core.Bool.{Bool, true, false, ◌&&◌, ◌||◌}
use Prim.Native.Nat.{ℕ, ◌≤◌, ◌<◌}
use lib.Dec.{ltb, leb}
use borrow.Author.Tests.{le-leb, ltb-true, ltb-false}
use Rattle.base.proofs.Tests.{fst_true}
use Rattle.choices.specs.Choices.{less_in}

-- what follows of the sides where one is less, or neither is
module _ (v a b : ℕ) (t : Bool) where
  pub greater_unknown : t ≡ less_in v b a → t ≡ true → a < v
  greater_unknown e h = ltb-true a v (fst_true (ltb a v) (leb v b || ltb b a) (sym e ∙ h))

  pub level_record : v ≤ a → t ≡ less_in v a b → t ≡ false → v ≤ b
  level_record h e f = ltb-false b v (and_left (ltb b v) (or_first (leb v a) (ltb a b) (le-leb v a h)) (sym e ∙ f))
    where
      or_first : (x y : Bool) → x ≡ true → (x || y) ≡ true
      or_first x y w = rw w

      and_left : (x : Bool) {y : Bool} → y ≡ true → (x && y) ≡ false → x ≡ false
      and_left true w z = sym w ∙ z
      and_left false w z = refl
