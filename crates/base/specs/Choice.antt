-- A choice by a test, a function changed at one place, the first number that passes a test, and all below a number that do.
use Rattle.std.specs.Prelude.{Bool, true, false, ◌&&◌, ℕ, zero, suc, eqb}

module _ {A : Type 0} where
  -- the first where the test holds, else the second
  abbrev pub pick : Bool → A → A → A
  pick true a b = a
  pick false a b = b

  -- f, but a at x
  abbrev pub upd : (ℕ → A) → ℕ → A → ℕ → A
  upd f x a y = pick (eqb y x) a (f y)

-- the first of y and the k numbers after it that passes; the last where no earlier one does
abbrev pub first_of : (ℕ → Bool) → ℕ → ℕ → ℕ
first_of f zero y = y
first_of f (suc k) y = elim (f y) [ true ↦ y | false ↦ first_of f k (suc y) ]

-- every number below n passes
unfoldable pub all_below : ℕ → (ℕ → Bool) → Bool
all_below zero f = true
all_below (suc n) f = f n && all_below n f
