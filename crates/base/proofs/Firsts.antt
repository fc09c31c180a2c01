-- Laws of the first number that passes a test.
use mathlib.Core.Path.{◌≡◌, refl, sym, subst}
use mathlib.Core.Bool.{Bool, true, false}
use Prim.Native.Nat.{ℕ, zero, suc, ◌+◌, ◌≤◌, ◌<◌}
use native.Mathlib.Decide.{ℕ_discrete}
use native.Mathlib.Omega.{arith}
use lib.Dec.{T}
use Rattle.base.specs.Choice.{first_of}
use Rattle.base.proofs.Tests.{true_T, false_T}

-- m is the first from y on that passes
pub record First (f : ℕ → Bool) (y m : ℕ) : Type 0 where
  pub passes : T (f m)
  pub first : (z : ℕ) → y ≤ z → z < m → T (f z) → ⊥

module _ (f : ℕ → Bool) where
  -- none of the numbers from y up to what is found passes
  pub first_before : (k y : ℕ) (z : ℕ) → y ≤ z → z < first_of f k y → T (f z) → ⊥
  first_before zero y z a b c = omega arith
  first_before (suc k) y z a b c = go (f y) refl (first_before k (suc y)) b
    where
      go : (p : Bool) → f y ≡ p → ((w : ℕ) → suc y ≤ w → w < first_of f k (suc y) → T (f w) → ⊥) → z < first_of f (suc k) y → ⊥
      go true e ih l = let l' : z < y = rw (e, first_of) at l in omega arith
      go false e ih l = at_or_after (rw (e, first_of) at l) (ℕ_discrete z y)
        where
          at_or_after : z < first_of f k (suc y) → Dec (z ≡ y) → ⊥
          at_or_after l' (yes d) = false_T (f y) e (subst (λ (n : ℕ). T (f n)) d c)
          at_or_after l' (no d) = ih z (omega arith) l' c

  -- it is at most k after y
  pub first_within : (k y : ℕ) → (y ≤ first_of f k y) × (first_of f k y ≤ y + k)
  first_within zero y = (omega arith, omega arith)
  first_within (suc k) y = go (f y) refl (first_within k (suc y))
    where
      go : (p : Bool) → f y ≡ p → (suc y ≤ first_of f k (suc y)) × (first_of f k (suc y) ≤ suc y + k) → (y ≤ first_of f (suc k) y) × (first_of f (suc k) y ≤ y + suc k)
      go true e ih = rw (e, first_of) (omega arith, omega arith)
      go false e ih = rw (e, first_of) (omega (arith, ih.0), omega (arith, ih.1))

  -- short of the last it passes
  pub first_passes : (k y : ℕ) → first_of f k y < y + k → T (f (first_of f k y))
  first_passes zero y l = absurd (let z : ⊥ = omega arith in z)
  first_passes (suc k) y l = go (f y) refl (first_passes k (suc y)) l
    where
      go : (p : Bool) → f y ≡ p → (first_of f k (suc y) < suc y + k → T (f (first_of f k (suc y)))) → first_of f (suc k) y < y + suc k
          → T (f (first_of f (suc k) y))
      go true e ih l = rw (e, first_of) (true_T (f y) e)
      go false e ih l = let l' : first_of f k (suc y) < y + suc k = rw (e, first_of) at l in rw (e, first_of) (ih (omega arith))

  -- where the last passes, what is found is the first
  pub first_is : (k y : ℕ) → T (f (y + k)) → First f y (first_of f k y)
  first_is k y h = record { passes = passes; first = first_before k y }
    where
      at_last : Dec (first_of f k y ≡ y + k) → T (f (first_of f k y))
      at_last (yes e) = subst (λ (n : ℕ). T (f n)) (sym e) h
      at_last (no d) = first_passes k y (omega (arith, (first_within k y).1))

      passes : T (f (first_of f k y))
      passes = at_last (ℕ_discrete (first_of f k y) (y + k))

-- two tests that give the same find the same
pub first_same : (f g : ℕ → Bool) (k y : ℕ) → ((z : ℕ) → y ≤ z → z < y + k → f z ≡ g z) → first_of f k y ≡ first_of g k y
first_same f g zero y h = refl
first_same f g (suc k) y h = go (g y) (h y (omega arith) (omega arith)) refl (first_same f g k (suc y) (λ z a b. h z (omega arith) (omega arith)))
  where
    go : (b : Bool) → f y ≡ g y → g y ≡ b → first_of f k (suc y) ≡ first_of g k (suc y) → first_of f (suc k) y ≡ first_of g (suc k) y
    go true e d ih = rw (e, d, first_of)
    go false e d ih = rw (e, d, first_of) ih
