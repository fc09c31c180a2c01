-- Laws of a function changed at one place, and of a table of pairs with one pair put in.
use mathlib.Core.Path.{◌≡◌, refl, sym, subst, fun_ext}
use mathlib.Core.Logic.{◌⊎◌, inl, inr, ◌≢◌}
use mathlib.Core.Bool.{Bool, true, false}
use Prim.Native.Nat.{ℕ}
use borrow.Author.Tests.{eq-eqb, ne_eqb, eqb-true, eqb-false}
use lib.Dec.{T, eqb}
use Rattle.base.specs.Choice.{pick, upd}

module _ {A : Type 0} where
  pub upd_same : (f : ℕ → A) (x : ℕ) (a : A) → upd f x a x ≡ a
  upd_same f x a = rw (eq-eqb x x refl)

  pub upd_other : (f : ℕ → A) (x : ℕ) (a : A) (y : ℕ) → y ≢ x → upd f x a y ≡ f y
  upd_other f x a y h = rw (ne_eqb y x h)

  -- what holds of f at other places, and of what is put in, holds after the change
  pub upd_else : (P : ℕ → A → Type 0) (f : ℕ → A) (x : ℕ) (a : A) → ((y : ℕ) → y ≢ x → P y (f y)) → P x a
      → (y : ℕ) → P y (upd f x a y)
  upd_else P f x a h p y = go (eqb y x) refl
    where
      go : (b : Bool) → eqb y x ≡ b → P y (pick b a (f y))
      go true e = subst (λ (z : ℕ). P z a) (sym (eqb-true y x e)) p
      go false e = h y (eqb-false y x e)

  -- the same, where it holds of f everywhere
  pub upd_all : (P : ℕ → A → Type 0) (f : ℕ → A) (x : ℕ) (a : A) → ((y : ℕ) → P y (f y)) → P x a
      → (y : ℕ) → P y (upd f x a y)
  upd_all P f x a h p = upd_else P f x a (λ y d. h y) p

  -- a function that is f but at x
  pub upd_is : (f g : ℕ → A) (x : ℕ) (a : A) → g x ≡ a → ((y : ℕ) → y ≢ x → g y ≡ f y) → g ≡ upd f x a
  upd_is f g x a h k = fun_ext λ y. upd_else (λ z b. g z ≡ b) f x a k h y

  -- a change to what is there is none
  pub upd_self : (f : ℕ → A) (x : ℕ) (a : A) → f x ≡ a → upd f x a ≡ f
  upd_self f x a e = sym (upd_is f f x a e (λ y d. refl))

-- the pair x, y put into m
module _ (m : ℕ → ℕ → Bool) (x y : ℕ) where
  pub pair_keeps : (p q : ℕ) → T (m p q) → T (upd m x (upd (m x) y true) p q)
  pair_keeps =
      upd_all (λ p f. (q : ℕ) → T (m p q) → T (f q)) m x (upd (m x) y true) (λ p q h. h)
      (upd_all (λ q b. T (m x q) → T b) (m x) y true (λ q h. h) (λ h. tt))

  pub pair_here : T (upd m x (upd (m x) y true) x y)
  pair_here =
      subst (λ (f : ℕ → Bool). T (f y)) (sym (upd_same m x (upd (m x) y true))) (subst T (sym (upd_same (m x) y true)) tt)

  pub pair_only : (p q : ℕ) → T (upd m x (upd (m x) y true) p q) → T (m p q) ⊎ ((p ≡ x) × (q ≡ y))
  pair_only =
      upd_all (λ p f. (q : ℕ) → T (f q) → T (m p q) ⊎ ((p ≡ x) × (q ≡ y))) m x (upd (m x) y true) (λ p q h. inl h)
      (upd_all (λ q b. T b → T (m x q) ⊎ ((x ≡ x) × (q ≡ y))) (m x) y true (λ q h. inl h) (λ h. inr (refl, refl)))
