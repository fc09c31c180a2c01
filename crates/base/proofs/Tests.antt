-- Laws of tests: conjunction, disjunction, decision, two tests that pass together, and an order below a successor.
use mathlib.Core.Path.{◌≡◌, refl, subst, sym}
use mathlib.Core.Logic.{◌⊎◌, inl, inr, ⊎_elim}
use mathlib.Core.Bool.{Bool, true, false, ◌&&◌, ◌||◌}
use Prim.Native.Nat.{ℕ, suc, ◌<◌}
use native.Mathlib.Nat.{eq-or-lt_of_le}
use native.Mathlib.Omega.{arith}
use lib.Dec.{T, eqb, eqb→eq, eqb_refl}

pub fst_T : (a b : Bool) → T (a && b) → T a
fst_T true b h = tt
fst_T false b h = h

pub snd_T : (a b : Bool) → T (a && b) → T b
snd_T true b h = h
snd_T false b h = absurd h

pub and_T : (a b : Bool) → T a → T b → T (a && b)
and_T true b h k = k
and_T false b h k = h

pub or_left : (a b : Bool) → T a → T (a || b)
or_left true b h = tt
or_left false b h = absurd h

pub or_right : (a b : Bool) → T b → T (a || b)
or_right true b h = tt
or_right false b h = h

pub or_T : (a b : Bool) → T (a || b) → T a ⊎ T b
or_T true b h = inl tt
or_T false b h = inr h

pub fst_true : (a b : Bool) → (a && b) ≡ true → a ≡ true
fst_true true b e = refl
fst_true false b e = e

pub snd_true : (a b : Bool) → (a && b) ≡ true → b ≡ true
snd_true true b e = e
snd_true false b e = absurd (let z : ◌≡◌ {A = ℕ} 0 1 = cc in omega arith)

pub and_true : (a b : Bool) → a ≡ true → b ≡ true → (a && b) ≡ true
and_true a b e d = rw (e, d)

pub T_true : (b : Bool) → T b → b ≡ true
T_true true h = refl
T_true false h = absurd h

pub true_T : (b : Bool) → b ≡ true → T b
true_T b e = subst T (sym e) tt

pub false_T : (b : Bool) → b ≡ false → T b → ⊥
false_T b e h = subst T e h

pub not_both : (b : Bool) → b ≡ true → b ≡ false → ⊥
not_both b e d = let z : ◌≡◌ {A = ℕ} 0 1 = cc in omega arith

pub T? : (b : Bool) → T b ⊎ (T b → ⊥)
T? true = inl tt
T? false = inr (λ h. h)

-- a test that does not pass
pub not_true_false : (b : Bool) → (b ≡ true → ⊥) → b ≡ false
not_true_false true h = absurd (h refl)
not_true_false false h = refl

-- two tests that pass together
pub t_same : (p q : Bool) → (T p → T q) → (T q → T p) → p ≡ q
t_same true true f g = refl
t_same true false f g = absurd (f tt)
t_same false true f g = absurd (g tt)
t_same false false f g = refl

pub eqb_flip : (m n : ℕ) → T (eqb m n) → T (eqb n m)
eqb_flip m n h = subst (λ (k : ℕ). T (eqb k m)) (eqb→eq m n h) (eqb_refl m)

pub eqb_tr : (m n k : ℕ) → T (eqb m n) → T (eqb n k) → T (eqb m k)
eqb_tr m n k h j = subst (λ (l : ℕ). T (eqb m l)) (eqb→eq n k j) h

pub last_or : {x n : ℕ} → x < suc n → (n ≡ x) ⊎ (x < n)
last_or {x} {n} l = ⊎_elim (λ (e : suc x ≡ suc n). inl (omega arith)) (λ (l' : suc x < suc n). inr (omega arith)) (eq-or-lt_of_le l)
