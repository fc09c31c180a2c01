-- Sums over the numbers below n, and how a change at one place changes them.
use mathlib.Core.Path.{◌≡◌, refl, subst, ap}
use mathlib.Core.Logic.{⊎_elim, ◌≢◌}
use Prim.Native.Nat.{ℕ, zero, suc, ◌+◌, ◌*◌, ◌≤◌, ◌<◌}
use native.Mathlib.Nat.{not-suc-le-zero}
use native.Mathlib.Omega.{arith}
use Rattle.base.specs.Choice.{upd}
use Rattle.base.specs.Lists.{sum}
use Rattle.base.proofs.Tests.{last_or}
use Rattle.base.proofs.Changes.{upd_same, upd_other}

pub sum_same : (n : ℕ) (f g : ℕ → ℕ) → ((y : ℕ) → y < n → f y ≡ g y) → sum n f ≡ sum n g
sum_same zero f g h = refl
sum_same (suc n) f g h = omega (arith, h n (omega arith), sum_same n f g (λ y l. h y (omega arith)))

pub sum_le : (n : ℕ) (f g : ℕ → ℕ) → ((x : ℕ) → f x ≤ g x) → sum n f ≤ sum n g
sum_le zero f g h = omega arith
sum_le (suc n) f g h = omega (arith, h n, sum_le n f g h)

pub sum_add : (n : ℕ) (f g : ℕ → ℕ) → sum n (λ x. f x + g x) ≡ sum n f + sum n g
sum_add zero f g = refl
sum_add (suc n) f g = omega (arith, sum_add n f g)

pub sum_const : (n k : ℕ) → sum n (λ x. k) ≡ n * k
sum_const zero k = omega arith
sum_const (suc n) k = omega (arith, sum_const n k)

pub sum_mul : (n k : ℕ) (f : ℕ → ℕ) → sum n (λ x. f x * k) ≡ sum n f * k
sum_mul zero k f = omega arith
sum_mul (suc n) k f = omega (arith, sum_mul n k f)

pub sum_zero : (n : ℕ) (f : ℕ → ℕ) → ((y : ℕ) → y < n → f y ≡ 0) → sum n f ≡ 0
sum_zero zero f h = refl
sum_zero (suc n) f h = omega (arith, h n (omega arith), sum_zero n f (λ y l. h y (omega arith)))

-- f and g differ at x alone
pub sum_change : (n x : ℕ) (f g : ℕ → ℕ) → x < n → ((y : ℕ) → y ≢ x → f y ≡ g y) → sum n f + g x ≡ sum n g + f x
sum_change zero x f g l h = absurd (not-suc-le-zero l)
sum_change (suc n) x f g l h =
    ⊎_elim (λ (e : n ≡ x).
    let s : sum n f ≡ sum n g = sum_same n f g (λ y l'. h y (omega arith)) in
    subst (λ (z : ℕ). f n + sum n f + g z ≡ g n + sum n g + f z) e (omega arith))
    (λ (l' : x < n). omega (arith, sum_change n x f g l' h, h n (omega arith)))
    (last_or l)

pub sum_one : (n x : ℕ) (f : ℕ → ℕ) → x < n → ((y : ℕ) → y ≢ x → f y ≡ 0) → sum n f ≡ f x
sum_one n x f l h =
    let k = sum_change n x f (λ y. 0) l h in
    let z : sum n (λ y. 0) ≡ 0 = sum_zero n (λ y. 0) (λ y l'. refl) in
    omega arith

-- what a change at x does to a sum over the changed function
pub sum_upd : {A : Type 0} (w : ℕ → A → ℕ) (f : ℕ → A) (n x : ℕ) (a : A) → x < n
    → sum n (λ y. w y (upd f x a y)) + w x (f x) ≡ sum n (λ y. w y (f y)) + w x a
sum_upd w f n x a l =
    let h : sum n (λ y. w y (upd f x a y)) + w x (f x) ≡ sum n (λ y. w y (f y)) + w x (upd f x a x) =
    sum_change n x (λ y. w y (upd f x a y)) (λ y. w y (f y)) l (λ y d. ap (w y) (upd_other f x a y d)) in
    rw (upd_same f x a) at h
