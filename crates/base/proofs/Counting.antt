-- Counting the numbers below n that pass a test, and the least that passes.
use mathlib.Core.Path.{◌≡◌, sym, subst}
use mathlib.Core.Logic.{◌⊎◌, inl, inr, ⊎_elim, ◌↔◌}
use mathlib.Core.Bool.{Bool, true, false, ◌&&◌, not}
use Prim.Native.Nat.{ℕ, zero, suc, ◌+◌, ◌≤◌, ◌<◌}
use native.Mathlib.Nat.{not-suc-le-zero}
use native.Mathlib.Decide.{dec_lt}
use native.Mathlib.Omega.{arith}
use lib.Dec.{T, T_not, not_T}
use Rattle.base.proofs.Tests.{fst_T, snd_T, and_T, T?, last_or}

abbrev pub bit : Bool → ℕ
bit true = 1
bit false = 0

abbrev pub count : (ℕ → Bool) → ℕ → ℕ
count p zero = 0
count p (suc n) = bit (p n) + count p n

pub bit_up : (a b : Bool) → (T a → T b) → bit a ≤ bit b
bit_up true true h = omega arith
bit_up true false h = absurd (h tt)
bit_up false b h = omega arith

pub bit_le : (b : Bool) → bit b ≤ 1
bit_le true = omega arith
bit_le false = omega arith

bit_back : (a b : Bool) → bit b ≤ bit a → T b → T a
bit_back true b h t = tt
bit_back false true h t = omega arith
bit_back false false h t = t

pub count_le : (p : ℕ → Bool) (n : ℕ) → count p n ≤ n
count_le p zero = omega arith
count_le p (suc n) = omega (arith, bit_le (p n), count_le p n)

pub count_pos : (p : ℕ → Bool) (n : ℕ) → T (p 0) → 1 ≤ count p (suc n)
count_pos p zero t = omega (arith, bit_up true (p 0) (λ u. t))
count_pos p (suc n) t = omega (arith, count_pos p n t)

-- p passes where q does, below v
module _ (p q : ℕ → Bool) (v : ℕ) (up : (x : ℕ) → x < v → T (p x) → T (q x)) where
  pub count_up : (n : ℕ) → n ≤ v → count p n ≤ count q n
  count_up zero l = omega arith
  count_up (suc n) l = omega (arith, bit_up (p n) (q n) (up n l), count_up n (omega arith))

  -- and as often: then where q does, p does
  pub count_back : (n : ℕ) → n ≤ v → count q n ≤ count p n → (x : ℕ) → x < n → T (q x) → T (p x)
  count_back zero nv h x l t = absurd (not-suc-le-zero l)
  count_back (suc n) nv h x l t =
      let nv' : n ≤ v = omega arith in
      let tail : count q n ≤ count p n = omega (arith, bit_up (p n) (q n) (up n nv)) in
      let h' : bit (q n) ≤ bit (p n) = omega (arith, count_up n nv') in
      ⊎_elim (λ (e : n ≡ x). bit_back (p x) (q x) (subst (λ (m : ℕ). bit (q m) ≤ bit (p m)) e h') t)
      (λ (l' : x < n). count_back n nv' tail x l' t)
      (last_or l)

-- the least place that passes a test
pub Least : (ℕ → Bool) → ℕ → Type 0
Least p m = T (p m) × ((k : ℕ) → k < m → T (p k) → ⊥)

pub least_T : (p : ℕ → Bool) (m : ℕ) → Least p m → T (p m)
unfolding Least
least_T p m h = h.0

pub least_first : (p : ℕ → Bool) (m : ℕ) → Least p m → (k : ℕ) → k < m → T (p k) → ⊥
unfolding Least
least_first p m h = h.1

module _ (p : ℕ → Bool) where
  pub least_in : (m : ℕ) → T (p m) → ((k : ℕ) → k < m → T (p k) → ⊥) → Least p m
  unfolding Least
  least_in m h k = (h, k)

  -- there is one least place
  pub least_one : (m n : ℕ) → Least p m → Least p n → m ≡ n
  least_one m n a b = go (dec_lt m n) (dec_lt n m)
    where
      go : Dec (m < n) → Dec (n < m) → m ≡ n
      go (yes h) k = absurd (least_first p n b m h (least_T p m a))
      go (no h) (yes k) = absurd (least_first p m a n k (least_T p n b))
      go (no h) (no k) = omega arith

  pub least_same : (q : ℕ → Bool) → ((k : ℕ) → T (p k) ↔ T (q k)) → (m : ℕ) → Least p m → Least q m
  unfolding Least
  least_same q s m h = ((s m).0 h.0, λ k l t. h.1 k l ((s k).1 t))

least? : (p : ℕ → Bool) (n : ℕ) → ((m : ℕ) × (m < n) × Least p m) ⊎ ((k : ℕ) → k < n → T (p k) → ⊥)
unfolding Least
least? p zero = inr (λ k l t. not-suc-le-zero l)
least? p (suc n) = go (least? p n) (T? (p n))
  where
    go : ((m : ℕ) × (m < n) × Least p m) ⊎ ((k : ℕ) → k < n → T (p k) → ⊥) → T (p n) ⊎ (T (p n) → ⊥)
        → ((m : ℕ) × (m < suc n) × Least p m) ⊎ ((k : ℕ) → k < suc n → T (p k) → ⊥)
    go (inl w) d = inl (w.0, omega (arith, w.1), w.2)
    go (inr f) (inl t) = inl (n, omega arith, (t, f))
    go (inr f) (inr h) =
        inr (λ k l t. ⊎_elim (λ (e : n ≡ k). h (subst (λ (m : ℕ). T (p m)) (sym e) t)) (λ (l' : k < n). f k l' t) (last_or l))

pub least : (p : ℕ → Bool) (n : ℕ) → T (p n) → (m : ℕ) × (m ≤ n) × Least p m
least p n t = go (least? p (suc n))
  where
    go : ((m : ℕ) × (m < suc n) × Least p m) ⊎ ((k : ℕ) → k < suc n → T (p k) → ⊥) → (m : ℕ) × (m ≤ n) × Least p m
    go (inl w) = (w.0, omega (arith, w.1), w.2)
    go (inr f) = absurd (f n (omega arith) t)

-- no number below n passes
abbrev pub none : (ℕ → Bool) → ℕ → Bool
none p zero = true
none p (suc n) = not (p n) && none p n

pub none_in : (p : ℕ → Bool) (n : ℕ) → ((k : ℕ) → k < n → T (p k) → ⊥) → T (none p n)
none_in p zero f = tt
none_in p (suc n) f =
    and_T (not (p n)) (none p n) (not_T (p n) (f n (omega arith))) (none_in p n (λ k l. f k (omega arith)))

pub none_out : (p : ℕ → Bool) (n : ℕ) → T (none p n) → (k : ℕ) → k < n → T (p k) → ⊥
none_out p zero h k l t = not-suc-le-zero l
none_out p (suc n) h k l t =
    ⊎_elim (λ (e : n ≡ k). T_not (p n) (fst_T (not (p n)) (none p n) h) (subst (λ (m : ℕ). T (p m)) (sym e) t))
    (λ (l' : k < n). none_out p n (snd_T (not (p n)) (none p n) h) k l' t)
    (last_or l)
