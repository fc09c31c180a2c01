-- Agreement over ends: at each depth an equivalence, and depth V is every depth.
use mathlib.Core.Path.{◌≡◌, sym, subst}
use mathlib.Core.Logic.{◌⊎◌, inl, inr}
use mathlib.Core.Bool.{Bool}
use Prim.Native.Nat.{ℕ, zero, suc, ◌≤◌, ◌<◌}
use native.Mathlib.Decide.{dec_le}
use native.Mathlib.Omega.{arith}
use lib.Dec.{T}
use Rattle.base.proofs.Counting.{count, count_le, count_pos, count_back, least, least_T, least_first, none, none_in, none_out}
use Rattle.paper.specs.Ends.{End, same_ends, agree}
use Rattle.paper.proofs.SameEnds.{PartsAll, ends_up, ends_flip, ends_refl, ends_tr}

-- every part of an end is below v
abbrev pub LowEnd : ℕ → End → Type 0
LowEnd v x = PartsAll (λ p. p < v) x

module _ (e : ℕ → End) where
  -- an unknown agrees with itself
  pub agree_refl : (d x : ℕ) → T (agree e d x x)
  agree_refl zero x = tt
  agree_refl (suc d) x = ends_refl (agree e d) (agree_refl d) (e x)

  -- agreement goes both ways
  pub agree_sym : (d x y : ℕ) → T (agree e d x y) → T (agree e d y x)
  agree_sym zero x y h = tt
  agree_sym (suc d) x y h = ends_flip (agree e d) (agree e d) (agree_sym d) (e x) (e y) h

  -- agreement goes on
  pub agree_tr : (d x y z : ℕ) → T (agree e d x y) → T (agree e d y z) → T (agree e d x z)
  agree_tr zero x y z h k = tt
  agree_tr (suc d) x y z h k = ends_tr (agree e d) (agree_tr d) (e x) (e y) (e z) h k

  -- one end, of whatever kind, agrees with itself
  pub same_end_agrees : (d x y : ℕ) → e x ≡ e y → T (agree e d x y)
  same_end_agrees zero x y h = tt
  same_end_agrees (suc d) x y h = subst (λ (z : End). T (same_ends (agree e d) (e x) z)) h (agree_refl (suc d) x)

module _ (e : ℕ → End) (v : ℕ) (low : (x : ℕ) → x < v → LowEnd v (e x)) where
  -- what agrees to a depth agrees to each lesser depth
  pub lesser_depth : (d k x y : ℕ) → k ≤ d → x < v → y < v → T (agree e d x y) → T (agree e k x y)
  lesser_depth d zero x y l a b h = tt
  lesser_depth zero (suc k) x y l a b h = absurd (let z : ⊥ = omega arith in z)
  lesser_depth (suc d) (suc k) x y l a b h =
      ends_up (agree e d) (agree e k) (λ p. p < v) (λ p q. lesser_depth d k p q (omega arith)) (e x) (e y) (low x a) (low y b) h

  -- the next depth says no more
  Stable : ℕ → Type 0
  Stable k = (x y : ℕ) → x < v → y < v → T (agree e k x y) → T (agree e (suc k) x y)

  stable_ever : (k : ℕ) → Stable k → (d x y : ℕ) → x < v → y < v → T (agree e k x y) → T (agree e d x y)
  unfolding Stable
  stable_ever k s zero x y a b h = tt
  stable_ever k s (suc d) x y a b h =
      ends_up (agree e k) (agree e d) (λ p. p < v) (stable_ever k s d) (e x) (e y) (low x a) (low y b) (s x y a b h)

  -- x agrees to depth d with no smaller-numbered unknown
  lone : ℕ → ℕ → Bool
  lone d x = none (agree e d x) x

  -- the lowest that agrees with x to depth d
  lowest : (d x : ℕ) → (m : ℕ) × (m ≤ x) × T (agree e d x m) × T (lone d m)
  unfolding lone
  lowest d x =
      let w = least (agree e d x) x (agree_refl e d x) in
      let m : ℕ = w.0 in
      let h = least_T (agree e d x) m w.2 in
      (m, w.1, h, none_in (agree e d m) m λ k l t. least_first (agree e d x) m w.2 k l (agree_tr e d x m k h t))

  lone_up : (d x : ℕ) → x < v → T (lone d x) → T (lone (suc d) x)
  unfolding lone
  lone_up d x a h =
      none_in (agree e (suc d) x) x λ k l t. none_out (agree e d x) x h k l (lesser_depth (suc d) d x k (omega arith) a (omega arith) t)

  lone_one : (d x y : ℕ) → T (lone d x) → T (lone d y) → T (agree e d x y) → x ≡ y
  unfolding lone
  lone_one d x y a b h = go (dec_le x y) (dec_le y x)
    where
      go : Dec (x ≤ y) → Dec (y ≤ x) → x ≡ y
      go (yes l) (yes m) = omega arith
      go (yes l) (no m) = absurd (none_out (agree e d y) y b x (omega arith) (agree_sym e d x y h))
      go (no l) m = absurd (none_out (agree e d x) x a y (omega arith) h)

  -- no more lone unknowns at the next depth: the lowest are the same, so agreement is
  no_more_lone : (d : ℕ) → ((x : ℕ) → x < v → T (lone (suc d) x) → T (lone d x)) → Stable d
  unfolding Stable
  no_more_lone d back x y a b h =
      let p = lowest (suc d) x in
      let q = lowest (suc d) y in
      let m : ℕ = p.0 in
      let n : ℕ = q.0 in
      let m< : m < v = omega (arith, p.1) in
      let n< : n < v = omega (arith, q.1) in
      let xm : T (agree e d x m) = lesser_depth (suc d) d x m (omega arith) a m< p.2 in
      let yn : T (agree e d y n) = lesser_depth (suc d) d y n (omega arith) b n< q.2 in
      let mn : m ≡ n =
      lone_one d m n (back m m< p.3) (back n n< q.3) (agree_tr e d m x n (agree_sym e d x m xm) (agree_tr e d x y n h yn)) in
      agree_tr e (suc d) x m y p.2 (subst (λ (k : ℕ). T (agree e (suc d) k y)) (sym mn) (agree_sym e (suc d) y n q.2))

  -- stable below depth d, or more than d lone unknowns
  Settles : ℕ → Type 0
  Settles d = ((k : ℕ) × (k < d) × Stable k) ⊎ (d < count (lone d) v)

  settles : 0 < v → (d : ℕ) → Settles d
  unfolding Settles lone
  settles h zero = inr (first v h)
    where
      first : (n : ℕ) → 0 < n → 0 < count (lone 0) n
      first zero l = l
      first (suc n) l = count_pos (lone 0) n tt
  settles h (suc d) = go (settles h d) (dec_le (count (lone (suc d)) v) (count (lone d) v))
    where
      go : Settles d → Dec (count (lone (suc d)) v ≤ count (lone d) v) → Settles (suc d)
      go (inl w) c = inl (w.0, omega (arith, w.1), w.2)
      go (inr l) (yes c) = inl (d, omega arith, no_more_lone d (count_back (lone d) (lone (suc d)) v (lone_up d) v (omega arith) c))
      go (inr l) (no c) = inr (omega arith)

  -- what agrees to depth V agrees to every depth
  pub depth_V_is_every_depth : (x y : ℕ) → x < v → y < v → T (agree e v x y) → (d : ℕ) → T (agree e d x y)
  unfolding Settles
  depth_V_is_every_depth x y a b h d = go (settles (omega arith) v)
    where
      go : Settles v → T (agree e d x y)
      go (inl w) = stable_ever w.0 w.2 d x y a b (lesser_depth v w.0 x y (omega (arith, w.1)) a b h)
      go (inr l) = absurd (let z : ⊥ = omega (arith, count_le (lone v) v) in z)
