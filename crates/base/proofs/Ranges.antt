-- Laws of a test of every number below n: what a loop over the numbers asks, and what it means; and of what holds from one
-- number up to another.
use mathlib.Core.Path.{◌≡◌, refl, sym, subst, ◌∙◌}
use mathlib.Core.Logic.{⊎_elim}
use mathlib.Core.Bool.{Bool, true, false, ◌&&◌, and_comm}
use Prim.Native.Nat.{ℕ, zero, suc, ◌+◌, ◌-◌, ◌*◌, ◌≤◌, ◌<◌}
use native.Mathlib.Nat.{mul-suc, zero-add}
use native.Mathlib.Numerals.{add-one}
use native.Mathlib.Omega.{arith}
use denote.Param.Members.{Mut}
use lib.ListN.{length, get_or}
use Rattle.std.specs.declared.ops.Range.{Range}
use Rattle.std.proofs.lemmas.List.FromFn.{length-range_with_len, get_or-range_with_len}
use mathlib.Core.List.{List}
use Rattle.std.proofs.iter.Yields.{nat_range_steps}
use Rattle.std.specs.Bool.{MatchBool}
use Rattle.std.specs.Fn.{Called}
use Rattle.std.specs.Iterator.{YieldsThen}
use Rattle.std.specs.List.{range_with_len, FoldsTo, AllWithin, HoldsAt}
use Rattle.std.specs.Option.{MatchOption}
use Rattle.std.specs.Prelude.{Option}
use Rattle.std.proofs.lemmas.Iterator.{cases_from_all, YieldsList-from_range}
use Rattle.base.specs.Choice.{all_below}
use Rattle.base.proofs.Tests.{fst_true, snd_true, not_both, not_true_false, last_or}
use Rattle.base.proofs.Regions.{lt_or_le}

module _ (f : ℕ → Bool) where
  pub below_none : all_below 0 f ≡ true
  unfolding all_below
  below_none = refl

  -- one number more
  pub below_more : (i : ℕ) → all_below i f ≡ true → f i ≡ true → all_below (i + 1) f ≡ true
  unfolding all_below
  below_more i h k = rw (add-one, k, h)

  -- what it means
  pub below_each : (n : ℕ) → all_below n f ≡ true → (i : ℕ) → i < n → f i ≡ true
  unfolding all_below
  below_each zero h i l = absurd (let z : ⊥ = omega arith in z)
  below_each (suc n) h i l =
      ⊎_elim (λ (e : n ≡ i). subst (λ (m : ℕ). f m ≡ true) e (fst_true (f n) (all_below n f) h))
      (λ (l' : i < n). below_each n (snd_true (f n) (all_below n f) h) i l') (last_or l)

  pub each_below : (n : ℕ) → ((i : ℕ) → i < n → f i ≡ true) → all_below n f ≡ true
  unfolding all_below
  each_below zero h = refl
  each_below (suc n) h = rw (h n (omega arith), each_below n (λ i l. h i (omega arith)))

  -- a loop's two ways out: it has passed all, or one fails
  pub below_all : (n i : ℕ) → i ≤ n → n ≤ i → all_below i f ≡ true → all_below n f ≡ true
  below_all n i h k e = let d : i ≡ n = omega arith in subst (λ (m : ℕ). all_below m f ≡ true) d e

  pub below_fails : (n i : ℕ) → i < n → f i ≡ false → all_below n f ≡ false
  below_fails n i l e = not_true_false (all_below n f) (λ h. not_both (f i) (below_each n h i l) e)

-- a loop of tests with no way out, after the tests of the numbers below i
module _ (f : ℕ → Bool) where
  pub tested_none : true ≡ all_below 0 f
  unfolding all_below
  tested_none = refl

  pub tested_next : (i : ℕ) (b clean : Bool) → b ≡ f i → clean ≡ all_below i f → (clean && b) ≡ all_below (i + 1) f
  unfolding all_below
  tested_next i b clean e h = rw (add-one, ← h, ← e) (and_comm clean b)

-- `(0..n).all(..)`, whose closure says of each number what f says
module _ {F : Type 0} {g : Mut F (ℕ × Unit {0}) Bool} {s : Range ℕ} {u : Range ℕ} {closure : F} (f : ℕ → Bool) (n : ℕ) where
  pub all_range : (r : Bool)
      → (xs : List ℕ) × (o : Option ℕ) × (j : F) × YieldsThen nat_range_steps s xs o u × FoldsTo (λ p x q. Called g p (x, tt) true q) closure xs j × MatchOption o (r ≡ true) (λ x. (r ≡ false) × ((h : F) × Called g j (x, tt) false h))
      → s ≡ record { start = 0; end = n }
      → ((x : ℕ) (q : F) → Called g closure (x, tt) true q → (q ≡ closure) × (f x ≡ true))
      → ((x : ℕ) (q : F) → Called g closure (x, tt) false q → f x ≡ false)
      → r ≡ all_below n f
  all_range r ran e passes fails =
      go r (cases_from_all u closure r (λ x. f x ≡ true) (λ x. f x ≡ false) ran (YieldsList-from_range 0 n n e (omega arith)) passes fails)
    where
      counted : (i : ℕ) → i < n → get_or (range_with_len 0 n) i 0 ≡ i
      counted i l = get_or-range_with_len 0 n i 0 l ∙ zero-add i

      go : (b : Bool) → MatchBool b (AllWithin (λ x. f x ≡ true) (range_with_len 0 n) 0 (length (range_with_len 0 n))) ((k : ℕ) × (k < length (range_with_len 0 n)) × HoldsAt (λ x. f x ≡ false) (range_with_len 0 n) k) → b ≡ all_below n f
      go true h = sym (each_below f n (λ i l. subst (λ (m : ℕ). f m ≡ true) (counted i l) (h i 0 (omega arith) (omega (arith, length-range_with_len 0 n)))))
      go false (i, l, h) =
          let k : i < n = omega (arith, length-range_with_len 0 n) in
          sym (below_fails f n i k (subst (λ (m : ℕ). f m ≡ false) (counted i k) (h 0)))

-- P holds from lo up to hi
abbrev pub Within : (ℕ → Type 0) → ℕ → ℕ → Type 0
Within P lo hi = (i : ℕ) → lo ≤ i → i < hi → P i

module _ (P : ℕ → Type 0) where
  pub within_joined : (a b c : ℕ) → Within P a b → Within P b c → Within P a c
  within_joined a b c h k i l m = ⊎_elim (λ (w : i < b). h i l w) (λ (w : b ≤ i). k i w m) (lt_or_le i b)

  -- one number, and those after it
  pub within_next : (a b c : ℕ) → b ≤ suc a → P a → Within P b c → Within P a c
  within_next a b c n p k = within_joined a b c (λ i l m. let e : a ≡ i = omega arith in subst P e p) k

  pub within_none : (a : ℕ) → Within P a a
  within_none a i l m = absurd (let z : ⊥ = omega arith in z)

  -- n numbers from `at` on
  pub within_each : (at n : ℕ) → ((k : ℕ) → k < n → P (at + k)) → Within P at (at + n)
  within_each at n h i l m = let e : at + (i - at) ≡ i = omega arith in subst P e (h (i - at) (omega arith))

  -- n rows of w numbers from `at` on
  pub within_rows : (at w n : ℕ) → ((q : ℕ) → q < n → Within P (at + w * q) (at + w * q + w)) → Within P at (at + w * n)
  within_rows at w zero h = λ i l m. absurd (let z : ⊥ = omega arith in z)
  within_rows at w (suc n) h =
      within_joined at (at + w * n) (at + w * suc n) (within_rows at w n (λ q l. h q (omega arith)))
      (λ i l m. h n (omega arith) i l (omega (arith, mul-suc w n)))
