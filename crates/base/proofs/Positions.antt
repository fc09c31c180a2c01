-- Laws of a list read from a position.
use mathlib.Core.Path.{◌≡◌, sym, subst, ap, ◌∙◌}
use mathlib.Core.List.{List, [], ◌∷◌, ◌++◌}
use Prim.Native.Nat.{ℕ, zero, suc, ◌+◌, ◌-◌, ◌≤◌, ◌<◌}
use native.Mathlib.Numerals.{add-one}
use native.Mathlib.Omega.{arith}
use lib.ListN.{length, get_or, drop}
use lib.Seq.{drop-cons, drop-nil, drop-drop, drop-append_seam, get_or-append-add}

-- a position with an element, and what stands after it
pub record ElementAt {A : Type 0} (s : List A) (at : ℕ) (d b : A) (r : List A) : Type 0 where
  pub below : at < length s
  pub is : get_or s at d ≡ b
  pub after : drop (at + 1) s ≡ r

module _ {A : Type 0} where
  -- a list that has an element at its front from a position on
  pub element_at : (s : List A) (at : ℕ) (d : A) {b : A} {r : List A} → drop at s ≡ b ∷ r → ElementAt s at d b r
  element_at [] at d e = absurd (let z = ap length (sym (drop-nil at) ∙ e) in omega arith)
  element_at (x ∷ s) zero d e = record { below = omega arith; is = cc; after = cc }
  element_at (x ∷ s) (suc at) d e =
      let i = element_at s at d e in
      record { below = omega arith; is = i.is; after = rw add-one (rw add-one at i.after) }

  -- the same behind one list
  pub append_after : (a : List A) {b c : List A} → b ≡ c → a ++ b ≡ a ++ c
  append_after a e = rw e

  -- a list from a position with an element
  pub drop_at_element : (s : List A) (at : ℕ) (d : A) → at < length s → drop at s ≡ get_or s at d ∷ drop (at + 1) s
  drop_at_element s at d h = rw (add-one, drop-cons s at d)

  -- past a part that stands at a position
  pub drop_past : (s : List A) (at : ℕ) (b r : List A) → drop at s ≡ b ++ r → drop (at + length b) s ≡ r
  drop_past s at b r e = rw (← drop-drop (length b) at s, e) (drop-append_seam b r)

-- the second of two lists, from its start on
pub get_d_past : (a b : List ℕ) (n i : ℕ) → length a ≡ n → n ≤ i → get_or (a ++ b) i 0 ≡ get_or b (i - n) 0
get_d_past a b n i e h =
    let m : length a + (i - n) ≡ i = omega arith in
    subst (λ (j : ℕ). get_or (a ++ b) j 0 ≡ get_or b (i - n) 0) m (get_or-append-add a b (i - n) 0)
