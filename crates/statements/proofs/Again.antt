-- Laws of reading again, one by one, what was read: each value in its turn, and never a refusal.
use Prim.Native.Nat.{ℕ, suc, ◌+◌, ◌-◌, ◌≤◌, ◌<◌}
use mathlib.Core.Path.{◌≡◌, refl, sym, ◌∙◌}
use mathlib.Core.List.{List, [], ◌∷◌}
use native.Mathlib.Nat.{sub-zero}
use native.Mathlib.Omega.{arith}
use lib.ListN.{drop}
use lib.Seq.{drop-drop}
use Rattle.std.specs.Prelude.{Result, Ok, Err, IsOk}
use Rattle.paper.specs.Refusals.{refusal_number}
use Rattle.paper.specs.Numbers.{Read, got, fault}
use Rattle.paper.specs.Files.{Form, times, reading}
use Rattle.paper.specs.declared.refused.Fault.{Fault}
use Rattle.paper.specs.declared.Found.{Found}
use Rattle.paper.proofs.NumberCodec.{fault_got}
use Rattle.reading.specs.Reads.{read_as}
use Rattle.reading.proofs.Times.{after, first_read, first_refused}

-- the first value of those that were read, and the rest
after_got : {A : Type 0} (a : A) (x : Read (List A)) (l : List A) (to : ℕ) → after (a ∷ []) x ≡ got l to
    → (l ≡ a ∷ drop 1 l) × (x ≡ got (drop 1 l) to)
after_got a (got k t) l to e =
    let d : a ∷ k ≡ l = cc in
    let o : t ≡ to = cc in
    (rw (← d) refl, rw (← d, o) refl)
after_got a (fault k p) l to e = absurd (fault_got e)

-- the values l, read n times by a form up to `last`
module _ {A : Type 0} (m : Form A) (f : List ℕ) (n : ℕ) (l : List A) (last : ℕ) where
  -- from `here` on, those from the i-th on are read
  unfoldable pub LeftFrom : ℕ → ℕ → Type 0
  LeftFrom i here = reading (times (n - i) m) f here ≡ got (drop i l) last

  pub all_left : (at : ℕ) → reading (times n m) f at ≡ got l last → LeftFrom 0 at
  unfolding LeftFrom
  all_left at e = rw sub-zero e

  module _ (i here : ℕ) (h : LeftFrom i here) where
    pub none_left : n ≤ i → here ≡ last
    unfolding LeftFrom
    none_left g = let z : n - i ≡ 0 = omega arith in cc (rw z at h)

    module _ {B : Type 0} (q : B → A) (g : i < n) where
      one_left : n - i ≡ suc (n - (i + 1))
      one_left = omega arith

      pub not_refused : (x : Result (Found B) Fault) → read_as q x ≡ reading m f here → IsOk x
      unfolding LeftFrom
      not_refused (Ok y) e = refl
      not_refused (Err y) e =
          absurd (fault_got (sym (first_refused m f (n - (i + 1)) here (refusal_number y.refusal) y.at (sym e)) ∙ rw one_left at h))

      module _ (y : Found B) (e : got (q y.value) y.next ≡ reading m f here) where
        first_left : (drop i l ≡ q y.value ∷ drop 1 (drop i l)) × (reading (times (n - (i + 1)) m) f y.next ≡ got (drop 1 (drop i l)) last)
        unfolding LeftFrom
        first_left =
            after_got (q y.value) (reading (times (n - (i + 1)) m) f y.next) (drop i l) last
            (sym (first_read m f (n - (i + 1)) here (q y.value) y.next (sym e)) ∙ rw one_left at h)

        -- the value read is the i-th
        pub value_again : drop i l ≡ q y.value ∷ drop (i + 1) l
        value_again = rw drop-drop at first_left.0

        pub left_again : LeftFrom (i + 1) y.next
        unfolding LeftFrom
        left_again = rw drop-drop at first_left.1
