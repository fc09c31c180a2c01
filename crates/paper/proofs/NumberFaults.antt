-- Refusals 1 and 2 of a number are given exactly when document 01 says.
use mathlib.Core.Path.{◌≡◌, refl, sym, subst, ◌∙◌}
use mathlib.Core.Logic.{⊎_elim, ◌↔◌}
use mathlib.Core.Bool.{Bool, true, false}
use mathlib.Core.List.{List, ◌∷◌, ◌++◌}
use Prim.Native.Nat.{ℕ, zero, suc, ◌+◌, ◌≤◌, ◌<◌}
use native.Mathlib.Omega.{arith}
use borrow.Author.Tests.{ltb-true}
use lib.Dec.{ltb}
use lib.ListN.{length, get_or, drop, drop_of_length-le}
use Rattle.base.specs.Lists.{All, Bytes}
use Rattle.base.proofs.Positions.{drop_at_element}
use Rattle.paper.specs.Sizes.{most_groups, top_group, number_limit}
use Rattle.paper.specs.Refusals.{file_ends, bad_number}
use Rattle.paper.specs.Numbers.{Read, got, fault, groups_from, number_at, number_bytes}
use Rattle.paper.proofs.NumberCodec.{Group, cut, unfit, last, first, group, group_goes_on, fault_got, number_refused_at, number_refusals, number_there, number_back}

-- bytes that end before a number of at most k groups does: fewer than k, each saying that another follows
pub record CutShort (k : ℕ) (b : List ℕ) : Type 0 where
  pub few : length b < k
  pub follows : All (λ x. 128 ≤ x) b

-- 2 is not 1
not_both_refusals : {p q : ℕ} → ◌≡◌ {A = Read ℕ} (fault bad_number p) (fault file_ends q) → ⊥
not_both_refusals e = let z : bad_number ≡ file_ends = cc in omega arith

-- refused with 1 exactly where the bytes end so
module _ (top : ℕ) (s : List ℕ) (from : ℕ) where
  refused_ends : (k least at : ℕ) → groups_from k top least s from at ≡ fault file_ends from → CutShort k (drop at s)
  unfolding groups_from
  refused_ends zero least at e = absurd (not_both_refusals e)
  refused_ends (suc k) least at e =
      go (groups_from (suc k) top least s from at) (group k top least s from at) e (λ d. refused_ends k 1 (at + 1) d)
    where
      go : (x : Read ℕ) → Group k top least s from at x → x ≡ fault file_ends from
          → (groups_from k top 1 s from (at + 1) ≡ fault file_ends from → CutShort k (drop (at + 1) s)) → CutShort (suc k) (drop at s)
      go x (cut h) e ih = rw (drop_of_length-le s h) (record { few = omega arith; follows = tt })
      go x (unfit h d) e ih = absurd (not_both_refusals e)
      go x (last h d m t) e ih = absurd (fault_got (sym e))
      go x (first h d (got m to) r) e ih = absurd (fault_got (sym e))
      go x (first h d (fault i q) r) e ih =
          let w = ih (r ∙ e) in
          rw (drop_at_element s at 0 h) (record { few = omega (arith, w.few); follows = (d, w.follows) })

  ends_refused : (k least at : ℕ) → CutShort k (drop at s) → groups_from k top least s from at ≡ fault file_ends from
  unfolding groups_from
  ends_refused zero least at w = absurd (let z : ⊥ = omega (arith, w.few) in z)
  ends_refused (suc k) least at w = go (ltb at (length s)) refl (λ v. ends_refused k 1 (at + 1) v)
    where
      go : (b : Bool) → ltb at (length s) ≡ b → (CutShort k (drop (at + 1) s) → groups_from k top 1 s from (at + 1) ≡ fault file_ends from)
          → groups_from (suc k) top least s from at ≡ fault file_ends from
      go false c ih = rw c
      go true c ih =
          let h = ltb-true at (length s) c in
          let v : CutShort (suc k) (get_or s at 0 ∷ drop (at + 1) s) = subst (CutShort (suc k)) (drop_at_element s at 0 h) w in
          rw (group_goes_on k top least s from at (get_or s at 0) h refl v.follows.0)
          (rw (ih (record { few = omega (arith, v.few); follows = v.follows.1 })))

-- no number of at most 4,294,967,295 in shortest form stands there
abbrev pub NoNumber : List ℕ → Type 0
NoNumber b = (n : ℕ) (r : List ℕ) → n < number_limit → b ≡ number_bytes n ++ r → ⊥

module _ (s : List ℕ) (at : ℕ) where
  -- 1: "file ends in or before a number"
  pub file_ends_exactly : (number_at s at ≡ fault file_ends at) ↔ CutShort most_groups (drop at s)
  unfolding number_at
  file_ends_exactly = (refused_ends top_group s at most_groups 0 at, ends_refused top_group s at most_groups 0 at)

  -- 2: "number not shortest or too large"
  pub bad_number_exactly : Bytes s → (number_at s at ≡ fault bad_number at) ↔ ((CutShort most_groups (drop at s) → ⊥) × NoNumber (drop at s))
  bad_number_exactly y = (
    λ e. (λ w. not_both_refusals (sym e ∙ file_ends_exactly.1 w), λ n r h d. fault_got (sym e ∙ number_there s at n r h d)),
    λ h. back h (number_at s at) refl,
  )
    where
      back : (CutShort most_groups (drop at s) → ⊥) × NoNumber (drop at s) → (x : Read ℕ) → number_at s at ≡ x → number_at s at ≡ fault bad_number at
      back h (got n to) e = let w = number_back s at n to y e in absurd (h.1 n (drop to s) w.small w.bytes)
      back h (fault j p) e =
          let o : p ≡ at = number_refused_at s at e in
          ⊎_elim (λ (d : j ≡ file_ends). absurd (h.0 (file_ends_exactly.0 (e ∙ rw (d, o)))))
          (λ (d : j ≡ bad_number). e ∙ rw (d, o))
          (number_refusals s at e)
