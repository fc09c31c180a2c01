-- The row of an unknown over ends: the first that agrees with it is the lowest that does.
use mathlib.Core.Path.{subst}
use Prim.Native.Nat.{ℕ}
use native.Mathlib.Omega.{arith}
use lib.Dec.{T}
use Rattle.base.proofs.Counting.{Least, least_in, least_same}
use Rattle.base.proofs.Firsts.{first_is}
use Rattle.paper.specs.Ends.{End, agree}
use Rattle.paper.specs.Maps.{lowest_of}
use Rattle.paper.proofs.Depth.{agree_refl, agree_sym, agree_tr}

module _ (e : ℕ → End) (v : ℕ) where
  -- "the lowest unknown that is the same item", over ends
  pub lowest_is_least : (x : ℕ) → Least (agree e v x) (lowest_of e v x)
  unfolding lowest_of
  lowest_is_least x =
      let h = first_is (agree e v x) x 0 (subst (λ (n : ℕ). T (agree e v x n)) (omega arith) (agree_refl e v x)) in
      least_in (agree e v x) (lowest_of e v x) h.passes (λ y l t. h.first y (omega arith) l t)

  -- unknowns that agree have the same lowest
  pub least_moves : (x y m : ℕ) → T (agree e v x y) → Least (agree e v x) m → Least (agree e v y) m
  least_moves x y m h = least_same (agree e v x) (agree e v y) (λ k. (agree_tr e v y x k (agree_sym e v x y h), agree_tr e v x y k h)) m
