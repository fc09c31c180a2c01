-- A list of places does exactly its first n places, n being the number it gives, and stops at the first refused one.
use mathlib.Core.Path.{◌≡◌, refl, sym, ap, ◌∙◌}
use mathlib.Core.Logic.{◌↔◌}
use mathlib.Core.List.{List, [], ◌∷◌}
use Prim.Native.Nat.{ℕ, zero, suc, ◌+◌}
use native.Mathlib.Omega.{arith}
use lib.ListN.{take}
use Rattle.paper.specs.Tables.{Table}
use Rattle.paper.specs.Runs.{Run}
use Rattle.paper.specs.Steps.{Outcome, refused, done, step, listed, steps}
use Rattle.paper.specs.Reached.{Along, none_left, one_more, ListEnds, all_done, stops, ListDone}

module _ (t : Table) where
  -- one place in front
  ends_later : {is : List ℕ} {k n : ℕ} {p : Run} (i : ℕ) → ListEnds t is k n p → ListEnds t (i ∷ is) k (suc n) p
  ends_later i (all_done e d) = all_done e (ap suc d)
  ends_later i (stops l j e d) = stops (omega arith) j e d

  done_later : {r r' p : Run} {i m : ℕ} {is : List ℕ} {k n : ℕ} → step t r i ≡ done m r' → ListDone t r' is k n p
      → ListDone t r (i ∷ is) k (suc n) p
  done_later {i = i} e w = record { along = one_more e w.along; ends = ends_later i w.ends }

  -- what a list gives, n being done before
  record Given (r : Run) (n : ℕ) (is : List ℕ) : Type 0 where
    refusal : ℕ
    number : ℕ
    last : Run
    is_given : steps t r n is ≡ listed refusal (n + number) last
    is_done : ListDone t r is refusal number last

  given : (r : Run) (n : ℕ) (is : List ℕ) → Given r n is
  unfolding steps
  given r n [] =
      record {
        refusal = 0;
        number = 0;
        last = r;
        is_given = ap (λ (m : ℕ). listed 0 m r) (omega arith);
        is_done = record { along = none_left; ends = all_done refl refl };
      }
  given r n (i ∷ is) = go (step t r i) refl (λ r'. given r' (suc n) is)
    where
      go : (o : Outcome) → step t r i ≡ o → ((r' : Run) → Given r' (suc n) is) → Given r n (i ∷ is)
      go (refused k) e ih =
          record {
            refusal = k;
            number = 0;
            last = r;
            is_given = rw e (ap (λ (m : ℕ). listed k m r) (omega arith));
            is_done = record { along = none_left; ends = stops (omega arith) i refl e };
          }
      go (done k r') e ih =
          let w = ih r' in
          record {
            refusal = w.refusal;
            number = suc w.number;
            last = w.last;
            is_given = rw e (w.is_given ∙ ap (λ (m : ℕ). listed w.refusal m w.last) (omega arith));
            is_done = done_later e w.is_done;
          }

  none_left_same : {r p : Run} → Along t r [] p → r ≡ p
  none_left_same none_left = refl

  -- what a list does is what it gives
  done_given : (r : Run) (m : ℕ) (is : List ℕ) (k n : ℕ) (p : Run) → ListDone t r is k n p → steps t r m is ≡ listed k (m + n) p
  unfolding steps
  done_given r m [] k zero p w = go w.ends (none_left_same w.along)
    where
      go : ListEnds t [] k 0 p → r ≡ p → listed 0 m r ≡ listed k (m + 0) p
      go (all_done e d) s = rw (e, s) (ap (λ (x : ℕ). listed 0 x p) (omega arith))
      go (stops l i e d) s = absurd (let z : ⊥ = omega arith in z)
  done_given r m [] k (suc n) p w = absurd (go w.ends)
    where
      go : ListEnds t [] k (suc n) p → ⊥
      go (all_done e d) = omega arith
      go (stops l i e d) = omega arith
  done_given r m (i ∷ is) k zero p w = go w.ends (none_left_same w.along)
    where
      go : ListEnds t (i ∷ is) k 0 p → r ≡ p → steps t r m (i ∷ is) ≡ listed k (m + 0) p
      go (all_done e d) s = absurd (let z : ⊥ = omega arith in z)
      go (stops l j e d) s =
          let ij : i ≡ j = cc in
          let d' : step t r i ≡ refused k = rw (s, ij) d in
          rw d' (rw s (ap (λ (x : ℕ). listed k x p) (omega arith)))
  done_given r m (i ∷ is) k (suc n) p w = go w.along w.ends (λ r' v. done_given r' (suc m) is k n p v)
    where
      earlier : ListEnds t (i ∷ is) k (suc n) p → ListEnds t is k n p
      earlier (all_done e d) = all_done e (omega arith)
      earlier (stops l j e d) = stops (omega arith) j e d

      go : Along t r (i ∷ take n is) p → ListEnds t (i ∷ is) k (suc n) p
          → ((r' : Run) → ListDone t r' is k n p → steps t r' (suc m) is ≡ listed k (suc m + n) p)
          → steps t r m (i ∷ is) ≡ listed k (m + suc n) p
      go (one_more {r' = r'} e a) d ih =
          rw e (ih r' (record { along = a; ends = earlier d }) ∙ ap (λ (x : ℕ). listed k x p) (omega arith))

  -- "A list of places is carried out ..; it stops at the first refused place and gives that number and how many were done.
  -- Those done stay done. An empty list gives 0."
  pub list_is_its_steps : (r : Run) (is : List ℕ) (k n : ℕ) (p : Run) → (steps t r 0 is ≡ listed k n p) ↔ ListDone t r is k n p
  list_is_its_steps r is k n p = (
    λ e. same (given r 0 is) e,
    λ w. done_given r 0 is k n p w ∙ ap (λ (x : ℕ). listed k x p) (omega arith),
  )
    where
      same : Given r 0 is → steps t r 0 is ≡ listed k n p → ListDone t r is k n p
      same w e =
          let d : listed w.refusal (0 + w.number) w.last ≡ listed k n p = sym w.is_given ∙ e in
          let dk : w.refusal ≡ k = cc in
          let dn : 0 + w.number ≡ n = cc in
          let dn' : w.number ≡ n = omega arith in
          let dp : w.last ≡ p = cc in
          rw (← dk, ← dn', ← dp) w.is_done
