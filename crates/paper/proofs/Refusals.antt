-- A step's refusals 15, 13 and 14 are given exactly when document 01 says, in that order; 18 is in `StepIsRule`.
use mathlib.Core.Path.{◌≡◌, refl, sym, ap, ◌∙◌}
use mathlib.Core.Logic.{◌⊎◌, inl, inr, ⊎_elim, ◌↔◌}
use mathlib.Core.Bool.{Bool, true, false}
use mathlib.Core.List.{List, ◌++◌}
use mathlib.Core.Option.{Option, none, some}
use Prim.Native.Nat.{ℕ, ◌≤◌, ◌<◌}
use native.Mathlib.Decide.{dec_lt}
use native.Mathlib.Omega.{arith}
use lib.Dec.{leb}
use lib.ListN.{length, get_elem?}
use Rattle.base.specs.Choice.{pick}
use Rattle.base.specs.Lists.{without}
use Rattle.base.proofs.Elements.{place_some, some_place, no_place}
use Rattle.paper.specs.Sizes.{room}
use Rattle.paper.specs.Refusals.{no_such_place, still_waits, has_clashed, no_room}
use Rattle.paper.specs.Tables.{Table}
use Rattle.paper.specs.Runs.{Run, Sound}
use Rattle.paper.specs.Rules.{Waits, after}
use Rattle.paper.specs.Steps.{Effect, it_waits, takes, effect, refused, done, performed, taken, running, step}
use Rattle.paper.specs.Reached.{Clashed}
use Rattle.paper.specs.declared.Item.{Item}
use Rattle.paper.proofs.StepIsRule.{Takes, takes_or_waits, waiting_effect, step_at, waits_exactly}

-- an item that is there is refused with 14 or 18 alone
performed_refusals : (r : Run) (l : List Item) (w : Effect) (k : ℕ) → performed r l w ≡ refused k → (k ≡ still_waits) ⊎ (k ≡ no_room)
performed_refusals r l it_waits k e = inl (cc)
performed_refusals r l (takes n ps σ) k e = go (leb (length (l ++ ps)) room) e
  where
    go : (b : Bool) → pick b (done n (after r l ps σ)) (refused no_room) ≡ refused k → (k ≡ still_waits) ⊎ (k ≡ no_room)
    go true d = absurd (let z : ◌≡◌ {A = ℕ} 0 1 = cc in omega arith)
    go false d = inr (cc)

module _ (t : Table) (r : Run) (i : ℕ) where
  -- 15: "run has clashed", before all other refusals of a step
  pub clashed_exactly : (step t r i ≡ refused has_clashed) ↔ Clashed r
  unfolding step
  clashed_exactly = (λ e. clashed r.state.clash refl e, λ w. rw w.1)
    where
      never : (o : Option Item) → taken t r i o ≡ refused has_clashed → ⊥
      never none e = let z : ◌≡◌ {A = ℕ} 13 15 = cc in omega arith
      never (some j) e =
          ⊎_elim (λ (d : has_clashed ≡ still_waits). let z : ⊥ = omega arith in z) (λ (d : has_clashed ≡ no_room). let z : ⊥ = omega arith in z)
          (performed_refusals r (without r.pending i) (effect t r.state j) has_clashed e)

      clashed : (c : Option ℕ) → r.state.clash ≡ c → running t r i c ≡ refused has_clashed → Clashed r
      clashed none d e = absurd (never (get_elem? r.pending i) e)
      clashed (some c) d e = (c, d)

  module _ (free : r.state.clash ≡ none) where
    -- 13: "place not below the pending count"
    pub no_place_exactly : (step t r i ≡ refused no_such_place) ↔ (length r.pending ≤ i)
    unfolding step
    no_place_exactly = (
      λ e. beyond (get_elem? r.pending i) refl (sym (ap (running t r i) free) ∙ e),
      λ l. ap (running t r i) free ∙ ap (taken t r i) (no_place r.pending i l),
    )
      where
        beyond : (o : Option Item) → get_elem? r.pending i ≡ o → taken t r i o ≡ refused no_such_place → length r.pending ≤ i
        beyond none d e = go (dec_lt i (length r.pending))
          where
            go : Dec (i < length r.pending) → length r.pending ≤ i
            go (yes l) = let w = place_some r.pending i l in let f : none ≡ some w.0 = sym d ∙ w.1 in absurd (let z : ◌≡◌ {A = ℕ} 0 1 = cc in omega arith)
            go (no l) = omega arith
        beyond (some j) d e =
            ⊎_elim (λ (f : no_such_place ≡ still_waits). absurd (let z : ⊥ = omega arith in z)) (λ (f : no_such_place ≡ no_room). absurd (let z : ⊥ = omega arith in z))
            (performed_refusals r (without r.pending i) (effect t r.state j) no_such_place e)

    -- 14: "the statement waits". "With mark 254 a statement x = u, u less, waits.", and nothing else does.
    pub waits_with_mark_254 : Sound t r
        → (step t r i ≡ refused still_waits) ↔ ((j : Item) × (get_elem? r.pending i ≡ some j) × Waits t r.state j)
    unfolding step
    waits_with_mark_254 s = (
      λ e. waiting_item e (get_elem? r.pending i) refl,
      λ w. step_at t r s free i w.0 w.1 ∙ ap (performed r (without r.pending i)) (waiting_effect t r.state s.state.memo w.2),
    )
      where
        waiting_item : step t r i ≡ refused still_waits → (o : Option Item) → get_elem? r.pending i ≡ o
            → (j : Item) × (get_elem? r.pending i ≡ some j) × Waits t r.state j
        waiting_item e none d =
            absurd (let f : refused no_such_place ≡ refused still_waits = sym (ap (running t r i) free ∙ ap (taken t r i) d) ∙ e in let z : ◌≡◌ {A = ℕ} 13 14 = cc in omega arith)
        waiting_item e (some j) d =
            ⊎_elim
            (λ (w : Takes t r.state j).
            absurd
            ((waits_exactly t r s free i (some_place r.pending i j d)).0 e w.number (after r (without r.pending i) w.products w.state)
            (record { item = j; place = d; products = w.products; state = w.state; rule = w.rule; run = refl })))
            (λ w. (j, d, w)) (takes_or_waits t r.state s.state.memo j)

-- A step that is accepted was unclashed.
pub unclashed : (t : Table) (r : Run) (i k : ℕ) (r' : Run) → step t r i ≡ done k r' → r.state.clash ≡ none
unclashed t r i k r' e = go r.state.clash refl
  where
    go : (o : Option ℕ) → r.state.clash ≡ o → r.state.clash ≡ none
    go none d = d
    go (some c) d =
        let f : refused has_clashed ≡ done k r' = sym ((clashed_exactly t r i).1 (c, d)) ∙ e in
        absurd (let z : ◌≡◌ {A = ℕ} 0 1 = cc in omega arith)
