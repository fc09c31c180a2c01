-- Until the end of a run from an accepted file some item can be taken, and every such run can be carried to an end.
use mathlib.Core.Path.{◌≡◌, refl, sym, ap, ◌∙◌}
use mathlib.Core.Logic.{inl, inr, ⊎_elim, ◌≢◌}
use mathlib.Core.List.{List, [], ◌∷◌}
use mathlib.Core.Option.{Option, none, some}
use Prim.Native.Nat.{ℕ, zero, suc, ◌+◌, ◌<◌}
use native.Mathlib.Omega.{arith}
use lib.ListN.{length, get_elem?}
use Rattle.base.specs.Lists.{without, total, Member, here, there}
use Rattle.base.proofs.Elements.{member_place}
use Rattle.paper.specs.Tables.{Table}
use Rattle.paper.specs.Runs.{initiated, Statement, Run, ItemOk}
use Rattle.paper.specs.Rules.{Waits, waiting, after, Carried}
use Rattle.paper.specs.Steps.{done, step}
use Rattle.paper.specs.Reached.{FileOk, Reached, stepped, Later, same, next, Over}
use Rattle.paper.specs.Counts.{most_steps, told, holds}
use Rattle.paper.specs.declared.Item.{Item}
use Rattle.paper.specs.declared.Item.TheVariants.{Statement as statement, Ask as ask, News as news}
use Rattle.paper.proofs.StepIsRule.{rule_is_done, Takes, takes_or_waits}
use Rattle.paper.proofs.Soundness.{reached_sound, item_ok}
use Rattle.paper.proofs.StepCounts.{rule_fits, step_count}
use Rattle.paper.proofs.Bindings.{news_at, reached_told}

some_news : (c x : ℕ) (l : List Item) → 0 < total (news_at c x) l → (d : ℕ) × (y : ℕ) × (u : ℕ) × Member (news d y u) l
some_news c x [] h = absurd (let z : ⊥ = omega arith in z)
some_news c x (statement d y u ∷ l) h = let w = some_news c x l (omega arith) in (w.0, w.1, w.2, there w.3)
some_news c x (ask d y u ∷ l) h = let w = some_news c x l (omega arith) in (w.0, w.1, w.2, there w.3)
some_news c x (news d y u ∷ l) h = (d, y, u, here)

-- an accepted step
pub record Goes (t : Table) (r : Run) : Type 0 where
  pub place : ℕ
  pub rule : ℕ
  pub run : Run
  pub is : step t r place ≡ done rule run

module _ (t : Table) (qs : List Statement) (ok : FileOk t qs) where
  module _ (n : ℕ) (r : Run) (h : Reached t qs n r) (free : r.state.clash ≡ none) where
    -- an item that takes a rule is taken: there is always room
    pub takes_goes : (i : ℕ) (j : Item) → get_elem? r.pending i ≡ some j → (w : Takes t r.state j)
        → step t r i ≡ done w.number (after r (without r.pending i) w.products w.state)
    takes_goes i j e w =
        let r' : Run = after r (without r.pending i) w.products w.state in
        let v : Carried t r i w.number r' =
        record { item = j; place = e; products = w.products; state = w.state; rule = w.rule; run = refl } in
        rule_is_done t r (reached_sound t qs ok h) free i w.number r' v (rule_fits t qs ok h free i w.number r' v)

    goes_at : (i : ℕ) (j : Item) → get_elem? r.pending i ≡ some j → Takes t r.state j → Goes t r
    goes_at i j e w = record { place = i; rule = w.number; run = _; is = takes_goes i j e w }

    -- asks and news never wait
    goes_ask : (c x u : ℕ) → Member (ask c x u) r.pending → Goes t r
    goes_ask c x u m =
        let p = member_place m in
        ⊎_elim (λ w. goes_at p.0 (ask c x u) p.1 w) (λ (w : Waits t r.state (ask c x u)). elim w [ ])
        (takes_or_waits t r.state (reached_sound t qs ok h).state.memo (ask c x u))

    goes_news : (c x u : ℕ) → Member (news c x u) r.pending → Goes t r
    goes_news c x u m =
        let p = member_place m in
        ⊎_elim (λ w. goes_at p.0 (news c x u) p.1 w) (λ (w : Waits t r.state (news c x u)). elim w [ ])
        (takes_or_waits t r.state (reached_sound t qs ok h).state.memo (news c x u))

    -- where a statement waits, an ask or a news is pending
    instead : (c x : ℕ) → c < t.cabinets → r.state.store c x ≡ initiated → Goes t r
    instead c x hc e =
        let v = reached_told t qs ok h in
        ⊎_elim (λ w. goes_ask c x w.0 w.1)
        (λ (w : told (r.state.owner x) ≡ 1).
        let k : holds (r.state.store c x) ≡ 0 = ap holds e in
        let z = some_news c x r.pending (omega (arith, v.kept c x hc)) in
        goes_news z.0 z.1 z.2 z.3)
        (v.pledged c x e)

    by_waiting : (j : Item) → ItemOk t j → Waits t r.state j → Goes t r
    by_waiting j i (waiting {c = c} {x = x} l e) = instead c x i.0 e

    -- "While a run from an accepted file is unclashed with items pending, at least one doesn't wait."
    pub some_item_goes : r.pending ≢ [] → Goes t r
    some_item_goes ne = go r.pending refl
      where
        first : (j : Item) → get_elem? r.pending 0 ≡ some j → Goes t r
        first j e =
            ⊎_elim (λ w. goes_at 0 j e w) (λ w. by_waiting j (item_ok t r (reached_sound t qs ok h) 0 j e) w)
            (takes_or_waits t r.state (reached_sound t qs ok h).state.memo j)

        go : (l : List Item) → r.pending ≡ l → Goes t r
        go [] e = absurd (ne e)
        go (j ∷ l) e = first j (ap (λ (m : List Item). get_elem? m 0) e)

  -- an end that accepted steps lead to from r
  pub record CarriedOn (r : Run) : Type 0 where
    pub last : Run
    pub steps : ℕ
    pub later : Later t r last
    pub reached : Reached t qs steps last
    pub over : Over last

  carried_on : (k n : ℕ) (p r : Run) → Later t p r → Reached t qs n r → most_steps t.cabinets t.unknowns (length qs) < n + k → CarriedOn p
  carried_on zero n p r a h m = absurd (let z : ⊥ = omega (arith, step_count t qs ok h) in z)
  carried_on (suc k) n p r a h m =
      go r.state.clash refl r.pending refl (λ q b h'. carried_on k (suc n) p q b h' (omega arith))
    where
      go : (c : Option ℕ) → r.state.clash ≡ c → (l : List Item) → r.pending ≡ l
          → ((q : Run) → Later t p q → Reached t qs (suc n) q → CarriedOn p) → CarriedOn p
      go (some c) d l d' ih = record { last = r; steps = n; later = a; reached = h; over = inl (c, d) }
      go none d [] d' ih = record { last = r; steps = n; later = a; reached = h; over = inr (record { unclashed = d; empty = d' }) }
      go none d (j ∷ l) d' ih =
          let w = some_item_goes n r h d (λ x. let e : j ∷ l ≡ [] = sym d' ∙ x in let z : ◌≡◌ {A = ℕ} 0 1 = cc in omega arith) in
          ih w.run (next a w.place w.rule w.is) (stepped h w.place w.rule w.is)

  -- Every run from an accepted file can be carried to an end.
  pub every_run_ends : {n : ℕ} {r : Run} → Reached t qs n r → CarriedOn r
  every_run_ends {n} {r} h = carried_on (suc (most_steps t.cabinets t.unknowns (length qs))) n r r same h (omega arith)
