-- Locality: a statement's step reads and changes its own cabinet alone.
use mathlib.Core.Path.{◌≡◌, refl, sym, ap, ap₂, ◌∙◌}
use mathlib.Core.Bool.{Bool}
use mathlib.Core.List.{List}
use mathlib.Core.Option.{Option, none, some}
use Prim.Native.Nat.{ℕ}
use lib.ListN.{get_elem?}
use Rattle.base.specs.Choice.{pick, upd}
use Rattle.base.specs.Lists.{without}
use Rattle.base.proofs.Changes.{upd_same}
use Rattle.paper.specs.Tables.{Table}
use Rattle.paper.specs.Runs.{Mark, Statement, State, Run}
use Rattle.paper.specs.Rules.{after, Carried}
use Rattle.paper.specs.Steps.{Local, Act, waits, acts, act, local, effect, Outcome, refused, done, performed, step}
use Rattle.paper.specs.Reached.{FileOk, Reached}
use Rattle.paper.specs.Locality.{SameStep, both_refused, both_done}
use Rattle.paper.specs.declared.Item.TheVariants.{Statement as statement}
use Rattle.paper.proofs.StepIsRule.{effect_rule, step_at, rule_is_done}
use Rattle.paper.proofs.Soundness.{reached_sound}
use Rattle.paper.proofs.StepCounts.{rule_fits}

-- the state that a local effect leaves
abbrev changed : State → ℕ → Local → State
changed σ c w =
    record {
      clash = pick w.clashes (some c) σ.clash;
      owner = σ.owner;
      store = upd σ.store c w.marks;
      memo = upd σ.memo c w.pairs;
    }

module _ (t : Table) (qs : List Statement) (ok : FileOk t qs) (n : ℕ) (r : Run) (h : Reached t qs n r) (free : r.state.clash ≡ none)
    (i c a b : ℕ) (e : get_elem? r.pending i ≡ some (statement c a b)) where
  abbrev mine : Act
  mine = act t (r.state.store c) (r.state.memo c) c a b

  -- what a statement's step gives, by what it does at its cabinet: there is always room
  abbrev Given : Act → Type 0
  Given waits = step t r i ≡ refused 14
  Given (acts w) = step t r i ≡ done w.rule (after r (without r.pending i) w.products (changed r.state c w))

  given : (k : Act) → mine ≡ k → Given k
  unfolding effect
  given waits d = step_at t r (reached_sound t qs ok h) free i (statement c a b) e ∙ ap (λ (x : Act). performed r (without r.pending i) (local r.state c x)) d
  given (acts w) d =
      let s = reached_sound t qs ok h in
      let r' : Run = after r (without r.pending i) w.products (changed r.state c w) in
      let v : Carried t r i w.rule r' =
      record {
        item = statement c a b;
        place = e;
        products = w.products;
        state = changed r.state c w;
        rule = effect_rule t r.state s.state.memo (statement c a b) (ap (local r.state c) d);
        run = refl;
      } in
      rule_is_done t r s free i w.rule r' v (rule_fits t qs ok h free i w.rule r' v)

-- "In two unclashed runs reached from accepted files that agree on the table, on one cabinet's store and memo and on the item
-- taken, a statement's step there has the same rule, products and local effect."
pub locality : (t : Table) (qs qs' : List Statement) → FileOk t qs → FileOk t qs' → (n n' : ℕ) (r r' : Run) → Reached t qs n r → Reached t qs' n' r'
    → r.state.clash ≡ none → r'.state.clash ≡ none → (i i' c a b : ℕ) → get_elem? r.pending i ≡ some (statement c a b)
    → get_elem? r'.pending i' ≡ some (statement c a b) → r.state.store c ≡ r'.state.store c → r.state.memo c ≡ r'.state.memo c
    → SameStep c (without r.pending i) (without r'.pending i') (step t r i) (step t r' i')
locality t qs qs' ok ok' n n' r r' h h' free free' i i' c a b e e' es em =
    go (act t (r.state.store c) (r.state.memo c) c a b) refl
  where
    same_act : act t (r'.state.store c) (r'.state.memo c) c a b ≡ act t (r.state.store c) (r.state.memo c) c a b
    same_act = sym (ap₂ (λ (s : ℕ → Mark) (m : ℕ → ℕ → Bool). act t s m c a b) es em)

    outcomes : {o o' p p' : Outcome} → p ≡ o → p' ≡ o' → SameStep c (without r.pending i) (without r'.pending i') o o'
        → SameStep c (without r.pending i) (without r'.pending i') p p'
    outcomes d d' w = rw (d, d') w

    go : (k : Act) → act t (r.state.store c) (r.state.memo c) c a b ≡ k
        → SameStep c (without r.pending i) (without r'.pending i') (step t r i) (step t r' i')
    go waits d = outcomes (given t qs ok n r h free i c a b e waits d) (given t qs' ok' n' r' h' free' i' c a b e' waits (same_act ∙ d)) both_refused
    go (acts w) d =
        outcomes (given t qs ok n r h free i c a b e (acts w) d) (given t qs' ok' n' r' h' free' i' c a b e' (acts w) (same_act ∙ d))
        (both_done w.products refl refl
        (upd_same r.state.store c w.marks ∙ sym (upd_same r'.state.store c w.marks))
        (upd_same r.state.memo c w.pairs ∙ sym (upd_same r'.state.memo c w.pairs))
        (ap (λ (o : Option ℕ). pick w.clashes (some c) o) (free ∙ sym free')))
