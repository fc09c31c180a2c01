-- Each step is exactly one published rule: the step function and the relation with ten constructors say the same.
use mathlib.Core.Path.{◌≡◌, refl, sym, subst, ap, ap₂, ◌∙◌}
use mathlib.Core.Logic.{◌⊎◌, inl, inr, ⊎_elim, ◌↔◌}
use mathlib.Core.Bool.{Bool, true, false, ◌&&◌}
use mathlib.Core.List.{List, [], ◌∷◌, ◌++◌}
use mathlib.Core.Option.{Option, none, some}
use Prim.Native.Nat.{ℕ, ◌≤◌, ◌<◌}
use native.Mathlib.Omega.{arith}
use borrow.Author.Tests.{leb-true, leb-false, le-leb, lt-leb}
use lib.Dec.{leb}
use lib.ListN.{length, get_elem?}
use Rattle.base.specs.Choice.{pick, upd}
use Rattle.base.specs.Lists.{without}
use Rattle.base.proofs.Tests.{snd_true, not_both, not_true_false}
use Rattle.base.proofs.Changes.{upd_self}
use Rattle.base.proofs.Elements.{place_some}
use Rattle.paper.specs.Sizes.{room}
use Rattle.paper.specs.Refusals.{still_waits, no_room}
use Rattle.paper.specs.Tables.{Table, is_unknown, is_record, record_at, less, same_head}
use Rattle.paper.specs.Runs.{Mark, nothing, initiated, entry, State, Run, MemoOk, Sound}
use Rattle.paper.specs.Rules.{with_owner, with_mark, with_pair, Mem, part_statements, news_to, Rule, interchange, memo, dereference, identify, conflict, decompose, initiate, win, lose, arrive, Waits, waiting, after, Carried}
use Rattle.paper.specs.Steps.{act, answer, Effect, it_waits, takes, effect, refused, done, performed, step}
use Rattle.paper.specs.declared.Item.{Item}
use Rattle.paper.specs.declared.Item.TheVariants.{Statement as statement, Ask as ask, News as news}
use Rattle.paper.proofs.Ranks.{Kind, unknown, recorded, kind, is_unknown_lem, not_unknown, record_is, is_record_lem, less_rank, not_less_rank, rank_unknown}

-- a memo has pairs of unknowns alone, the greater first
abbrev pub Ordered : Table → State → Type 0
Ordered t σ = (c x y : ℕ) → MemoOk t c x y (σ.memo c x y)

in_order : (t : Table) (σ : State) → Ordered t σ → (c x y : ℕ) → σ.memo c x y ≡ true → (c < t.cabinets) × (x < t.unknowns) × (y < x)
in_order t σ m c x y e = subst (MemoOk t c x y) e (m c x y)

-- for u less than x, MEM reads the pair at the greater
pub mem_greater : (t : Table) (σ : State) → Ordered t σ → (c x u : ℕ) → less t u x ≡ true → Mem σ c x u → (is_unknown t u && σ.memo c x u) ≡ true
mem_greater t σ m c x u l (inl e) =
    let h = in_order t σ m c x u e in
    rw (e, is_unknown_lem t u (omega (arith, h.1, h.2)))
mem_greater t σ m c x u l (inr e) =
    let h = in_order t σ m c u x e in
    absurd (let z : ⊥ = omega (arith, h.1, h.2, less_rank t u x l, rank_unknown t u h.1, rank_unknown t x (omega (arith, h.1, h.2))) in z)

not_mem : (t : Table) (σ : State) → Ordered t σ → (c x u : ℕ) → less t u x ≡ true → (Mem σ c x u → ⊥) → (is_unknown t u && σ.memo c x u) ≡ false
not_mem t σ m c x u l h = not_true_false (is_unknown t u && σ.memo c x u) (λ e. h (inl (snd_true (is_unknown t u) (σ.memo c x u) e)))

not_less_back : (t : Table) (u x : ℕ) → less t u x ≡ true → less t x u ≡ false
not_less_back t u x l =
    not_true_false (less t x u) (λ e. let z : ⊥ = omega (arith, less_rank t u x l, less_rank t x u e) in z)

not_less_self : (t : Table) (x : ℕ) → less t x x ≡ false
not_less_self t x = not_true_false (less t x x) (λ e. let z : ⊥ = omega (arith, less_rank t x x e) in z)

not_less_record : (t : Table) (a b : ℕ) → is_record t b ≡ true → less t a b ≡ false
not_less_record t a b h = rw (not_unknown t b (record_is t b h))

-- a local effect that leaves one or both of the cabinet's tables
store_kept : (σ : State) (c : ℕ) → upd σ.store c (σ.store c) ≡ σ.store
store_kept σ c = upd_self σ.store c (σ.store c) refl

memo_kept : (σ : State) (c : ℕ) → upd σ.memo c (σ.memo c) ≡ σ.memo
memo_kept σ c = upd_self σ.memo c (σ.memo c) refl

local_state : State → Option ℕ → (ℕ → ℕ → Mark) → (ℕ → ℕ → ℕ → Bool) → State
local_state σ o s m = record { clash = o; owner = σ.owner; store = s; memo = m }

took : (k : ℕ) (ps : List Item) (σ : State) (o : Option ℕ) (s s' : ℕ → ℕ → Mark) (m m' : ℕ → ℕ → ℕ → Bool) → s ≡ s' → m ≡ m'
    → takes k ps (local_state σ o s m) ≡ takes k ps (local_state σ o s' m')
took k ps σ o s s' m m' e d = ap₂ (λ (f : ℕ → ℕ → Mark) (g : ℕ → ℕ → ℕ → Bool). takes k ps (local_state σ o f g)) e d

answer_kept : (t : Table) (σ : State) (c x : ℕ) (k : ℕ) (ps : List Item) (o : Option ℕ)
    → takes k ps (with_mark (with_owner σ x o) c x (σ.store c x)) ≡ takes k ps (with_owner σ x o)
answer_kept t σ c x k ps o =
    ap (λ (s : ℕ → ℕ → Mark). takes k ps (record { clash = σ.clash; owner = upd σ.owner x o; store = s; memo = σ.memo }))
    (ap (upd σ.store c) (upd_self (σ.store c) x (σ.store c x) refl) ∙ store_kept σ c)

owner_kept : (σ : State) (x : ℕ) (k : ℕ) (ps : List Item) (o : Option ℕ) → σ.owner x ≡ o → takes k ps (with_owner σ x o) ≡ takes k ps σ
owner_kept σ x k ps o e =
    ap (λ (f : ℕ → Option ℕ). takes k ps (record { clash = σ.clash; owner = f; store = σ.store; memo = σ.memo })) (upd_self σ.owner x o e)

-- what a rule does is what the function gives
module _ (t : Table) where
  pub rule_effect : {k : ℕ} {j : Item} {σ : State} {ps : List Item} {σ' : State} → Ordered t σ → Rule t k j σ ps σ' → effect t σ j ≡ takes k ps σ'
  unfolding effect act answer local_state
  rule_effect m (interchange {c = c} {u = u} {x = x} {σ = σ} l) =
      rw l (took 1 (statement c x u ∷ []) σ σ.clash (upd σ.store c (σ.store c)) σ.store (upd σ.memo c (σ.memo c)) σ.memo (store_kept σ c) (memo_kept σ c))
  rule_effect m (memo {c = c} {x = x} {u = u} {σ = σ} l e h) =
      rw (not_less_back t u x l, l, e, mem_greater t σ m c x u l h)
      (took 2 [] σ σ.clash (upd σ.store c (σ.store c)) σ.store (upd σ.memo c (σ.memo c)) σ.memo (store_kept σ c) (memo_kept σ c))
  rule_effect m (dereference {c = c} {x = x} {u = u} {v = v} {σ = σ} l e h) =
      rw (not_less_back t u x l, l, e, not_mem t σ m c x u l h) (go (is_unknown t u))
    where
      go : (b : Bool)
          → takes 3 (statement c v u ∷ []) (local_state σ σ.clash (upd σ.store c (σ.store c)) (upd σ.memo c (pick b (upd (σ.memo c) x (upd (σ.memo c x) u true)) (σ.memo c))))
          ≡ takes 3 (statement c v u ∷ []) (pick b (with_pair σ c x u) σ)
      go true =
          took 3 (statement c v u ∷ []) σ σ.clash (upd σ.store c (σ.store c)) σ.store
          (upd σ.memo c (upd (σ.memo c) x (upd (σ.memo c x) u true))) (upd σ.memo c (upd (σ.memo c) x (upd (σ.memo c x) u true))) (store_kept σ c) refl
      go false =
          took 3 (statement c v u ∷ []) σ σ.clash (upd σ.store c (σ.store c)) σ.store (upd σ.memo c (σ.memo c)) σ.memo (store_kept σ c) (memo_kept σ c)
  rule_effect m (identify {c = c} {x = x} {σ = σ} h) =
      rw (not_less_self t x, h)
      (took 4 [] σ σ.clash (upd σ.store c (σ.store c)) σ.store (upd σ.memo c (σ.memo c)) σ.memo (store_kept σ c) (memo_kept σ c))
  rule_effect m (conflict {c = c} {a = a} {b = b} {σ = σ} ha hb e) =
      rw (not_less_record t a b hb, not_less_record t b a ha, not_unknown t a (record_is t a ha), e)
      (took 5 [] σ (some c) (upd σ.store c (σ.store c)) σ.store (upd σ.memo c (σ.memo c)) σ.memo (store_kept σ c) (memo_kept σ c))
  rule_effect m (decompose {c = c} {a = a} {b = b} {σ = σ} ha hb e) =
      rw (not_less_record t a b hb, not_less_record t b a ha, not_unknown t a (record_is t a ha), e)
      (took 6 (part_statements c (record_at t a).parts (record_at t b).parts) σ σ.clash (upd σ.store c (σ.store c)) σ.store (upd σ.memo c (σ.memo c)) σ.memo (store_kept σ c) (memo_kept σ c))
  rule_effect m (initiate {c = c} {x = x} {u = u} {σ = σ} l e) =
      rw (not_less_back t u x l, l, e)
      (took 7 (ask c x u ∷ statement c x u ∷ []) σ σ.clash (upd σ.store c (upd (σ.store c) x initiated)) (upd σ.store c (upd (σ.store c) x initiated)) (upd σ.memo c (σ.memo c)) σ.memo refl (memo_kept σ c))
  rule_effect m (win {c = c} {x = x} {u = u} {σ = σ} e) = rw e (answer_kept t σ c x 8 (news_to 0 t.cabinets x u) (some u))
  rule_effect m (lose {c = c} {x = x} {u = u} {v = v} {σ = σ} e) =
      rw e (answer_kept t σ c x 9 [] (some v) ∙ owner_kept σ x 9 [] (some v) e)
  rule_effect m arrive = refl

-- an item takes a rule
pub record Takes (t : Table) (σ : State) (j : Item) : Type 0 where
  pub number : ℕ
  pub products : List Item
  pub state : State
  pub rule : Rule t number j σ products state

module _ (t : Table) (σ : State) (m : Ordered t σ) where
  by_rule : {k : ℕ} {j : Item} {ps : List Item} {σ' : State} → Rule t k j σ ps σ' → Takes t σ j ⊎ Waits t σ j
  by_rule {k} {j} {ps} {σ'} r = inl (record { number = k; products = ps; state = σ'; rule = r })

  by_statement : (c a b : ℕ) → Takes t σ (statement c a b) ⊎ Waits t σ (statement c a b)
  by_statement c a b = go (less t a b) refl (less t b a) refl (kind t a)
    where
      marked : (k : Mark) → σ.store c a ≡ k → less t b a ≡ true → (n : Bool) → (is_unknown t b && σ.memo c a b) ≡ n
          → Takes t σ (statement c a b) ⊎ Waits t σ (statement c a b)
      marked nothing e l n d = by_rule (initiate l e)
      marked initiated e l n d = inr (waiting l e)
      marked (entry v) e l true d = by_rule (memo l e (inl (snd_true (is_unknown t b) (σ.memo c a b) d)))
      marked (entry v) e l false d =
          by_rule (dereference l e (λ h. not_both (is_unknown t b && σ.memo c a b) (mem_greater t σ m c a b l h) d))

      headed : (n : Bool) → same_head (record_at t a) (record_at t b) ≡ n → is_record t a ≡ true → is_record t b ≡ true
          → Takes t σ (statement c a b) ⊎ Waits t σ (statement c a b)
      headed true e ha hb = by_rule (decompose ha hb e)
      headed false e ha hb = by_rule (conflict ha hb e)

      level : less t a b ≡ false → less t b a ≡ false → Kind t a → Kind t b → Takes t σ (statement c a b) ⊎ Waits t σ (statement c a b)
      level e e' (unknown h r) (unknown k s) =
          let eq : a ≡ b = omega (arith, not_less_rank t a b e, not_less_rank t b a e') in
          subst (λ (z : ℕ). Takes t σ (statement c a z) ⊎ Waits t σ (statement c a z)) eq (by_rule (identify (is_unknown_lem t a h)))
      level e e' (unknown h r) (recorded k s) = absurd (let z : ⊥ = omega (arith, not_less_rank t b a e') in z)
      level e e' (recorded h r) (unknown k s) = absurd (let z : ⊥ = omega (arith, not_less_rank t a b e) in z)
      level e e' (recorded h r) (recorded k s) =
          headed (same_head (record_at t a) (record_at t b)) refl (is_record_lem t a h) (is_record_lem t b k)

      go : (p : Bool) → less t a b ≡ p → (q : Bool) → less t b a ≡ q → Kind t a → Takes t σ (statement c a b) ⊎ Waits t σ (statement c a b)
      go true e q e' k = by_rule (interchange e)
      go false e true e' k = marked (σ.store c a) refl e' (is_unknown t b && σ.memo c a b) refl
      go false e false e' k = level e e' k (kind t b)

  by_ask : (c x u : ℕ) (o : Option ℕ) → σ.owner x ≡ o → Takes t σ (ask c x u) ⊎ Waits t σ (ask c x u)
  by_ask c x u none e = by_rule (win e)
  by_ask c x u (some v) e = by_rule (lose e)

  -- an item takes a rule or waits
  pub takes_or_waits : (j : Item) → Takes t σ j ⊎ Waits t σ j
  takes_or_waits (statement c a b) = by_statement c a b
  takes_or_waits (ask c x u) = by_ask c x u (σ.owner x) refl
  takes_or_waits (news c x u) = by_rule arrive

  -- what waits has no effect
  pub waiting_effect : {j : Item} → Waits t σ j → effect t σ j ≡ it_waits
  unfolding effect act
  waiting_effect (waiting {c = c} {x = x} {u = u} l e) = rw (not_less_back t u x l, l, e)

  waits_not_takes : {k : ℕ} {ps : List Item} {σ' : State} → it_waits ≡ takes k ps σ' → ⊥
  waits_not_takes e = let z : ◌≡◌ {A = ℕ} 0 1 = cc in omega arith

  -- what the function gives is what a rule does
  pub effect_rule : (j : Item) {k : ℕ} {ps : List Item} {σ' : State} → effect t σ j ≡ takes k ps σ' → Rule t k j σ ps σ'
  effect_rule j {k} {ps} {σ'} e = go (takes_or_waits j)
    where
      same : (k₁ : ℕ) (ps₁ : List Item) (σ₁ : State) → takes k₁ ps₁ σ₁ ≡ takes k ps σ' → Rule t k₁ j σ ps₁ σ₁ → Rule t k j σ ps σ'
      same k₁ ps₁ σ₁ d r =
          let dk : k₁ ≡ k = cc in
          let dp : ps₁ ≡ ps = cc in
          let ds : σ₁ ≡ σ' = cc in
          subst (λ (x : ℕ). Rule t x j σ ps σ') dk
          (subst (λ (x : List Item). Rule t k₁ j σ x σ') dp (subst (λ (x : State). Rule t k₁ j σ ps₁ x) ds r))

      go : Takes t σ j ⊎ Waits t σ j → Rule t k j σ ps σ'
      go (inl w) = same w.number w.products w.state (sym (rule_effect t m w.rule) ∙ e) w.rule
      go (inr w) = absurd (waits_not_takes (sym (waiting_effect w) ∙ e))

-- at a place of an unclashed run
module _ (t : Table) (r : Run) (s : Sound t r) (free : r.state.clash ≡ none) (i : ℕ) where
  ordered : Ordered t r.state
  ordered = s.state.memo

  abbrev left : List Item
  left = without r.pending i

  pub step_at : (j : Item) → get_elem? r.pending i ≡ some j → step t r i ≡ performed r left (effect t r.state j)
  unfolding step
  step_at j e = rw (free, e)

  fitted : (b : Bool) (n k : ℕ) (p q : Run) → pick b (done n p) (refused no_room) ≡ done k q → (b ≡ true) × (n ≡ k) × (p ≡ q)
  fitted true n k p q e = (refl, cc, cc)
  fitted false n k p q e = absurd (let z : ◌≡◌ {A = ℕ} 0 1 = cc in omega arith)

  performed_done : (j : Item) → get_elem? r.pending i ≡ some j → (k : ℕ) (r' : Run) (w : Effect) → effect t r.state j ≡ w
      → performed r left w ≡ done k r' → Carried t r i k r' × (length r'.pending ≤ room)
  performed_done j e k r' it_waits d h = absurd (let z : ◌≡◌ {A = ℕ} 0 1 = cc in omega arith)
  performed_done j e k r' (takes n ps σ) d h =
      let f = fitted (leb (length (left ++ ps)) room) n k (after r left ps σ) r' h in
      let rule : Rule t k j r.state ps σ = effect_rule t r.state ordered j (d ∙ ap (λ (x : ℕ). takes x ps σ) f.1) in (
        record { item = j; place = e; products = ps; state = σ; rule = rule; run = sym f.2 },
        subst (λ (q : Run). length q.pending ≤ room) f.2 (leb-true (length (left ++ ps)) room f.0),
      )

  pub done_is_rule : (k : ℕ) (r' : Run) → step t r i ≡ done k r' → Carried t r i k r' × (length r'.pending ≤ room)
  unfolding step
  done_is_rule k r' h = go (get_elem? r.pending i) refl
    where
      go : (o : Option Item) → get_elem? r.pending i ≡ o → Carried t r i k r' × (length r'.pending ≤ room)
      go none e = absurd (let h' : refused 13 ≡ done k r' = rw (free, e) at h in let z : ◌≡◌ {A = ℕ} 0 1 = cc in omega arith)
      go (some j) e = performed_done j e k r' (effect t r.state j) refl (sym (step_at j e) ∙ h)

  -- the run that a rule leaves, before the room is looked at
  carried_step : (k : ℕ) (r' : Run) → Carried t r i k r'
      → step t r i ≡ pick (leb (length r'.pending) room) (done k r') (refused no_room)
  carried_step k r' w =
      step_at w.item w.place ∙ ap (performed r left) (rule_effect t ordered w.rule)
      ∙ ap (λ (q : Run). pick (leb (length q.pending) room) (done k q) (refused no_room)) (sym w.run)

  pub rule_is_done : (k : ℕ) (r' : Run) → Carried t r i k r' → length r'.pending ≤ room → step t r i ≡ done k r'
  rule_is_done k r' w f = carried_step k r' w ∙ rw (le-leb (length r'.pending) room f)

  -- A step is accepted with rule k exactly when constructor k applies to its item and the result has at most 12,672 items.
  pub step_is_rule : (k : ℕ) (r' : Run) → (step t r i ≡ done k r') ↔ (Carried t r i k r' × (length r'.pending ≤ room))
  step_is_rule k r' = (done_is_rule k r', λ w. rule_is_done k r' w.0 w.1)

  -- At most one constructor applies, and it leaves one run.
  pub one_rule : (k k' : ℕ) (r₁ r₂ : Run) → Carried t r i k r₁ → Carried t r i k' r₂ → (k ≡ k') × (r₁ ≡ r₂)
  one_rule k k' r₁ r₂ v w =
      let ei : some v.item ≡ some w.item = sym v.place ∙ w.place in
      let e : v.item ≡ w.item = cc in
      let d : takes k v.products v.state ≡ takes k' w.products w.state =
      sym (rule_effect t ordered v.rule) ∙ ap (effect t r.state) e ∙ rule_effect t ordered w.rule in
      let ek : k ≡ k' = cc in
      let ep : v.products ≡ w.products = cc in
      let es : v.state ≡ w.state = cc in
      (ek, v.run ∙ ap₂ (λ (ps : List Item) (σ : State). after r (without r.pending i) ps σ) ep es ∙ sym w.run)

  -- It waits exactly when none does.
  pub waits_exactly : i < length r.pending → (step t r i ≡ refused still_waits) ↔ ((k : ℕ) (r' : Run) → Carried t r i k r' → ⊥)
  waits_exactly h = (
    λ e k r' w. never (leb (length r'.pending) room) k r' (sym (carried_step k r' w) ∙ e),
    λ f. stays f (place_some r.pending i h),
  )
    where
      never : (b : Bool) (k : ℕ) (r' : Run) → pick b (done k r') (refused no_room) ≡ refused still_waits → ⊥
      never true k r' e = let z : ◌≡◌ {A = ℕ} 0 1 = cc in omega arith
      never false k r' e = let z : ◌≡◌ {A = ℕ} 18 14 = cc in omega arith

      stays : ((k : ℕ) (r' : Run) → Carried t r i k r' → ⊥) → (j : Item) × (get_elem? r.pending i ≡ some j) → step t r i ≡ refused still_waits
      stays f p =
          ⊎_elim (λ (w : Takes t r.state p.0).
          absurd (f w.number (after r (without r.pending i) w.products w.state)
          (record { item = p.0; place = p.1; products = w.products; state = w.state; rule = w.rule; run = refl })))
          (λ (w : Waits t r.state p.0). step_at p.0 p.1 ∙ ap (performed r left) (waiting_effect t r.state ordered w))
          (takes_or_waits t r.state ordered p.0)

  -- 18 is given exactly when a rule applies and would leave too many.
  pub full_exactly : (step t r i ≡ refused no_room) ↔ ((k : ℕ) × (r' : Run) × Carried t r i k r' × (room < length r'.pending))
  unfolding step
  full_exactly = (
    λ e. full e (get_elem? r.pending i) refl,
    λ w. carried_step w.0 w.1 w.2 ∙ rw (lt-leb (length w.1.pending) room w.3),
  )
    where
      tested : (b : Bool) (n : ℕ) (p : Run) → pick b (done n p) (refused no_room) ≡ refused no_room → b ≡ false
      tested true n p e = absurd (let z : ◌≡◌ {A = ℕ} 0 1 = cc in omega arith)
      tested false n p e = refl

      over : (j : Item) → get_elem? r.pending i ≡ some j → (w : Effect) → effect t r.state j ≡ w → performed r left w ≡ refused no_room
          → (k : ℕ) × (r' : Run) × Carried t r i k r' × (room < length r'.pending)
      over j e it_waits d h = absurd (let z : ◌≡◌ {A = ℕ} 14 18 = cc in omega arith)
      over j e (takes n ps σ) d h = (
        n,
        after r (without r.pending i) ps σ,
        record { item = j; place = e; products = ps; state = σ; rule = effect_rule t r.state ordered j d; run = refl },
        leb-false (length (left ++ ps)) room (tested (leb (length (left ++ ps)) room) n (after r left ps σ) h),
      )

      full : step t r i ≡ refused no_room → (o : Option Item) → get_elem? r.pending i ≡ o
          → (k : ℕ) × (r' : Run) × Carried t r i k r' × (room < length r'.pending)
      full h none e = absurd (let h' : refused 13 ≡ refused no_room = rw (free, e) at h in let z : ◌≡◌ {A = ℕ} 13 18 = cc in omega arith)
      full h (some j) e = over j e (effect t r.state j) refl (sym (step_at j e) ∙ h)
