-- What an item does, read off the bytes of a sound run, is one published rule of the paper's run; or it waits.
use mathlib.Core.Path.{◌≡◌, refl, sym, subst, ap, ap₂, ◌∙◌}
use mathlib.Core.Logic.{inl}
use mathlib.Core.Bool.{Bool, true, false, ◌&&◌}
use mathlib.Core.List.{List, [], ◌∷◌}
use mathlib.Core.Option.{Option, none, some}
use Prim.Native.Nat.{ℕ, ◌+◌, ◌-◌, ◌≤◌, ◌<◌}
use native.Mathlib.Omega.{arith}
use borrow.Author.Tests.{ltb-true, lt-ltb, le-ltb, ne_eqb}
use lib.Dec.{ltb, eqb}
use lib.ListN.{get_or}
use Rattle.base.specs.Choice.{pick}
use Rattle.base.proofs.Tests.{fst_true, snd_true, and_true, not_both}
use Rattle.base.proofs.Regions.{get_at}
use Rattle.paper.specs.Sizes.{most_cabinets, most_unknowns}
use Rattle.paper.specs.Tables.{Record, Table, entries, record_at, less, same_head}
use Rattle.paper.specs.Runs.{Mark, nothing, initiated, entry, State, ItemOk, Sound}
use Rattle.paper.specs.Rules as rules
use Rattle.paper.specs.Rules.{Waits, waiting, Rule, interchange, memo, dereference, identify, conflict, decompose, initiate, win, lose, arrive, Mem, news_to, part_statements}
use Rattle.paper.specs.declared.Item.{Item}
use Rattle.paper.specs.declared.Item.TheVariants.{Statement as statement, Ask as ask, News as news}
use Rattle.paper.proofs.Ranks.{Kind, unknown, recorded, kind, is_unknown_lem, is_record_lem, not_less_rank}
use Rattle.paper.proofs.StepIsRule.{Ordered, mem_greater}
use Rattle.paper.proofs.Soundness.{less_unknown}
use Rattle.layout.specs.Offsets.{unknowns_at, owners_at, store_from, memo_from}
use Rattle.layout.specs.Fields.{byte_at, symbol_of, part_count_of, record_of, owner_mark, store_mark, mark_of, pair_of, table_of, state_of, run_of}
use Rattle.layout.specs.Changes.{store_of}
use Rattle.layout.proofs.Frames.{Shaped}
use Rattle.layout.proofs.SoundViews.{entries_are}
use Rattle.layout.proofs.ViewedFields.{owner_byte, record_byte, head_byte}
use Rattle.layout.proofs.Views.{Changed, owner_changed, pair_changed, mark_changed, clash_changed}
use Rattle.layout.proofs.Canonical.{Canonical}
use Rattle.layout.proofs.CanonicalKept.{owner_canonical, mark_canonical, pair_canonical, clash_canonical}
use Rattle.choices.specs.declared.Choice.TheVariants.{Waits as Waiting, Interchange, Memo, Dereference, Identify, Conflict, Decompose, Initiate}
use Rattle.choices.specs.Choices.{choice_by_mark, choice_by_records, choice_of}
use Rattle.effects.specs.Changes.{Change, applied}
use Rattle.effects.specs.Changes as changes
use Rattle.rules.specs.Plans.{Plan, wait, plan, parts_of, plan_of_choice, plan_of_ask, plan_of}

-- the state after a change
abbrev pub state_after : Change → State → State
state_after changes.nothing σ = σ
state_after (changes.mark c x m) σ = rules.with_mark σ c x (store_mark m)
state_after (changes.owner x u) σ = rules.with_owner σ x (owner_mark u)
state_after (changes.pair c x y) σ = rules.with_pair σ c x y
state_after (changes.clash c) σ = rules.with_clash σ c

-- a change in range
abbrev pub ChangeOk : Change → Type 0
ChangeOk changes.nothing = Unit {0}
ChangeOk (changes.mark c x m) = (c < most_cabinets) × (x < most_unknowns)
ChangeOk (changes.owner x u) = x < most_unknowns
ChangeOk (changes.pair c x y) = (c < most_cabinets) × (x < most_unknowns) × (y < most_unknowns)
ChangeOk (changes.clash c) = Unit {0}

module _ (d : List ℕ) (s : Shaped d) where
  pub applied_changed : (ch : Change) → ChangeOk ch → Changed d (state_after ch (state_of d)) (applied ch d)
  unfolding run_of
  applied_changed changes.nothing h = record { shaped = s; table = refl; run = refl }
  applied_changed (changes.mark c x m) h = mark_changed d s c x m h.0 h.1
  applied_changed (changes.owner x u) h = owner_changed d s x u h
  applied_changed (changes.pair c x y) h = pair_changed d s c x y h.0 h.1 h.2
  applied_changed (changes.clash c) h = clash_changed d s c

  pub applied_canonical : Canonical d → (ch : Change) → ChangeOk ch → Canonical (applied ch d)
  applied_canonical z changes.nothing h = z
  applied_canonical z (changes.mark c x m) h = mark_canonical d s z c x m h.0 h.1
  applied_canonical z (changes.owner x u) h = owner_canonical d s z x u h
  applied_canonical z (changes.pair c x y) h = pair_canonical d s z c x y h.0 h.1 h.2
  applied_canonical z (changes.clash c) h = clash_canonical d s z c

-- an entry is no mark of nothing or initiated
small_mark : (u : ℕ) → u < 254 → store_mark u ≡ entry u
small_mark u h = rw (ne_eqb u 255 (λ e. let z : ⊥ = omega arith in z), ne_eqb u 254 (λ e. let z : ⊥ = omega arith in z))

small_owner : (u : ℕ) → u < 254 → owner_mark u ≡ some u
small_owner u h = rw (ne_eqb u 255 (λ e. let z : ⊥ = omega arith in z))

-- the parts of two records, as they are read
of_parts : (d : List ℕ) (c a b : ℕ)
    → part_statements c (record_of d (a - byte_at d unknowns_at)).parts (record_of d (b - byte_at d unknowns_at)).parts ≡ part_statements c (parts_of d a) (parts_of d b)
unfolding record_of
of_parts d c a b = refl

-- what the bytes of a sound run say of an item
pub data Planned (d : List ℕ) (j : Item) : Plan → Type 0 where
  waits : Waits (table_of d) (state_of d) j → Planned d j wait
  goes : {k : ℕ} {ps : List Item} {ch : Change} → Rule (table_of d) k j (state_of d) ps (state_after ch (state_of d)) → ChangeOk ch
      → Planned d j (plan k ps ch)

module _ (d : List ℕ) (sh : Shaped d) (sound : Sound (table_of d) (run_of d)) where
  abbrev t : Table
  t = table_of d

  abbrev σ : State
  σ = state_of d

  abbrev v : ℕ
  v = byte_at d unknowns_at

  few_cabinets : {c : ℕ} → c < t.cabinets → c < most_cabinets
  few_cabinets h = omega (arith, h, sound.table.cabinets)

  few_unknowns : {x : ℕ} → x < t.unknowns → x < most_unknowns
  few_unknowns h = omega (arith, h, sound.table.unknowns)

  few_entries : {u : ℕ} → u < entries t → u < 254
  few_entries h = omega (arith, h, sound.table.unknowns, sound.table.count)

  pub ordered : Ordered t σ
  unfolding run_of
  ordered = sound.state.memo

  store_byte : (c x : ℕ) → c < most_cabinets → x < most_unknowns → σ.store c x ≡ store_mark (get_or (store_of c d) x 0)
  unfolding state_of mark_of store_of
  store_byte c x hc hx =
      rw (lt-ltb c most_cabinets hc, lt-ltb x most_unknowns hx)
      (ap store_mark (sym (get_at (store_from c) most_unknowns d (omega (arith, sh.long)) x hx)))

  pair_byte : (c x y : ℕ) → c < most_cabinets → x < most_unknowns → y < most_unknowns → σ.memo c x y ≡ eqb (byte_at d (memo_from c x y)) 1
  unfolding state_of pair_of
  pair_byte c x y hc hx hy = rw (lt-ltb c most_cabinets hc, lt-ltb x most_unknowns hx, lt-ltb y most_unknowns hy)

  -- a statement x = u, u less, by the mark
  by_mark : (c x u : ℕ) → c < most_cabinets → less t u x ≡ true → Planned d (statement c x u) (plan_of_choice d c x u (choice_by_mark v d c x u (get_or (store_of c d) x 0)))
  unfolding table_of
  by_mark c x u hc l = go (get_or (store_of c d) x 0) (store_byte c x hc hx)
    where
      hx : x < most_unknowns
      hx = few_unknowns (less_unknown t u x l)

      met : Bool
      met = ltb u v && eqb (byte_at d (memo_from c x u)) 1

      met_true : met ≡ true → Mem σ c x u
      met_true e =
          let hu : u < most_unknowns = few_unknowns (ltb-true u v (fst_true (ltb u v) (eqb (byte_at d (memo_from c x u)) 1) e)) in
          inl (pair_byte c x u hc hx hu ∙ snd_true (ltb u v) (eqb (byte_at d (memo_from c x u)) 1) e)

      met_false : met ≡ false → Mem σ c x u → ⊥
      met_false e m =
          let g = mem_greater t σ ordered c x u l m in
          let w : ltb u v ≡ true = fst_true (ltb u v) (σ.memo c x u) g in
          let hu : u < most_unknowns = few_unknowns (ltb-true u v w) in
          not_both met (and_true (ltb u v) (eqb (byte_at d (memo_from c x u)) 1) w (sym (pair_byte c x u hc hx hu) ∙ snd_true (ltb u v) (σ.memo c x u) g)) e

      added : (b : Bool) → ltb u v ≡ b → state_after (pick b (changes.pair c x u) changes.nothing) σ ≡ pick b (rules.with_pair σ c x u) σ
      added true e = refl
      added false e = refl

      added_ok : (b : Bool) → ltb u v ≡ b → ChangeOk (pick b (changes.pair c x u) changes.nothing)
      added_ok true e = (hc, hx, few_unknowns (ltb-true u v e))
      added_ok false e = tt

      by_memo : (m : ℕ) → σ.store c x ≡ entry m → (b : Bool) → met ≡ b → Planned d (statement c x u) (plan_of_choice d c x u (pick b Memo (Dereference m)))
      by_memo m e true f = goes (memo l e (met_true f)) tt
      by_memo m e false f =
          goes
          (subst (λ (ρ : State). Rule t 3 (statement c x u) σ (statement c m u ∷ []) ρ) (sym (added (ltb u v) refl)) (dereference l e (met_false f)))
          (added_ok (ltb u v) refl)

      go : (m : ℕ) → σ.store c x ≡ store_mark m → Planned d (statement c x u) (plan_of_choice d c x u (choice_by_mark v d c x u m))
      go m e = marked (eqb m 255) refl (eqb m 254) refl e
        where
          marked : (p : Bool) → eqb m 255 ≡ p → (q : Bool) → eqb m 254 ≡ q → σ.store c x ≡ pick p nothing (pick q initiated (entry m))
              → Planned d (statement c x u) (plan_of_choice d c x u (pick p Initiate (pick q Waiting (pick met Memo (Dereference m)))))
          marked true f q g e' = goes {ch = changes.mark c x 254} (initiate l e') (hc, hx)
          marked false f true g e' = waits (waiting l e')
          marked false f false g e' = by_memo m e' met refl

  by_records : (c a b : ℕ) → v ≤ a → v ≤ b → a < entries t → b < entries t
      → Planned d (statement c a b) (plan_of_choice d c a b (choice_by_records d (a - v) (b - v)))
  unfolding table_of
  by_records c a b ha hb la lb = go (eqb (symbol_of d (a - v)) (symbol_of d (b - v)) && eqb (part_count_of d (a - v)) (part_count_of d (b - v))) refl
    where
      ea : record_at t a ≡ record_of d (a - v)
      ea = record_byte d a ha (omega (arith, entries_are d))

      eb : record_at t b ≡ record_of d (b - v)
      eb = record_byte d b hb (omega (arith, entries_are d))

      head : same_head (record_at t a) (record_at t b) ≡ (eqb (symbol_of d (a - v)) (symbol_of d (b - v)) && eqb (part_count_of d (a - v)) (part_count_of d (b - v)))
      head = ap₂ same_head ea eb ∙ head_byte d (a - v) (b - v)

      go : (p : Bool) → (eqb (symbol_of d (a - v)) (symbol_of d (b - v)) && eqb (part_count_of d (a - v)) (part_count_of d (b - v))) ≡ p
          → Planned d (statement c a b) (plan_of_choice d c a b (pick p Decompose Conflict))
      go true e = goes (subst (λ (ps : List Item). Rule t 6 (statement c a b) σ ps σ) parts (decompose (is_record_lem t a ha) (is_record_lem t b hb) (head ∙ e))) tt
        where
          parts : part_statements c (record_at t a).parts (record_at t b).parts ≡ part_statements c (parts_of d a) (parts_of d b)
          parts = ap₂ (λ (p q : Record). part_statements c p.parts q.parts) ea eb ∙ of_parts d c a b
      go false e = goes (conflict (is_record_lem t a ha) (is_record_lem t b hb) (head ∙ e)) tt

  by_statement : (c a b : ℕ) → ItemOk t (statement c a b) → Planned d (statement c a b) (plan_of_choice d c a b (choice_of v d c a b))
  unfolding choice_of table_of
  by_statement c a b i = go (less t a b) refl (less t b a) refl
    where
      level : less t a b ≡ false → less t b a ≡ false → Kind t a → Kind t b
          → Planned d (statement c a b) (plan_of_choice d c a b (pick (ltb a v) Identify (choice_by_records d (a - v) (b - v))))
      level e e' (unknown h r) (unknown k q) =
          let eq : a ≡ b = omega (arith, not_less_rank t a b e, not_less_rank t b a e') in
          rw (lt-ltb a v h) (goes (subst (λ (x : ℕ). Rule t 4 (statement c a x) σ [] σ) eq (identify (is_unknown_lem t a h))) tt)
      level e e' (unknown h r) (recorded k q) = absurd (let z : ⊥ = omega (arith, not_less_rank t b a e') in z)
      level e e' (recorded h r) (unknown k q) = absurd (let z : ⊥ = omega (arith, not_less_rank t a b e) in z)
      level e e' (recorded h r) (recorded k q) = rw (le-ltb a v h) (by_records c a b h k i.1 i.2)

      go : (p : Bool) → less t a b ≡ p → (q : Bool) → less t b a ≡ q
          → Planned d (statement c a b)
          (plan_of_choice d c a b
          (pick p Interchange (pick q (choice_by_mark v d c a b (get_or (store_of c d) a 0)) (pick (ltb a v) Identify (choice_by_records d (a - v) (b - v))))))
      go true e q e' = goes (interchange e) tt
      go false e true e' = by_mark c a b (few_cabinets i.0) e'
      go false e false e' = level e e' (kind t a) (kind t b)

  by_ask : (c x u : ℕ) → ItemOk t (ask c x u) → Planned d (ask c x u) (plan_of_ask d x u (byte_at d (owners_at + x)))
  unfolding table_of state_of
  by_ask c x u i = go (byte_at d (owners_at + x)) (eqb (byte_at d (owners_at + x)) 255) refl (owner_byte d x hx)
    where
      hx : x < most_unknowns
      hx = few_unknowns (less_unknown t u x i.1.is)

      go : (o : ℕ) (p : Bool) → eqb o 255 ≡ p → σ.owner x ≡ owner_mark o → Planned d (ask c x u) (plan_of_ask d x u o)
      go o p f e = asked p (rw f at e) f
        where
          asked : (p : Bool) → σ.owner x ≡ pick p none (some o) → eqb o 255 ≡ p → Planned d (ask c x u) (plan_of_ask d x u o)
          asked true e f =
              rw f
              (goes
              (subst (λ (w : Option ℕ). Rule t 8 (ask c x u) σ (news_to 0 t.cabinets x u) (rules.with_owner σ x w)) (sym (small_owner u (few_entries i.1.entry))) (win e))
              hx)
          asked false e f = rw f (goes (lose e) tt)

  -- what the bytes say of an item in range
  pub planned : (j : Item) → ItemOk t j → Planned d j (plan_of d j)
  unfolding plan_of
  planned (statement c a b) i = by_statement c a b i
  planned (ask c x u) i = by_ask c x u i
  planned (news c x u) i =
      goes {ch = changes.mark c x u} (subst (λ (m : Mark). Rule t 10 (news c x u) σ [] (rules.with_mark σ c x m)) (sym (small_mark u (few_entries i.1.entry))) arrive)
      (few_cabinets i.0, few_unknowns (less_unknown t u x i.1.is))
