-- The bridge: a step on the bytes of a sound run is the paper's step of its view, with the same reply, and keeps the bytes sound.
use mathlib.Core.Path.{◌≡◌, refl, sym, subst, ap, ◌∙◌}
use mathlib.Core.Bool.{Bool, true, false}
use mathlib.Core.List.{List, ◌++◌}
use mathlib.Core.Option.{none, some}
use Prim.Native.Nat.{ℕ, zero, suc, ◌+◌, ◌-◌, ◌≤◌, ◌<◌}
use native.Mathlib.Nat.{zero-add}
use native.Mathlib.Omega.{arith}
use borrow.Author.Tests.{ltb-true, ltb-false, leb-true}
use lib.Dec.{ltb, leb, eqb}
use lib.ListN.{length, get_elem?, length-append}
use Rattle.base.specs.Choice.{pick}
use Rattle.base.specs.Lists.{without}
use Rattle.base.proofs.Elements.{length_without, no_place}
use Rattle.base.proofs.Froms.{from_length, from_place}
use Rattle.paper.specs.Sizes.{room}
use Rattle.paper.specs.Refusals.{no_such_place, has_clashed, no_room}
use Rattle.paper.specs.Tables.{Table}
use Rattle.paper.specs.Runs.{Run, ItemOk, Sound}
use Rattle.paper.specs.Rules.{after}
use Rattle.paper.specs.Steps.{effect, takes, Outcome, refused, done, performed, step}
use Rattle.paper.specs.declared.Item.{Item}
use Rattle.paper.proofs.StepIsRule.{Ordered, rule_effect, waiting_effect, step_at}
use Rattle.paper.proofs.Soundness.{soundness_kept, item_ok}
use Rattle.layout.specs.Offsets.{clash_at, clash_cabinet_at}
use Rattle.layout.specs.Fields.{byte_at, count_of, item_at, table_of, state_of, run_of}
use Rattle.layout.specs.Soundness.{sound_bytes}
use Rattle.layout.specs.Changes.{removed_at, appended_all}
use Rattle.layout.proofs.Frames.{Shaped}
use Rattle.layout.proofs.Views.{Changed, pending_now, removed_shaped, removed_count, removed_table, removed_run, Appended, appended_all_lem}
use Rattle.layout.proofs.Canonical.{Canonical}
use Rattle.layout.proofs.CanonicalKept.{removed_canonical, appended_all_canonical}
use Rattle.layout.proofs.SoundViews.{bytes_sound}
use Rattle.effects.specs.Changes.{Change, applied}
use Rattle.rules.specs.Plans.{Plan, wait, plan, plan_of}
use Rattle.rules.specs.Bytes.{Out, out, performed_bytes, taken_bytes}
use Rattle.rules.proofs.Planned.{state_after, ChangeOk, applied_changed, applied_canonical, Planned, waits, goes, planned, ordered}

-- what bytes need for a step: their shape, a sound view, and the bytes of no meaning as said
pub record Ready (d : List ℕ) : Type 0 where
  pub shaped : Shaped d
  pub sound : Sound (table_of d) (run_of d)
  pub canonical : Canonical d

pub ready_sound : (d : List ℕ) → Ready d → sound_bytes d ≡ true
ready_sound d r = bytes_sound d r.shaped r.sound r.canonical

-- the paper's outcome of a number, a rule and bytes
abbrev pub outcome_of : Out → Outcome
outcome_of (out zero k d) = done k (run_of d)
outcome_of (out (suc n) k d) = refused (suc n)

-- the bytes that a plan leaves
module _ (d : List ℕ) (s : Shaped d) (i : ℕ) (h : i < count_of d) (ps : List Item) (ch : Change) (ok : ChangeOk ch) (few : count_of d - 1 + length ps ≤ room) where
  abbrev after_change : List ℕ
  after_change = applied ch d

  changed : Changed d (state_after ch (state_of d)) after_change
  changed = applied_changed d s ch ok

  -- the pending items are those of before
  count_kept : count_of after_change ≡ count_of d
  unfolding run_of
  count_kept =
      sym (from_length (item_at after_change) (count_of after_change) 0)
      ∙ ap (λ (r : Run). length r.pending) changed.run ∙ from_length (item_at d) (count_of d) 0

  there : i < count_of after_change
  there = omega (arith, count_kept)

  abbrev after_removal : List ℕ
  after_removal = removed_at i after_change

  removal_count : count_of after_removal ≡ count_of d - 1
  removal_count = removed_count after_change changed.shaped i there ∙ ap (λ (n : ℕ). n - 1) count_kept

  final : Appended after_removal ps (appended_all ps after_removal)
  final = appended_all_lem ps after_removal (removed_shaped after_change changed.shaped i there) (omega (arith, removal_count))

  pub left_shaped : Shaped (appended_all ps after_removal)
  left_shaped = final.shaped

  pub left_table : table_of (appended_all ps after_removal) ≡ table_of d
  left_table = final.table ∙ removed_table after_change changed.shaped i there ∙ changed.table

  -- the run with the rule's state, without the item, with the products
  pub left_run : run_of (appended_all ps after_removal) ≡ after (run_of d) (without (run_of d).pending i) ps (state_after ch (state_of d))
  left_run =
      final.run
      ∙ ap (λ (r : Run). pending_now r (r.pending ++ ps)) (removed_run after_change changed.shaped i there)
      ∙ ap (λ (r : Run). pending_now r (without r.pending i ++ ps)) changed.run

  pub left_canonical : Canonical d → Canonical (appended_all ps after_removal)
  left_canonical z =
      appended_all_canonical ps after_removal (removed_shaped after_change changed.shaped i there)
      (removed_canonical after_change changed.shaped (applied_canonical d s z ch ok) i there) (omega (arith, removal_count))

module _ (d : List ℕ) (r : Ready d) where
  abbrev t : Table
  t = table_of d

  abbrev q : Run
  q = run_of d

  pub place_item : (i : ℕ) → i < count_of d → get_elem? q.pending i ≡ some (item_at d i)
  unfolding run_of
  place_item i h = from_place (item_at d) (count_of d) 0 i h ∙ ap (λ (n : ℕ). some (item_at d n)) (zero-add i)

  left_count : (i : ℕ) (ps : List Item) → i < count_of d → length (without q.pending i ++ ps) ≡ count_of d - 1 + length ps
  unfolding run_of
  left_count i ps h =
      let a : suc (length (without q.pending i)) ≡ length q.pending = length_without q.pending i (item_at d i) (place_item i h) in
      let b : length q.pending ≡ count_of d = from_length (item_at d) (count_of d) 0 in
      omega (arith, length-append (without q.pending i) ps)

  beyond : (i : ℕ) → count_of d ≤ i → length q.pending ≤ i
  unfolding run_of
  beyond i h = omega (arith, from_length (item_at d) (count_of d) 0)

  ordered_state : Ordered t (state_of d)
  ordered_state = ordered d r.shaped r.sound

  -- what a plan does is what the paper's effect does
  performed_same : (i : ℕ) → i < count_of d → (p : Plan) → Planned d (item_at d i) p
      → outcome_of (performed_bytes d i p) ≡ performed q (without q.pending i) (effect t (state_of d) (item_at d i))
  performed_same i h wait (waits w) =
      ap (performed q (without q.pending i)) (sym (waiting_effect t (state_of d) ordered_state w))
  performed_same i h (plan k ps ch) (goes rule ok) =
      go (leb (count_of d - 1 + length ps) room) refl
      ∙ ap (performed q (without q.pending i)) (sym (rule_effect t ordered_state rule))
    where
      same_test : leb (length (without q.pending i ++ ps)) room ≡ leb (count_of d - 1 + length ps) room
      same_test = ap (λ (n : ℕ). leb n room) (left_count i ps h)

      go : (b : Bool) → leb (count_of d - 1 + length ps) room ≡ b
          → outcome_of (pick b (out 0 k (appended_all ps (removed_at i (applied ch d)))) (out no_room 0 d))
          ≡ performed q (without q.pending i) (takes k ps (state_after ch (state_of d)))
      go true e =
          rw (same_test, e)
          (ap (done k) (left_run d r.shaped i h ps ch ok (leb-true (count_of d - 1 + length ps) room e)))
      go false e = rw (same_test, e)

  pub unclashed_view : (b : Bool) → eqb (byte_at d clash_at) 0 ≡ b → q.state.clash ≡ pick b none (some (byte_at d clash_cabinet_at))
  unfolding run_of state_of
  unclashed_view b e = ap (λ (c : Bool). pick c none (some (byte_at d clash_cabinet_at))) e

  step_here : q.state.clash ≡ none → (i : ℕ) → i < count_of d
      → step t q i ≡ performed q (without q.pending i) (effect t (state_of d) (item_at d i))
  unfolding run_of
  step_here free i h = step_at t q r.sound free i (item_at d i) (place_item i h)

  pub item_in_range : (i : ℕ) → i < count_of d → ItemOk t (item_at d i)
  item_in_range i h = item_ok t q r.sound i (item_at d i) (place_item i h)

  -- A step on sound bytes is the paper's step of their view, with the same reply.
  pub bridge : (i : ℕ) → outcome_of (taken_bytes d i) ≡ step t q i
  unfolding taken_bytes step
  bridge i = go (eqb (byte_at d clash_at) 0) refl
    where
      placed : q.state.clash ≡ none → (b : Bool) → ltb i (count_of d) ≡ b
          → outcome_of (pick b (performed_bytes d i (plan_of d (item_at d i))) (out no_such_place 0 d)) ≡ step t q i
      placed free true e =
          let h : i < count_of d = ltb-true i (count_of d) e in
          performed_same i h (plan_of d (item_at d i)) (planned d r.shaped r.sound (item_at d i) (item_in_range i h))
          ∙ sym (step_here free i h)
      placed free false e = sym (rw (free, no_place q.pending i (beyond i (ltb-false i (count_of d) e))))

      go : (b : Bool) → eqb (byte_at d clash_at) 0 ≡ b
          → outcome_of (pick b (pick (ltb i (count_of d)) (performed_bytes d i (plan_of d (item_at d i))) (out no_such_place 0 d)) (out has_clashed 0 d)) ≡ step t q i
      go true e = placed (unclashed_view true e) (ltb i (count_of d)) refl
      go false e = sym (rw (unclashed_view false e))

  unrefused : (i : ℕ) → eqb (byte_at d clash_at) 0 ≡ true → ltb i (count_of d) ≡ true → taken_bytes d i ≡ performed_bytes d i (plan_of d (item_at d i))
  unfolding taken_bytes
  unrefused i e f = rw (e, f)

  no_such : (i : ℕ) → eqb (byte_at d clash_at) 0 ≡ true → ltb i (count_of d) ≡ false → taken_bytes d i ≡ out no_such_place 0 d
  unfolding taken_bytes
  no_such i e f = rw (e, f)

  clashed_already : (i : ℕ) → eqb (byte_at d clash_at) 0 ≡ false → taken_bytes d i ≡ out has_clashed 0 d
  unfolding taken_bytes
  clashed_already i e = rw e

  -- what a step leaves: the table, and bytes that are as ready as before
  pub record Left (d' : List ℕ) : Type 0 where
    pub table : table_of d' ≡ t
    pub ready : Ready d'

  -- the bytes of an answer
  abbrev pub bytes_of : Out → List ℕ
  bytes_of (out n k e) = e

  stays : Left d
  stays = record { table = refl; ready = r }

  performed_left : (i : ℕ) → i < count_of d → (p : Plan) → Planned d (item_at d i) p → outcome_of (performed_bytes d i p) ≡ step t q i → Left (bytes_of (performed_bytes d i p))
  performed_left i h wait w e = stays
  performed_left i h (plan k ps ch) (goes rule ok) e = go (leb (count_of d - 1 + length ps) room) refl e
    where
      d' : List ℕ
      d' = appended_all ps (removed_at i (applied ch d))

      go : (b : Bool) → leb (count_of d - 1 + length ps) room ≡ b → outcome_of (pick b (out 0 k d') (out no_room 0 d)) ≡ step t q i
          → Left (bytes_of (pick b (out 0 k d') (out no_room 0 d)))
      go true f g =
          let few = leb-true (count_of d - 1 + length ps) room f in
          let same = left_table d r.shaped i h ps ch ok few in
          record {
            table = same;
            ready =
                record {
                  shaped = left_shaped d r.shaped i h ps ch ok few;
                  sound = subst (λ (u : Table). Sound u (run_of d')) (sym same) (soundness_kept t q r.sound i k (run_of d') (sym g));
                  canonical = left_canonical d r.shaped i h ps ch ok few r.canonical;
                };
          }
      go false f g = stays

  -- Soundness is kept by a step, at the bytes.
  pub taken_left : (i : ℕ) → Left (bytes_of (taken_bytes d i))
  taken_left i = go (eqb (byte_at d clash_at) 0) refl (ltb i (count_of d)) refl
    where
      go : (b : Bool) → eqb (byte_at d clash_at) 0 ≡ b → (p : Bool) → ltb i (count_of d) ≡ p → Left (bytes_of (taken_bytes d i))
      go true e true f =
          let h : i < count_of d = ltb-true i (count_of d) f in
          let w = planned d r.shaped r.sound (item_at d i) (item_in_range i h) in
          subst (λ (o : Out). Left (bytes_of o)) (sym (unrefused i e f))
          (performed_left i h (plan_of d (item_at d i)) w (ap outcome_of (sym (unrefused i e f)) ∙ bridge i))
      go true e false f = subst (λ (o : Out). Left (bytes_of o)) (sym (no_such i e f)) stays
      go false e p f = subst (λ (o : Out). Left (bytes_of o)) (sym (clashed_already i e)) stays
