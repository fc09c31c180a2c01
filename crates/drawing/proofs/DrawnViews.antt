-- The drawn run on the bytes of a sound run views as the paper's drawn run, and leaves the bytes sound.
use Rattle.std.proofs.Common.{◌≡◌, ℕ, zero, suc, ◌+◌, ◌-◌, ◌<◌, ◌≤◌, Bool, true, false, not, eqb, ltb, List, length, sym, refl, ap, ◌∙◌, ap₂, le_of_lt, mod-lt, arith, eqb-true}
use mathlib.Core.Option.{none}
use borrow.Author.Tests.{eqb-false}
use Rattle.base.specs.Choice.{pick, first_of}
use Rattle.base.proofs.Firsts.{first_same}
use Rattle.base.proofs.Froms.{from_length}
use Rattle.paper.specs.Tables.{Table}
use Rattle.paper.specs.Runs.{Run}
use Rattle.paper.specs.Steps.{effect, is_waiting, item_waits, waits_at, step}
use Rattle.paper.specs.Programs.{next_state, drawn_place, is_ready, ready_place, chosen, taken_first, drawn}
use Rattle.paper.specs.declared.Item.{Item}
use Rattle.paper.proofs.StepIsRule.{rule_effect, waiting_effect}
use Rattle.layout.specs.Offsets.{clash_at}
use Rattle.layout.specs.Fields.{byte_at, count_of, item_at, table_of, state_of, run_of}
use Rattle.rules.specs.Plans.{Plan, wait, plan, plan_of}
use Rattle.rules.specs.Bytes.{Out, out, taken_bytes}
use Rattle.rules.specs.Given.{waits_in, waits_bytes}
use Rattle.rules.proofs.Planned.{Planned, waits, goes, planned, ordered}
use Rattle.rules.proofs.Bridge.{Ready, outcome_of, bridge, Left, bytes_of, taken_left, item_in_range, place_item, unclashed_view}
use Rattle.drawing.specs.Draws.{ready_at, ready_from, taken_place, after_taken, drawn_from}

-- the first that is ready going round
abbrev around : (ℕ → Bool) → ℕ → ℕ → ℕ
around f n i = pick (ltb (first_of f (n - i) i) n) (first_of f (n - i) i) (first_of f n 0)

place_around : (t : Table) (r : Run) (i : ℕ) → ready_place t r i ≡ around (is_ready t r) (length r.pending) i
unfolding ready_place
place_around t r i = go (ltb (first_of (is_ready t r) (length r.pending - i) i) (length r.pending)) refl
  where
    go : (b : Bool) → ltb (first_of (is_ready t r) (length r.pending - i) i) (length r.pending) ≡ b
        → ready_place t r i ≡ pick b (first_of (is_ready t r) (length r.pending - i) i) (first_of (is_ready t r) (length r.pending) 0)
    go true e = rw (e, ready_place)
    go false e = rw (e, ready_place)

pub one_less : (n : ℕ) → 0 < n → n ≡ suc (n - 1)
one_less n h = omega arith

module _ (d : List ℕ) (r : Ready d) where
  abbrev t : Table
  t = table_of d

  abbrev q : Run
  q = run_of d

  pending_count : length q.pending ≡ count_of d
  unfolding run_of
  pending_count = from_length (item_at d) (count_of d) 0

  plan_ready : (j : Item) (p : Plan) → Planned d j p → not (waits_in p) ≡ not (is_waiting (effect t (state_of d) j))
  plan_ready j wait (waits w) = rw (waiting_effect t (state_of d) (ordered d r.shaped r.sound) w)
  plan_ready j (plan k ps ch) (goes rule ok) = rw (rule_effect t (ordered d r.shaped r.sound) rule)

  item_waits_lem : (i : ℕ) → i < count_of d → waits_at t q i ≡ is_waiting (effect t (state_of d) (item_at d i))
  unfolding waits_at run_of
  item_waits_lem i h = ap (item_waits t (state_of d)) (place_item d r i h)

  ready_same : (i : ℕ) → i < count_of d → ready_at d i ≡ is_ready t q i
  unfolding ready_at waits_bytes
  ready_same i h =
      plan_ready (item_at d i) (plan_of d (item_at d i)) (planned d r.shaped r.sound (item_at d i) (item_in_range d r i h)) ∙ ap not (sym (item_waits_lem i h))

  from_same : (k y : ℕ) → y + k ≤ count_of d → first_of (ready_at d) k y ≡ first_of (is_ready t q) k y
  from_same k y h = first_same (ready_at d) (is_ready t q) k y (λ z a b. ready_same z (omega arith))

  ready_place_lem : (i : ℕ) → i ≤ count_of d → ready_from d i ≡ ready_place t q i
  unfolding ready_from
  ready_place_lem i h =
      ap₂ (λ (a b : ℕ). pick (ltb a (count_of d)) a b) (from_same (count_of d - i) i (omega arith)) (from_same (count_of d) 0 (omega arith))
      ∙ ap (λ (n : ℕ). around (is_ready t q) n i) (sym pending_count) ∙ sym (place_around t q i)

  pub taken_place_lem : (x : ℕ) → 0 < count_of d → taken_place d x ≡ chosen t q x
  unfolding taken_place drawn_place
  taken_place_lem x h =
      ready_place_lem (drawn_place x (count_of d)) (le_of_lt (mod-lt _ h)) ∙ ap (λ (n : ℕ). ready_place t q (drawn_place x n)) (sym pending_count)

-- what the drawn run leaves of ready bytes
pub record DrawnLeft (d : List ℕ) (p : Run) (e : List ℕ) : Type 0 where
  pub table : table_of e ≡ table_of d
  pub run : run_of e ≡ p
  pub ready : Ready e

pub drawn_same : (k x : ℕ) (d : List ℕ) → Ready d → DrawnLeft d (drawn (table_of d) k x (run_of d)).run (drawn_from k x d)
unfolding drawn_from
drawn_same zero x d r = record { table = refl; run = refl; ready = r }
drawn_same (suc k) x d r = running (eqb (byte_at d clash_at) 0) refl (λ e h. drawn_same k (next_state x) e h)
  where
    Later : Type 0
    Later = (e : List ℕ) → Ready e → DrawnLeft e (drawn (table_of e) k (next_state x) (run_of e)).run (drawn_from k (next_state x) e)

    more : List ℕ → List ℕ
    more e = drawn_from k (next_state x) e

    -- what is left after a taken place
    left : (o : Out) → taken_bytes d (taken_place d (next_state x)) ≡ o → outcome_of o ≡ step (table_of d) (run_of d) (chosen (table_of d) (run_of d) (next_state x))
        → Left d r (bytes_of d r o) → Later
        → DrawnLeft d (taken_first (table_of d) (run_of d) (chosen (table_of d) (run_of d) (next_state x)) (λ p. drawn (table_of d) k (next_state x) p)).run (after_taken o d more)
    left (out zero m e) f g w ih =
        let i = ih e w.ready in
        let h : table_of e ≡ table_of d = w.table in
        rw (sym g, taken_first)
        (record {
          table = i.table ∙ h;
          run = i.run ∙ ap (λ (u : Table). (drawn u k (next_state x) (run_of e)).run) h;
          ready = i.ready;
        })
    left (out (suc n) m e) f g w ih = rw (sym g, taken_first) (record { table = refl; run = refl; ready = r })

    counted : (run_of d).state.clash ≡ none → (b : Bool) → eqb (count_of d) 0 ≡ b → Later
        → DrawnLeft d (drawn (table_of d) (suc k) x (run_of d)).run (pick b d (after_taken (taken_bytes d (taken_place d (next_state x))) d more))
    counted free true e ih =
        let z : length (run_of d).pending ≡ 0 = pending_count d r ∙ eqb-true (count_of d) 0 e in
        rw (free, z, drawn) (record { table = refl; run = refl; ready = r })
    counted free false e ih =
        let ne : count_of d ≡ 0 → ⊥ = eqb-false (count_of d) 0 e in
        let pos : 0 < count_of d = omega arith in
        let n : length (run_of d).pending ≡ suc (count_of d - 1) = pending_count d r ∙ one_less (count_of d) pos in
        let i : ℕ = taken_place d (next_state x) in
        rw (free, n, drawn)
        (left (taken_bytes d i) refl (bridge d r i ∙ ap (step (table_of d) (run_of d)) (taken_place_lem d r (next_state x) pos)) (taken_left d r i) ih)

    running : (b : Bool) → eqb (byte_at d clash_at) 0 ≡ b → Later
        → DrawnLeft d (drawn (table_of d) (suc k) x (run_of d)).run
        (pick b (pick (eqb (count_of d) 0) d (after_taken (taken_bytes d (taken_place d (next_state x))) d more)) d)
    running true e ih = counted (unclashed_view d r true e) (eqb (count_of d) 0) refl ih
    running false e ih = rw (unclashed_view d r false e, drawn) (record { table = refl; run = refl; ready = r })
