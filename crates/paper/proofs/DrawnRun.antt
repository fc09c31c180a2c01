-- The map program's run of an accepted file is made by accepted steps, at the places that it draws, and comes to an end, by
-- the step count.
use mathlib.Core.Path.{◌≡◌, refl, sym, subst, ap, ◌∙◌}
use mathlib.Core.Logic.{inl, inr, ⊎_elim}
use mathlib.Core.Bool.{Bool, true, not}
use mathlib.Core.List.{List, [], ◌∷◌}
use mathlib.Core.Option.{Option, none, some}
use Prim.Native.Nat.{ℕ, zero, suc, ◌+◌, ◌-◌, ◌≤◌, ◌<◌}
use native.Mathlib.Decide.{dec_lt}
use native.Mathlib.Omega.{arith}
use native.Mathlib.Nat.{mod-lt}
use borrow.Author.Tests.{lt-ltb, le-ltb}
use lib.Dec.{T, not_T, T_not}
use lib.ListN.{length, get_elem?}
use Rattle.base.specs.Choice.{first_of}
use Rattle.base.specs.Lists.{without}
use Rattle.base.proofs.Tests.{true_T}
use Rattle.base.proofs.Firsts.{first_within, first_passes, first_before}
use Rattle.base.proofs.Elements.{place_some, some_place}
use Rattle.paper.specs.Tables.{Table}
use Rattle.paper.specs.Runs.{Statement, Run, initial}
use Rattle.paper.specs.Rules.{Waits}
use Rattle.paper.specs.Steps.{Effect, it_waits, takes, effect, is_waiting, item_waits, waits_at, performed, Outcome, refused, done, step}
use Rattle.paper.specs.Reached.{FileOk, Reached, loaded, stepped, Along, none_left, one_more, Over}
use Rattle.paper.specs.Files.{File}
use Rattle.paper.specs.Counts.{most_steps}
use Rattle.paper.specs.Programs.{first_state, next_state, drawn_place, is_ready, ready_place, chosen, Drawn, no_more, taken_first, drawn, drawn_file, drawn_run}
use Rattle.paper.specs.declared.Item.{Item}
use Rattle.paper.proofs.StepIsRule.{Takes, takes_or_waits, waiting_effect, step_at}
use Rattle.paper.proofs.Soundness.{reached_sound}
use Rattle.paper.proofs.StepCounts.{step_count}
use Rattle.paper.proofs.Progress.{Goes, takes_goes, some_item_goes}

module _ (t : Table) (r : Run) (i : ℕ) (j : Item) (e : get_elem? r.pending i ≡ some j) where
  waits_at_place : waits_at t r i ≡ is_waiting (effect t r.state j)
  unfolding waits_at
  waits_at_place = ap (item_waits t r.state) e

-- Where some place below the count is ready, the place taken is below the count and ready.
module _ (t : Table) (r : Run) (g : ℕ) (below : g < length r.pending) (ready : T (is_ready t r g)) where
  taken_ready : (i : ℕ) → i < length r.pending → (ready_place t r i < length r.pending) × T (is_ready t r (ready_place t r i))
  unfolding ready_place
  taken_ready i h = go (dec_lt ahead (length r.pending))
    where
      ahead : ℕ
      ahead = first_of (is_ready t r) (length r.pending - i) i

      around : ℕ
      around = first_of (is_ready t r) (length r.pending) 0

      around_below : around < length r.pending
      around_below =
          let w = first_within (is_ready t r) (length r.pending) 0 in
          found (dec_lt around (length r.pending))
        where
          found : Dec (around < length r.pending) → around < length r.pending
          found (yes l) = l
          found (no l) = absurd (first_before (is_ready t r) (length r.pending) 0 g (omega arith) (omega arith) ready)

      go : Dec (ahead < length r.pending) → (ready_place t r i < length r.pending) × T (is_ready t r (ready_place t r i))
      go (yes l) = rw (lt-ltb ahead (length r.pending) l, ready_place) (l, first_passes (is_ready t r) (length r.pending - i) i (omega arith))
      go (no l) =
          rw (le-ltb ahead (length r.pending) (omega arith), ready_place)
          (around_below, first_passes (is_ready t r) (length r.pending) 0 (omega (arith, around_below)))

nil : (l : List Item) → length l ≡ 0 → l ≡ []
nil [] e = refl
nil (j ∷ l) e = absurd (let z : ⊥ = omega arith in z)

not_ready : (b : Bool) → b ≡ true → T (not b) → ⊥
not_ready b e h = T_not b h (true_T b e)

-- an end of a file's run
pub record RunEnded (t : Table) (qs : List Statement) (r : Run) : Type 0 where
  pub steps : ℕ
  pub reached : Reached t qs steps r
  pub over : Over r

module _ (t : Table) (qs : List Statement) (ok : FileOk t qs) where
  module _ (n : ℕ) (r : Run) (h : Reached t qs n r) (free : r.state.clash ≡ none) where
    -- a place that is ready is taken
    ready_goes : (i : ℕ) → i < length r.pending → T (is_ready t r i) → (k : ℕ) × (r' : Run) × (step t r i ≡ done k r')
    ready_goes i l k =
        let p = place_some r.pending i l in
        let ordered = (reached_sound t qs ok h).state.memo in
        ⊎_elim (λ (w : Takes t r.state p.0). (w.number, _, takes_goes t qs ok n r h free i p.0 p.1 w))
        (λ (w : Waits t r.state p.0).
        absurd (not_ready (waits_at t r i) (waits_at_place t r i p.0 p.1 ∙ ap is_waiting (waiting_effect t r.state ordered w)) k))
        (takes_or_waits t r.state ordered p.0)

    -- an accepted place is ready
    goes_ready : (g : Goes t r) → (g.place < length r.pending) × T (is_ready t r g.place)
    unfolding step waits_at
    goes_ready g = go (get_elem? r.pending g.place) refl
      where
        go : (o : Option Item) → get_elem? r.pending g.place ≡ o → (g.place < length r.pending) × T (is_ready t r g.place)
        go none e = absurd (let d : refused 13 ≡ done g.rule g.run = rw (free, e) at g.is in let z : ◌≡◌ {A = ℕ} 0 1 = cc in omega arith)
        go (some j) e = (some_place r.pending g.place j e, not_T (waits_at t r g.place) (λ w. awake (effect t r.state j) refl (rw e at w)))
          where
            awake : (f : Effect) → effect t r.state j ≡ f → T (is_waiting f) → ⊥
            awake it_waits d w =
                let d' : refused 14 ≡ done g.rule g.run =
                sym (ap (performed r (without r.pending g.place)) d) ∙ sym (step_at t r (reached_sound t qs ok h) free g.place j e) ∙ g.is in
                let z : ◌≡◌ {A = ℕ} 0 1 = cc in
                omega arith
            awake (takes k ps σ) d w = w

    -- the place that the program takes is accepted
    chosen_goes : (x : ℕ) → 0 < length r.pending → (k : ℕ) × (r' : Run) × (step t r (chosen t r x) ≡ done k r')
    unfolding drawn_place
    chosen_goes x l =
        let g = some_item_goes t qs ok n r h free (λ e. let z : length r.pending ≡ 0 = ap length e in omega arith) in
        let w = goes_ready g in
        let p = taken_ready t r g.place w.0 w.1 (drawn_place x (length r.pending)) (mod-lt _ l) in
        ready_goes (chosen t r x) p.0 p.1

  -- with steps to spare up to the step count, the drawn run is over
  drawn_ends : (k x n : ℕ) (r : Run) → Reached t qs n r → most_steps t.cabinets t.unknowns (length qs) ≤ n + k → RunEnded t qs (drawn t k x r).run
  drawn_ends zero x n r h m = go r.state.clash refl (length r.pending) refl
    where
      go : (c : Option ℕ) → r.state.clash ≡ c → (l : ℕ) → length r.pending ≡ l → RunEnded t qs r
      go (some c) d l e = record { steps = n; reached = h; over = inl (c, d) }
      go none d zero e = record { steps = n; reached = h; over = inr (record { unclashed = d; empty = nil r.pending e }) }
      go none d (suc l) e =
          let w = chosen_goes n r h d x (omega arith) in
          absurd (let z : ⊥ = omega (arith, step_count t qs ok (stepped h (chosen t r x) w.0 w.2)) in z)
  drawn_ends (suc k) x n r h m = go r.state.clash refl (length r.pending) refl (λ y q h'. drawn_ends k y (suc n) q h' (omega arith))
    where
      go : (c : Option ℕ) → r.state.clash ≡ c → (l : ℕ) → length r.pending ≡ l
          → ((y : ℕ) (q : Run) → Reached t qs (suc n) q → RunEnded t qs (drawn t k y q).run) → RunEnded t qs (drawn t (suc k) x r).run
      go (some c) d l e ih = rw (d, drawn) (record { steps = n; reached = h; over = inl (c, d) })
      go none d zero e ih = rw (d, e, drawn) (record { steps = n; reached = h; over = inr (record { unclashed = d; empty = nil r.pending e }) })
      go none d (suc l) e ih =
          let w = chosen_goes n r h d (next_state x) (omega arith) in
          rw (d, e, w.2, drawn, taken_first) (ih (next_state x) w.1 (stepped h (chosen t r (next_state x)) w.0 w.2))

-- "It reads a file on standard input and draws its places": the run that it makes is reached by accepted steps and is over.
pub drawn_run_ends : (f : File) → FileOk f.table f.statements → RunEnded f.table f.statements (drawn_run f)
unfolding drawn_run drawn_file
drawn_run_ends f ok =
    drawn_ends f.table f.statements ok (most_steps f.table.cabinets f.table.unknowns (length f.statements)) first_state 0
    (initial f.statements) loaded (omega arith)

module _ (t : Table) where
  -- so many drawn steps are accepted steps at their places
  along : (k x : ℕ) (r : Run) → Along t r (drawn t k x r).places (drawn t k x r).run
  along zero x r = none_left
  along (suc k) x r =
      go r.state.clash refl (length r.pending) refl (step t r (chosen t r (next_state x))) refl (λ q. along k (next_state x) q)
    where
      AlongOf : Drawn → Type 0
      AlongOf d = Along t r d.places d.run

      is : (z : Drawn) → ((y : Drawn) → z ≡ y → drawn t (suc k) x r ≡ y) → AlongOf z → AlongOf (drawn t (suc k) x r)
      is z e h = subst AlongOf (sym (e z refl)) h

      go : (c : Option ℕ) → r.state.clash ≡ c → (l : ℕ) → length r.pending ≡ l → (o : Outcome)
          → step t r (chosen t r (next_state x)) ≡ o → ((q : Run) → Along t q (drawn t k (next_state x) q).places (drawn t k (next_state x) q).run)
          → AlongOf (drawn t (suc k) x r)
      go (some c) d l e o w ih = is (no_more r) (λ y h. rw (d, drawn) h) none_left
      go none d zero e o w ih = is (no_more r) (λ y h. rw (d, e, drawn) h) none_left
      go none d (suc l) e (refused m) w ih = is (no_more r) (λ y h. rw (d, e, w, drawn, taken_first) h) none_left
      go none d (suc l) e (done m q) w ih =
          is (record { places = chosen t r (next_state x) ∷ (drawn t k (next_state x) q).places; run = (drawn t k (next_state x) q).run })
          (λ y h. rw (d, e, w, drawn, taken_first) h) (one_more w (ih q))

-- "draws its places": the run that it makes is the run after the places that it takes, in their order
pub drawn_run_along_its_places : (f : File) → Along f.table (initial f.statements) (drawn_file f).places (drawn_run f)
unfolding drawn_run drawn_file
drawn_run_along_its_places f =
    along f.table (most_steps f.table.cabinets f.table.unknowns (length f.statements)) first_state (initial f.statements)
