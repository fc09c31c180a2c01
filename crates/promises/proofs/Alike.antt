-- Demand 3: two files that say the same end alike, whatever the order of their steps; and every run comes to an end.
use mathlib.Core.Path.{◌≡◌, refl, sym, subst, ap, ap₂, ◌∙◌}
use mathlib.Core.Logic.{◌⊎◌, inl, inr}
use mathlib.Core.Bool.{Bool, true, false}
use mathlib.Core.List.{List, [], ◌∷◌, ◌++◌}
use mathlib.Core.Option.{none, some}
use Prim.Native.Nat.{ℕ, zero, suc, ◌+◌, ◌-◌, ◌*◌, ◌≤◌, ◌<◌}
use native.Mathlib.Omega.{arith}
use borrow.Author.Tests.{eqb-true, eqb-false}
use lib.Dec.{eqb}
use lib.ListN.{length, replicate}
use Rattle.base.specs.Choice.{pick}
use Rattle.base.proofs.Froms.{from_length}
use Rattle.paper.specs.Refusals.{no_room}
use Rattle.paper.specs.Tables.{Table}
use Rattle.paper.specs.Runs.{Run}
use Rattle.paper.specs.Steps.{done, step}
use Rattle.paper.specs.Files.{File, each}
use Rattle.paper.specs.Reached.{Clashed, Finished, Over}
use Rattle.paper.specs.Maps.{Row, map_rows}
use Rattle.paper.specs.SameStatements as one
use Rattle.paper.specs.SameStatements.{SameSet, OneResult}
use Rattle.paper.specs.Counts.{most_steps}
use Rattle.paper.proofs.StepCounts as counts
use Rattle.paper.proofs.Progress.{Goes, some_item_goes}
use Rattle.paper.proofs.OneResult as result
use Rattle.layout.specs.Offsets.{clash_at, clash_cabinet_at, row_bytes, map_bytes}
use Rattle.layout.specs.Fields.{byte_at, count_of, item_at, state_of, run_of}
use Rattle.layout.specs.MapRows.{bytes_of_row, map_of}
use Rattle.rules.specs.Bytes.{Out, out, step_bytes}
use Rattle.rules.proofs.Bridge.{Ready, outcome_of, bridge}
use Rattle.maps.specs.Bytes.{mapped}
use Rattle.promises.specs.FromFiles.{Accepted, FromFile, stepped, Along, none_left, one_more, HasClashed, NothingPending, AtEnd}
use Rattle.promises.specs.Demands.{TwoRuns, BothAlike, both_clash, same_map, Demand3}
use Rattle.promises.proofs.Reaching.{taken_step, file_ok, Viewed, viewed, list_from_file}
use Rattle.promises.proofs.Derived.{finished_view, map_given}

-- the end of the bytes is the end of their view
clashed_view : (d : List ℕ) → HasClashed d → Clashed (run_of d)
unfolding run_of state_of
clashed_view d h = (byte_at d clash_cabinet_at, rw h)

over_view : (d : List ℕ) → AtEnd d → Over (run_of d)
over_view d (inl c) = inl (clashed_view d c)
over_view d (inr p) = inr (finished_view d p)

-- and back
pub view_clashed : (d : List ℕ) → Ready d → Clashed (run_of d) → HasClashed d
unfolding run_of state_of
view_clashed d r c = go (eqb (byte_at d clash_at) 0) refl c.1
  where
    go : (b : Bool) → eqb (byte_at d clash_at) 0 ≡ b → pick b none (some (byte_at d clash_cabinet_at)) ≡ some c.0 → byte_at d clash_at ≡ 1
    go true e z = absurd (let y : ◌≡◌ {A = ℕ} 0 1 = cc in omega arith)
    go false e z = let ne : byte_at d clash_at ≡ 0 → ⊥ = eqb-false (byte_at d clash_at) 0 e in omega (arith, r.canonical.flag)

pub view_finished : (d : List ℕ) → Finished (run_of d) → NothingPending d
unfolding run_of state_of
view_finished d f = record { running = go (eqb (byte_at d clash_at) 0) refl f.unclashed; empty = sym (from_length (item_at d) (count_of d) 0) ∙ ap length f.empty }
  where
    go : (b : Bool) → eqb (byte_at d clash_at) 0 ≡ b → pick b none (some (byte_at d clash_cabinet_at)) ≡ none → byte_at d clash_at ≡ 0
    go true e z = eqb-true (byte_at d clash_at) 0 e
    go false e z = absurd (let y : ◌≡◌ {A = ℕ} 0 1 = cc in omega arith)

running : (d : List ℕ) → eqb (byte_at d clash_at) 0 ≡ true → (run_of d).state.clash ≡ none
unfolding run_of state_of
running d e = rw e

view_empty : (d : List ℕ) → (run_of d).pending ≡ [] → count_of d ≡ 0
unfolding run_of
view_empty d e = sym (from_length (item_at d) (count_of d) 0) ∙ ap length e

-- maps with the same rows, of tables with the same unknowns
same_bytes_of_maps : (t t' : Table) (r r' : Run) → t.unknowns ≡ t'.unknowns → map_rows t r ≡ map_rows t' r' → map_of t r ≡ map_of t' r'
unfolding map_of
same_bytes_of_maps t t' r r' e h = ap₂ (λ (l : List Row) (n : ℕ). each bytes_of_row l ++ replicate (map_bytes - row_bytes * n) 0) h e

one_result : (s s' : List ℕ) (f f' : File) (d d' : List ℕ) → TwoRuns s s' f f' d d' → BothAlike f d d'
one_result s s' f f' d d' w =
    let v = viewed s f w.accepted w.carried in
    let v' = viewed s' f' w.accepted' w.carried' in
    go v v'
    (result.one_result f.table f'.table f.statements f'.statements (file_ok s f w.accepted) (file_ok s' f' w.accepted') w.items w.statements
    v.reached v'.reached (over_view d w.over) (over_view d' w.over'))
  where
    go : Viewed f w.steps d → Viewed f' w.steps' d' → OneResult f.table f'.table f.statements (run_of d) (run_of d') → BothAlike f d d'
    go v v' (one.both_clash c c' k) = both_clash (view_clashed d v.ready c) (view_clashed d' v'.ready c') k
    go v v' (one.same_map a a' k e) =
        same_map k (map_of f.table (run_of d))
        (λ lent l. map_given d v.ready (view_finished d a) lent l ∙ ap (λ (u : Table). mapped 0 (map_of u (run_of d))) v.table)
        (λ lent l.
        map_given d' v'.ready (view_finished d' a') lent l ∙ ap (λ (u : Table). mapped 0 (map_of u (run_of d'))) v'.table
        ∙ ap (mapped 0) (sym (same_bytes_of_maps f.table f'.table (run_of d) (run_of d') w.items.0 e)))

step_count : (s : List ℕ) (f : File) → Accepted s f → (n : ℕ) (d : List ℕ) → FromFile s n d
    → n ≤ most_steps f.table.cabinets f.table.unknowns (length f.statements)
step_count s f a n d h = counts.step_count f.table f.statements (file_ok s f a) (viewed s f a h).reached

-- what a step on bytes reached from a file is in the paper
pub in_paper : (s : List ℕ) (f : File) (a : Accepted s f) (n : ℕ) (d : List ℕ) (h : FromFile s n d) (i : ℕ) → outcome_of (step_bytes d i) ≡ step f.table (run_of d) i
in_paper s f a n d h i =
    let v = viewed s f a h in
    ap outcome_of (taken_step d v.ready i) ∙ bridge d v.ready i ∙ ap (λ (u : Table). step u (run_of d) i) v.table

never_full : (s : List ℕ) (f : File) → Accepted s f → (n : ℕ) (d : List ℕ) → FromFile s n d → (i k : ℕ) (e : List ℕ) → step_bytes d i ≡ out no_room k e → ⊥
never_full s f a n d h i k e z =
    counts.never_full f.table f.statements (file_ok s f a) (viewed s f a h).reached i (sym (in_paper s f a n d h i) ∙ ap outcome_of z)

-- an accepted outcome is an accepted step
accepted : (o : Out) (k : ℕ) (r : Run) → outcome_of o ≡ done k r → (j : ℕ) × (e : List ℕ) × (o ≡ out 0 j e)
accepted (out zero j e) k r z = (j, e, refl)
accepted (out (suc m) j e) k r z = absurd (let y : ◌≡◌ {A = ℕ} 0 1 = cc in omega arith)

some_place : (s : List ℕ) (f : File) → Accepted s f → (n : ℕ) (d : List ℕ) → FromFile s n d
    → AtEnd d ⊎ ((i : ℕ) × (k : ℕ) × (e : List ℕ) × (step_bytes d i ≡ out 0 k e))
some_place s f a n d h = go (eqb (byte_at d clash_at) 0) refl (eqb (count_of d) 0) refl
  where
    v : Viewed f n d
    v = viewed s f a h

    taken : (g : Goes f.table (run_of d)) → (i : ℕ) × (k : ℕ) × (e : List ℕ) × (step_bytes d i ≡ out 0 k e)
    taken g =
        let w = accepted (step_bytes d g.place) g.rule g.run (in_paper s f a n d h g.place ∙ g.is) in
        (g.place, w.0, w.1, w.2)

    go : (x : Bool) → eqb (byte_at d clash_at) 0 ≡ x → (y : Bool) → eqb (count_of d) 0 ≡ y
        → AtEnd d ⊎ ((i : ℕ) × (k : ℕ) × (e : List ℕ) × (step_bytes d i ≡ out 0 k e))
    go false e y c =
        let ne : byte_at d clash_at ≡ 0 → ⊥ = eqb-false (byte_at d clash_at) 0 e in
        inl (inl (omega (arith, v.ready.canonical.flag)))
    go true e true c = inl (inr (record { running = eqb-true (byte_at d clash_at) 0 e; empty = eqb-true (count_of d) 0 c }))
    go true e false c =
        inr
        (taken
        (some_item_goes f.table f.statements (file_ok s f a) n (run_of d) v.reached (running d e)
        (λ z. eqb-false (count_of d) 0 c (view_empty d z))))

-- from any run of a file an end is reached before the step count is passed
end_from : (s : List ℕ) (f : File) → Accepted s f → (k n : ℕ) (d : List ℕ) → FromFile s n d
    → most_steps f.table.cabinets f.table.unknowns (length f.statements) < n + k
    → (is : List ℕ) × (e : List ℕ) × Along d is e × FromFile s (n + length is) e × AtEnd e
end_from s f a zero n d h l = absurd (let z : ⊥ = omega (arith, step_count s f a n d h) in z)
end_from s f a (suc k) n d h l =
    go (some_place s f a n d h) (λ i j e z. end_from s f a k (suc n) e (stepped h i j z) (omega arith))
  where
    go : AtEnd d ⊎ ((i : ℕ) × (j : ℕ) × (e : List ℕ) × (step_bytes d i ≡ out 0 j e))
        → ((i j : ℕ) (e : List ℕ) → step_bytes d i ≡ out 0 j e
        → (is : List ℕ) × (u : List ℕ) × Along e is u × FromFile s (suc n + length is) u × AtEnd u)
        → (is : List ℕ) × (u : List ℕ) × Along d is u × FromFile s (n + length is) u × AtEnd u
    go (inl w) later =
        let c : n ≡ n + length {A = ℕ} [] = omega arith in
        ([], d, none_left, subst (λ (m : ℕ). FromFile s m d) c h, w)
    go (inr w) later =
        let v = later w.0 w.1 w.2 w.3 in
        let c : suc n + length v.0 ≡ n + length (w.0 ∷ v.0) = omega arith in
        (w.0 ∷ v.0, v.1, one_more w.0 w.1 w.3 v.2, subst (λ (m : ℕ). FromFile s m v.1) c v.3, v.4)

pub demand_3 : Demand3
demand_3 =
    record {
      list_from_file = list_from_file;
      one_result = one_result;
      step_count = step_count;
      never_full = never_full;
      some_place = some_place;
      end_reachable = λ s f a n d h.
          end_from s f a (suc (most_steps f.table.cabinets f.table.unknowns (length f.statements))) n d h (omega arith);
    }
