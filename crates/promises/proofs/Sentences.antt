-- The general sentences of document 01, at the bytes: each is the paper's theorem of the view.
use mathlib.Core.Path.{◌≡◌, refl, sym, subst, ap, ap₂, ◌∙◌}
use mathlib.Core.Logic.{inl, inr, ⊎_elim, ◌≢◌, ◌↔◌}
use mathlib.Core.Bool.{Bool, true, false, ◌&&◌}
use mathlib.Core.List.{List, [], ◌∷◌, ◌++◌}
use mathlib.Core.Option.{none, some}
use Prim.Native.Nat.{ℕ, zero, suc, ◌+◌, ◌≤◌, ◌<◌}
use native.Mathlib.Omega.{arith}
use borrow.Author.Tests.{eqb-true, eq-eqb}
use lib.Dec.{eqb}
use lib.ListN.{length, get_elem?}
use Rattle.base.specs.Choice.{pick}
use Rattle.base.specs.Lists.{without, All}
use Rattle.base.proofs.Elements.{all_at, some_place}
use Rattle.base.proofs.Froms.{from_length}
use Rattle.base.proofs.Tests.{fst_true}
use Rattle.base.proofs.Sums.{sum_same}
use Rattle.paper.specs.Sizes.{longest_file}
use Rattle.paper.specs.Refusals.{not_as_loaded}
use Rattle.paper.specs.Tables.{Table, record_at}
use Rattle.paper.specs.Runs.{Mark, nothing, initiated, entry, State, Run, initial}
use Rattle.paper.specs.Rules.{part_statements, Rule, interchange, memo, dereference, identify, conflict, decompose, initiate, win, lose, arrive, Carried}
use Rattle.paper.specs.Steps.{Outcome, step}
use Rattle.paper.specs.Files.{File, file_bytes, padded_file}
use Rattle.paper.specs.Reached.{FileOk, Reached, Over}
use Rattle.paper.specs.Counts.{most_steps, most_held, holds}
use Rattle.paper.specs.Locality as paper
use Rattle.paper.specs.Maps.{Row, map_row, rows_from, map_rows}
use Rattle.paper.specs.Programs.{first_state, next_state, drawn, drawn_file, drawn_run, newline, spaced, printed_row, printed_rows, printed_map, printed_file, printed_run, printed_read, printed}
use Rattle.paper.specs.SameStatements as one
use Rattle.paper.specs.SameStatements.{SameItems, SameSet, OneResult}
use Rattle.paper.specs.declared.Item.{Item}
use Rattle.paper.specs.declared.Item.TheVariants.{News as news}
use Rattle.paper.proofs.RoundTrip.{no_longer, written_read}
use Rattle.paper.proofs.Local as local
use Rattle.paper.proofs.Bindings as bindings
use Rattle.paper.proofs.Bindings.{Bound, Tells}
use Rattle.paper.proofs.StepCounts as counts
use Rattle.paper.proofs.DrawnRun.{RunEnded, drawn_run_ends}
use Rattle.paper.proofs.OneResult as result
use Rattle.layout.specs.Offsets.{clash_at, cabinets_at, unknowns_at, statements_at, run_bytes}
use Rattle.layout.specs.Fields.{byte_at, count_of, clash_of, owner_of, mark_of, pair_of, item_at, table_of, state_of, run_of}
use Rattle.layout.specs.Soundness.{sound_bytes}
use Rattle.statements.specs.Loads.{loaded_bytes}
use Rattle.statements.specs.Writes.{Answer, answer, as_loaded, file_of, written_bytes, load_bytes}
use Rattle.statements.proofs.Loaded.{LoadedAs, loaded_as}
use Rattle.statements.proofs.BothWays.{loaded_bytes_lem, as_loaded_exactly, as_loaded_view}
use Rattle.rules.specs.Bytes.{Out, out, taken_bytes, step_bytes}
use Rattle.rules.proofs.Bridge.{Ready, ready_sound, outcome_of, place_item, Left, bytes_of, taken_left}
use Rattle.drawing.specs.Draws.{taken_place, after_taken, drawn_from, drawn_bytes}
use Rattle.drawing.proofs.DrawnViews.{DrawnLeft, drawn_same}
use Rattle.promises.specs.FromFiles.{Bytes, Accepted, FromFile, loaded, stepped}
use Rattle.promises.specs.Sentences.{FromAccepted, pending_of, pending_news, is_entry, holders, pending_statements, SameCabinet, Stands, SameStep, both_refused, both_done, cabinet_of, KeepsCabinet, ProgramEnds, Sentences}
use Rattle.promises.proofs.KeptBytes.{taken_kept, file_bytes_lem}
use Rattle.promises.proofs.Reaching.{ready_of, taken_step, step_taken, taken_refused, file_ok, loaded_is, Viewed, viewed}
use Rattle.promises.proofs.Derived.{sound_map, load_accepted, demand_2}
use Rattle.promises.proofs.Alike.{view_clashed, view_finished, in_paper}

view : {f : File} {n : ℕ} {d : List ℕ} → FromAccepted f n d → Viewed f n d
view {f = f} a = viewed a.file f a.accepted a.carried

ok_of : {f : File} {n : ℕ} {d : List ℕ} → FromAccepted f n d → FileOk f.table f.statements
ok_of {f = f} a = file_ok a.file f a.accepted

-- a refused step of bytes from a file names no rule and leaves them
step_refused : (d : List ℕ) → Ready d → (i m k : ℕ) (e : List ℕ) → step_bytes d i ≡ out (suc m) k e → (k ≡ 0) × (e ≡ d)
step_refused d r i m k e h = taken_refused d i m k e (sym (taken_step d r i) ∙ h)

-- Loading and writing
loading_decides_nothing : (s : List ℕ) (f : File) → Accepted s f → (before d : List ℕ) → load_bytes s before ≡ answer 0 0 d
    → (table_of d ≡ f.table) × (run_of d ≡ initial f.statements)
loading_decides_nothing s f a before d h =
    let e : d ≡ loaded_bytes f = loaded_is s before d f a.end a.read h in
    let w = loaded_as f (file_ok s f a) in
    (ap table_of e ∙ w.table, ap run_of e ∙ w.run)

abbrev number : Answer → ℕ
number (answer k p e) = k

writer_accepts : (d lent : List ℕ) → Bytes d → (n : ℕ) (m : List ℕ) → written_bytes d lent ≡ answer 0 n m
    → (f : File) × FileOk f.table f.statements × (loaded_bytes f ≡ d)
unfolding written_bytes
writer_accepts d lent b n m h = go (eqb (length d) run_bytes && eqb (length lent) longest_file) refl (sound_bytes d) refl (as_loaded d) refl h
  where
    go : (x : Bool) → (eqb (length d) run_bytes && eqb (length lent) longest_file) ≡ x → (y : Bool) → sound_bytes d ≡ y → (z : Bool) → as_loaded d ≡ z
        → pick x (pick y (pick z (answer 0 (length (file_bytes (file_of d))) (padded_file (file_of d))) (answer 19 0 lent)) (answer 17 0 lent)) (answer 12 0 lent)
        ≡ answer 0 n m → (f : File) × FileOk f.table f.statements × (loaded_bytes f ≡ d)
    go true e true f true g w =
        (as_loaded_exactly d (eqb-true (length d) run_bytes (fst_true (eqb (length d) run_bytes) (eqb (length lent) longest_file) e)) b f).0 g
    go true e true f false g w = absurd (let v : ◌≡◌ {A = ℕ} 19 0 = ap number w in omega arith)
    go true e false f z g w = absurd (let v : ◌≡◌ {A = ℕ} 17 0 = ap number w in omega arith)
    go false e y f z g w = absurd (let v : ◌≡◌ {A = ℕ} 12 0 = ap number w in omega arith)

-- by the test that the writer makes of a sound run
module _ (d lent : List ℕ) (b : Bytes d) (long : length d ≡ run_bytes) (s : sound_bytes d ≡ true) (l : length lent ≡ longest_file) where
  tested_write : (a : Bool) → as_loaded d ≡ a
      → written_bytes d lent ≡ pick a (answer 0 (length (file_bytes (file_of d))) (padded_file (file_of d))) (answer not_as_loaded 0 lent)
  unfolding written_bytes
  tested_write a e = rw (eq-eqb (length d) run_bytes long, eq-eqb (length lent) longest_file l, s, e)

  writer_refuses : (written_bytes d lent ≡ answer not_as_loaded 0 lent) ↔ ((f : File) → FileOk f.table f.statements → loaded_bytes f ≢ d)
  writer_refuses = (there, λ none_is. back none_is (as_loaded d) refl)
    where
      there : written_bytes d lent ≡ answer not_as_loaded 0 lent → (f : File) → FileOk f.table f.statements → loaded_bytes f ≢ d
      there h f ok e =
          let a : as_loaded d ≡ true = (as_loaded_exactly d long b s).1 (f, ok, e) in
          let v : ◌≡◌ {A = ℕ} 0 19 = ap number (sym (tested_write true a) ∙ h) in
          omega arith

      back : ((f : File) → FileOk f.table f.statements → loaded_bytes f ≢ d) → (a : Bool) → as_loaded d ≡ a
          → written_bytes d lent ≡ answer not_as_loaded 0 lent
      back none_is true e = let w = (as_loaded_exactly d long b s).0 e in absurd (none_is w.0 w.1 w.2)
      back none_is false e = tested_write false e

  loads_its_file : (f : File) → FileOk f.table f.statements → loaded_bytes f ≡ d → load_bytes (file_bytes f) d ≡ answer 0 0 d
  unfolding load_bytes
  loads_its_file f ok e = rw (eq-eqb (length d) run_bytes long, written_read f ok) (ap (answer 0 0) e)

  no_load_leaves : (written_bytes d lent ≡ answer not_as_loaded 0 lent) ↔ ((r before : List ℕ) → Bytes r → load_bytes r before ≢ answer 0 0 d)
  no_load_leaves = (
    λ h r before c e.
        let w = load_accepted r before d e in
        let a : Accepted r w.0 = record { bytes = c; end = w.1; read = w.2 } in
        writer_refuses.0 h w.0 (file_ok r w.0 a) (sym (loaded_is r before d w.0 w.1 w.2 e)),
    λ none_leaves. writer_refuses.1 (λ f ok e. none_leaves (file_bytes f) d (file_bytes_lem f ok) (loads_its_file f ok e)),
  )

-- All products keep the cabinet
parts_keep : (c : ℕ) (ps qs : List ℕ) → All (λ j. cabinet_of j ≡ c) (part_statements c ps qs)
parts_keep c [] qs = tt
parts_keep c (p ∷ ps) [] = tt
parts_keep c (p ∷ ps) (q ∷ qs) = (refl, parts_keep c ps qs)

rule_keeps : {t : Table} {k : ℕ} {j : Item} {σ : State} {ps : List Item} {σ' : State} → Rule t k j σ ps σ' → k ≢ 8
    → All (λ p. cabinet_of p ≡ cabinet_of j) ps
rule_keeps (interchange l) n = (refl, tt)
rule_keeps (memo l e h) n = tt
rule_keeps (dereference l e h) n = (refl, tt)
rule_keeps (identify h) n = tt
rule_keeps (conflict ha hb h) n = tt
rule_keeps {t = t} (decompose {c = c} {a = a} {b = b} ha hb h) n = parts_keep c (record_at t a).parts (record_at t b).parts
rule_keeps (initiate l e) n = (refl, (refl, tt))
rule_keeps (win e) n = absurd (n refl)
rule_keeps (lose e) n = tt
rule_keeps arrive n = tt

-- the item at a place that is taken
taken_item : (d : List ℕ) → Ready d → (i : ℕ) (j : Item) → get_elem? (run_of d).pending i ≡ some j → j ≡ item_at d i
unfolding run_of
taken_item d r i j e =
    let l : i < count_of d = omega (arith, some_place (pending_of d) i j e, from_length (item_at d) (count_of d) 0) in
    let p : get_elem? (pending_of d) i ≡ some (item_at d i) = place_item d r i l in
    cc

products_keep_cabinet : (d : List ℕ) → Bytes d → (i k : ℕ) (e : List ℕ) → step_bytes d i ≡ out 0 k e → k ≢ 8 → KeepsCabinet i d e
unfolding run_of
products_keep_cabinet d b i k e h n =
    let w : Carried (table_of d) (run_of d) i k (run_of e) = (demand_2.one_rule d b i k e h).0 in
    let v = step_taken d i k e h in
    let z : w.item ≡ item_at d i = taken_item d (ready_of d v.long v.sound b) i w.item w.place in
    record {
      products = w.products;
      appended = ap (λ (r : Run). r.pending) w.run;
      kept = subst (λ (j : Item). All (λ p. cabinet_of p ≡ cabinet_of j) w.products) z (rule_keeps w.rule n);
    }

-- Locality: the paper's two outcomes, as what the calls give
module _ (c i i' : ℕ) (d d' : List ℕ) where
  both_bytes : (k : ℕ) (r r' : Run) (e e' : List ℕ) → run_of e ≡ r → run_of e' ≡ r' → (products : List Item)
      → r.pending ≡ without (run_of d).pending i ++ products → r'.pending ≡ without (run_of d').pending i' ++ products
      → r.state.store c ≡ r'.state.store c → r.state.memo c ≡ r'.state.memo c → r.state.clash ≡ r'.state.clash
      → SameStep c i i' d d' (out 0 k e) (out 0 k e')
  unfolding run_of state_of
  both_bytes k r r' e e' v v' products p p' s m cl =
      let store : mark_of e c ≡ mark_of e' c = ap (λ (q : Run). q.state.store c) v ∙ s ∙ sym (ap (λ (q : Run). q.state.store c) v') in
      let memo : pair_of e c ≡ pair_of e' c = ap (λ (q : Run). q.state.memo c) v ∙ m ∙ sym (ap (λ (q : Run). q.state.memo c) v') in
      both_done products (ap (λ (q : Run). q.pending) v ∙ p) (ap (λ (q : Run). q.pending) v' ∙ p')
      (record { store = λ x. ap (λ (g : ℕ → Mark). g x) store; memo = λ x y. ap (λ (g : ℕ → ℕ → Bool). g x y) memo })
      (ap (λ (q : Run). q.state.clash) v ∙ cl ∙ sym (ap (λ (q : Run). q.state.clash) v'))

  as_calls : Ready d → Ready d' → (o o' : Out) → step_bytes d i ≡ o → step_bytes d' i' ≡ o' → (p p' : Outcome) → outcome_of o ≡ p → outcome_of o' ≡ p'
      → paper.SameStep c (without (run_of d).pending i) (without (run_of d').pending i') p p' → SameStep c i i' d d' o o'
  as_calls a a' (out zero k e) (out zero k' e') h h' p p' v v' (paper.both_done {k = m} {r = r} {r' = r'} products x y s t cl) =
      let z : k ≡ k' = cc in
      subst (λ (n : ℕ). SameStep c i i' d d' (out 0 k e) (out 0 n e')) z
      (both_bytes k r r' e e' (cc) (cc) products x y s t cl)
  as_calls a a' (out zero k e) o' h h' p p' v v' paper.both_refused = absurd (let z : ◌≡◌ {A = ℕ} 0 1 = cc in omega arith)
  as_calls a a' (out zero k e) (out (suc m') k' e') h h' p p' v v' (paper.both_done products x y s t cl) = absurd (let z : ◌≡◌ {A = ℕ} 0 1 = cc in omega arith)
  as_calls a a' (out (suc m) k e) o' h h' p p' v v' (paper.both_done products x y s t cl) = absurd (let z : ◌≡◌ {A = ℕ} 0 1 = cc in omega arith)
  as_calls a a' (out (suc m) k e) (out zero k' e') h h' p p' v v' paper.both_refused = absurd (let z : ◌≡◌ {A = ℕ} 0 1 = cc in omega arith)
  as_calls a a' (out (suc m) k e) (out (suc m') k' e') h h' p p' v v' paper.both_refused =
      let w = step_refused d a i m k e h in
      let w' = step_refused d' a' i' m' k' e' h' in
      let o : out (suc m) k e ≡ out (suc m) 0 d = cc (w.0, w.1) in
      let o' : out (suc m') k' e' ≡ out (suc m) 0 d' = cc (w'.0, w'.1) in
      subst (λ (q : Out). SameStep c i i' d d' q (out (suc m') k' e')) (sym o)
      (subst (λ (q : Out). SameStep c i i' d d' (out (suc m) 0 d) q) (sym o') both_refused)

unclashed : (d : List ℕ) → byte_at d clash_at ≡ 0 → (run_of d).state.clash ≡ none
unfolding run_of state_of
unclashed d e = rw e

same_store : (c : ℕ) (d d' : List ℕ) → SameCabinet c d d' → (run_of d).state.store c ≡ (run_of d').state.store c
unfolding run_of state_of
same_store c d d' w = λ i x. w.store x i

same_memo : (c : ℕ) (d d' : List ℕ) → SameCabinet c d d' → (run_of d).state.memo c ≡ (run_of d').state.memo c
unfolding run_of state_of
same_memo c d d' w = λ i x y. w.memo x y i

locality : (c a b i i' : ℕ) (d d' : List ℕ) → Stands c a b i d → Stands c a b i' d' → table_of d ≡ table_of d' → SameCabinet c d d'
    → SameStep c i i' d d' (step_bytes d i) (step_bytes d' i')
locality c a b i i' d d' w w' same g =
    as_calls c i i' d d' v.ready v'.ready (step_bytes d i) (step_bytes d' i') refl refl (step t (run_of d) i) (step t (run_of d') i')
    (in_paper x.file f x.accepted w.steps d x.carried i)
    (in_paper x'.file f' x'.accepted w'.steps d' x'.carried i' ∙ ap (λ (u : Table). step u (run_of d') i') tables)
    (local.locality t f.statements f'.statements (ok_of x) (subst (λ (u : Table). FileOk u f'.statements) tables (ok_of x'))
    w.steps w'.steps (run_of d) (run_of d') v.reached (subst (λ (u : Table). Reached u f'.statements w'.steps (run_of d')) tables v'.reached)
    (unclashed d w.running) (unclashed d' w'.running) i i' c a b
    (place_item d v.ready i w.below ∙ ap some w.item) (place_item d' v'.ready i' w'.below ∙ ap some w'.item)
    (same_store c d d' g) (same_memo c d d' g))
  where
    f : File
    f = w.file

    f' : File
    f' = w'.file

    t : Table
    t = f.table

    x : FromAccepted f w.steps d
    x = w.reached

    x' : FromAccepted f' w'.steps d'
    x' = w'.reached

    v : Viewed f w.steps d
    v = view x

    v' : Viewed f' w'.steps d'
    v' = view x'

    tables : f'.table ≡ t
    tables = sym v'.table ∙ sym same ∙ v.table

-- Bindings
bound : (f : File) (n : ℕ) (d : List ℕ) → FromAccepted f n d → Bound (run_of d).state (run_of d).pending
bound f n d a = bindings.one_binding f.table f.statements (ok_of a) (view a).reached

held_is_owners : (f : File) (n : ℕ) (d : List ℕ) → FromAccepted f n d → (c x v : ℕ) → mark_of d c x ≡ entry v → owner_of d x ≡ some v
unfolding run_of state_of
held_is_owners f n d a c x v e = (bound f n d a).entries c x v e

told_is_owners : (f : File) (n : ℕ) (d : List ℕ) → FromAccepted f n d → (i c x v : ℕ) → i < count_of d → item_at d i ≡ news c x v
    → owner_of d x ≡ some v
unfolding run_of state_of
told_is_owners f n d a i c x v l e =
    all_at (Tells (owner_of d)) (pending_of d) i (news c x v) (place_item d (view a).ready i l ∙ ap some e) (bound f n d a).news

-- of marks that are the owner's, one that is an entry is that entry
owners_entry : (u : ℕ) (m : Mark) → ((v : ℕ) → m ≡ entry v → v ≡ u) → is_entry u m ≡ holds m
owners_entry u nothing h = refl
owners_entry u initiated h = refl
owners_entry u (entry v) h = rw (eq-eqb v u (h v refl))

owned_news : (f : File) (n : ℕ) (d : List ℕ) → FromAccepted f n d → (x u : ℕ) → owner_of d x ≡ some u
    → pending_news x d + holders f.table.cabinets x u d ≡ f.table.cabinets
unfolding run_of state_of
owned_news f n d a x u e =
    ap (λ (k : ℕ). pending_news x d + k)
    (sum_same f.table.cabinets (λ c. is_entry u (mark_of d c x)) (λ c. holds (mark_of d c x)) (λ c l. owners_entry u (mark_of d c x) (its c)))
    ∙ bindings.owned_news_come_to_S f.table f.statements (ok_of a) (view a).reached x u e
  where
    its : (c v : ℕ) → mark_of d c x ≡ entry v → v ≡ u
    its c v m = let o : owner_of d x ≡ some v = held_is_owners f n d a c x v m in cc

unowned_news : (f : File) (n : ℕ) (d : List ℕ) → FromAccepted f n d → (x : ℕ) → owner_of d x ≡ none
    → (pending_news x d ≡ 0) × ((c v : ℕ) → mark_of d c x ≡ entry v → ⊥)
unfolding run_of state_of
unowned_news f n d a x e = bindings.unowned_has_no_news f.table f.statements (ok_of a) (view a).reached x e

owner_stays : (d : List ℕ) → Bytes d → (i k : ℕ) (e : List ℕ) → step_bytes d i ≡ out 0 k e → (x u : ℕ)
    → owner_of d x ≡ some u → owner_of e x ≡ some u
unfolding run_of state_of
owner_stays d b i k e h x u o =
    let w : Carried (table_of d) (run_of d) i k (run_of e) = (demand_2.one_rule d b i k e h).0 in
    ap (λ (r : Run). r.state.owner x) w.run ∙ bindings.owner_stays w.rule x u o

-- counts
statements_held : (f : File) (n : ℕ) (d : List ℕ) → FromAccepted f n d
    → pending_statements d ≤ most_held f.table.cabinets f.table.unknowns (length f.statements)
unfolding run_of
statements_held f n d a = counts.statements_held f.table f.statements (ok_of a) (view a).reached

held_largest : (f : File) (n : ℕ) (d : List ℕ) → FromAccepted f n d → pending_statements d ≤ 12160
unfolding run_of
held_largest f n d a = counts.statements_held_largest f.table f.statements (ok_of a) (view a).reached

-- The map program's run: each place that it takes is an accepted step
drawn_carried : (s : List ℕ) (f : File) → Accepted s f → (k x n : ℕ) (d : List ℕ) → FromFile s n d → (m : ℕ) × FromFile s m (drawn_from k x d)
unfolding drawn_from
drawn_carried s f a zero x n d h = (n, h)
drawn_carried s f a (suc k) x n d h =
    go (eqb (byte_at d clash_at) 0) (eqb (count_of d) 0) (taken_bytes d i) (taken_step d (viewed s f a h).ready i)
    (λ e w. drawn_carried s f a k (next_state x) (suc n) e w)
  where
    i : ℕ
    i = taken_place d (next_state x)

    go : (run none_left : Bool) (o : Out) → step_bytes d i ≡ o
        → ((e : List ℕ) → FromFile s (suc n) e → (m : ℕ) × FromFile s m (drawn_from k (next_state x) e))
        → (m : ℕ) × FromFile s m (pick run (pick none_left d (after_taken o d (λ e. drawn_from k (next_state x) e))) d)
    go true true o z ih = (n, h)
    go true false (out zero j e) z ih = ih e (stepped h i j z)
    go true false (out (suc m) j e) z ih = (n, h)
    go false b o z ih = (n, h)

-- the program's run views as the paper's drawn run
module _ (s : List ℕ) (f : File) (a : Accepted s f) where
  abbrev start : List ℕ
  start = loaded_bytes f

  abbrev end : List ℕ
  end = drawn_bytes start

  as_loaded_lem : LoadedAs f (file_ok s f a) start
  as_loaded_lem = loaded_as f (file_ok s f a)

  pub from_start : FromFile s 0 start
  unfolding load_bytes
  from_start =
      let e : load_bytes s start ≡ answer 0 0 start = rw (eq-eqb (length start) run_bytes as_loaded_lem.shape.long, a.read) in
      loaded start e

  start_ready : Ready start
  start_ready = (viewed s f a from_start).ready

  program_view : DrawnLeft start (drawn_run f) end
  unfolding drawn_bytes drawn_run drawn_file table_of run_of initial
  program_view =
      let p : table_of start ≡ f.table = as_loaded_lem.table in
      let q : run_of start ≡ initial f.statements = as_loaded_lem.run in
      let w = drawn_same (most_steps (byte_at start cabinets_at) (byte_at start unknowns_at) (byte_at start statements_at)) first_state start start_ready in
      record {
        table = w.table;
        run = w.run ∙ (λ i. (drawn (p i) (most_steps (p i).cabinets (p i).unknowns (q i).statements) first_state (q i)).run);
        ready = w.ready;
      }

  end_over : Over (run_of end)
  end_over = subst Over (sym program_view.run) (drawn_run_ends f (file_ok s f a)).over

  program_ends : ProgramEnds s f
  unfolding drawn_bytes
  program_ends =
      let w = drawn_carried s f a (most_steps (byte_at start cabinets_at) (byte_at start unknowns_at) (byte_at start statements_at)) first_state 0 start from_start in
      record {
        steps = w.0;
        carried = w.1;
        over = ⊎_elim (λ c. inl (view_clashed end program_view.ready c)) (λ c. inr (view_finished end c)) end_over;
      }

  program_prints : printed s ≡ printed_run f.table (run_of end) (clash_of end)
  unfolding printed run_of state_of
  program_prints =
      let r : drawn_run f ≡ run_of end = sym program_view.run in
      ap printed_read a.read ∙ (λ i. printed_run f.table (r i) (r i).state.clash)

-- what is printed of a map is a matter of its rows
rows_print : (t t' : Table) (r r' : Run) (k x : ℕ) → rows_from t r k x ≡ rows_from t' r' k x → printed_rows t r k x ≡ printed_rows t' r' k x
rows_print t t' r r' zero x e = refl
rows_print t t' r r' (suc k) x e =
    let one : map_row t r x ≡ map_row t' r' x = cc in
    let more : rows_from t r k (suc x) ≡ rows_from t' r' k (suc x) = cc in
    ap₂ (λ (w : Row) (l : List ℕ). printed_row x w ++ l) one (rows_print t t' r r' k (suc x) more)

map_print : (t t' : Table) (r r' : Run) → t.unknowns ≡ t'.unknowns → map_rows t r ≡ map_rows t' r' → printed_map t r ≡ printed_map t' r'
unfolding printed_map map_rows
map_print t t' r r' e h =
    ap₂ (λ (v : ℕ) (l : List ℕ). 105 ∷ 116 ∷ 101 ∷ 109 ∷ 115 ∷ (spaced v ++ (newline ++ l))) e
    (rows_print t t' r r' t.unknowns 0 (h ∙ ap (λ (n : ℕ). rows_from t' r' n 0) (sym e)) ∙ ap (λ (n : ℕ). printed_rows t' r' n 0) e)

same_print : (s s' : List ℕ) (f f' : File) → Accepted s f → Accepted s' f' → SameItems f.table f'.table
    → SameSet f.statements f'.statements → printed s ≡ printed s'
unfolding printed
same_print s s' f f' a a' items said =
    ap printed_read a.read
    ∙ go
    (result.one_result f.table f'.table f.statements f'.statements (file_ok s f a) (file_ok s' f' a') items said w.reached w'.reached w.over w'.over)
    ∙ sym (ap printed_read a'.read)
  where
    w : RunEnded f.table f.statements (drawn_run f)
    w = drawn_run_ends f (file_ok s f a)

    w' : RunEnded f'.table f'.statements (drawn_run f')
    w' = drawn_run_ends f' (file_ok s' f' a')

    go : OneResult f.table f'.table f.statements (drawn_run f) (drawn_run f') → printed_file f (drawn_run f) ≡ printed_file f' (drawn_run f')
    go (one.both_clash c c' k) =
        ap (printed_run f.table (drawn_run f)) c.1 ∙ sym (ap (printed_run f'.table (drawn_run f')) c'.1)
    go (one.same_map c c' k e) =
        ap (printed_run f.table (drawn_run f)) c.unclashed ∙ map_print f.table f'.table (drawn_run f) (drawn_run f') items.0 e
        ∙ sym (ap (printed_run f'.table (drawn_run f')) c'.unclashed)

-- soundness, the length and bytes are kept
reached_kept : (s : List ℕ) (f : File) → Accepted s f → {n : ℕ} {d : List ℕ} → FromFile s n d → Bytes d
reached_kept s f a (loaded before {d = d} h) =
    subst Bytes (sym (loaded_is s before d f a.end a.read h)) (loaded_bytes_lem f (file_ok s f a))
reached_kept s f a (stepped {d = d} h i k {e = e} z) = taken_kept d (reached_kept s f a h) i k e (step_taken d i k e z).is

step_sound : (d : List ℕ) → Bytes d → (i k : ℕ) (e : List ℕ) → step_bytes d i ≡ out 0 k e
    → (length e ≡ run_bytes) × (sound_bytes e ≡ true) × Bytes e
step_sound d b i k e h =
    let w = step_taken d i k e h in
    let r = ready_of d w.long w.sound b in
    let l = subst (λ (o : Out). Left d r (bytes_of d r o)) w.is (taken_left d r i) in
    (l.ready.shaped.long, ready_sound e l.ready, taken_kept d b i k e w.is)

pub sentences : Sentences
sentences =
    record {
      run_length = refl;
      run_offsets = (refl, refl, refl, refl, refl, refl, refl);
      map_length = (refl, refl, refl);
      longest = λ s f a. no_longer s a.bytes f a.end a.read;
      writer_accepts = writer_accepts;
      writer_refuses = writer_refuses;
      no_load_leaves = no_load_leaves;
      as_loaded_view = λ d b long s. as_loaded_view d long b s;
      loading_decides_nothing = loading_decides_nothing;
      products_keep_cabinet = products_keep_cabinet;
      locality = locality;
      owned_news = owned_news;
      unowned_news = unowned_news;
      held_is_owners = held_is_owners;
      told_is_owners = told_is_owners;
      owner_stays = owner_stays;
      reached_sound = λ f n d a. ((view a).ready.shaped.long, ready_sound d (view a).ready, reached_kept a.file f a.accepted a.carried);
      step_sound = step_sound;
      map_by_hand = sound_map;
      statements_held = statements_held;
      steps_largest = λ f n d a. counts.step_count_largest f.table f.statements (ok_of a) (view a).reached;
      held_largest = held_largest;
      program_ends = program_ends;
      program_prints = program_prints;
      same_print = same_print;
    }
