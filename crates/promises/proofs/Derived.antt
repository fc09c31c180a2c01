-- Demand 2: each step is one published rule; a finished map is the statements' own; reading and writing undo each other.
use mathlib.Core.Path.{◌≡◌, refl, sym, subst, ap, ap₂, ◌∙◌}
use mathlib.Core.Logic.{◌↔◌}
use mathlib.Core.Bool.{Bool, true, false, ◌&&◌}
use mathlib.Core.List.{List, [], ◌∷◌, ◌++◌}
use mathlib.Core.Option.{some}
use Prim.Native.Nat.{ℕ, zero, suc, ◌+◌, ◌-◌, ◌*◌, ◌≤◌}
use native.Mathlib.Omega.{arith}
use borrow.Author.Tests.{eqb-true, eq-eqb}
use lib.Dec.{eqb}
use lib.ListN.{length, take, get_elem?, replicate}
use Rattle.base.specs.Choice.{pick}
use Rattle.paper.specs.Sizes.{longest_file}
use Rattle.paper.specs.Tables.{Table}
use Rattle.paper.specs.Runs.{Statement, Run}
use Rattle.paper.specs.Rules.{Carried}
use Rattle.paper.specs.Steps.{done, step}
use Rattle.paper.specs.Numbers.{Read, got, fault}
use Rattle.paper.specs.Files.{File, read_file, file_bytes, padded_file, each}
use Rattle.paper.specs.Reached.{Finished}
use Rattle.paper.specs.Maps.{Row, IsRow, map_row, rows_from, map_rows}
use Rattle.paper.proofs.StepIsRule.{done_is_rule, one_rule as only_rule}
use Rattle.paper.proofs.Refusals.{unclashed}
use Rattle.paper.proofs.RoundTrip.{read_written}
use Rattle.paper.proofs.NotZero.{refusal_not_zero}
use Rattle.paper.proofs.OneResult.{map_is_the_statements}
use Rattle.layout.specs.Offsets.{clash_at, row_bytes, run_bytes, map_bytes}
use Rattle.layout.specs.Fields.{byte_at, count_of, items_from, table_of, state_of, run_of}
use Rattle.layout.specs.Soundness.{sound_bytes}
use Rattle.layout.specs.MapRows.{bytes_of_row, map_of}
use Rattle.statements.specs.Writes.{answer, as_loaded, file_of, written_bytes, loaded_read, load_bytes}
use Rattle.statements.proofs.BothWays.{loaded_written, loads_back, written_loads}
use Rattle.rules.specs.Bytes.{Out, out, step_bytes}
use Rattle.rules.proofs.Bridge.{Ready, ready_sound, outcome_of, bridge, Left, bytes_of, taken_left}
use Rattle.maps.specs.Bytes.{mapped, drawn_map, map_bytes_of}
use Rattle.promises.specs.FromFiles.{Bytes, Accepted, FromFile, NothingPending, IsMap}
use Rattle.promises.specs.Demands.{Demand2}
use Rattle.promises.proofs.Reaching.{ready_of, step_taken, file_ok, loaded_is, viewed, list_is_steps}

one_rule : (d : List ℕ) → Bytes d → (i k : ℕ) (e : List ℕ) → step_bytes d i ≡ out 0 k e
    → Carried (table_of d) (run_of d) i k (run_of e) × (table_of e ≡ table_of d) × (sound_bytes e ≡ true)
one_rule d b i k e h =
    let w = step_taken d i k e h in
    let r = ready_of d w.long w.sound b in
    let s : step (table_of d) (run_of d) i ≡ done k (run_of e) = sym (bridge d r i) ∙ ap outcome_of w.is in
    let l = subst (λ (o : Out). Left d r (bytes_of d r o)) w.is (taken_left d r i) in
    ((done_is_rule (table_of d) (run_of d) r.sound (unclashed (table_of d) (run_of d) i k (run_of e) s) i k (run_of e) s).0, l.table, ready_sound e l.ready)

-- bytes with nothing pending view as a finished run
pub finished_view : (d : List ℕ) → NothingPending d → Finished (run_of d)
unfolding run_of state_of
finished_view d p =
    record { unclashed = rw p.running; empty = ap (λ (n : ℕ). items_from d n 0) p.empty }

-- the map call on such bytes, when they are sound
pub sound_map : (d : List ℕ) → length d ≡ run_bytes → sound_bytes d ≡ true → NothingPending d → (lent : List ℕ) → length lent ≡ map_bytes
    → map_bytes_of d lent ≡ mapped 0 (map_of (table_of d) (run_of d))
unfolding map_bytes_of drawn_map
sound_map d long s p lent l =
    rw (
      eq-eqb (length d) run_bytes long,
      eq-eqb (length lent) map_bytes l,
      s,
      eq-eqb (byte_at d clash_at) 0 p.running,
      eq-eqb (count_of d) 0 p.empty,
    )

pub map_given : (d : List ℕ) → Ready d → NothingPending d → (lent : List ℕ) → length lent ≡ map_bytes → map_bytes_of d lent ≡ mapped 0 (map_of (table_of d) (run_of d))
map_given d r p lent l = sound_map d r.shaped.long (ready_sound d r) p lent l

-- the rows of a finished run are the statements', one by one
module _ (t : Table) (qs : List Statement) (r : Run) (is : (x : ℕ) (w : Row) → IsRow t qs x w ↔ (w ≡ map_row t r x)) where
  rows_length : (k x : ℕ) → length (rows_from t r k x) ≡ k
  rows_length zero x = refl
  rows_length (suc k) x = ap suc (rows_length k (suc x))

  rows_are : (k x y : ℕ) (w : Row) → get_elem? (rows_from t r k x) y ≡ some w → IsRow t qs (x + y) w
  rows_are zero x y w e = absurd (let z : ◌≡◌ {A = ℕ} 0 1 = cc in omega arith)
  rows_are (suc k) x zero w e =
      subst (λ (n : ℕ). IsRow t qs n w) (omega arith) ((is x w).1 (let d : map_row t r x ≡ w = cc in sym d))
  rows_are (suc k) x (suc y) w e = subst (λ (n : ℕ). IsRow t qs n w) (omega arith) (rows_are k (suc x) y w e)

  rows_only : (l : List Row) (x : ℕ) → ((y : ℕ) (w : Row) → get_elem? l y ≡ some w → IsRow t qs (x + y) w) → l ≡ rows_from t r (length l) x
  rows_only [] x h = refl
  rows_only (w ∷ l) x h =
      ap₂ (λ (a : Row) (m : List Row). a ∷ m) ((is x w).0 (subst (λ (n : ℕ). IsRow t qs n w) (omega arith) (h 0 w refl)))
      (rows_only l (suc x) (λ y v e. subst (λ (n : ℕ). IsRow t qs n v) (omega arith) (h (suc y) v e)))

  map_in : IsMap t qs (map_of t r)
  unfolding map_of map_rows
  map_in =
      record {
        rows = rows_from t r t.unknowns 0;
        many = rows_length t.unknowns 0;
        are = λ x w e. subst (λ (n : ℕ). IsRow t qs n w) (omega arith) (rows_are t.unknowns 0 x w e);
        bytes = refl;
      }

  map_only : (m : List ℕ) → IsMap t qs m → m ≡ map_of t r
  unfolding map_of map_rows
  map_only m w =
      w.bytes
      ∙ ap (λ (l : List Row). each bytes_of_row l ++ replicate (map_bytes - row_bytes * t.unknowns) 0)
      (rows_only w.rows 0 (λ y v e. subst (λ (n : ℕ). IsRow t qs n v) (omega arith) (w.are y v e)) ∙ ap (λ (n : ℕ). rows_from t r n 0) w.many)

finished_map : (s : List ℕ) (f : File) → Accepted s f → (n : ℕ) (d : List ℕ) → FromFile s n d → NothingPending d
    → (lent m : List ℕ) → length lent ≡ map_bytes → (map_bytes_of d lent ≡ mapped 0 m) ↔ IsMap f.table f.statements m
finished_map s f a n d h p lent m l =
    let v = viewed s f a h in
    let t = f.table in
    let is = map_is_the_statements t f.statements (file_ok s f a) n (run_of d) v.reached (finished_view d p) in
    let g : map_bytes_of d lent ≡ mapped 0 (map_of t (run_of d)) = map_given d v.ready p lent l ∙ ap (λ (u : Table). mapped 0 (map_of u (run_of d))) v.table in (
      λ e. let w : map_of t (run_of d) ≡ m = let x = sym g ∙ e in cc in subst (IsMap t f.statements) w (map_in t f.statements (run_of d) is),
      λ w. g ∙ ap (mapped 0) (sym (map_only t f.statements (run_of d) is m w)),
    )

take_whole : (x y : List ℕ) → take (length x) (x ++ y) ≡ x
take_whole [] y = refl
take_whole (a ∷ x) y = ap (λ (l : List ℕ). a ∷ l) (take_whole x y)

-- what an accepted load and an accepted write say
pub load_accepted : (s before d : List ℕ) → load_bytes s before ≡ answer 0 0 d → (f : File) × (at : ℕ) × (read_file s ≡ got f at)
unfolding load_bytes
load_accepted s before d h = go (eqb (length before) run_bytes) (read_file s) refl h
  where
    go : (b : Bool) (x : Read File) → read_file s ≡ x → pick b (loaded_read before x) (answer 12 0 before) ≡ answer 0 0 d
        → (f : File) × (at : ℕ) × (read_file s ≡ got f at)
    go true (got f at) e z = (f, at, e)
    go true (fault k p) e z =
        let w : k ≡ 0 = cc in let l : 1 ≤ k = refusal_not_zero s k p e in absurd (omega arith)
    go false x e z = absurd (let w : ◌≡◌ {A = ℕ} 12 0 = cc in omega arith)

record Wrote (d : List ℕ) (n : ℕ) (m : List ℕ) : Type 0 where
  long : length d ≡ run_bytes
  sound : sound_bytes d ≡ true
  loaded : as_loaded d ≡ true
  size : n ≡ length (file_bytes (file_of d))
  bytes : m ≡ padded_file (file_of d)

write_accepted : (d lent : List ℕ) (n : ℕ) (m : List ℕ) → written_bytes d lent ≡ answer 0 n m → Wrote d n m
unfolding written_bytes
write_accepted d lent n m h = go (eqb (length d) run_bytes) refl (eqb (length lent) longest_file) (sound_bytes d) refl (as_loaded d) refl h
  where
    go : (a : Bool) → eqb (length d) run_bytes ≡ a → (c : Bool) (y : Bool) → sound_bytes d ≡ y → (z : Bool) → as_loaded d ≡ z
        → pick (a && c) (pick y (pick z (answer 0 (length (file_bytes (file_of d))) (padded_file (file_of d))) (answer 19 0 lent)) (answer 17 0 lent)) (answer 12 0 lent)
        ≡ answer 0 n m → Wrote d n m
    go true a true true y true z w = record { long = eqb-true (length d) run_bytes a; sound = y; loaded = z; size = cc; bytes = cc }
    go true a true true y false z w = absurd (let v : ◌≡◌ {A = ℕ} 19 0 = cc in omega arith)
    go true a true false y z x w = absurd (let v : ◌≡◌ {A = ℕ} 17 0 = cc in omega arith)
    go true a false s y z x w = absurd (let v : ◌≡◌ {A = ℕ} 12 0 = cc in omega arith)
    go false a c s y z x w = absurd (let v : ◌≡◌ {A = ℕ} 12 0 = cc in omega arith)

read_then_written : (s : List ℕ) → Bytes s → (before d : List ℕ) → load_bytes s before ≡ answer 0 0 d → (lent : List ℕ)
    → length lent ≡ longest_file → written_bytes d lent ≡ answer 0 (length s) (s ++ replicate (longest_file - length s) 0)
unfolding padded_file
read_then_written s b before d h lent l =
    let g = load_accepted s before d h in
    let f = g.0 in
    let a : Accepted s f = record { bytes = b; end = g.1; read = g.2 } in
    let e : file_bytes f ≡ s = sym (read_written s b f g.1 g.2).bytes in
    ap (λ (u : List ℕ). written_bytes u lent) (loaded_is s before d f g.1 g.2 h)
    ∙ loaded_written f (file_ok s f a) lent l
    ∙ ap (λ (x : List ℕ). answer 0 (length x) (x ++ replicate (longest_file - length x) 0)) e

written_then_read : (d : List ℕ) → Bytes d → (lent : List ℕ) (n : ℕ) (m : List ℕ) → written_bytes d lent ≡ answer 0 n m
    → (before : List ℕ) → length before ≡ run_bytes → load_bytes (take n m) before ≡ answer 0 0 d
unfolding load_bytes padded_file
written_then_read d b lent n m h before k =
    let w = write_accepted d lent n m h in
    let x = file_bytes (file_of d) in
    let t : take n m ≡ x =
    ap₂ (λ (c : ℕ) (u : List ℕ). take c u) w.size w.bytes ∙ take_whole x (replicate (longest_file - length x) 0) in
    rw (t, eq-eqb (length before) run_bytes k, written_loads d w.long b w.sound w.loaded)
    (ap (answer 0 0) (loads_back d w.long b w.sound w.loaded))

no_other_rule : (d : List ℕ) → Bytes d → (i k : ℕ) (e : List ℕ) → step_bytes d i ≡ out 0 k e → (j : ℕ) (r : Run)
    → Carried (table_of d) (run_of d) i j r → (j ≡ k) × (r ≡ run_of e)
no_other_rule d b i k e h j r c =
    let w = step_taken d i k e h in
    let y = ready_of d w.long w.sound b in
    let s : step (table_of d) (run_of d) i ≡ done k (run_of e) = sym (bridge d y i) ∙ ap outcome_of w.is in
    only_rule (table_of d) (run_of d) y.sound (unclashed (table_of d) (run_of d) i k (run_of e) s) i j k r (run_of e) c (one_rule d b i k e h).0

pub demand_2 : Demand2
demand_2 =
    record {
      one_rule = one_rule;
      no_other_rule = no_other_rule;
      list_is_steps = list_is_steps;
      finished_map = finished_map;
      read_then_written = read_then_written;
      written_then_read = written_then_read;
    }
