-- Each useless body fails its call's equation: the named input is evaluated on the paper's definitions, through the view.
use mathlib.Core.Path.{◌≡◌, refl, sym, subst, ap, ap₂, ◌∙◌}
use mathlib.Core.Logic.{◌≢◌}
use mathlib.Core.Bool.{Bool, true, ◌&&◌}
use mathlib.Core.List.{List, [], ◌∷◌, ◌++◌}
use Prim.Native.Nat.{ℕ, zero, suc, ◌<◌}
use native.Mathlib.Omega.{arith}
use borrow.Author.Tests.{eq-eqb, ltb-true}
use lib.Dec.{ltb, lit<}
use lib.ListN.{length, take, drop, length-replicate, get_or-replicate}
use Rattle.base.specs.Lists.{All}
use Rattle.base.proofs.Bytes.{byte_each}
use Rattle.base.proofs.Tests.{fst_true, snd_true}
use Rattle.paper.specs.Sizes.{longest_file}
use Rattle.paper.specs.Tables.{Table}
use Rattle.paper.specs.Runs.{Run, initial}
use Rattle.paper.specs.Steps.{refused, done, step, Listed, listed, steps}
use Rattle.paper.specs.Numbers.{got}
use Rattle.paper.specs.Files.{read_file, file_bytes, padded_file, statement_part}
use Rattle.paper.specs.Reached.{FileOk, Finished}
use Rattle.paper.specs.Maps.{map_rows}
use Rattle.paper.specs.Vectors.{clash_file, ring_file, empty_file, clash_run}
use Rattle.layout.specs.Offsets.{run_bytes, map_bytes}
use Rattle.layout.specs.Fields.{byte_at, run_of}
use Rattle.layout.specs.MapRows.{map_of}
use Rattle.layout.specs.Changes.{cleared}
use Rattle.statements.specs.Writes.{Answer, answer, written_bytes, load_bytes}
use Rattle.statements.proofs.Loaded.{loaded_as, cleared_low}
use Rattle.statements.proofs.BothWays.{loaded_written}
use Rattle.rules.specs.Bytes.{Out, out, step_bytes, steps_bytes}
use Rattle.rules.proofs.Bridge.{ready_sound, outcome_of}
use Rattle.maps.specs.Bytes.{Mapped, mapped, map_bytes_of}
use Rattle.promises.specs.FromFiles.{Accepted}
use Rattle.promises.specs.UselessBodies.{lent_run, lent_map, lent_file, two_unknowns, said, loaded_from, cleared_if_refused, file_alone, with_map, with_run, claimed, with_number, UselessBodies}
use Rattle.promises.proofs.Reaching.{file_ok, Viewed, viewed, listed_of, all_taken_same}
use Rattle.promises.proofs.Derived.{map_given}
use Rattle.promises.proofs.Alike.{view_finished, in_paper}
use Rattle.promises.proofs.Sentences.{from_start}

-- the lent buffers
run_long : length lent_run ≡ run_bytes
unfolding lent_run
run_long = length-replicate {A = ℕ} run_bytes 1

map_long : length lent_map ≡ map_bytes
unfolding lent_map
map_long = length-replicate {A = ℕ} map_bytes 1

file_long : length lent_file ≡ longest_file
unfolding lent_file
file_long = length-replicate {A = ℕ} longest_file 1

-- a file of bytes that is read to its end is accepted
small : List ℕ → Bool
small [] = true
small (b ∷ s) = ltb b 256 && small s

all_small : (s : List ℕ) → small s ≡ true → All (λ b. b < 256) s
unfolding small
all_small [] e = tt
all_small (b ∷ s) e = (ltb-true b 256 (fst_true (ltb b 256) (small s) e), all_small s (snd_true (ltb b 256) (small s) e))

accepted : (s : List ℕ) (at : ℕ) → small s ≡ true → read_file s ≡ got (said s) at → Accepted s (said s)
accepted s at e h = record { bytes = byte_each s (all_small s e); end = at; read = h }

ring_accepted : Accepted ring_file (said ring_file)
unfolding read_file small
ring_accepted = accepted ring_file 16 refl refl

clash_accepted : Accepted clash_file (said clash_file)
unfolding read_file small
clash_accepted = accepted clash_file 14 refl refl

empty_accepted : Accepted empty_file (said empty_file)
unfolding read_file small
empty_accepted = accepted empty_file 4 refl refl

two_accepted : Accepted two_unknowns (said two_unknowns)
unfolding read_file small
two_accepted = accepted two_unknowns 4 refl refl

nothing_left : Finished (initial [])
unfolding initial
nothing_left = record { unclashed = refl; empty = refl }

-- what the calls give of a loaded file, on the paper's definitions
module _ (s : List ℕ) (a : Accepted s (said s)) where
  ok : FileOk (said s).table (said s).statements
  ok = file_ok s (said s) a

  seen : Viewed (said s) 0 (loaded_from s)
  seen = viewed s (said s) a (from_start s (said s) a)

  run_is : run_of (loaded_from s) ≡ initial (said s).statements
  run_is = (loaded_as (said s) ok).run

  load_is : load_bytes s lent_run ≡ answer 0 0 (loaded_from s)
  unfolding load_bytes
  load_is = rw (eq-eqb (length lent_run) run_bytes run_long, a.read)

  step_is : (i : ℕ) → outcome_of (step_bytes (loaded_from s) i) ≡ step (said s).table (initial (said s).statements) i
  step_is i = in_paper s (said s) a 0 (loaded_from s) (from_start s (said s) a) i ∙ ap (λ (r : Run). step (said s).table r i) run_is

  list_is : (is : List ℕ) → listed_of (steps_bytes (loaded_from s) is) ≡ steps (said s).table (initial (said s).statements) 0 is
  unfolding steps_bytes
  list_is is =
      rw (eq-eqb (length (loaded_from s)) run_bytes seen.ready.shaped.long, ready_sound (loaded_from s) seen.ready)
      (all_taken_same is 0 (loaded_from s) seen.ready ∙ ap₂ (λ (t : Table) (r : Run). steps t r 0 is) seen.table run_is)

  map_is : (said s).statements ≡ [] → map_bytes_of (loaded_from s) lent_map ≡ mapped 0 (map_of (said s).table (initial []))
  map_is e =
      let r : run_of (loaded_from s) ≡ initial [] = run_is ∙ ap initial e in
      map_given (loaded_from s) seen.ready (view_finished (loaded_from s) (subst Finished (sym r) nothing_left)) lent_map map_long
      ∙ ap₂ (λ (t : Table) (q : Run). mapped 0 (map_of t q)) seen.table r

-- the clash file after one place and after two, and the two maps, evaluated
one_place : step (said clash_file).table (initial (said clash_file).statements) 0 ≡ done 7 (clash_run (0 ∷ []))
unfolding read_file step initial
one_place = refl

two_places : steps (said clash_file).table (initial (said clash_file).statements) 0 (0 ∷ 0 ∷ []) ≡ listed 0 2 (clash_run (0 ∷ 0 ∷ []))
unfolding read_file steps initial
two_places = refl

no_places : steps (said clash_file).table (initial (said clash_file).statements) 0 [] ≡ listed 0 0 (initial (said clash_file).statements)
unfolding steps
no_places = refl

held_at_first : length (initial (said clash_file).statements).pending ≡ 2
unfolding read_file initial
held_at_first = refl

held_after_one : length (clash_run (0 ∷ [])).pending ≡ 3
unfolding read_file step initial
held_after_one = refl

held_after_two : length (clash_run (0 ∷ 0 ∷ [])).pending ≡ 4
unfolding read_file step initial
held_after_two = refl

no_statements : ((said empty_file).statements ≡ []) × ((said two_unknowns).statements ≡ [])
unfolding read_file
no_statements = (refl, refl)

map_of_none : byte_at (map_of (said empty_file).table (initial [])) 11 ≡ 0
unfolding read_file map_of map_rows initial
map_of_none = refl

map_of_two : byte_at (map_of (said two_unknowns).table (initial [])) 11 ≡ 1
unfolding read_file map_of map_rows initial
map_of_two = refl

first_statement : statement_part ring_file 0 ≡ 0 ∷ 0 ∷ 2 ∷ []
unfolding statement_part
first_statement = refl

-- the ring file is written in 16 bytes: the next is 0 if zeros are written, and 1 if not
ring_length : length (file_bytes (said ring_file)) ≡ 16
unfolding read_file file_bytes
ring_length = refl

zero_written : byte_at (padded_file (said ring_file)) 16 ≡ 0
unfolding read_file padded_file
zero_written = refl

one_stays : byte_at (take 16 (padded_file (said ring_file)) ++ drop 16 lent_file) 16 ≡ 1
unfolding read_file padded_file lent_file
one_stays = refl

lent_byte : byte_at lent_run 0 ≡ 1
unfolding lent_run
lent_byte = get_or-replicate {A = ℕ} run_bytes 0 1 0 (lit< tt)

-- the file that has no byte
nothing_read : load_bytes [] lent_run ≡ answer 1 0 lent_run
unfolding load_bytes
nothing_read = rw (eq-eqb (length lent_run) run_bytes run_long)

abbrev ring : List ℕ
ring = loaded_from ring_file

abbrev clash : List ℕ
clash = loaded_from clash_file

ring_written : written_bytes ring lent_file ≡ answer 0 (length (file_bytes (said ring_file))) (padded_file (said ring_file))
ring_written = loaded_written (said ring_file) (ok ring_file ring_accepted) lent_file file_long

number_of : Answer → ℕ
number_of (answer k p d) = k

bytes_in : Answer → List ℕ
bytes_in (answer k p d) = d

-- always refusing
refuses_to_load_fails : (k : ℕ) → answer (suc k) 0 lent_run ≢ load_bytes ring_file lent_run
unfolding number_of
refuses_to_load_fails k e = let z : suc k ≡ 0 = ap number_of (e ∙ load_is ring_file ring_accepted) in omega arith

refuses_to_write_fails : (k : ℕ) → answer (suc k) 0 lent_file ≢ written_bytes ring lent_file
unfolding number_of
refuses_to_write_fails k e = let z : suc k ≡ 0 = ap number_of (e ∙ ring_written) in omega arith

refused_done : {A : Type 0} (k j : ℕ) (r : Run) → refused k ≡ done j r → A
refused_done k j r e = absurd (let z : ◌≡◌ {A = ℕ} 0 1 = cc in omega arith)

refuses_to_step_fails : (k : ℕ) → out (suc k) 0 clash ≢ step_bytes clash 0
refuses_to_step_fails k e = refused_done (suc k) 7 (clash_run (0 ∷ [])) (ap outcome_of e ∙ step_is clash_file clash_accepted 0 ∙ one_place)

-- two places of the clash file are two steps done
listed_two : listed_of (steps_bytes clash (0 ∷ 0 ∷ [])) ≡ listed 0 2 (clash_run (0 ∷ 0 ∷ []))
listed_two = list_is clash_file clash_accepted (0 ∷ 0 ∷ []) ∙ two_places

number_in : Listed → ℕ
number_in (listed k n r) = k

done_in : Listed → ℕ
done_in (listed k n r) = n

held_in : Listed → ℕ
held_in (listed k n r) = length r.pending

refuses_to_list_fails : (k : ℕ) → out (suc k) 0 clash ≢ steps_bytes clash (0 ∷ 0 ∷ [])
unfolding number_in
refuses_to_list_fails k e = let z : suc k ≡ 0 = ap number_in (ap listed_of e ∙ listed_two) in omega arith

map_number_of : Mapped → ℕ
map_number_of (mapped k m) = k

map_in : Mapped → List ℕ
map_in (mapped k m) = m

none_mapped : map_bytes_of (loaded_from empty_file) lent_map ≡ mapped 0 (map_of (said empty_file).table (initial []))
none_mapped = map_is empty_file empty_accepted no_statements.0

two_mapped : map_bytes_of (loaded_from two_unknowns) lent_map ≡ mapped 0 (map_of (said two_unknowns).table (initial []))
two_mapped = map_is two_unknowns two_accepted no_statements.1

refuses_to_map_fails : (k : ℕ) → mapped (suc k) lent_map ≢ map_bytes_of (loaded_from empty_file) lent_map
unfolding map_number_of
refuses_to_map_fails k e = let z : suc k ≡ 0 = ap map_number_of (e ∙ none_mapped) in omega arith

gives_no_statement_fails : [] ≢ statement_part ring_file 0
gives_no_statement_fails e = let z : ◌≡◌ {A = ℕ} 0 3 = ap length (e ∙ first_statement) in omega arith

-- loading
accepts_every_file_fails : answer 0 0 lent_run ≢ load_bytes [] lent_run
unfolding number_of
accepts_every_file_fails e = let z : ◌≡◌ {A = ℕ} 0 1 = ap number_of (e ∙ nothing_read) in omega arith

clears_on_refusal_fails : cleared_if_refused (load_bytes [] lent_run) ≢ load_bytes [] lent_run
unfolding bytes_in
clears_on_refusal_fails e =
    let z : byte_at cleared 0 ≡ byte_at lent_run 0 = ap (λ (w : Answer). byte_at (bytes_in w) 0) (sym (ap cleared_if_refused nothing_read) ∙ e ∙ nothing_read) in
    omega (arith, cleared_low 0 (lit< tt), lent_byte)

-- writing
writes_no_zeros_fails : file_alone lent_file (written_bytes ring lent_file) ≢ written_bytes ring lent_file
unfolding bytes_in
writes_no_zeros_fails e =
    let w : written_bytes ring lent_file ≡ answer 0 16 (padded_file (said ring_file)) =
    ring_written ∙ ap (λ (n : ℕ). answer 0 n (padded_file (said ring_file))) ring_length in
    let z : byte_at (take 16 (padded_file (said ring_file)) ++ drop 16 lent_file) 16 ≡ byte_at (padded_file (said ring_file)) 16 =
    ap (λ (a : Answer). byte_at (bytes_in a) 16) (sym (ap (file_alone lent_file) w) ∙ e ∙ w) in
    omega (arith, one_stays, zero_written)

-- a constant map is the map of no unknowns, and the map of two
constant_map_fails : (c : List ℕ) → with_map c (map_bytes_of (loaded_from empty_file) lent_map) ≡ map_bytes_of (loaded_from empty_file) lent_map
    → with_map c (map_bytes_of (loaded_from two_unknowns) lent_map) ≢ map_bytes_of (loaded_from two_unknowns) lent_map
unfolding map_in
constant_map_fails c e e' =
    let x : byte_at c 11 ≡ byte_at (map_of (said empty_file).table (initial [])) 11 =
    ap (λ (w : Mapped). byte_at (map_in w) 11) (sym (ap (with_map c) none_mapped) ∙ e ∙ none_mapped) in
    let y : byte_at c 11 ≡ byte_at (map_of (said two_unknowns).table (initial [])) 11 =
    ap (λ (w : Mapped). byte_at (map_in w) 11) (sym (ap (with_map c) two_mapped) ∙ e' ∙ two_mapped) in
    omega (arith, map_of_none, map_of_two)

-- a step that is done leaves the run that the paper's does
done_run : (o : Out) (k : ℕ) (r : Run) → outcome_of o ≡ done k r → (e : List ℕ) × (o ≡ out 0 k e) × (run_of e ≡ r)
done_run (out zero j e) k r z = (e, cc, cc)
done_run (out (suc m) j e) k r z = refused_done (suc m) k r z

stepped_one : (e : List ℕ) × (step_bytes clash 0 ≡ out 0 7 e) × (run_of e ≡ clash_run (0 ∷ []))
stepped_one = done_run (step_bytes clash 0) 7 (clash_run (0 ∷ [])) (step_is clash_file clash_accepted 0 ∙ one_place)

held_then : length (run_of clash).pending ≡ 2
held_then = ap (λ (r : Run). length r.pending) (run_is clash_file clash_accepted) ∙ held_at_first

held_now : length (run_of stepped_one.0).pending ≡ 3
held_now = ap (λ (r : Run). length r.pending) stepped_one.2 ∙ held_after_one

leaves_the_run_fails : with_run clash (step_bytes clash 0) ≢ step_bytes clash 0
unfolding held_in
leaves_the_run_fails e =
    let w : step_bytes clash 0 ≡ out 0 7 stepped_one.0 = stepped_one.1 in
    let z : length (run_of clash).pending ≡ length (run_of stepped_one.0).pending =
    ap (λ (o : Out). held_in (listed_of o)) (sym (ap (with_run clash) w) ∙ e ∙ w) in
    omega (arith, held_then, held_now)

-- a list
first_place_only_fails : claimed 1 (step_bytes clash 0) ≢ steps_bytes clash (0 ∷ 0 ∷ [])
unfolding held_in
first_place_only_fails e =
    let z : length (run_of stepped_one.0).pending ≡ length (clash_run (0 ∷ 0 ∷ [])).pending =
    ap held_in (ap (λ (o : Out). listed_of (claimed 1 o)) (sym stepped_one.1) ∙ ap listed_of e ∙ listed_two) in
    omega (arith, held_now, held_after_two)

number_given : (m : ℕ) (o : Out) → done_in (listed_of (with_number m o)) ≡ m
unfolding done_in
number_given m (out k n e) = refl

invented_number_fails : (m : ℕ) → with_number m (steps_bytes clash []) ≡ steps_bytes clash []
    → with_number m (steps_bytes clash (0 ∷ 0 ∷ [])) ≢ steps_bytes clash (0 ∷ 0 ∷ [])
unfolding done_in
invented_number_fails m e e' =
    let x : m ≡ 0 =
    sym (number_given m (steps_bytes clash [])) ∙ ap done_in (ap listed_of e ∙ list_is clash_file clash_accepted [] ∙ no_places) in
    let y : m ≡ 2 = sym (number_given m (steps_bytes clash (0 ∷ 0 ∷ []))) ∙ ap done_in (ap listed_of e' ∙ listed_two) in
    omega arith

pub useless_bodies : UselessBodies
useless_bodies =
    record {
      refuses_to_load_fails = refuses_to_load_fails;
      refuses_to_step_fails = refuses_to_step_fails;
      refuses_to_list_fails = refuses_to_list_fails;
      refuses_to_map_fails = refuses_to_map_fails;
      refuses_to_write_fails = refuses_to_write_fails;
      gives_no_statement_fails = gives_no_statement_fails;
      accepts_every_file_fails = accepts_every_file_fails;
      clears_on_refusal_fails = clears_on_refusal_fails;
      writes_no_zeros_fails = writes_no_zeros_fails;
      constant_map_fails = constant_map_fails;
      leaves_the_run_fails = leaves_the_run_fails;
      first_place_only_fails = first_place_only_fails;
      invented_number_fails = invented_number_fails;
    }
