-- "Try these useless bodies": each is written as the definition of its call is, and differs from it at a named input, so that no
-- function with that body meets the call's contract. proofs/UselessBodies proves it.
use Rattle.std.specs.Prelude.{◌≡◌, ◌≢◌, List, [], ◌∷◌, ◌++◌, ℕ, zero, suc, length, take, drop, replicate}
use Rattle.paper.specs.Sizes.{longest_file}
use Rattle.paper.specs.Files.{File, read_file, statement_part}
use Rattle.paper.specs.Vectors as vectors
use Rattle.paper.specs.Vectors.{clash_file, ring_file, empty_file}
use Rattle.layout.specs.Offsets.{run_bytes, map_bytes}
use Rattle.layout.specs.Changes.{cleared}
use Rattle.statements.specs.Loads.{loaded_bytes}
use Rattle.statements.specs.Writes.{Answer, answer, written_bytes, load_bytes}
use Rattle.rules.specs.Bytes.{Out, out, step_bytes, steps_bytes}
use Rattle.maps.specs.Bytes.{Mapped, mapped, map_bytes_of}

-- The named inputs. Buffers of the right length, which hold 1 everywhere:
unfoldable pub lent_run : List ℕ
lent_run = replicate run_bytes 1

unfoldable pub lent_map : List ℕ
lent_map = replicate map_bytes 1

unfoldable pub lent_file : List ℕ
lent_file = replicate longest_file 1

-- a file of two unknowns and no statement, beside the bench sheet's clash file, ring file and empty file (`01 00 00 00`)
abbrev pub two_unknowns : List ℕ
two_unknowns = 0x01 ∷ 0x02 ∷ 0x00 ∷ 0x00 ∷ []

-- what a file says, and the run that loading it leaves
abbrev pub said : List ℕ → File
said s = vectors.file_of (read_file s)

abbrev pub loaded_from : List ℕ → List ℕ
loaded_from s = loaded_bytes (said s)

-- "always refusing", by whatever number
abbrev pub refuses_to_load : ℕ → List ℕ → List ℕ → Answer
refuses_to_load k s d = answer (suc k) 0 d

abbrev pub refuses_to_step : ℕ → List ℕ → ℕ → Out
refuses_to_step k d i = out (suc k) 0 d

abbrev pub refuses_to_list : ℕ → List ℕ → List ℕ → Out
refuses_to_list k d is = out (suc k) 0 d

abbrev pub refuses_to_map : ℕ → List ℕ → List ℕ → Mapped
refuses_to_map k d m = mapped (suc k) m

abbrev pub refuses_to_write : ℕ → List ℕ → List ℕ → Answer
refuses_to_write k d m = answer (suc k) 0 m

abbrev pub gives_no_statement : List ℕ → ℕ → List ℕ
gives_no_statement s n = []

-- always accepting: nothing is read
abbrev pub accepts_every_file : List ℕ → List ℕ → Answer
accepts_every_file s d = answer 0 0 d

-- the right answer, but a refusal clears the run
abbrev pub cleared_if_refused : Answer → Answer
cleared_if_refused (answer zero p e) = answer 0 p e
cleared_if_refused (answer (suc k) p e) = answer (suc k) p cleared

abbrev pub clears_on_refusal : List ℕ → List ℕ → Answer
clears_on_refusal s d = cleared_if_refused (load_bytes s d)

-- the right answer, but what stood after the file's bytes stays: no zeros
abbrev pub file_alone : List ℕ → Answer → Answer
file_alone m (answer zero n e) = answer 0 n (take n e ++ drop n m)
file_alone m (answer (suc k) n e) = answer (suc k) n e

abbrev pub writes_no_zeros : List ℕ → List ℕ → Answer
writes_no_zeros d m = file_alone m (written_bytes d m)

-- "one constant map": refused as it must be, else c
abbrev pub with_map : List ℕ → Mapped → Mapped
with_map c (mapped zero m) = mapped 0 c
with_map c (mapped (suc k) m) = mapped (suc k) m

abbrev pub constant_map : List ℕ → List ℕ → List ℕ → Mapped
constant_map c d m = with_map c (map_bytes_of d m)

-- "a step that leaves the run as it is": the right number and rule
abbrev pub with_run : List ℕ → Out → Out
with_run d (out k n e) = out k n d

abbrev pub leaves_the_run : List ℕ → ℕ → Out
leaves_the_run d i = with_run d (step_bytes d i)

-- "a list that carries out its first place and claims the rest": n more
abbrev pub claimed : ℕ → Out → Out
claimed n (out zero k e) = out 0 (suc n) e
claimed n (out (suc m) k e) = out (suc m) 0 e

abbrev pub first_place_only : List ℕ → List ℕ → Out
first_place_only d [] = steps_bytes d []
first_place_only d (i ∷ is) = claimed (length is) (step_bytes d i)

-- "or gives an invented number done": the right run, and m
abbrev pub with_number : ℕ → Out → Out
with_number m (out k n e) = out k m e

abbrev pub invented_number : ℕ → List ℕ → List ℕ → Out
invented_number m d is = with_number m (steps_bytes d is)

-- each fails
pub record UselessBodies : Type 0 where
  -- "always refusing"
  pub refuses_to_load_fails : (k : ℕ) → refuses_to_load k ring_file lent_run ≢ load_bytes ring_file lent_run
  pub refuses_to_step_fails : (k : ℕ) → refuses_to_step k (loaded_from clash_file) 0 ≢ step_bytes (loaded_from clash_file) 0
  pub refuses_to_list_fails : (k : ℕ) → refuses_to_list k (loaded_from clash_file) (0 ∷ 0 ∷ []) ≢ steps_bytes (loaded_from clash_file) (0 ∷ 0 ∷ [])
  pub refuses_to_map_fails : (k : ℕ) → refuses_to_map k (loaded_from empty_file) lent_map ≢ map_bytes_of (loaded_from empty_file) lent_map
  pub refuses_to_write_fails : (k : ℕ) → refuses_to_write k (loaded_from ring_file) lent_file ≢ written_bytes (loaded_from ring_file) lent_file
  pub gives_no_statement_fails : gives_no_statement ring_file 0 ≢ statement_part ring_file 0
  -- loading: the file that has no byte is refused, and leaves what was lent
  pub accepts_every_file_fails : accepts_every_file [] lent_run ≢ load_bytes [] lent_run
  pub clears_on_refusal_fails : clears_on_refusal [] lent_run ≢ load_bytes [] lent_run
  -- writing: "the file, then zeros"
  pub writes_no_zeros_fails : writes_no_zeros (loaded_from ring_file) lent_file ≢ written_bytes (loaded_from ring_file) lent_file
  -- "one constant map": if it is right for the file of no unknowns, it is wrong for two open unknowns
  pub constant_map_fails : (c : List ℕ) → constant_map c (loaded_from empty_file) lent_map ≡ map_bytes_of (loaded_from empty_file) lent_map
      → constant_map c (loaded_from two_unknowns) lent_map ≢ map_bytes_of (loaded_from two_unknowns) lent_map
  -- "a step that leaves the run as it is"
  pub leaves_the_run_fails : leaves_the_run (loaded_from clash_file) 0 ≢ step_bytes (loaded_from clash_file) 0
  -- "a list that carries out its first place and claims the rest,"
  pub first_place_only_fails : first_place_only (loaded_from clash_file) (0 ∷ 0 ∷ []) ≢ steps_bytes (loaded_from clash_file) (0 ∷ 0 ∷ [])
  -- "or gives an invented number done": if it is right for an empty list, it is wrong for two places
  pub invented_number_fails : (m : ℕ) → invented_number m (loaded_from clash_file) [] ≡ steps_bytes (loaded_from clash_file) []
      → invented_number m (loaded_from clash_file) (0 ∷ 0 ∷ []) ≢ steps_bytes (loaded_from clash_file) (0 ∷ 0 ∷ [])
