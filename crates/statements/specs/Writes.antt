-- What writing takes from a run's bytes: when a sound run is as loaded, the file that it is, and what the call leaves.
use Rattle.std.specs.Prelude.{Bool, ◌&&◌, List, ℕ, ◌+◌, ◌-◌, Result, Ok, Err, eqb, length}
use Rattle.base.specs.Choice.{pick, all_below}
use Rattle.base.specs.Lists.{list_from}
use Rattle.paper.specs.Sizes.{longest_file}
use Rattle.paper.specs.Refusals.{wrong_length, not_sound, not_as_loaded, refusal_number}
use Rattle.paper.specs.declared.refused.Refusal.{Refusal}
use Rattle.paper.specs.declared.refused.Fault.{Fault}
use Rattle.paper.specs.Numbers.{Read, got, fault}
use Rattle.paper.specs.Runs.{Statement}
use Rattle.paper.specs.Files.{File, file_bytes, padded_file, read_file}
use Rattle.layout.specs.Offsets.{clash_at, statements_at, owners_at, memos_at, pending_at, run_bytes, item_from}
use Rattle.layout.specs.Fields.{byte_at, count_of, table_of}
use Rattle.layout.specs.Soundness.{all_are, sound_bytes}
use Rattle.statements.specs.Loads.{loaded_bytes}

-- the item at place p is a statement
abbrev pub is_statement : List ℕ → ℕ → Bool
is_statement d p = eqb (byte_at d (item_from p)) 1

-- the first n items are statements
unfoldable pub all_statements : ℕ → List ℕ → Bool
all_statements n d = all_below n (is_statement d)

-- "as loading some file leaves it": running, every mark 255, every memo byte 0, and as pending items E statements
unfoldable pub as_loaded : List ℕ → Bool
as_loaded d =
    eqb (byte_at d clash_at) 0
    && (eqb (count_of d) (byte_at d statements_at)
    && (all_are 255 (memos_at - owners_at) owners_at d && (all_are 0 (pending_at - memos_at) memos_at d && all_statements (byte_at d statements_at) d)))

-- the statement at a place
abbrev pub statement_at : List ℕ → ℕ → Statement
statement_at d p = record { cabinet = byte_at d (item_from p + 1); left = byte_at d (item_from p + 2); right = byte_at d (item_from p + 3) }

-- the file that an as-loaded run is
unfoldable pub file_of : List ℕ → File
file_of d = record { table = table_of d; statements = list_from (statement_at d) (byte_at d statements_at) 0 }

-- number (0 for done, else the refusal), position or length, and the bytes of the lent buffer
pub data Answer : Type 0 where
  answer : ℕ → ℕ → List ℕ → Answer

-- a writer's result as its answer
abbrev pub write_answer : Result ℕ Refusal → List ℕ → Answer
write_answer (Ok n) m = answer 0 n m
write_answer (Err e) m = answer (refusal_number e) 0 m

-- "Writing: 12, 17, 19."; "needs exactly 836 bytes: the file, then zeros; its reply gives the file's length"
unfoldable pub written_bytes : List ℕ → List ℕ → Answer
written_bytes d m =
    pick (eqb (length d) run_bytes && eqb (length m) longest_file)
    (pick (sound_bytes d)
    (pick (as_loaded d) (answer 0 (length (file_bytes (file_of d))) (padded_file (file_of d))) (answer not_as_loaded 0 m))
    (answer not_sound 0 m))
    (answer wrong_length 0 m)

-- a loader's result as its answer
abbrev pub load_answer : Result (Unit {0}) Fault → List ℕ → Answer
load_answer (Ok x) d = answer 0 0 d
load_answer (Err e) d = answer (refusal_number e.refusal) e.at d

-- "Loading: 12, then the first fault in reading order, with the position where the faulty number starts"; "A refused call
-- leaves every lent byte"
abbrev pub loaded_read : List ℕ → Read File → Answer
loaded_read d (got f at) = answer 0 0 (loaded_bytes f)
loaded_read d (fault k p) = answer k p d

unfoldable pub load_bytes : List ℕ → List ℕ → Answer
unfolding read_file
load_bytes s d = pick (eqb (length d) run_bytes) (loaded_read d (read_file s)) (answer wrong_length 0 d)
