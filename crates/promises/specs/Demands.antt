-- The three demands, each under its sentence, about the definitions that the public calls' contracts cite: load_bytes,
-- statement_span, step_bytes, steps_bytes, map_bytes_of and written_bytes. proofs/Fixed, proofs/Derived and proofs/Alike prove them.
use Rattle.std.specs.Prelude.{◌≡◌, ◌⊎◌, ◌↔◌, true, ◌&&◌, List, ◌++◌, ℕ, suc, ◌+◌, ◌-◌, ◌≤◌, eqb, length, take, replicate}
use Rattle.paper.specs.Sizes.{longest_file}
use Rattle.paper.specs.Refusals.{no_room}
use Rattle.paper.specs.Runs.{Run}
use Rattle.paper.specs.Rules.{Carried}
use Rattle.paper.specs.Steps.{step, steps}
use Rattle.paper.specs.Files.{File, read_file, file_bytes, Span, statement_span}
use Rattle.paper.specs.Replies.{Reply, reply, checked, load_reply, step_reply, list_reply, map_reply, write_reply}
use Rattle.paper.specs.Alike.{Clash}
use Rattle.paper.specs.SameStatements.{SameItems, SameSet}
use Rattle.paper.specs.Counts.{most_steps}
use Rattle.layout.specs.Offsets.{run_bytes, map_bytes}
use Rattle.layout.specs.Fields.{table_of, run_of}
use Rattle.layout.specs.Soundness.{sound_bytes}
use Rattle.statements.specs.Writes.{Answer, answer, as_loaded, file_of, written_bytes, load_bytes}
use Rattle.rules.specs.Bytes.{Out, out, step_bytes, steps_bytes}
use Rattle.maps.specs.Bytes.{Mapped, mapped, map_bytes_of}
use Rattle.promises.specs.FromFiles.{Bytes, Accepted, FromFile, Along, ListEnds, HasClashed, NothingPending, AtEnd, IsMap}

-- the reply of each answer: its number, and its position, rule, steps done or length
abbrev pub reply_of_answer : Answer → Reply
reply_of_answer (answer k p d) = reply k p

abbrev pub reply_of_out : Out → Reply
reply_of_out (out k p d) = reply k p

abbrev pub reply_of_map : Mapped → Reply
reply_of_map (mapped k m) = reply k 0

-- a contract says that the reply and the lent bytes are one value: no second reply, and no second content, meets it
abbrev pub OneAnswer : Answer → Type 0
OneAnswer v = (k p k' p' : ℕ) (e e' : List ℕ) → answer k p e ≡ v → answer k' p' e' ≡ v → (k ≡ k') × (p ≡ p') × (e ≡ e')

abbrev pub OneOut : Out → Type 0
OneOut v = (k p k' p' : ℕ) (e e' : List ℕ) → out k p e ≡ v → out k' p' e' ≡ v → (k ≡ k') × (p ≡ p') × (e ≡ e')

abbrev pub OneMapped : Mapped → Type 0
OneMapped v = (k k' : ℕ) (m m' : List ℕ) → mapped k m ≡ v → mapped k' m' ≡ v → (k ≡ k') × (m ≡ m')

abbrev pub OneSpan : Span → Type 0
OneSpan v = (a b : Span) → a ≡ v → b ≡ v → (a.start ≡ b.start) × (a.size ≡ b.size)

-- "1. Every file, state, step and buffer gets a fixed reply. A bad one is refused by number in a stated order, and a refused call
-- changes no lent byte, but for a list's steps before the refused one."
pub record Demand1 : Type 0 where
  pub one_load : (s d : List ℕ) → OneAnswer (load_bytes s d)
  pub one_statement : (s : List ℕ) (n : ℕ) → OneSpan (statement_span s n)
  pub one_step : (d : List ℕ) (i : ℕ) → OneOut (step_bytes d i)
  pub one_list : (d is : List ℕ) → OneOut (steps_bytes d is)
  pub one_map : (d m : List ℕ) → OneMapped (map_bytes_of d m)
  pub one_write : (d m : List ℕ) → OneAnswer (written_bytes d m)
  -- the stated order is that of the paper's replies
  pub loading : (s d : List ℕ) → reply_of_answer (load_bytes s d) ≡ load_reply (eqb (length d) run_bytes) (read_file s)
  pub stepping : (d : List ℕ) → Bytes d → (i : ℕ)
      → reply_of_out (step_bytes d i) ≡ checked (eqb (length d) run_bytes) (sound_bytes d) (step_reply (step (table_of d) (run_of d) i))
  pub listing : (d : List ℕ) → Bytes d → (is : List ℕ)
      → reply_of_out (steps_bytes d is) ≡ checked (eqb (length d) run_bytes) (sound_bytes d) (list_reply (steps (table_of d) (run_of d) 0 is))
  pub mapping : (d m : List ℕ) → Bytes d
      → reply_of_map (map_bytes_of d m) ≡ checked (eqb (length d) run_bytes && eqb (length m) map_bytes) (sound_bytes d) (map_reply (run_of d))
  pub writing : (d m : List ℕ)
      → reply_of_answer (written_bytes d m)
      ≡ checked (eqb (length d) run_bytes && eqb (length m) longest_file) (sound_bytes d) (write_reply (as_loaded d) (length (file_bytes (file_of d))))
  -- what a refused call leaves
  pub load_leaves : (s d e : List ℕ) (k p : ℕ) → load_bytes s d ≡ answer (suc k) p e → e ≡ d
  pub step_leaves : (d e : List ℕ) (i k p : ℕ) → step_bytes d i ≡ out (suc k) p e → e ≡ d
  pub list_leaves : (d e is : List ℕ) (k n : ℕ) → steps_bytes d is ≡ out (suc k) n e
      → ((n ≡ 0) × (e ≡ d)) ⊎ (steps_bytes d (take n is) ≡ out 0 n e)
  pub map_leaves : (d m e : List ℕ) (k : ℕ) → map_bytes_of d m ≡ mapped (suc k) e → e ≡ m
  pub write_leaves : (d m e : List ℕ) (k p : ℕ) → written_bytes d m ≡ answer (suc k) p e → e ≡ m

-- "2. Each step is exactly one rule of the published distributed rational tree unification (Haridi and others). From an accepted
-- file, a finished map is the one that document 01 derives from the statements alone. Reading and writing a statement file undo
-- each other."
pub record Demand2 : Type 0 where
  pub one_rule : (d : List ℕ) → Bytes d → (i k : ℕ) (e : List ℕ) → step_bytes d i ≡ out 0 k e
      → Carried (table_of d) (run_of d) i k (run_of e) × (table_of e ≡ table_of d) × (sound_bytes e ≡ true)
  pub no_other_rule : (d : List ℕ) → Bytes d → (i k : ℕ) (e : List ℕ) → step_bytes d i ≡ out 0 k e
      → (j : ℕ) (r : Run) → Carried (table_of d) (run_of d) i j r → (j ≡ k) × (r ≡ run_of e)
  -- a list is its steps
  pub list_is_steps : (d : List ℕ) → Bytes d → length d ≡ run_bytes → sound_bytes d ≡ true → (is : List ℕ) (k n : ℕ) (e : List ℕ)
      → steps_bytes d is ≡ out k n e → Along d (take n is) e × ListEnds is e k n
  pub finished_map : (s : List ℕ) (f : File) → Accepted s f → (n : ℕ) (d : List ℕ) → FromFile s n d → NothingPending d
      → (lent m : List ℕ) → length lent ≡ map_bytes → (map_bytes_of d lent ≡ mapped 0 m) ↔ IsMap f.table f.statements m
  pub read_then_written : (s : List ℕ) → Bytes s → (before d : List ℕ) → load_bytes s before ≡ answer 0 0 d
      → (lent : List ℕ) → length lent ≡ longest_file
      → written_bytes d lent ≡ answer 0 (length s) (s ++ replicate (longest_file - length s) 0)
  pub written_then_read : (d : List ℕ) → Bytes d → (lent : List ℕ) (n : ℕ) (m : List ℕ) → written_bytes d lent ≡ answer 0 n m
      → (before : List ℕ) → length before ≡ run_bytes → load_bytes (take n m) before ≡ answer 0 0 d

-- "3. Take two accepted files with the same numbered items and records, and the same set of statements once cabinet, order,
-- repeats and left or right are forgotten. Carry each on by any accepted steps until it clashes or nothing is pending."
pub record TwoRuns (s s' : List ℕ) (f f' : File) (d d' : List ℕ) : Type 0 where
  pub accepted : Accepted s f
  pub accepted' : Accepted s' f'
  pub items : SameItems f.table f'.table
  pub statements : SameSet f.statements f'.statements
  pub steps : ℕ
  pub steps' : ℕ
  pub carried : FromFile s steps d
  pub carried' : FromFile s' steps' d'
  pub over : AtEnd d
  pub over' : AtEnd d'

-- "Both clash, exactly when the statements cannot all hold, or both give the same map, byte for byte."
pub data BothAlike (f : File) (d d' : List ℕ) : Type 0 where
  both_clash : HasClashed d → HasClashed d' → Clash f.table f.statements → BothAlike f d d'
  same_map : (Clash f.table f.statements → ⊥) → (m : List ℕ)
      → ((lent : List ℕ) → length lent ≡ map_bytes → map_bytes_of d lent ≡ mapped 0 m)
      → ((lent : List ℕ) → length lent ≡ map_bytes → map_bytes_of d' lent ≡ mapped 0 m) → BothAlike f d d'

pub record Demand3 : Type 0 where
  -- "by any accepted steps": those of a list are
  pub list_from_file : (s : List ℕ) (f : File) → Accepted s f → (m : ℕ) (d : List ℕ) → FromFile s m d → (is : List ℕ) (k n : ℕ)
      (e : List ℕ) → steps_bytes d is ≡ out k n e → FromFile s (m + n) e
  pub one_result : (s s' : List ℕ) (f f' : File) (d d' : List ℕ) → TwoRuns s s' f f' d d' → BothAlike f d d'
  -- "No run exceeds document 01's count of steps,"
  pub step_count : (s : List ℕ) (f : File) → Accepted s f → (n : ℕ) (d : List ℕ) → FromFile s n d
      → n ≤ most_steps f.table.cabinets f.table.unknowns (length f.statements)
  -- nor is it ever refused for room
  pub never_full : (s : List ℕ) (f : File) → Accepted s f → (n : ℕ) (d : List ℕ) → FromFile s n d → (i k : ℕ) (e : List ℕ)
      → step_bytes d i ≡ out no_room k e → ⊥
  -- "and until its end some pending item can be taken."
  pub some_place : (s : List ℕ) (f : File) → Accepted s f → (n : ℕ) (d : List ℕ) → FromFile s n d
      → AtEnd d ⊎ ((i : ℕ) × (k : ℕ) × (e : List ℕ) × (step_bytes d i ≡ out 0 k e))
  -- so that an end can always be reached: from the run as it stands, by accepted steps at some places
  pub end_reachable : (s : List ℕ) (f : File) → Accepted s f → (n : ℕ) (d : List ℕ) → FromFile s n d
      → (is : List ℕ) × (e : List ℕ) × Along d is e × FromFile s (n + length is) e × AtEnd e
