-- Document 01's bench sheet, the lines marked *, as one list; a list of vectors of our own; and one of replies.
use Rattle.std.specs.Prelude.{true, false, List, [], ◌∷◌, ◌++◌, ℕ}
use Rattle.std.proofs.Math.Option.{Option, none, some}
use Rattle.base.specs.Choice.{pick}
use Rattle.paper.specs.Sizes.{longest_file}
use Rattle.paper.specs.Refusals.{no_room}
use Rattle.paper.specs.Numbers.{Read, got, fault, number_at, number_bytes}
use Rattle.paper.specs.Tables.{Table}
use Rattle.paper.specs.Runs.{Run, initial}
use Rattle.paper.specs.Steps.{refused, done, step, steps}
use Rattle.paper.specs.Files.{File, read_file}
use Rattle.paper.specs.Replies.{Reply, reply, checked, load_reply, step_reply, list_reply, map_number, map_reply, write_reply}
use Rattle.paper.specs.Ends.{agree, end_of}
use Rattle.paper.specs.Counts.{most_steps, most_held}
use Rattle.paper.specs.Programs.{next_state, first_state, drawn_file, drawn_run, printed}

-- what may be asked of the definitions; each answer is a list of numbers
pub data Question : Type 0 where
  -- the bytes of a number
  written : ℕ → Question
  -- 0, the value of a number and the next position; or its refusal and the position where it starts
  number : List ℕ → Question
  -- a file and places: each step's rule or refusal
  rules : List ℕ → List ℕ → Question
  -- a file and places: the cabinet of the clash, if there is one
  clash_at : List ℕ → List ℕ → Question
  -- a file and places: the number that a map then gives
  mapped : List ℕ → List ℕ → Question
  -- a file and two unknowns: 1 where they agree to depth V at the end of the program's run, else 0
  agrees : List ℕ → ℕ → ℕ → Question
  -- a file: the places that the program takes along its run
  drawn_places : List ℕ → Question
  -- what the program prints of a file
  prints : List ℕ → Question
  -- a number that document 01 names
  named : ℕ → Question
  -- a call's reply: its number, and its other value
  replied : Reply → Question

-- a number read, as numbers
abbrev pub number_answer : Read ℕ → List ℕ
number_answer (got n at) = 0 ∷ n ∷ at ∷ []
number_answer (fault k p) = k ∷ p ∷ []

-- a reply, as numbers
abbrev pub reply_answer : Reply → List ℕ
reply_answer (reply k n) = k ∷ n ∷ []

-- the rule or refusal at each place, a refused step leaving the run
abbrev pub along : Table → Run → List ℕ → List ℕ
along t r [] = []
along t r (i ∷ is) = elim (step t r i) [ refused k ↦ k ∷ along t r is | done k r' ↦ k ∷ along t r' is ]

-- the run after them
abbrev pub last_of : Table → Run → List ℕ → Run
last_of t r [] = r
last_of t r (i ∷ is) = elim (step t r i) [ refused k ↦ last_of t r is | done k r' ↦ last_of t r' is ]

-- of an accepted file; the refusal and position of another
abbrev pub of_file : Read File → (File → List ℕ) → List ℕ
of_file (got f at) g = g f
of_file (fault k p) g = k ∷ p ∷ []

-- the cabinet of a clash
abbrev pub of_clash : Option ℕ → List ℕ
of_clash none = []
of_clash (some c) = c ∷ []

-- the number that a map gives
abbrev pub of_map : Run → List ℕ
of_map r = map_number r.state.clash r.pending ∷ []

-- what the definitions give
unfoldable pub answer_of : Question → List ℕ
unfolding number_bytes number_at step initial read_file drawn_file drawn_run end_of next_state printed
answer_of (written n) = number_bytes n
answer_of (number s) = number_answer (number_at s 0)
answer_of (rules s is) = of_file (read_file s) (λ f. along f.table (initial f.statements) is)
answer_of (clash_at s is) = of_file (read_file s) (λ f. of_clash (last_of f.table (initial f.statements) is).state.clash)
answer_of (mapped s is) = of_file (read_file s) (λ f. of_map (last_of f.table (initial f.statements) is))
answer_of (agrees s x y) =
    of_file (read_file s)
    (λ f. pick (agree (end_of f.table (drawn_run f).state.owner) f.table.unknowns x y) 1 0 ∷ [])
answer_of (drawn_places s) = of_file (read_file s) (λ f. (drawn_file f).places)
answer_of (prints s) = printed s
answer_of (named n) = n ∷ []
answer_of (replied a) = reply_answer a

-- a question and its answer
pub record Vector : Type 0 where
  pub question : Question
  pub answer : List ℕ

-- a question gives an answer
infix 10 ◌gives◌
abbrev pub ◌gives◌ : Question → List ℕ → Vector
◌gives◌ q a = record { question = q; answer = a }

-- the bench sheet's file that clashes
abbrev pub clash_file : List ℕ
clash_file = 0x02 ∷ 0x01 ∷ 0x02 ∷ 0x0A ∷ 0x00 ∷ 0x0B ∷ 0x00 ∷ 0x02 ∷ 0x00 ∷ 0x00 ∷ 0x01 ∷ 0x01 ∷ 0x00 ∷ 0x02 ∷ []

-- its places
abbrev pub clash_places : List ℕ
clash_places = 0 ∷ 0 ∷ 2 ∷ 0 ∷ 2 ∷ 0 ∷ 2 ∷ []

-- "The ring file above"
abbrev pub ring_file : List ℕ
ring_file =
    0x01 ∷ 0x02 ∷ 0x02 ∷ 0x07 ∷ 0x01 ∷ 0x00 ∷ 0x07 ∷ 0x01 ∷ 0x01 ∷ 0x02 ∷ 0x00 ∷ 0x00 ∷ 0x02 ∷ 0x00 ∷ 0x01 ∷ 0x03 ∷ []

-- the bench sheet's file with no statements
abbrev pub empty_file : List ℕ
empty_file = 0x01 ∷ 0x00 ∷ 0x00 ∷ 0x00 ∷ []

-- the lines marked *, in their order
unfoldable pub bench_sheet : List Vector
bench_sheet =
    (written 0 gives 0x00 ∷ [])
    ∷ (written 127 gives 0x7F ∷ [])
    ∷ (written 128 gives 0x80 ∷ 0x01 ∷ [])
    ∷ (written 4294967295 gives 0xFF ∷ 0xFF ∷ 0xFF ∷ 0xFF ∷ 0x0F ∷ [])
    ∷ (number (0x80 ∷ 0x00 ∷ []) gives 2 ∷ 0 ∷ [])
    ∷ (number (0x80 ∷ []) gives 1 ∷ 0 ∷ [])
    ∷ (number (0xFF ∷ 0xFF ∷ 0xFF ∷ 0xFF ∷ 0x10 ∷ []) gives 2 ∷ 0 ∷ [])
    ∷ (mapped empty_file [] gives 0 ∷ [])
    ∷ (prints empty_file gives 105 ∷ 116 ∷ 101 ∷ 109 ∷ 115 ∷ 32 ∷ 48 ∷ 10 ∷ [])
    ∷ (rules clash_file (clash_places ++ (0 ∷ [])) gives 7 ∷ 7 ∷ 8 ∷ 9 ∷ 10 ∷ 3 ∷ 5 ∷ 15 ∷ [])
    ∷ (clash_at clash_file clash_places gives 0 ∷ [])
    ∷ (rules clash_file (0 ∷ 0 ∷ 1 ∷ []) gives 7 ∷ 7 ∷ 14 ∷ [])
    ∷ (rules clash_file (0 ∷ 0 ∷ 4 ∷ []) gives 7 ∷ 7 ∷ 13 ∷ [])
    ∷ (mapped clash_file (0 ∷ 0 ∷ []) gives 16 ∷ [])
    ∷ (agrees ring_file 0 1 gives 1 ∷ [])
    ∷ []

-- Our own: a memo of one cabinet and of no records (the first two); 15 before 13; numbers at the edges; the first draw and the
-- sizes that document 01 names; the places that the program takes; what it prints, each refusal of a file with it.
unfoldable pub own_sheet : List Vector
unfolding next_state
own_sheet =
    (rules (0x02 ∷ 0x02 ∷ 0x00 ∷ 0x02 ∷ 0x00 ∷ 0x01 ∷ 0x00 ∷ 0x01 ∷ 0x01 ∷ 0x00 ∷ []) (0 ∷ 1 ∷ 2 ∷ 2 ∷ 1 ∷ 0 ∷ []) gives 7 ∷ 8 ∷ 10 ∷ 10 ∷ 3 ∷ 3 ∷ [])
    ∷ (rules (0x01 ∷ 0x01 ∷ 0x01 ∷ 0x07 ∷ 0x00 ∷ 0x02 ∷ 0x00 ∷ 0x00 ∷ 0x01 ∷ 0x00 ∷ 0x00 ∷ 0x01 ∷ []) (0 ∷ 1 ∷ 2 ∷ 0 ∷ 0 ∷ []) gives 7 ∷ 8 ∷ 10 ∷ 3 ∷ 3 ∷ [])
    ∷ (rules clash_file (clash_places ++ (9 ∷ [])) gives 7 ∷ 7 ∷ 8 ∷ 9 ∷ 10 ∷ 3 ∷ 5 ∷ 15 ∷ [])
    ∷ (number (0xFF ∷ 0xFF ∷ 0xFF ∷ 0xFF ∷ 0x80 ∷ []) gives 2 ∷ 0 ∷ [])
    ∷ (number (0x80 ∷ 0x80 ∷ 0x80 ∷ 0x80 ∷ 0x00 ∷ []) gives 2 ∷ 0 ∷ [])
    ∷ (number (0x80 ∷ 0x80 ∷ 0x80 ∷ 0x80 ∷ []) gives 1 ∷ 0 ∷ [])
    ∷ (number (0xFF ∷ 0xFF ∷ 0xFF ∷ 0xFF ∷ 0x0F ∷ []) gives 0 ∷ 4294967295 ∷ 5 ∷ [])
    ∷ (named (next_state first_state) gives 1015568748 ∷ [])
    ∷ (named longest_file gives 836 ∷ [])
    ∷ (named (most_steps 8 32 64) gives 2105728 ∷ [])
    ∷ (named (most_held 8 32 64) gives 12160 ∷ [])
    ∷ (drawn_places ring_file gives 0 ∷ 0 ∷ 2 ∷ 3 ∷ 0 ∷ 1 ∷ 2 ∷ 1 ∷ 0 ∷ 1 ∷ 1 ∷ 0 ∷ [])
    ∷ (drawn_places clash_file gives clash_places)
    ∷ (drawn_places (0x01 ∷ 0x03 ∷ 0x00 ∷ 0x02 ∷ 0x00 ∷ 0x01 ∷ 0x00 ∷ 0x00 ∷ 0x00 ∷ 0x02 ∷ []) gives 0 ∷ 0 ∷ 2 ∷ 0 ∷ 1 ∷ 2 ∷ 2 ∷ 0 ∷ 0 ∷ 1 ∷ 0 ∷ [])
    ∷ (prints ring_file gives 105 ∷ 116 ∷ 101 ∷ 109 ∷ 115 ∷ 32 ∷ 50 ∷ 10 ∷ 48 ∷ 32 ∷ 48 ∷ 32 ∷ 112 ∷ 108 ∷ 97 ∷ 116 ∷ 101 ∷ 32 ∷ 55 ∷ 32 ∷ 48 ∷ 10 ∷ 49 ∷ 32 ∷ 48 ∷ 32 ∷ 112 ∷ 108 ∷ 97 ∷ 116 ∷ 101 ∷ 32 ∷ 55 ∷ 32 ∷ 48 ∷ 10 ∷ [])
    ∷ (prints clash_file gives 99 ∷ 108 ∷ 97 ∷ 115 ∷ 104 ∷ 10 ∷ [])
    ∷ (prints [] gives 114 ∷ 101 ∷ 102 ∷ 117 ∷ 115 ∷ 101 ∷ 100 ∷ 32 ∷ 49 ∷ 32 ∷ 97 ∷ 116 ∷ 32 ∷ 48 ∷ 10 ∷ [])
    ∷ (prints (0x00 ∷ []) gives 114 ∷ 101 ∷ 102 ∷ 117 ∷ 115 ∷ 101 ∷ 100 ∷ 32 ∷ 51 ∷ 32 ∷ 97 ∷ 116 ∷ 32 ∷ 48 ∷ 10 ∷ [])
    ∷ (prints (0x01 ∷ 0x21 ∷ 0x00 ∷ 0x00 ∷ []) gives 114 ∷ 101 ∷ 102 ∷ 117 ∷ 115 ∷ 101 ∷ 100 ∷ 32 ∷ 52 ∷ 32 ∷ 97 ∷ 116 ∷ 32 ∷ 49 ∷ 10 ∷ [])
    ∷ (prints (0x01 ∷ 0x02 ∷ 0x01 ∷ 0xFF ∷ 0xFF ∷ 0xFF ∷ 0xFF ∷ 0x0F ∷ 0x02 ∷ 0x01 ∷ 0x01 ∷ 0x01 ∷ 0x00 ∷ 0x00 ∷ 0x02 ∷ []) gives 105 ∷ 116 ∷ 101 ∷ 109 ∷ 115 ∷ 32 ∷ 50 ∷ 10 ∷ 48 ∷ 32 ∷ 48 ∷ 32 ∷ 112 ∷ 108 ∷ 97 ∷ 116 ∷ 101 ∷ 32 ∷ 52 ∷ 50 ∷ 57 ∷ 52 ∷ 57 ∷ 54 ∷ 55 ∷ 50 ∷ 57 ∷ 53 ∷ 32 ∷ 49 ∷ 32 ∷ 49 ∷ 10 ∷ 49 ∷ 32 ∷ 49 ∷ 32 ∷ 111 ∷ 112 ∷ 101 ∷ 110 ∷ 10 ∷ [])
    ∷ (prints (0x01 ∷ 0x00 ∷ 0x41 ∷ []) gives 114 ∷ 101 ∷ 102 ∷ 117 ∷ 115 ∷ 101 ∷ 100 ∷ 32 ∷ 53 ∷ 32 ∷ 97 ∷ 116 ∷ 32 ∷ 50 ∷ 10 ∷ [])
    ∷ (prints (0x01 ∷ 0x01 ∷ 0x01 ∷ 0x07 ∷ 0x05 ∷ []) gives 114 ∷ 101 ∷ 102 ∷ 117 ∷ 115 ∷ 101 ∷ 100 ∷ 32 ∷ 54 ∷ 32 ∷ 97 ∷ 116 ∷ 32 ∷ 52 ∷ 10 ∷ [])
    ∷ (prints (0x01 ∷ 0x01 ∷ 0x01 ∷ 0x07 ∷ 0x01 ∷ 0x01 ∷ []) gives 114 ∷ 101 ∷ 102 ∷ 117 ∷ 115 ∷ 101 ∷ 100 ∷ 32 ∷ 55 ∷ 32 ∷ 97 ∷ 116 ∷ 32 ∷ 53 ∷ 10 ∷ [])
    ∷ (prints (0x01 ∷ 0x00 ∷ 0x00 ∷ 0x41 ∷ []) gives 114 ∷ 101 ∷ 102 ∷ 117 ∷ 115 ∷ 101 ∷ 100 ∷ 32 ∷ 56 ∷ 32 ∷ 97 ∷ 116 ∷ 32 ∷ 51 ∷ 10 ∷ [])
    ∷ (prints (0x01 ∷ 0x01 ∷ 0x00 ∷ 0x01 ∷ 0x01 ∷ []) gives 114 ∷ 101 ∷ 102 ∷ 117 ∷ 115 ∷ 101 ∷ 100 ∷ 32 ∷ 57 ∷ 32 ∷ 97 ∷ 116 ∷ 32 ∷ 52 ∷ 10 ∷ [])
    ∷ (prints (0x01 ∷ 0x01 ∷ 0x00 ∷ 0x01 ∷ 0x00 ∷ 0x00 ∷ 0x01 ∷ []) gives 114 ∷ 101 ∷ 102 ∷ 117 ∷ 115 ∷ 101 ∷ 100 ∷ 32 ∷ 49 ∷ 48 ∷ 32 ∷ 97 ∷ 116 ∷ 32 ∷ 54 ∷ 10 ∷ [])
    ∷ (prints (0x01 ∷ 0x00 ∷ 0x00 ∷ 0x00 ∷ 0x00 ∷ []) gives 114 ∷ 101 ∷ 102 ∷ 117 ∷ 115 ∷ 101 ∷ 100 ∷ 32 ∷ 49 ∷ 49 ∷ 32 ∷ 97 ∷ 116 ∷ 32 ∷ 52 ∷ 10 ∷ [])
    ∷ (prints (0x01 ∷ 0x80 ∷ 0x80 ∷ 0x00 ∷ []) gives 114 ∷ 101 ∷ 102 ∷ 117 ∷ 115 ∷ 101 ∷ 100 ∷ 32 ∷ 50 ∷ 32 ∷ 97 ∷ 116 ∷ 32 ∷ 49 ∷ 10 ∷ [])
    ∷ []

-- the file that was read, of no cabinets where it is refused
abbrev pub file_of : Read File → File
file_of (got f at) = f
file_of (fault k p) = record { table = record { cabinets = 0; unknowns = 0; records = [] }; statements = [] }

-- the clash file's table
abbrev pub clash_table : Table
clash_table = (file_of (read_file clash_file)).table

-- the run of the clash file after some places
abbrev pub clash_run : List ℕ → Run
clash_run is = last_of clash_table (initial (file_of (read_file clash_file)).statements) is

-- Replies: 12 before 17 before all else; a load's position, and 12 before it; a step's rule; a list's number and how many were
-- done; a map's 15 before 16; 18, which no file comes to; a written file's length, and 0 beside 19.
unfoldable pub reply_sheet : List Vector
unfolding read_file step steps initial
reply_sheet =
    (replied (checked false false (reply 0 7)) gives 12 ∷ 0 ∷ [])
    ∷ (replied (checked false true (reply 0 7)) gives 12 ∷ 0 ∷ [])
    ∷ (replied (checked true false (reply 0 7)) gives 17 ∷ 0 ∷ [])
    ∷ (replied (checked true true (reply 0 7)) gives 0 ∷ 7 ∷ [])
    ∷ (replied (checked true true (reply 14 2)) gives 14 ∷ 2 ∷ [])
    ∷ (replied (load_reply false (read_file (0x01 ∷ 0x21 ∷ 0x00 ∷ 0x00 ∷ []))) gives 12 ∷ 0 ∷ [])
    ∷ (replied (load_reply true (read_file (0x01 ∷ 0x21 ∷ 0x00 ∷ 0x00 ∷ []))) gives 4 ∷ 1 ∷ [])
    ∷ (replied (load_reply true (read_file (0x01 ∷ 0x20 ∷ 0x00 ∷ 0x00 ∷ []))) gives 0 ∷ 0 ∷ [])
    ∷ (replied (load_reply false (read_file empty_file)) gives 12 ∷ 0 ∷ [])
    ∷ (replied (load_reply true (read_file empty_file)) gives 0 ∷ 0 ∷ [])
    ∷ (replied (step_reply (step clash_table (clash_run []) 0)) gives 0 ∷ 7 ∷ [])
    ∷ (replied (step_reply (step clash_table (clash_run (0 ∷ 0 ∷ [])) 1)) gives 14 ∷ 0 ∷ [])
    ∷ (replied (list_reply (steps clash_table (clash_run []) 0 [])) gives 0 ∷ 0 ∷ [])
    ∷ (replied (list_reply (steps clash_table (clash_run []) 0 clash_places)) gives 0 ∷ 7 ∷ [])
    ∷ (replied (list_reply (steps clash_table (clash_run []) 0 (0 ∷ 0 ∷ 1 ∷ 0 ∷ []))) gives 14 ∷ 2 ∷ [])
    ∷ (mapped clash_file clash_places gives 15 ∷ [])
    ∷ (replied (map_reply (clash_run clash_places)) gives 15 ∷ 0 ∷ [])
    ∷ (replied (map_reply (clash_run [])) gives 16 ∷ 0 ∷ [])
    ∷ (replied (map_reply (initial [])) gives 0 ∷ 0 ∷ [])
    ∷ (named no_room gives 18 ∷ [])
    ∷ (replied (write_reply true 4) gives 0 ∷ 4 ∷ [])
    ∷ (replied (write_reply false 4) gives 19 ∷ 0 ∷ [])
    ∷ []
