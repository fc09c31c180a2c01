-- The map program: its draws, the place it takes, the run it makes, and what it prints, as bytes.
use Rattle.std.specs.Prelude.{Bool, true, false, not, List, [], ◌∷◌, ◌++◌, ℕ, zero, suc, ◌+◌, ◌-◌, ◌*◌, ◌/◌, ◌%◌, ltb, length}
use Rattle.std.proofs.Math.Option.{Option, none, some}
use Rattle.base.specs.Choice.{first_of}
use Rattle.paper.specs.Tables.{Table}
use Rattle.paper.specs.Runs.{Run, initial}
use Rattle.paper.specs.Steps.{refused, done, step, waits_at}
use Rattle.paper.specs.Numbers.{Read, got, fault}
use Rattle.paper.specs.Files.{File, read_file}
use Rattle.paper.specs.Maps.{Look, open_look, record_look, Row, map_row}
use Rattle.paper.specs.Counts.{most_steps}

-- "x starts at 1 and becomes 1664525x + 1013904223, wrapping at 2^32"
abbrev pub first_state : ℕ
first_state = 1

unfoldable pub next_state : ℕ → ℕ
next_state x = (1664525 * x + 1013904223) % 4294967296

-- "the place is x divided by 65,536, remainder by the pending count"
unfoldable pub drawn_place : ℕ → ℕ → ℕ
drawn_place x n = x / 65536 % n

-- the item at a place does not wait
abbrev pub is_ready : Table → Run → ℕ → Bool
is_ready t r i = not (waits_at t r i)

-- "If that place waits it takes the first one after it, going round, that does not": from i on, else from 0 on; the pending
-- count where all wait
unfoldable pub ready_place : Table → Run → ℕ → ℕ
unfolding waits_at
ready_place t r i =
    let n = length r.pending in
    let ahead = first_of (is_ready t r) (n - i) i in
    elim (ltb ahead n) [ true ↦ ahead | false ↦ first_of (is_ready t r) n 0 ]

-- the place that the program takes, x being drawn
abbrev pub chosen : Table → Run → ℕ → ℕ
chosen t r x = ready_place t r (drawn_place x (length r.pending))

-- the places that the program takes, and the run after them
pub record Drawn : Type 0 where
  pub places : List ℕ
  pub run : Run

-- no place more
abbrev pub no_more : Run → Drawn
no_more r = record { places = []; run = r }

-- place i, and then what follows from the run after it
abbrev pub taken_first : Table → Run → ℕ → (Run → Drawn) → Drawn
taken_first t r i f =
    elim (step t r i) [ refused k ↦ no_more r | done k r' ↦ record { places = i ∷ (f r').places; run = (f r').run } ]

-- at most k drawn steps from state x on, until the run has clashed or nothing is pending; x advances before each
abbrev pub drawn : Table → ℕ → ℕ → Run → Drawn
drawn t zero x r = no_more r
drawn t (suc k) x r =
    elim r.state.clash [
      | some c ↦ no_more r
      | none ↦ (elim (length r.pending) [
        | zero ↦ no_more r
        | suc n ↦ taken_first t r (chosen t r (next_state x)) (λ r'. drawn t k (next_state x) r')
      ])
    ]

-- what the program draws of a file; the step count is enough to come to the run's end (proofs: `DrawnRun`)
unfoldable pub drawn_file : File → Drawn
unfolding next_state drawn_place ready_place step initial
drawn_file f =
    drawn f.table (most_steps f.table.cabinets f.table.unknowns (length f.statements)) first_state
    (initial f.statements)

-- the run that the program makes of a file
unfoldable pub drawn_run : File → Run
unfolding drawn_file
drawn_run f = (drawn_file f).run

-- a number in decimal digits, at most k of them
abbrev pub digits : ℕ → ℕ → List ℕ
digits zero n = []
digits (suc k) n = elim (ltb n 10) [ true ↦ (48 + n) ∷ [] | false ↦ digits k (n / 10) ++ ((48 + n % 10) ∷ []) ]

-- twenty digits hold every number of 64 bits
unfoldable pub decimal : ℕ → List ℕ
decimal n = digits 20 n

-- "a newline ending each line"
abbrev pub newline : List ℕ
newline = 10 ∷ []

-- a number after a space
abbrev pub spaced : ℕ → List ℕ
spaced n = 32 ∷ decimal n

-- each number after a space
abbrev pub spaced_all : List ℕ → List ℕ
spaced_all [] = []
spaced_all (n ∷ ns) = spaced n ++ spaced_all ns

-- " open"; " plate", the symbol and each part's lowest item
abbrev pub printed_look : Look → List ℕ
printed_look open_look = 32 ∷ 111 ∷ 112 ∷ 101 ∷ 110 ∷ []
printed_look (record_look symbol lows) = 32 ∷ 112 ∷ 108 ∷ 97 ∷ 116 ∷ 101 ∷ (spaced symbol ++ spaced_all lows)

-- "per unknown its number, its lowest same item, then .."
unfoldable pub printed_row : ℕ → Row → List ℕ
unfolding decimal
printed_row x w = decimal x ++ (spaced w.lowest ++ (printed_look w.look ++ newline))

-- the lines of k unknowns from x on
abbrev pub printed_rows : Table → Run → ℕ → ℕ → List ℕ
printed_rows t r zero x = []
printed_rows t r (suc k) x = printed_row x (map_row t r x) ++ printed_rows t r k (suc x)

-- "`items V`", and the rows
unfoldable pub printed_map : Table → Run → List ℕ
unfolding printed_row map_row
printed_map t r = 105 ∷ 116 ∷ 101 ∷ 109 ∷ 115 ∷ (spaced t.unknowns ++ (newline ++ printed_rows t r t.unknowns 0))

-- "`clash`"
abbrev pub printed_clash : List ℕ
printed_clash = 99 ∷ 108 ∷ 97 ∷ 115 ∷ 104 ∷ newline

-- "`refused N at P`"
unfoldable pub printed_refusal : ℕ → ℕ → List ℕ
unfolding decimal
printed_refusal k p = 114 ∷ 101 ∷ 102 ∷ 117 ∷ 115 ∷ 101 ∷ 100 ∷ (spaced k ++ (32 ∷ 97 ∷ 116 ∷ (spaced p ++ newline)))

-- "`clash`", or the map
abbrev pub printed_run : Table → Run → Option ℕ → List ℕ
printed_run t r (some c) = printed_clash
printed_run t r none = printed_map t r

-- what is printed of a file's run
abbrev pub printed_file : File → Run → List ℕ
printed_file f r = printed_run f.table r r.state.clash

-- what is printed by what reading the file gives
abbrev pub printed_read : Read File → List ℕ
printed_read (fault k p) = printed_refusal k p
printed_read (got f at) = printed_file f (drawn_run f)

-- what the program prints of a file
unfoldable pub printed : List ℕ → List ℕ
unfolding read_file drawn_run printed_map printed_refusal
printed s = printed_read (read_file s)
