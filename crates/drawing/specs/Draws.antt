-- The run that the map program makes, on the run's bytes.
use Rattle.std.specs.Prelude.{ℕ, zero, suc, ◌-◌, Bool, true, not, List, ◌==◌, nat_lt}
use Rattle.base.specs.Choice.{pick, first_of}
use Rattle.paper.specs.Counts.{most_steps}
use Rattle.paper.specs.Programs.{first_state, next_state, drawn_place}
use Rattle.layout.specs.Offsets.{clash_at, cabinets_at, unknowns_at, statements_at}
use Rattle.layout.specs.Fields.{byte_at, count_of}
use Rattle.rules.specs.Bytes.{Out, out, taken_bytes}
use Rattle.rules.specs.Given.{waits_bytes}

-- whether the item at a place does not wait
unfoldable pub ready_at : List ℕ → ℕ → Bool
ready_at d i = not (waits_bytes d i)

-- "the first one after it, going round, that does not": from i on, else from 0 on; the pending count where all wait
unfoldable pub ready_from : List ℕ → ℕ → ℕ
ready_from d i =
    let n = count_of d in
    let ahead = first_of (ready_at d) (n - i) i in
    pick (nat_lt ahead n) ahead (first_of (ready_at d) n 0)

-- the place that is taken in state x
unfoldable pub taken_place : List ℕ → ℕ → ℕ
taken_place d x = ready_from d (drawn_place x (count_of d))

-- the run has clashed, or nothing is pending
unfoldable pub ended_bytes : List ℕ → Bool
ended_bytes d = pick (byte_at d clash_at == 0) (count_of d == 0) true

-- at most k drawn steps from state x on, until the run has clashed or nothing is pending
abbrev pub after_taken : Out → List ℕ → (List ℕ → List ℕ) → List ℕ
after_taken (out zero k e) d f = f e
after_taken (out (suc n) k e) d f = d

unfoldable pub drawn_from : ℕ → ℕ → List ℕ → List ℕ
drawn_from zero x d = d
drawn_from (suc k) x d =
    pick (byte_at d clash_at == 0)
    (pick (count_of d == 0) d
    (after_taken (taken_bytes d (taken_place d (next_state x))) d (λ e. drawn_from k (next_state x) e)))
    d

-- the run that the program makes of a loaded one: document 01's step count is enough
unfoldable pub drawn_bytes : List ℕ → List ℕ
drawn_bytes d = drawn_from (most_steps (byte_at d cabinets_at) (byte_at d unknowns_at) (byte_at d statements_at)) first_state d
