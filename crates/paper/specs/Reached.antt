-- What a run from a file can become: loaded, then any accepted steps. The statements are an index.
use Rattle.std.specs.Prelude.{◌≡◌, ◌⊎◌, List, [], ◌∷◌, ℕ, suc, ◌≤◌, ◌<◌, length, take}
use Rattle.std.proofs.Math.Option.{none, some}
use Rattle.std.proofs.Math.ListN.{get_elem?}
use Rattle.base.specs.Lists.{All}
use Rattle.paper.specs.Sizes.{most_statements}
use Rattle.paper.specs.Tables.{Table, TableOk, entries}
use Rattle.paper.specs.Runs.{Statement, Run, initial}
use Rattle.paper.specs.Steps.{refused, done, step}

-- a statement's ranges
pub record StatementOk (t : Table) (q : Statement) : Type 0 where
  pub cabinet : q.cabinet < t.cabinets
  pub left : q.left < entries t
  pub right : q.right < entries t

-- the ranges of an accepted file: what reading accepts, and nothing else (proofs: `RoundTrip`)
pub record FileOk (t : Table) (qs : List Statement) : Type 0 where
  pub table : TableOk t
  pub count : length qs ≤ most_statements
  pub statements : All (StatementOk t) qs

-- reached from a table and statements by so many accepted steps
pub data Reached (t : Table) : List Statement → ℕ → Run → Type 0 where
  loaded : {qs : List Statement} → Reached t qs 0 (initial qs)
  stepped : {qs : List Statement} {n : ℕ} {r : Run} → Reached t qs n r → (i k : ℕ) {r' : Run} → step t r i ≡ done k r'
      → Reached t qs (suc n) r'

-- a run that any accepted steps make of a run
pub data Later (t : Table) (r : Run) : Run → Type 0 where
  same : Later t r r
  next : {p : Run} → Later t r p → (i k : ℕ) {p' : Run} → step t p i ≡ done k p' → Later t r p'

-- the run that accepted steps at these places, in their order, make of a run
pub data Along (t : Table) : Run → List ℕ → Run → Type 0 where
  none_left : {r : Run} → Along t r [] r
  one_more : {r r' p : Run} {i k : ℕ} {is : List ℕ} → step t r i ≡ done k r' → Along t r' is p → Along t r (i ∷ is) p

-- why a list of places ends in p with number k when n are done: all are, or "it stops at the first refused place and gives
-- that number"
pub data ListEnds (t : Table) (is : List ℕ) (k n : ℕ) (p : Run) : Type 0 where
  all_done : k ≡ 0 → n ≡ length is → ListEnds t is k n p
  stops : n < length is → (i : ℕ) → get_elem? is n ≡ some i → step t p i ≡ refused k → ListEnds t is k n p

-- a list of places carried out from r: "how many were done", and "Those done stay done."
pub record ListDone (t : Table) (r : Run) (is : List ℕ) (k n : ℕ) (p : Run) : Type 0 where
  pub along : Along t r (take n is) p
  pub ends : ListEnds t is k n p

-- the run has clashed, at some cabinet
abbrev pub Clashed : Run → Type 0
Clashed r = (c : ℕ) × (r.state.clash ≡ some c)

-- unclashed with nothing pending
pub record Finished (r : Run) : Type 0 where
  pub unclashed : r.state.clash ≡ none
  pub empty : r.pending ≡ []

-- "until it clashes or nothing is pending"
abbrev pub Over : Run → Type 0
Over r = Clashed r ⊎ Finished r
