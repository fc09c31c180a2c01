-- What each call replies, and in which order it refuses. "A refused call leaves every lent byte and gives the number, all else
-- in its reply being 0, save a load's position and a list's finished steps (below)."
use Rattle.std.specs.Prelude.{◌≡◌, Bool, List, [], ◌∷◌, ℕ}
use Rattle.std.proofs.Math.Option.{Option, none, some}
use Rattle.base.specs.Choice.{pick}
use Rattle.paper.specs.Refusals.{wrong_length, not_sound, has_clashed, items_pending, not_as_loaded}
use Rattle.paper.specs.Tables.{Table}
use Rattle.paper.specs.Runs.{Statement, Run, initial}
use Rattle.paper.specs.Steps.{Outcome, refused, done, Listed, listed}
use Rattle.paper.specs.Numbers.{Read, got, fault}
use Rattle.paper.specs.Files.{File}
use Rattle.paper.specs.Reached.{FileOk}
use Rattle.paper.specs.declared.Item.{Item}

-- the number, 0 for done; and the position, the rule, the steps done or the length
pub data Reply : Type 0 where
  reply : ℕ → ℕ → Reply

-- "Step: 12, 17, ..", and so a list, a map and writing: by whether each lent buffer is as long as it must be, and the run sound
abbrev pub checked : Bool → Bool → Reply → Reply
checked long sound a = pick long (pick sound a (reply not_sound 0)) (reply wrong_length 0)

-- "Loading: 12, then the first fault in reading order, with the position where the faulty number starts"; otherwise 0
abbrev pub read_reply : Read File → Reply
read_reply (got f at) = reply 0 0
read_reply (fault k p) = reply k p

-- a load, by whether each lent buffer is as long as it must be: 12 first
abbrev pub load_reply : Bool → Read File → Reply
load_reply long g = pick long (read_reply g) (reply wrong_length 0)

-- a step: ".., 15, 13, 14, 18"
abbrev pub step_reply : Outcome → Reply
step_reply (refused k) = reply k 0
step_reply (done k r) = reply 0 k

-- a list: "gives that number and how many were done"
abbrev pub list_reply : Listed → Reply
list_reply (listed k n r) = reply k n

-- "Map: .., 15, 16"
abbrev pub map_number : Option ℕ → List Item → ℕ
map_number (some c) l = has_clashed
map_number none (j ∷ l) = items_pending
map_number none [] = 0

-- a map's number; nothing beside it
abbrev pub map_reply : Run → Reply
map_reply r = reply (map_number r.state.clash r.pending) 0

-- "The writer accepts a run only as loading some file leaves it"
pub record AsLoaded (t : Table) (r : Run) : Type 0 where
  pub statements : List Statement
  pub ok : FileOk t statements
  pub is : r ≡ initial statements

-- "Writing: .., 19", by whether the run is as loaded, and the length of its file
abbrev pub write_reply : Bool → ℕ → Reply
write_reply loaded size = pick loaded (reply 0 size) (reply not_as_loaded 0)
