-- What the rules' effects ask of an item at a place: that it is there, and that there is room for the products.
use Rattle.std.specs.Prelude.{List, ℕ, ◌+◌, ◌-◌, ◌≤◌, ◌<◌}
use Rattle.paper.specs.Sizes.{room}
use Rattle.layout.specs.Fields.{count_of}

-- an item at place p, and room for n products once it goes
pub record Fits (d : List ℕ) (p n : ℕ) : Type 0 where
  pub count : count_of d ≤ room
  pub place : p < count_of d
  pub enough : count_of d - 1 + n ≤ room
