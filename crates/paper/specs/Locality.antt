-- Locality: what it is for a statement's step at one cabinet to be the same in two runs.
use Rattle.std.specs.Prelude.{◌≡◌, List, ◌++◌, ℕ}
use Rattle.paper.specs.Runs.{Run}
use Rattle.paper.specs.Steps.{Outcome, refused, done}
use Rattle.paper.specs.declared.Item.{Item}

-- "the same rule, products and local effect": l and l' are the items left, and the effect is on the store and memo of cabinet
-- c and on the clash
pub data SameStep (c : ℕ) (l l' : List Item) : Outcome → Outcome → Type 0 where
  both_refused : {k : ℕ} → SameStep c l l' (refused k) (refused k)
  both_done : {k : ℕ} {r r' : Run} → (products : List Item) → r.pending ≡ l ++ products → r'.pending ≡ l' ++ products
      → r.state.store c ≡ r'.state.store c → r.state.memo c ≡ r'.state.memo c → r.state.clash ≡ r'.state.clash
      → SameStep c l l' (done k r) (done k r')
