-- A table of met pairs in 32 words of 32 bits: the greater unknown's word, the smaller one's bit.
use Rattle.std.specs.Prelude.{Bool, true, List, ℕ, eqb, get_or}
use Rattle.std.specs.Int.{bit_at}
use Rattle.base.specs.Choice.{pick}
use Rattle.paper.specs.Ends.{is_met}

-- whether the pair p, q, greater first, is in the table
unfoldable pub met_of : List ℕ → ℕ → ℕ → Bool
met_of ws p q = eqb (bit_at (get_or ws p 0) q) 1

-- whether x and y are not to be compared: they are one unknown, or a pair in the table
unfoldable pub settled_in : (ℕ → ℕ → Bool) → ℕ → ℕ → Bool
settled_in m x y = pick (eqb x y) true (is_met m x y)
