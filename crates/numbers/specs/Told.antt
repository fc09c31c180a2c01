-- What is read, or told of a number that cannot be used, as the paper's read.
use Rattle.std.specs.Prelude.{ℕ, Result, Ok, Err}
use Rattle.paper.specs.Numbers.{Read, got, fault}
use Rattle.paper.specs.declared.Found.{Found}

-- by what number a caller is told, and of which position
module _ {A E : Type 0} (number position : E → ℕ) where
  abbrev pub read_or_told : Result (Found A) E → Read A
  read_or_told (Ok x) = got x.value x.next
  read_or_told (Err e) = fault (number e) (position e)
