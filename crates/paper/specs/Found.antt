-- What the code's readers give, as the paper's reads: a value and the next position, or a refusal and its position.
use Rattle.std.specs.Prelude.{Result, Ok, Err}
use Rattle.paper.specs.Refusals.{refusal_number}
use Rattle.paper.specs.Numbers.{Read, got, fault}
use Rattle.paper.specs.declared.refused.Fault.{Fault}
use Rattle.paper.specs.declared.Found.{Found}

module _ {A : Type 0} where
  abbrev pub as_read : Result (Found A) Fault → Read A
  as_read (Ok x) = got x.value x.next
  as_read (Err e) = fault (refusal_number e.refusal) e.at
