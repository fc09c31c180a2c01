-- `symbol` joins the four bytes of a symbol.
use native.Mathlib.Omega.{arith}
use Rattle.printing.specs.Prints.{symbol_at}
use Rattle.printing.proofs.symbol.Goals as goal

pub returns : goal.returns
unfolding symbol_at
returns c = omega arith
