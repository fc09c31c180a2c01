-- `read_statement` meets its contract: what it reads is below what a byte holds.
use Rattle.std.proofs.Common.{arith}
use Rattle.numbers.proofs.Reading.{ranged_below}
use Rattle.reading.proofs.read_statement.Goals as goal

pub overflow_cast-value : goal.overflow_cast-value
overflow_cast-value c = omega (arith, ranged_below _ _ _ _ _ _ _ c.in_ok-cabinet.ensures)

pub overflow_cast-value-2 : goal.overflow_cast-value-2
overflow_cast-value-2 c = omega (arith, ranged_below _ _ _ _ _ _ _ c.in_ok-left.ensures)

pub overflow_cast-value-3 : goal.overflow_cast-value-3
overflow_cast-value-3 c = omega (arith, ranged_below _ _ _ _ _ _ _ c.in_ok-right.ensures)
