-- `ended` meets its contract: the clash byte first, then the pending count.
use Rattle.std.proofs.Common.{arith}
use Rattle.drawing.specs.Draws.{ended_bytes}
use Rattle.drawing.proofs.running.ended.Goals as goal

pub returns-then-has_clashed : goal.returns-then-has_clashed
unfolding ended_bytes
returns-then-has_clashed c = grind arith

pub returns-else-has_clashed : goal.returns-else-has_clashed
unfolding ended_bytes
returns-else-has_clashed c = grind arith
