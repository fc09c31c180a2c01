-- `draw` meets its contract: the steps left from the bytes as they are give what all give; one law for each way out.
use Rattle.std.proofs.Common.{◌-◌}
use Rattle.drawing.proofs.DrawLaws.{Running}
use Rattle.drawing.proofs.running.draw.Given as goal

abbrev pub invariant-loop : goal.invariant-loop
invariant-loop l = Running l.initial.run (l.end - l.counter) l.state l.run
