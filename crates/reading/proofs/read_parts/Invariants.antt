-- `read_parts` meets its contract: i of the parts are read, up to `here`.
use Rattle.reading.proofs.RecordFinds.{PartsSoFar}
use Rattle.reading.proofs.read_parts.Given as goal

abbrev pub invariant-loop-i : goal.invariant-loop-i
invariant-loop-i l = PartsSoFar l.v l.count l.file l.at l.parts l.i l.here
