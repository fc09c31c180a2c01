-- `number_at` meets its contract: the groups before `here` are read, a law for each way out.
use Rattle.numbers.proofs.Reading.{SoFar}
use Rattle.numbers.proofs.number_at.Given as goal

abbrev pub invariant-loop-more : goal.invariant-loop-more
invariant-loop-more l = SoFar l.file l.at l.value l.scale l.least l.more l.here
