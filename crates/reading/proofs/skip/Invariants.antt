-- `skip` meets its contract: the rest of the reads end as all do.
use Rattle.reading.proofs.Times.{SkippedTo}
use Rattle.reading.proofs.skip.Given as goal

abbrev pub invariant-loop : goal.invariant-loop
invariant-loop g l = SkippedTo (goal.F-post g l.read) l.count l.at l.counter l.here
