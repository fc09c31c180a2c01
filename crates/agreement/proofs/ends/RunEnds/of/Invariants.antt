-- `of` meets its contract: the run is sound, and after x turns the ends of x unknowns stand in their places.
use Rattle.agreement.specs.Given.{SoundRun}
use Rattle.agreement.specs.Ends.{AllEnd}
use Rattle.agreement.proofs.ends.RunEnds.of.Given as goal

abbrev pub invariant-loop-x : goal.invariant-loop-x
invariant-loop-x l = SoundRun l.run l.v × AllEnd l.run l.x l.ends
