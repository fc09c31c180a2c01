-- `ready_from` meets its contract: what is still to be found stays the same. The scan from the first place on is round 1, the last.
use Rattle.std.proofs.Common.{◌-◌}
use Rattle.drawing.proofs.ScanLaws.{Scan}
use Rattle.drawing.proofs.running.ready_from.Given as goal

abbrev pub invariant-scan : goal.invariant-scan
invariant-scan l = Scan l.run l.from (1 - l.start) l.start

abbrev pub decreases-scan : goal.decreases-scan
decreases-scan l = l.start

abbrev pub invariant-loop-place : goal.invariant-loop-place
invariant-loop-place l = Scan l.run l.from (1 - l.start) l.place
