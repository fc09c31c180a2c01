-- `ready_from` meets its contract: what is still to be found stays the same, in each round; one law for each way out.
use Rattle.std.proofs.Common.{arith}
use Rattle.drawing.proofs.ScanLaws.{scan_first, scan_waits, scan_ready, scan_round}
use Rattle.drawing.proofs.running.ready_from.Goals as goal

pub scan-init : goal.scan-init
scan-init c = search scan_first

pub loop-place-preserved : goal.loop-place-preserved
loop-place-preserved c = search scan_waits

pub scan-preserved : goal.scan-preserved
scan-preserved c = scan_round _ _ _ _ c.loop-place.invariant c.count-n.result c.count-n.ensures.same (omega arith) (omega arith)

pub returns-then-not-waits : goal.returns-then-not-waits
returns-then-not-waits c = search scan_ready
