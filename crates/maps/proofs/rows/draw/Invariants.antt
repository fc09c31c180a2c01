-- `draw` meets its contract: after x turns x rows are drawn and all else is 0.
use Rattle.maps.specs.Rows.{Drawn}
use Rattle.maps.proofs.rows.draw.Given as goal

abbrev pub invariant-loop-x : goal.invariant-loop-x
invariant-loop-x l = Drawn l.items.ends.run.now l.x l.map
