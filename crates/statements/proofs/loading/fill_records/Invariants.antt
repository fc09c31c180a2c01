-- `fill_records` meets its contract: one law of filling for the way out, and for the turns of its loop.
use Rattle.statements.proofs.Filled.{RecordsTo}
use Rattle.statements.proofs.loading.fill_records.Given as goal

abbrev pub invariant-loop-i : goal.invariant-loop-i
invariant-loop-i l = RecordsTo l.v l.count l.file l.at l.initial.run l.i l.here l.run
