-- `fill_statements` meets its contract: one law of filling for the way out, and for the turns of its loop.
use Rattle.statements.proofs.Filled.{StatementsTo}
use Rattle.statements.proofs.loading.fill_statements.Given as goal

abbrev pub invariant-loop : goal.invariant-loop
invariant-loop l = StatementsTo l.s l.n l.count l.file l.at l.initial.run l.counter l.here l.run
