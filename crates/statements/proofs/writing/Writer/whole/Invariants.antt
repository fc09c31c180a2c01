-- `whole` meets its contract: one law of the file for what each callee asks, and one of its statements for the loop.
use Rattle.paper.specs.Files.{statement_bytes}
use Rattle.statements.specs.Writes.{statement_at}
use Rattle.statements.proofs.WritePieces.{EachAdds}
use Rattle.statements.proofs.writing.Writer.whole.Given as goal

abbrev pub invariant-loop-p : goal.invariant-loop-p
invariant-loop-p l = EachAdds statement_bytes (statement_at l.run) l.statements l.initial.self l.p l.self
