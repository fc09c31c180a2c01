-- `table` meets its contract: one law of the table for what each callee asks, and one of its records for the loop.
use Rattle.paper.specs.Files.{record_bytes}
use Rattle.layout.specs.Fields.{record_of}
use Rattle.statements.proofs.WritePieces.{EachAdds}
use Rattle.statements.proofs.writing.Writer.table.Given as goal

abbrev pub invariant-loop-i : goal.invariant-loop-i
invariant-loop-i l = EachAdds record_bytes (record_of l.run) l.records l.initial.self l.i l.self
