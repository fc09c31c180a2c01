-- `record` meets its contract: one law of a record for what each callee asks, and one of its parts for the loop.
use Rattle.paper.specs.Numbers.{number_bytes}
use Rattle.layout.specs.Fields.{part_of}
use Rattle.statements.proofs.WritePieces.{EachAdds}
use Rattle.statements.proofs.writing.Writer.record.Given as goal

abbrev pub invariant-loop-k : goal.invariant-loop-k
invariant-loop-k l = EachAdds number_bytes (part_of l.run l.i) l.count l.initial.self l.k l.self
