-- `statement` meets its contract: one law of a statement for what each callee asks, and for the way out.
use Rattle.statements.proofs.WritePieces.{byte_small, cabinet_room, left_room, right_room, statement_adds}
use borrow.Author.Rules.{rules}
use Rattle.statements.proofs.writing.Writer.statement.Goals as goal

pub number-requires : goal.number-requires
number-requires c = search (byte_small, c.fits-run, cabinet_room, rules)

pub number-requires-2 : goal.number-requires-2
number-requires-2 c = search (byte_small, c.fits-run, left_room, rules)

pub number-requires-3 : goal.number-requires-3
number-requires-3 c = search (byte_small, c.fits-run, right_room, rules)

pub returns : goal.returns
returns c = search statement_adds
