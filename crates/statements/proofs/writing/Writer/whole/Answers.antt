-- `whole` meets its contract: one law of the file for what each callee asks, and one of its statements for the loop.
use Rattle.paper.specs.Files.{statement_bytes}
use Rattle.statements.proofs.WritePieces.{byte_number, none_adds, all_adds, one_room, one_adds}
use Rattle.statements.proofs.WriteCalls.{table_room, e_room, e_few, statements_room, file_adds}
use borrow.Author.Rules.{rules}
use Rattle.statements.proofs.writing.Writer.whole.Goals as goal

pub table-requires : goal.table-requires
table-requires c = search (table_room, rules)

pub number-requires : goal.number-requires
number-requires c = search (byte_number, e_room, rules)

pub loop-p-init : goal.loop-p-init
loop-p-init c = search none_adds

pub statement-requires : goal.statement-requires
statement-requires c = search (e_few, one_room statement_bytes, statements_room, rules)

pub loop-p-preserved : goal.loop-p-preserved
loop-p-preserved c = search (one_adds, statements_room)

pub returns : goal.returns
returns c = search (file_adds, all_adds)
