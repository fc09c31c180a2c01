-- `record` meets its contract: one law of a record for what each callee asks, and one of its parts for the loop.
use Rattle.paper.specs.Numbers.{number_bytes}
use Rattle.statements.proofs.WritePieces.{byte_number, none_adds, all_adds, one_room, one_adds, symbol_room, count_room, parts_room, record_adds}
use borrow.Author.Rules.{rules}
use Rattle.statements.proofs.writing.Writer.record.Goals as goal

pub number-requires : goal.number-requires
number-requires c = search (symbol_room, rules)

pub number-requires-2 : goal.number-requires-2
number-requires-2 c = search (byte_number, count_room, rules)

pub loop-k-init : goal.loop-k-init
loop-k-init c = search none_adds

pub number-requires-in-loop-k : goal.number-requires-in-loop-k
number-requires-in-loop-k c = search (byte_number, one_room number_bytes, parts_room, rules)

pub loop-k-preserved : goal.loop-k-preserved
loop-k-preserved c = search (one_adds, parts_room)

pub returns : goal.returns
returns c = search (record_adds, all_adds)
