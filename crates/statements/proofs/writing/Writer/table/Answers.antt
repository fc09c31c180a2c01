-- `table` meets its contract: one law of the table for what each callee asks, and one of its records for the loop.
use Rattle.paper.specs.Files.{each, record_bytes}
use Rattle.layout.specs.Fields.{records_from}
use Rattle.statements.specs.Pieces.{HasRoom}
use Rattle.statements.proofs.WritePieces.{byte_number, none_adds, all_adds, one_room, one_adds, record_parts_few}
use Rattle.statements.proofs.WriteCalls.{s_room, v_room, r_room, records_room, records_few, table_adds}
use mathlib.Core.Path.{refl}
use borrow.Author.Rules.{rules}
use Rattle.statements.proofs.writing.Writer.table.Goals as goal

pub number-requires : goal.number-requires
number-requires c = search (byte_number, s_room, rules)

pub number-requires-2 : goal.number-requires-2
number-requires-2 c = search (byte_number, v_room, rules)

pub number-requires-3 : goal.number-requires-3
number-requires-3 c = search (byte_number, r_room, rules)

pub loop-i-init : goal.loop-i-init
loop-i-init c = search none_adds

pub record-requires : goal.record-requires
record-requires c =
    let r : HasRoom c.number-3.new.self (each record_bytes (records_from c.args.run.now c.records-records.result 0)) = search records_room in
    (search (records_few, rules), search (records_few, record_parts_few), one_room record_bytes _ _ _ _ _ c.loop-i.invariant c.loop-i-test.true r _ refl)

pub loop-i-preserved : goal.loop-i-preserved
loop-i-preserved c =
    let r : HasRoom c.number-3.new.self (each record_bytes (records_from c.args.run.now c.records-records.result 0)) = search records_room in
    one_adds record_bytes _ _ _ _ _ c.loop-i.invariant c.loop-i-test.true r _ refl _ c.record.ensures

pub returns : goal.returns
returns c = search (table_adds, all_adds)
