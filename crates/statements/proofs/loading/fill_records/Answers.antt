-- `fill_records` meets its contract: one law of filling for the way out, and for the turns of its loop.
use Rattle.statements.proofs.Filled.{no_record_yet, records_filled, record_again, parts_few, small_symbol, record_filled}
use borrow.Author.Rules.{rules}
use Rattle.statements.proofs.loading.fill_records.Goals as goal

pub loop-i-init : goal.loop-i-init
loop-i-init c = search no_record_yet

pub unwrap-next-requires : goal.unwrap-next-requires
unwrap-next-requires c = search record_again

pub set_record-requires : goal.set_record-requires
set_record-requires c = search (parts_few, small_symbol, rules)

pub loop-i-preserved : goal.loop-i-preserved
loop-i-preserved c = search record_filled

pub returns : goal.returns
returns c = search records_filled
