-- `fill_statements` meets its contract: one law of filling for the way out, and for the turns of its loop.
use Rattle.statements.proofs.Filled.{no_statement_yet, statements_filled, statement_again, room_for_one, statement_filled}
use Rattle.std.proofs.Common.{◌≡◌, length, arith}
use Rattle.layout.specs.Offsets.{run_bytes}
use borrow.Author.Rules.{rules}
use Rattle.statements.proofs.loading.fill_statements.Goals as goal

pub loop-init : goal.loop-init
loop-init c = search no_statement_yet

pub unwrap-next-requires : goal.unwrap-next-requires
unwrap-next-requires c = search statement_again

pub append_item-requires : goal.append_item-requires
append_item-requires c = search (room_for_one, rules)

pub loop-preserved : goal.loop-preserved
loop-preserved c = let l : length c.append_item.new.run ≡ run_bytes = omega arith in search statement_filled

pub returns : goal.returns
returns c = search statements_filled
