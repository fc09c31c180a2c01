-- `write_number` meets its contract: one law of writing for each way out. It ends because the number falls.
use Rattle.numbers.proofs.Writing.{room_for_one, short_written, room_for_rest, long_written}
use borrow.Author.Rules.{rules}
use Rattle.numbers.proofs.+write_number.Goals as goal

pub bounds-file-at : goal.bounds-file-at
bounds-file-at t c = search room_for_one

pub returns-then-n-lt128 : goal.returns-then-n-lt128
returns-then-n-lt128 t c = search short_written

pub bounds-file-at-2 : goal.bounds-file-at-2
bounds-file-at-2 t c = search room_for_one

pub write_number-requires : goal.write_number-requires
write_number-requires t c = search (room_for_rest, rules)

pub returns : goal.returns
returns t c = search long_written
