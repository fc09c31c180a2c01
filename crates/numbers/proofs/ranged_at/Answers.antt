-- `ranged_at` meets its contract: one law of reading for each way out.
use Rattle.std.proofs.Common.{rules}
use Rattle.numbers.proofs.Reading.{ranged_refused, ranged_low, ranged_high, ranged_got}
use Rattle.numbers.proofs.ranged_at.Goals as goal

pub returns-in_default : goal.returns-in_default
returns-in_default c = search (ranged_refused, rules)

pub returns-then-contains : goal.returns-then-contains
returns-then-contains c = search (ranged_got, rules)

pub returns-else-contains : goal.returns-else-contains
returns-else-contains c = search (ranged_low, ranged_high, rules)
