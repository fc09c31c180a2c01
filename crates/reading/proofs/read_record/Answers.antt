-- `read_record` meets its contract: a record has at most four parts.
use Rattle.std.proofs.Common.{arith}
use Rattle.numbers.proofs.Reading.{ranged_below}
use Rattle.reading.proofs.read_record.Goals as goal

pub read_parts-requires : goal.read_parts-requires
read_parts-requires c = (c.requires, omega (arith, ranged_below _ _ _ _ _ _ _ c.in_ok-count.ensures))
