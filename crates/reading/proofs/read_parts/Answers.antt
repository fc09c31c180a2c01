-- `read_parts` meets its contract: one law of a record for each way out, and for the turns of its loop.
use Rattle.std.proofs.Common.{rules}
use Rattle.reading.proofs.RecordFinds.{parts_read, part_refused, part_read, part_fits}
use Rattle.reading.proofs.read_parts.Goals as goal

pub returns-in_err-part : goal.returns-in_err-part
returns-in_err-part c = search (part_refused, rules)

pub overflow_cast-parts : goal.overflow_cast-parts
overflow_cast-parts c = search (part_fits, c.in_ok-part.ensures)

pub loop-i-preserved : goal.loop-i-preserved
loop-i-preserved c = search (part_read, c.in_ok-part.ensures)

pub returns : goal.returns
returns c = search parts_read
