-- `statement` meets its contract: the span that was found lies in the file, and is its part.
use Rattle.std.proofs.Common.{arith}
use Rattle.reading.proofs.Spans.{part_ends, part_is}
use Rattle.reading.proofs.statement.Goals as goal

pub overflow_add-result : goal.overflow_add-result
overflow_add-result c = omega (arith, part_ends _ _ c.find_statement-span.result c.find_statement-span.ensures)

pub slice_bounds-result-end : goal.slice_bounds-result-end
slice_bounds-result-end c = search part_ends

pub returns : goal.returns
returns c = search part_is
