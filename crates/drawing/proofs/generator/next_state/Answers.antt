-- `next_state` meets its contract: what wraps before the sum wraps with it.
use Rattle.std.proofs.Common.{rules}
use Rattle.paper.specs.Programs.{next_state}
use Rattle.drawing.proofs.generator.next_state.Goals as goal

pub returns : goal.returns
unfolding next_state
returns c = search rules
