-- `part_count` meets its contract: a greater byte counts as four.
use Rattle.std.proofs.lemmas.Grind.{common_steps}
use native.Mathlib.Omega.{arith}
use Rattle.printing.specs.Prints.{part_count_at}
use Rattle.printing.proofs.part_count.Goals as goal

pub returns-clause-same : goal.returns-clause-same
unfolding part_count_at
returns-clause-same c = grind (arith, common_steps)
