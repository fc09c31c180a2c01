-- `pairs_of` meets its contract: a byte's pairs fit.
use Rattle.drawing.proofs.StepCounts.{square_fits}
use Rattle.drawing.proofs.running.pairs_of.Goals as goal

pub overflow_mul-result : goal.overflow_mul-result
overflow_mul-result c = record { fits = search square_fits }
