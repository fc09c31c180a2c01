-- `most_steps` meets its contract: what it computes from three bytes fits.
use Rattle.drawing.proofs.StepCounts.{held_fits, all_held_fit, steps_fit, news_fit, all_steps_fit, steps_are}
use Rattle.drawing.proofs.running.most_steps.Goals as goal

pub overflow_mul-result-3 : goal.overflow_mul-result-3
overflow_mul-result-3 c = record { fits = search held_fits }

pub overflow_add-result : goal.overflow_add-result
overflow_add-result c = record { fits = search all_held_fit }

pub overflow_mul-result-5 : goal.overflow_mul-result-5
overflow_mul-result-5 c = record { fits = search steps_fit }

pub overflow_mul-result-7 : goal.overflow_mul-result-7
overflow_mul-result-7 c = record { fits = search news_fit }

pub overflow_add-result-3 : goal.overflow_add-result-3
overflow_add-result-3 c = record { fits = search all_steps_fit }

pub returns : goal.returns
returns c = search steps_are
