-- `draw` meets its contract: the steps left from the bytes as they are give what all give; one law for each way out.
use Rattle.std.proofs.Common.{rules}
use Rattle.drawing.proofs.DrawLaws.{draw_start, running_sound, some_pending, draw_over, draw_ended, draw_refused, draw_more}
use Rattle.drawing.proofs.running.draw.Goals as goal

pub loop-init : goal.loop-init
loop-init c = draw_start _ _ c.step_count-end.ensures (search rules) (search rules) c.fits-run

pub returns-then-ended : goal.returns-then-ended
returns-then-ended c = search draw_ended

pub taken_place-place-requires : goal.taken_place-place-requires
taken_place-place-requires c = (search running_sound, search some_pending)

pub take-requires : goal.take-requires
take-requires c = search (running_sound, rules)

pub returns-then-is_err : goal.returns-then-is_err
returns-then-is_err c = search draw_refused

pub loop-preserved : goal.loop-preserved
loop-preserved c = search draw_more

pub returns : goal.returns
returns c = search draw_over
