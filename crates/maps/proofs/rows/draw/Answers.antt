-- `draw` meets its contract: after x turns x rows are drawn and all else is 0.
use Rattle.maps.proofs.Drawing.{none_drawn, all_drawn}
use Rattle.maps.proofs.rows.draw.Goals as goal

pub loop-x-init : goal.loop-x-init
loop-x-init c = none_drawn _ _ _ (c.fill.ensures.after (λ y e. e)) c.told-map

pub returns : goal.returns
returns c = rw (← c.of-items.ensures) (search all_drawn)
