-- `close_gap`: i bytes have moved.
use lib.ListN.{length-set}
use mathlib.Core.Path.{refl}
use native.Mathlib.Omega.{arith}
use Rattle.base.proofs.Regions.{shift_start, shift_again, gone_made}
use Rattle.layout.proofs.changes.close_gap.Goals as goal

pub loop-i-init : goal.loop-i-init
loop-i-init c = (shift_start _ _ _ (omega arith), refl)

pub loop-i-preserved : goal.loop-i-preserved
loop-i-preserved c = (search shift_again, simp length-set (omega arith))

pub returns : goal.returns
returns c = search gone_made
