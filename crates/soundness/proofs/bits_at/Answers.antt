-- `bits_at`: the loop has tested the bytes below its index, and `clean` says whether they are 0 or 1.
use Rattle.soundness.proofs.SoundMemos.{bits_none, bits_next}
use Rattle.soundness.proofs.bits_at.Goals as goal

pub loop-b-init : goal.loop-b-init
loop-b-init c = bits_none c.args.n _ _

pub loop-b-preserved : goal.loop-b-preserved
loop-b-preserved c = search bits_next
