-- `bits_at`: the loop has tested the bytes below its index, and `clean` says whether they are 0 or 1.
use mathlib.Core.Path.{◌≡◌}
use Rattle.base.specs.Choice.{all_below}
use Rattle.soundness.proofs.SoundMemos.{bit_at}
use Rattle.soundness.proofs.bits_at.Given as goal

abbrev pub invariant-loop-b : goal.invariant-loop-b
invariant-loop-b l = l.clean ≡ all_below l.b-index (bit_at l.run l.at)
