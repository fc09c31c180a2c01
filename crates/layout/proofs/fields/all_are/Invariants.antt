-- `all_are`: the loop has tested the bytes below its index, and `clean` says whether they are v.
use mathlib.Core.Path.{◌≡◌}
use Rattle.layout.specs.Soundness.{all_are}
use Rattle.layout.proofs.fields.all_are.Given as goal

abbrev pub invariant-loop-b : goal.invariant-loop-b
invariant-loop-b l = l.clean ≡ all_are l.v l.b-index l.at l.run
