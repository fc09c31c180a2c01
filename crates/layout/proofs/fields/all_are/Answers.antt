-- `all_are`: the loop has tested the bytes below its index, and `clean` says whether they are v.
use Rattle.layout.proofs.FieldLaws.{all_none, all_next}
use Rattle.layout.proofs.fields.all_are.Goals as goal

pub loop-b-init : goal.loop-b-init
loop-b-init c = all_none _ c.args.n _ _

pub loop-b-preserved : goal.loop-b-preserved
loop-b-preserved c = search all_next
