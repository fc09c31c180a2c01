-- `conflict`: the clash leaves the item at its place.
use Rattle.effects.proofs.EffectLaws.{clash_fits}
use Rattle.effects.proofs.conflict.Goals as goal

pub replace-requires : goal.replace-requires
replace-requires c = search clash_fits
