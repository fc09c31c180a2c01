-- `dereference`: the memo's gain leaves the item at its place.
use Rattle.effects.proofs.EffectLaws.{pair_fits}
use Rattle.effects.proofs.dereference.Goals as goal

pub replace-requires : goal.replace-requires
replace-requires c = search pair_fits
