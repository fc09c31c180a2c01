-- `decompose`: the parts are read before anything is changed, and the item that goes leaves the room that was asked for.
use Rattle.effects.proofs.EffectLaws.{parts_fit, parts_alike, decomposed}
use Rattle.effects.proofs.decompose.Goals as goal

pub append_parts-requires : goal.append_parts-requires
append_parts-requires c = (search parts_fit, search parts_alike)

pub returns : goal.returns
returns c = search decomposed
