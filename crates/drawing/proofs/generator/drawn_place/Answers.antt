-- `drawn_place` meets its contract by what it computes.
use Rattle.std.proofs.Common.{refl}
use Rattle.paper.specs.Programs.{drawn_place}
use Rattle.drawing.proofs.generator.drawn_place.Goals as goal

pub returns : goal.returns
unfolding drawn_place
returns c = refl
