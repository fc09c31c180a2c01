-- `taken_place` meets its contract: what is drawn of the pending places is one of them.
use Rattle.std.proofs.Common.{rules}
use Rattle.drawing.proofs.DrawLaws.{drawn_within, place_taken}
use Rattle.drawing.proofs.running.taken_place.Goals as goal

pub ready_from-requires : goal.ready_from-requires
ready_from-requires c = (search rules, search drawn_within)

pub returns : goal.returns
returns c = search place_taken
