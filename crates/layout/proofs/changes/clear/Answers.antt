-- `clear` is three fills that meet.
use Rattle.layout.proofs.ChangeLaws.{cleared_put}
use Rattle.layout.proofs.changes.clear.Goals as goal

pub returns : goal.returns
returns c = search cleared_put
