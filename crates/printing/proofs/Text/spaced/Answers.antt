-- `spaced` puts the space, then the number.
use Rattle.printing.proofs.Texts.{then_fits, then_adds}
use Rattle.printing.proofs.Text.spaced.Goals as goal

pub number-requires : goal.number-requires
number-requires c = then_fits c.requires c.word.ensures

pub returns : goal.returns
returns c = then_adds c.requires c.word.ensures c.number.ensures
