-- `number` puts the digits that the library makes.
use Rattle.printing.proofs.Texts.{decimal_is}
use Rattle.printing.proofs.Text.number.Goals as goal

pub word-requires : goal.word-requires
word-requires c = rw (c.as_bytes.ensures.value, c.format.ensures.text, ← decimal_is c.args.n c.ranges.n.fits) c.requires

pub returns : goal.returns
returns c = rw (decimal_is c.args.n c.ranges.n.fits, ← c.format.ensures.text, ← c.as_bytes.ensures.value) c.word.ensures
