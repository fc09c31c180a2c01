-- `is_met` meets its contract: the greater unknown's word, the smaller one's bit.
use borrow.Author.Rules.{rules}
use Rattle.std.proofs.lemmas.Nat.Bits.{shr_and_one}
use Rattle.agreement.specs.Met.{met_of}
use Rattle.agreement.proofs.met.Met.is_met.Goals as goal

pub returns : goal.returns
unfolding met_of
returns c = rw shr_and_one (search rules)
