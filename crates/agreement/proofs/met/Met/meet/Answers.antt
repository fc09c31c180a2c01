-- `meet` meets its contract: the greater unknown's word, the smaller one's bit.
use borrow.Author.Rules.{rules}
use Rattle.agreement.proofs.MetTable.{pair_met}
use Rattle.agreement.proofs.met.Met.meet.Goals as goal

pub returns : goal.returns
returns c = search (pair_met, rules)
