-- `new` meets its contract: no word has a bit.
use Rattle.agreement.proofs.MetTable.{none_met}
use Rattle.agreement.proofs.met.Met.new.Goals as goal

pub returns : goal.returns
returns c = search none_met
