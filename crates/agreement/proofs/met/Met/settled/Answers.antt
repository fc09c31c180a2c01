-- `settled` meets its contract: one unknown first, then the table.
use Rattle.agreement.proofs.MetTable.{settled_same, settled_met}
use Rattle.agreement.proofs.met.Met.settled.Goals as goal

pub returns-then-x-y : goal.returns-then-x-y
returns-then-x-y c = search settled_same

pub returns-else-x-y : goal.returns-else-x-y
returns-else-x-y c = search settled_met
