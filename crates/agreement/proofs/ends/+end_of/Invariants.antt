-- `end_of` meets its contract: one law for each way out. It ends because the unknown's number falls at each mark.
use Rattle.agreement.proofs.ends.+end_of.Given as goal

abbrev pub decreases-end_of : goal.decreases-end_of
decreases-end_of l = l.x
