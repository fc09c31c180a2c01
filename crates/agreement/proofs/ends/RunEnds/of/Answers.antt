-- `of` meets its contract: the run is sound, and after x turns the ends of x unknowns stand in their places.
use borrow.Author.Rules.{rules}
use native.Mathlib.Omega.{arith}
use Rattle.agreement.proofs.Ranges.{checked_run}
use Rattle.agreement.proofs.Chains.{no_end, end_small, one_more_end, all_end}
use Rattle.agreement.proofs.ends.RunEnds.of.Goals as goal

pub loop-x-init : goal.loop-x-init
loop-x-init c = (search checked_run, search no_end)

pub overflow_cast-ends : goal.overflow_cast-ends
overflow_cast-ends c = record { fits = search end_small }

pub bounds-ends-x : goal.bounds-ends-x
bounds-ends-x c = omega (arith, c.loop-x.invariant.0.few_unknowns)

pub loop-x-preserved : goal.loop-x-preserved
loop-x-preserved c = (search rules, search one_more_end)

pub invariant_of-result : goal.invariant_of-result
invariant_of-result c = record { fits = c.fits-run; sound = c.loop-x.invariant.0; followed = search all_end }
