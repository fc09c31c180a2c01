-- `skip` meets its contract: the rest of the reads end as all do.
use Rattle.std.proofs.Common.{rules}
use Rattle.reading.proofs.Times.{none_skipped, all_skipped, skip_refused, skip_one}
use Rattle.reading.proofs.skip.Goals as goal

pub loop-init : goal.loop-init
loop-init g c = search none_skipped

pub returns-in_err-here : goal.returns-in_err-here
returns-in_err-here g c = search (skip_refused, rules)

pub loop-preserved : goal.loop-preserved
loop-preserved g c = skip_one _ _ _ _ _ c.loop.invariant c.loop-test.true c.in_ok-here.field-0 c.in_ok-here.ensures

pub returns : goal.returns
returns g c = search all_skipped
