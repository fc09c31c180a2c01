-- `write_lows` meets its contract: after j turns the lowest same items of j parts have been put.
use Rattle.agreement.proofs.Ranges.{part_few}
use Rattle.maps.proofs.Lowest.{no_lows, lows_more, lows_all}
use Rattle.maps.proofs.rows.write_lows.Goals as goal

pub loop-j-init : goal.loop-j-init
loop-j-init c = search no_lows

pub bounds-items-p : goal.bounds-items-p
bounds-items-p c = search part_few

pub loop-j-preserved : goal.loop-j-preserved
loop-j-preserved c = search lows_more

pub returns : goal.returns
returns c = search lows_all
