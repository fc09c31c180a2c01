-- `of` meets its contract: after x turns the lowest same items of x unknowns have been put.
use native.Mathlib.Omega.{arith}
use Rattle.maps.proofs.Lowest.{no_items, items_more, items_all}
use Rattle.maps.proofs.lows.LowestItems.of.Goals as goal

pub loop-x-init : goal.loop-x-init
loop-x-init c = search no_items

pub bounds-lows-x : goal.bounds-lows-x
bounds-lows-x c = omega (arith, c.of-ends.result.sound.few_unknowns)

pub loop-x-preserved : goal.loop-x-preserved
loop-x-preserved c = search items_more

pub invariant_of-result : goal.invariant_of-result
invariant_of-result c = record { are = search items_all }
