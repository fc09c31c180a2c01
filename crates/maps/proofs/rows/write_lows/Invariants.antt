-- `write_lows` meets its contract: after j turns the lowest same items of j parts have been put.
use mathlib.Core.Path.{◌≡◌}
use lib.ListN.{take}
use Rattle.base.specs.Regions.{put}
use Rattle.maps.specs.Rows.{lows_of}
use Rattle.maps.proofs.rows.write_lows.Given as goal

abbrev pub invariant-loop-j : goal.invariant-loop-j
invariant-loop-j l =
    l.map ≡ put l.at (take l.j (lows_of l.items.ends.run.now l.items.ends.unknowns l.i)) l.initial.map
