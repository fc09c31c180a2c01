-- `of` meets its contract: after x turns the lowest same items of x unknowns have been put.
use mathlib.Core.Path.{◌≡◌}
use lib.ListN.{take, replicate}
use Rattle.base.specs.Lists.{list_from}
use Rattle.base.specs.Regions.{put}
use Rattle.paper.specs.Sizes.{most_unknowns}
use Rattle.paper.specs.Maps.{lowest_of}
use Rattle.agreement.specs.Ends.{ends_of}
use Rattle.maps.proofs.lows.LowestItems.of.Given as goal

abbrev pub invariant-loop-x : goal.invariant-loop-x
invariant-loop-x l =
    l.lows ≡ put 0 (take l.x (list_from (lowest_of (ends_of l.ends.run.now) l.ends.unknowns) l.ends.unknowns 0)) (replicate most_unknowns 0)
