-- `lowest` meets its contract: the first unknown below x that is found, or else x.
use Rattle.std.proofs.Common.{rules, arith}
use Rattle.std.proofs.lemmas.Iterator.{YieldsList-from_range}
use Rattle.std.proofs.lemmas.Iterator.Search.{find_from_yields_List}
use Rattle.paper.specs.Ends.{agree}
use Rattle.agreement.specs.Ends.{ends_of}
use Rattle.maps.proofs.Lowest.{lowest_found}
use Rattle.maps.proofs.lows.lowest.Goals as goal

pub returns : goal.returns
returns c =
    let e = c.args.ends.now in
    let x = c.args.x in
    lowest_found e.run.now e.unknowns x c.find.result _ e.sound c.requires (search rules)
    (find_from_yields_List (agree (ends_of e.run.now) e.unknowns x) _ _ c.find.result c.find.ensures.ran (YieldsList-from_range 0 x x (cc) (omega arith)) (λ y b q k. search rules))
