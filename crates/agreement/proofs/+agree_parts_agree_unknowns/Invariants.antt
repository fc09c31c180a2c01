-- The two functions meet their contracts: one law for each way out. They end because pairs not yet met fall: from unknowns to
-- parts a pair is met, and from parts to unknowns none is lost.
use Prim.Native.Nat.{◌+◌, ◌*◌}
use Rattle.paper.proofs.MetPairsEnd.{unmet}
use Rattle.layout.specs.Fields.{part_of}
use Rattle.agreement.specs.Ends.{ends_of}
use Rattle.agreement.specs.Met.{met_of}
use Rattle.agreement.proofs.AgreementLaws.{Compared}
use Rattle.agreement.proofs.+agree_parts_agree_unknowns.Given as goal

abbrev pub invariant-agree_parts-loop-j : goal.invariant-agree_parts-loop-j
invariant-agree_parts-loop-j l =
    Compared l.ends.unknowns (ends_of l.ends.run.now) (part_of l.ends.run.now l.i) (part_of l.ends.run.now l.k) l.n l.j (met_of l.initial.next.words) (met_of l.next.words)

-- twice the pairs not yet met, and one more for parts
abbrev pub decreases-agree_parts : goal.decreases-agree_parts
decreases-agree_parts l = 2 * unmet l.ends.now.unknowns (met_of l.met.words) + 1

abbrev pub decreases-agree_unknowns : goal.decreases-agree_unknowns
decreases-agree_unknowns l = 2 * unmet l.ends.now.unknowns (met_of l.met.words)
