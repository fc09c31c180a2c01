-- `parts_ok`: the count, and the test of every part place.
use borrow.Author.Rules.{rules}
use borrow.Author.Tests.{le-leb, lt-leb}
use lib.Dec.{leb}
use mathlib.Core.Path.{refl, ap}
use Prim.Native.Nat.{ℕ}
use Rattle.base.proofs.Ranges.{all_range}
use Rattle.layout.specs.Soundness.{parts_ok}
use Rattle.soundness.proofs.SoundRegions.{part_ok, and_then, and_stops}
use Rattle.soundness.proofs.Sizes.parts_ok.Goals as goal

pub returns-then-n-le-MOST_PARTS : goal.returns-then-n-le-MOST_PARTS
unfolding parts_ok
returns-then-n-le-MOST_PARTS c =
    and_then _ _ _ (ap (λ (n : ℕ). leb n 4) c.part_count-n.ensures.same) _ (le-leb _ _ c.if-n-le-MOST_PARTS.true)
    (all_range (part_ok c.args.self.unknowns c.args.i c.args.run.now) _ _ c.all.ensures.ran refl (λ x q k. search rules) (λ x q k. search rules))

pub returns-else-n-le-MOST_PARTS : goal.returns-else-n-le-MOST_PARTS
unfolding parts_ok
returns-else-n-le-MOST_PARTS c =
    and_stops _ _ _ (ap (λ (n : ℕ). leb n 4) c.part_count-n.ensures.same) (lt-leb _ _ c.if-n-le-MOST_PARTS.false)
