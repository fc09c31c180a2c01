-- `store_ok`: the test of every unknown's mark.
use borrow.Author.Rules.{rules}
use mathlib.Core.Path.{refl}
use Rattle.base.proofs.Ranges.{all_range}
use Rattle.layout.specs.Soundness.{store_ok}
use Rattle.soundness.proofs.SoundRegions.{held_ok}
use Rattle.soundness.proofs.Sizes.store_ok.Goals as goal

pub returns : goal.returns
unfolding store_ok
returns c =
    all_range (held_ok c.args.self.cabinets c.args.self.unknowns c.args.self.records c.args.run.now c.args.c) _ _ c.all.ensures.ran refl
    (λ x q k. search rules) (λ x q k. search rules)
