-- `owners_ok`: the test of every unknown.
use borrow.Author.Rules.{rules}
use mathlib.Core.Path.{refl}
use Rattle.base.proofs.Ranges.{all_range}
use Rattle.layout.specs.Soundness.{owner_ok, owners_ok}
use Rattle.soundness.proofs.Sizes.owners_ok.Goals as goal

pub returns : goal.returns
unfolding owners_ok
returns c =
    all_range (owner_ok c.args.self.unknowns c.args.self.records c.args.run.now) _ _ c.all.ensures.ran refl
    (λ x q k. search rules) (λ x q k. search rules)
