-- `stores_ok`: the test of every cabinet.
use borrow.Author.Rules.{rules}
use mathlib.Core.Path.{refl}
use Rattle.base.proofs.Ranges.{all_range}
use Rattle.layout.specs.Soundness.{store_ok, stores_ok}
use Rattle.soundness.proofs.Sizes.stores_ok.Goals as goal

pub returns : goal.returns
unfolding stores_ok
returns c =
    all_range (store_ok c.args.self.cabinets c.args.self.unknowns c.args.self.records c.args.run.now) _ _ c.all.ensures.ran refl
    (λ x q k. search rules) (λ x q k. search rules)
