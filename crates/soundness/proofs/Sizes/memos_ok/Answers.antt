-- `memos_ok`: the test of every cabinet.
use borrow.Author.Rules.{rules}
use mathlib.Core.Path.{refl}
use Rattle.base.proofs.Ranges.{all_range}
use Rattle.layout.specs.Soundness.{memo_ok, memos_ok}
use Rattle.soundness.proofs.Sizes.memos_ok.Goals as goal

pub returns : goal.returns
unfolding memos_ok
returns c =
    all_range (memo_ok c.args.self.cabinets c.args.self.unknowns c.args.run.now) _ _ c.all.ensures.ran refl
    (λ x q k. search rules) (λ x q k. search rules)
