-- `memo_ok`: a memo with no pair, or the test of every row.
use borrow.Author.Rules.{rules}
use mathlib.Core.Path.{refl, ◌∙◌}
use Rattle.base.proofs.Ranges.{all_range}
use Rattle.layout.specs.Soundness.{memo_row_ok, memo_ok}
use Rattle.soundness.proofs.SoundMemos.{memo_none}
use Rattle.soundness.proofs.Sizes.memo_ok.Goals as goal

pub returns-then-all_are : goal.returns-then-all_are
returns-then-all_are c = c.if-all_are.true ∙ memo_none _ _ _ _ _ c.all_are.ensures c.if-all_are.true

pub returns-else-all_are : goal.returns-else-all_are
unfolding memo_ok
returns-else-all_are c =
    all_range (memo_row_ok c.args.self.cabinets c.args.self.unknowns c.args.run.now c.args.c) _ _ c.all.ensures.ran refl
    (λ x q k. search rules) (λ x q k. search rules)
