-- `all_statements`: the test of every item.
use borrow.Author.Rules.{rules}
use mathlib.Core.Path.{refl}
use Rattle.base.proofs.Ranges.{all_range}
use Rattle.statements.specs.Writes.{is_statement, all_statements}
use Rattle.statements.proofs.writing.all_statements.Goals as goal

pub returns : goal.returns
unfolding all_statements
returns c =
    all_range (is_statement c.args.run.now) c.args.n _ c.all.ensures.ran refl
    (λ x q k. search rules) (λ x q k. search rules)
