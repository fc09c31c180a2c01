-- `same_item` meets its contract: with no pair met, the answer is that of depth V.
use borrow.Author.Rules.{rules}
use borrow.Author.Tests.{eq-eqb}
use Rattle.agreement.proofs.MetTable.{none_settled}
use Rattle.agreement.proofs.AgreementLaws.{one_agrees, asked_answers}
use Rattle.agreement.proofs.ends.RunEnds.same_item.Goals as goal

pub returns-then-x-y : goal.returns-then-x-y
returns-then-x-y c = rw (eq-eqb _ _ c.if-x-y.true) (search one_agrees)

pub agree_unknowns-requires : goal.agree_unknowns-requires
agree_unknowns-requires c = (search rules, search rules, none_settled _ _ _ c.new.ensures c.if-x-y.false)

pub returns-else-x-y : goal.returns-else-x-y
returns-else-x-y c = rw c.is_ok.ensures.value (search asked_answers)
