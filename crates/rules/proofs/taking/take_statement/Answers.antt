-- `take_statement` meets its contract: 18, and the store that the rule gives back is put where it was.
use Rattle.rules.proofs.CarryLaws.{decompose_left, carried}
use Rattle.rules.proofs.TakeLaws.{statement_full, statement_fits}
use borrow.Author.Rules.{rules}
use Rattle.rules.proofs.taking.take_statement.Goals as goal

pub products-n-requires : goal.products-n-requires
products-n-requires c = (search rules, search rules, search decompose_left)

pub returns-then-lacks_room : goal.returns-then-lacks_room
returns-then-lacks_room c = search statement_full

pub by_choice-requires : goal.by_choice-requires
by_choice-requires c = (search rules, search statement_fits, search rules)

pub returns : goal.returns
returns c =
    let q = c.choose-choice.ensures in
    let f = statement_fits _ _ _ _ _ _ q _ c.products-n.ensures _ c.lacks_room.ensures c.requires.1 c.if-lacks_room.false in
    let h = c.in_ok-carried.ensures in
    let s = c.requires.0 in
    carried _ _ _ _ _ _ _ c.told-run s f q _ (search rules) c.load_store-store.ensures _ _ _ _ h _ (search rules) c.save_store.ensures
