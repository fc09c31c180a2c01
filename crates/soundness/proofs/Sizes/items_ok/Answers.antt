-- `items_ok`: the test of every item below the count, and one of the rest.
use borrow.Author.Rules.{rules}
use mathlib.Core.Path.{refl, sym, ◌∙◌}
use native.Mathlib.Omega.{arith}
use Rattle.base.proofs.Ranges.{all_range}
use Rattle.soundness.proofs.SoundRegions.{and_then, and_stops}
use Rattle.soundness.proofs.SoundZeros.{item_at_ok, items_split}
use Rattle.soundness.proofs.Sizes.items_ok.Goals as goal

pub returns-then-all : goal.returns-then-all
returns-then-all c =
    let s = c.args.self in
    and_then _ _ _
    (all_range (item_at_ok s.cabinets s.unknowns s.records c.args.run.now) s.items _ c.all.ensures.ran refl (λ x q k. search rules) (λ x q k. search rules))
    _ c.if-all.true c.all_are.ensures
    ∙ sym (items_split s.cabinets s.unknowns s.records s.items c.args.run.now (omega arith))

pub returns-else-all : goal.returns-else-all
returns-else-all c =
    let s = c.args.self in
    and_stops _ _ _
    (all_range (item_at_ok s.cabinets s.unknowns s.records c.args.run.now) s.items _ c.all.ensures.ran refl (λ x q k. search rules) (λ x q k. search rules))
    c.if-all.false
    ∙ sym (items_split s.cabinets s.unknowns s.records s.items c.args.run.now (omega arith))
