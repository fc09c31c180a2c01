-- `records_ok`: the test of every record below R, and one of the rest.
use borrow.Author.Rules.{rules}
use mathlib.Core.Path.{refl, sym, ◌∙◌}
use native.Mathlib.Omega.{arith}
use Rattle.base.proofs.Ranges.{all_range}
use Rattle.layout.specs.Soundness.{parts_ok}
use Rattle.soundness.proofs.SoundRegions.{and_then, and_stops}
use Rattle.soundness.proofs.SoundZeros.{records_split}
use Rattle.soundness.proofs.Sizes.records_ok.Goals as goal

pub returns-then-all : goal.returns-then-all
returns-then-all c =
    let s = c.args.self in
    and_then _ _ _
    (all_range (λ i. parts_ok s.unknowns i c.args.run.now) s.records _ c.all.ensures.ran refl (λ x q k. search rules) (λ x q k. search rules))
    _ c.if-all.true c.all_are.ensures
    ∙ sym (records_split s.unknowns s.records c.args.run.now (omega arith))

pub returns-else-all : goal.returns-else-all
returns-else-all c =
    let s = c.args.self in
    and_stops _ _ _
    (all_range (λ i. parts_ok s.unknowns i c.args.run.now) s.records _ c.all.ensures.ran refl (λ x q k. search rules) (λ x q k. search rules))
    c.if-all.false
    ∙ sym (records_split s.unknowns s.records c.args.run.now (omega arith))
