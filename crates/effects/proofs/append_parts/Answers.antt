-- `append_parts`: after some turns the statements of so many parts are there, and there is room for the rest.
use mathlib.Core.Path.{◌≡◌, refl, ◌∙◌}
use mathlib.Core.Logic.{inl}
use Prim.Native.Nat.{◌-◌}
use native.Mathlib.Omega.{arith}
use lib.ListN.{length}
use borrow.Author.Rules.{rules}
use Rattle.base.proofs.Froms.{from_length}
use Rattle.std.proofs.lemmas.List.{length_push}
use Rattle.std.proofs.lemmas.Slice.Zip.{zip_turn, zip_end}
use Rattle.effects.proofs.EffectLaws.{all_elements, room_less, parts_more, parts_over}
use Rattle.effects.proofs.append_parts.Goals as goal

pub loop-left-preserved : goal.loop-left-preserved
loop-left-preserved c =
    let i = c.loop-left.invariant in
    let t = zip_turn c.args.lefts.now c.args.rights.now c.loop-left.yielded c.into_iter-left-iterator.result _ c.next.new.self _ (cc) (cc) c.loop-left.yielded_by _ c.in-Some.is c.next.ensures.steps in
    let l = t.2 0 in
    let r = t.3 0 in
    rw (length_push c.loop-left.yielded (c.in-Some.left, c.in-Some.right))
    (record {
      long = search rules;
      left = room_less _ _ _ _ _ i.long c.append_item.ensures i.left t.0;
      onward = parts_more _ _ _ _ _ _ _ i.onward _ (c.append_item.ensures ∙ cc) t.0;
    })

pub returns : goal.returns
returns c =
    let z = zip_end c.args.lefts.now c.args.rights.now c.loop-left.yielded c.into_iter-left-iterator.result _ c.next.new.self _ (cc) (cc) c.loop-left.yielded_by c.in-None.is c.next.ensures.steps in
    let e : length c.args.lefts.now - length c.loop-left.yielded ≡ 0 = omega (arith, z, c.requires.1) in
    parts_over _ _ _ _ _ (inl (from_length _ _ _ ∙ e)) c.loop-left.invariant.onward
    ∙ rw (all_elements c.args.lefts.now _ refl, all_elements c.args.rights.now _ c.requires.1) refl
