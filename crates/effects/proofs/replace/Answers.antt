-- `replace`: after some turns so many products are there, and there is room for the rest.
use mathlib.Core.Path.{refl}
use native.Mathlib.Omega.{arith}
use borrow.Author.Rules.{rules}
use Rattle.effects.proofs.EffectLaws.{removed_room, room_less, items_more}
use Rattle.effects.proofs.replace.Goals as goal

pub loop-product-init : goal.loop-product-init
loop-product-init c =
    record { long = search rules; left = omega (arith, removed_room _ _ _ c.told-run c.requires _ c.remove_item.ensures); onward = refl }

pub loop-product-preserved : goal.loop-product-preserved
loop-product-preserved c = record { long = search rules; left = search room_less; onward = search items_more }
