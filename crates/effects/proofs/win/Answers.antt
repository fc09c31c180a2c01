-- `win`: an owner mark that changes leaves the item at its place, and the room for the news.
use borrow.Author.Rules.{rules}
use Rattle.effects.proofs.EffectLaws.{owner_fits, removed_room}
use Rattle.effects.proofs.win.Goals as goal

pub remove_item-requires : goal.remove_item-requires
remove_item-requires c =
    let f = owner_fits _ _ _ _ _ _ c.set_owner.ensures c.requires.0 in
    (f.count, f.place)

pub tell-requires : goal.tell-requires
tell-requires c =
    let f = owner_fits _ _ _ _ _ _ c.set_owner.ensures c.requires.0 in
    (removed_room _ _ _ (search rules) f _ c.remove_item.ensures, search rules)
