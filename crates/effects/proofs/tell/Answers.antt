-- `tell`: after some turns so many cabinets have their news, and there is room for the rest.
use borrow.Author.Rules.{rules}
use Rattle.effects.proofs.EffectLaws.{room_less, news_more}
use Rattle.effects.proofs.tell.Goals as goal

pub loop-cabinet-preserved : goal.loop-cabinet-preserved
loop-cabinet-preserved c = record { long = search rules; left = search room_less; onward = search (news_more, rules) }
