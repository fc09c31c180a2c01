-- `take`: what each kind of item asks follows from the run's soundness.
use native.Mathlib.Omega.{arith}
use Rattle.rules.proofs.SoundItems.{sound_place, sound_fits, sound_statement, sound_cabinets, sound_ask, sound_news, sound_news_cabinet}
use Rattle.rules.proofs.taking.take.Goals as goal

pub item_at-requires : goal.item_at-requires
item_at-requires c = sound_place _ _ c.requires (omega arith)

pub take_statement-requires : goal.take_statement-requires
take_statement-requires c =
    let s = c.requires in
    (sound_statement _ _ s (omega arith) _ c.item_at.ensures _ _ _ c.in-Statement.is c.told-run, sound_fits _ _ s (omega arith))

pub take_ask-requires : goal.take_ask-requires
take_ask-requires c =
    let s = c.requires in
    (sound_fits _ _ s (omega arith), sound_cabinets _ s, sound_ask _ _ s (omega arith) _ c.item_at.ensures _ _ _ c.in-Ask.is)

pub take_news-requires : goal.take_news-requires
take_news-requires c =
    let s = c.requires in
    let e = c.item_at.ensures in
    let f = c.in-News.is in
    (sound_fits _ _ s (omega arith), sound_news_cabinet _ _ s (omega arith) _ e _ _ _ f, sound_news _ _ s (omega arith) _ e _ _ _ f)
