-- `waits`: what is asked of the item at a place follows from the run's soundness.
use Rattle.rules.proofs.SoundItems.{sound_place, sound_statement}
use Rattle.rules.proofs.taking.waits.Goals as goal

pub item_at-requires : goal.item_at-requires
item_at-requires c = search sound_place

pub statement_waits-requires : goal.statement_waits-requires
statement_waits-requires c = search sound_statement
