-- `plate` puts a part a turn.
use Rattle.base.specs.Lists.{list_from}
use Rattle.paper.specs.Files.{each}
use Rattle.paper.specs.Programs.{spaced}
use Rattle.printing.specs.Prints.{part_at}
use Rattle.printing.specs.Texts.{Adds}
use Rattle.printing.proofs.Text.plate.Given as goal

abbrev pub invariant-loop-part : goal.invariant-loop-part
invariant-loop-part l = Adds l.initial.self (each spaced (list_from (part_at l.map l.x) l.part-index 0)) l.self
