-- `print_map` puts a line a turn.
use Rattle.base.specs.Lists.{list_from}
use Rattle.paper.specs.Files.{each}
use Rattle.printing.specs.Prints.{row_printed}
use Rattle.printing.specs.Texts.{Adds}
use Rattle.printing.proofs.print_map.Given as goal

abbrev pub invariant-loop-x : goal.invariant-loop-x
invariant-loop-x l = Adds l.initial.text (each (row_printed l.map) (list_from (λ y. y) l.x 0)) l.text
