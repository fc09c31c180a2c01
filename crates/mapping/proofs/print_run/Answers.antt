-- `print_run` meets its contract: one law of a run at its end for each way out.
use Rattle.mapping.proofs.PrintLaws.{clash_printed, map_accepted, unknowns_few, items_printed}
use borrow.Author.Rules.{rules}
use Rattle.mapping.proofs.print_run.Goals as goal

pub returns-then-has_clashed : goal.returns-then-has_clashed
returns-then-has_clashed c = search clash_printed

pub unwrap-requires : goal.unwrap-requires
unwrap-requires c = search map_accepted

pub print_map-requires : goal.print_map-requires
print_map-requires c = record { known = search unknowns_few; room = search rules }

pub returns : goal.returns
returns c = search (items_printed, c.fits-run)
