-- `run_file` meets its contract: one law of the run for each way out. Every element of the file is a byte.
use Rattle.mapping.proofs.PrintLaws.{ran_refused, loaded_sound, ran_to_its_end}
use borrow.Author.Rules.{rules}
use Rattle.mapping.proofs.run_file.Goals as goal

pub returns-in_err-load : goal.returns-in_err-load
returns-in_err-load c = search (ran_refused, rules)

pub draw-requires : goal.draw-requires
draw-requires c = search (loaded_sound, c.type_inv.file, rules)

pub returns : goal.returns
returns c = ran_to_its_end c.args.file.now c.args.run.now c.told-run _ c.in_ok-load.ensures c.type_inv.file _ c.draw.ensures
