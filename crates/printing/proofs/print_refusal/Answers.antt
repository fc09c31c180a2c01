-- `print_refusal` meets its contract: the words and the numbers, one after the other.
use Rattle.paper.specs.Programs.{printed_refusal}
use Rattle.printing.specs.Texts.{HasRoom, Adds}
use Rattle.printing.proofs.Bounds.{refusal_fits}
use Rattle.printing.proofs.Lines.{number_fits, at_fits, position_fits, newline_fits, refusal_adds}
use Rattle.printing.proofs.print_refusal.Goals as goal
use borrow.Author.Rules.{rules}

pub spaced-requires : goal.spaced-requires
spaced-requires c =
    let room : HasRoom c.new-text.result (printed_refusal c.args.number c.args.position) = search (refusal_fits, rules) in
    search (number_fits, rules)

pub word-requires-2 : goal.word-requires-2
word-requires-2 c =
    let room : HasRoom c.new-text.result (printed_refusal c.args.number c.args.position) = search (refusal_fits, rules) in
    search (at_fits, rules)

pub spaced-requires-2 : goal.spaced-requires-2
spaced-requires-2 c = search (position_fits, refusal_fits, rules)

pub word-requires-3 : goal.word-requires-3
word-requires-3 c = search (newline_fits, refusal_fits, rules)

pub returns : goal.returns
returns c =
    let z : Adds c.new-text.result (printed_refusal c.args.number c.args.position) c.word-3.new.self = search (refusal_adds, refusal_fits, rules) in
    search rules
