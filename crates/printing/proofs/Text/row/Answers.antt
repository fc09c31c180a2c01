-- `row` meets its contract: the two numbers, the look and the newline, one after the other.
use Rattle.printing.proofs.Lines.{unknown_fits, lowest_fits, look_fits, line_end_fits, row_adds}
use Rattle.printing.proofs.Text.row.Goals as goal

pub number-requires : goal.number-requires
number-requires c = unknown_fits c.args.map.now c.args.x c.requires.room

pub spaced-requires : goal.spaced-requires
spaced-requires c = lowest_fits c.args.map.now c.args.x c.requires.room c.number.ensures _ c.from.ensures

pub look-requires : goal.look-requires
look-requires c =
    record {
      known = c.requires.known;
      room = look_fits c.args.map.now c.args.x c.requires.room c.number.ensures _ c.from.ensures c.spaced.ensures;
    }

pub word-requires : goal.word-requires
word-requires c =
    line_end_fits c.args.map.now c.args.x c.requires.room c.number.ensures _ c.from.ensures c.spaced.ensures c.look.ensures

pub returns : goal.returns
returns c =
    row_adds c.args.map.now c.args.x c.requires.room c.number.ensures _ c.from.ensures c.spaced.ensures c.look.ensures c.word.ensures
