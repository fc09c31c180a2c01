-- `look` meets its contract, open or a plate.
use Rattle.printing.proofs.Lines.{plate_word, open_is, plate_is}
use Rattle.printing.proofs.Texts.{first_fits, then_fits, then_adds}
use Rattle.printing.proofs.Text.look.Goals as goal

pub word-requires : goal.word-requires
word-requires c = rw (open_is c.args.map.now c.args.x c.if-kind-eq-OPEN.true) at c.requires.room

pub returns-then-kind-eq-OPEN : goal.returns-then-kind-eq-OPEN
returns-then-kind-eq-OPEN c = rw (open_is c.args.map.now c.args.x c.if-kind-eq-OPEN.true) c.word.ensures

pub word-requires-else-kind-eq-OPEN : goal.word-requires-else-kind-eq-OPEN
word-requires-else-kind-eq-OPEN c = first_fits plate_word _ (rw (plate_is c.args.map.now c.args.x c.if-kind-eq-OPEN.false) at c.requires.room)

pub plate-requires : goal.plate-requires
plate-requires c =
    record {
      known = c.requires.known;
      room = then_fits (rw (plate_is c.args.map.now c.args.x c.if-kind-eq-OPEN.false) at c.requires.room) c.word-else-kind-eq-OPEN.ensures;
    }

pub returns-else-kind-eq-OPEN : goal.returns-else-kind-eq-OPEN
returns-else-kind-eq-OPEN c =
    rw (plate_is c.args.map.now c.args.x c.if-kind-eq-OPEN.false)
    (then_adds (rw (plate_is c.args.map.now c.args.x c.if-kind-eq-OPEN.false) at c.requires.room) c.word-else-kind-eq-OPEN.ensures c.plate.ensures)
