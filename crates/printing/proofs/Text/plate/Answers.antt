-- `plate` puts the symbol, then the parts.
use mathlib.Core.Path.{◌≡◌}
use native.Mathlib.Omega.{arith}
use Rattle.paper.specs.Programs.{spaced}
use Rattle.printing.specs.Prints.{part_at}
use Rattle.printing.proofs.Texts.{adds_nothing, next_fits, next_adds}
use Rattle.printing.proofs.Lines.{part_read, symbol_fits, parts_fit, plate_adds}
use Rattle.printing.proofs.Text.plate.Goals as goal

pub spaced-requires : goal.spaced-requires
spaced-requires c = symbol_fits c.args.map.now c.args.x c.requires.room _ c.symbol.ensures

pub loop-part-init : goal.loop-part-init
loop-part-init c = adds_nothing c.spaced.new.self

pub spaced-requires-in-loop-part : goal.spaced-requires-in-loop-part
spaced-requires-in-loop-part c =
    next_fits spaced (part_at c.args.map.now c.args.x) c.part_count.result c.loop-part.part-index (omega arith) c.from.result
    (part_read c.args.map.now c.args.x c.part_count.result c.loop-part.part-index _ (omega arith) c.from.ensures)
    (parts_fit c.args.map.now c.args.x c.requires.room _ c.symbol.ensures c.spaced.ensures c.part_count.result c.part_count.ensures.same)
    c.loop-part.invariant

pub loop-part-preserved : goal.loop-part-preserved
loop-part-preserved c =
    next_adds spaced (part_at c.args.map.now c.args.x) c.part_count.result c.loop-part.part-index (omega arith) c.from.result
    (part_read c.args.map.now c.args.x c.part_count.result c.loop-part.part-index _ (omega arith) c.from.ensures)
    (parts_fit c.args.map.now c.args.x c.requires.room _ c.symbol.ensures c.spaced.ensures c.part_count.result c.part_count.ensures.same)
    c.loop-part.invariant c.spaced-in-loop-part.ensures

pub returns : goal.returns
returns c =
    plate_adds c.args.map.now c.args.x c.requires.room _ c.symbol.ensures c.spaced.ensures c.part_count.result c.part_count.ensures.same
    (let e : c.loop-part.part-index ≡ c.part_count.result = omega arith in rw (← e) c.loop-part.invariant)
