-- `print_map` meets its contract: the first line, then the unknowns' lines. The map fits, since every byte of it is a byte.
use native.Mathlib.Omega.{arith}
use mathlib.Core.Path.{◌≡◌, refl}
use borrow.Author.Rules.{rules}
use Rattle.printing.specs.Prints.{row_printed, map_printed}
use Rattle.printing.specs.Texts.{HasRoom, Adds}
use Rattle.printing.proofs.Texts.{adds_nothing, next_fits, next_adds}
use Rattle.printing.proofs.Bounds.{map_fits}
use Rattle.printing.proofs.Lines.{count_fits, count_end_fits, rows_fit, map_adds}
use Rattle.printing.proofs.print_map.Goals as goal

pub spaced-requires : goal.spaced-requires
spaced-requires c =
    let room : HasRoom c.new-text.result (map_printed c.args.map.now c.args.v) = search (map_fits, c.fits-map, rules) in
    search (count_fits, rules)

pub word-requires-2 : goal.word-requires-2
word-requires-2 c =
    let room : HasRoom c.new-text.result (map_printed c.args.map.now c.args.v) = search (map_fits, c.fits-map, rules) in
    search (count_end_fits, rules)

pub loop-x-init : goal.loop-x-init
loop-x-init c = adds_nothing c.word-2.new.self

pub row-requires-clause-room : goal.row-requires-clause-room
row-requires-clause-room c =
    let room : HasRoom c.new-text.result (map_printed c.args.map.now c.args.v) = search (map_fits, c.fits-map, rules) in
    next_fits (row_printed c.args.map.now) (λ y. y) c.args.v c.loop-x.x (omega arith) c.loop-x.x refl
    (rows_fit c.args.map.now c.args.v room c.word.ensures c.spaced.ensures c.word-2.ensures)
    c.loop-x.invariant

pub loop-x-preserved : goal.loop-x-preserved
loop-x-preserved c =
    let room : HasRoom c.new-text.result (map_printed c.args.map.now c.args.v) = search (map_fits, c.fits-map, rules) in
    next_adds (row_printed c.args.map.now) (λ y. y) c.args.v c.loop-x.x (omega arith) c.loop-x.x refl
    (rows_fit c.args.map.now c.args.v room c.word.ensures c.spaced.ensures c.word-2.ensures)
    c.loop-x.invariant c.row.ensures

pub returns : goal.returns
returns c =
    let room : HasRoom c.new-text.result (map_printed c.args.map.now c.args.v) = search (map_fits, c.fits-map, rules) in
    let e : c.loop-x.x ≡ c.args.v = omega arith in
    let z : Adds c.new-text.result (map_printed c.args.map.now c.args.v) c.loop-x.text =
    map_adds c.args.map.now c.args.v room c.word.ensures c.spaced.ensures c.word-2.ensures (rw (← e) c.loop-x.invariant) in
    search rules
