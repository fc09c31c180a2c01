-- `write_padded` meets its contract: the file fits, since every byte of the run is a byte.
use Rattle.std.proofs.Common.{◌≡◌, ◌-◌}
use Rattle.paper.specs.Sizes.{longest_file}
use lib.ListN.{replicate}
use Rattle.statements.proofs.WriteCalls.{file_has_room, end_is, end_fits, padded_put}
use borrow.Author.Rules.{rules}
use Rattle.statements.proofs.writing.write_padded.Goals as goal

pub whole-requires : goal.whole-requires
whole-requires c = search (file_has_room, c.fits-run, rules)

pub slice_bounds-fill-count : goal.slice_bounds-fill-count
slice_bounds-fill-count c = search (end_fits, c.fits-run)

pub slice_bounds-fill-start : goal.slice_bounds-fill-start
slice_bounds-fill-start c = search (end_fits, c.fits-run)

pub returns-clause-end : goal.returns-clause-end
returns-clause-end c = search (end_is, c.fits-run)

pub returns-clause-bytes : goal.returns-clause-bytes
returns-clause-bytes c =
    let e : c.fill.new.self ≡ replicate (longest_file - c.whole.new.self.at) 0 = search rules in
    search (padded_put, c.fits-run)
