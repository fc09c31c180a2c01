-- `check_file` meets its contract: one law of the whole file for each way out.
use Rattle.std.proofs.Common.{rules, of_calls, ◌+◌}
use Rattle.reading.proofs.FileChecks.{records_end, statements_end, refused_in_sizes, cabinets_few, unknowns_few, entries_few, entries_known, refused_in_records, refused_in_count, refused_in_statements, refused_bytes_left, accepted_whole}
use Rattle.reading.proofs.check_file.Goals as goal

pub returns-in_err-sizes : goal.returns-in_err-sizes
returns-in_err-sizes c = search (refused_in_sizes, rules)

pub entries-entries-requires : goal.entries-entries-requires
entries-entries-requires c = entries_known _ _ _ c.in_ok-sizes.ensures

pub skip-requires : goal.skip-requires
skip-requires c = let h = unknowns_few _ _ _ c.in_ok-sizes.ensures in search of_calls

pub returns-in_err-count_at : goal.returns-in_err-count_at
returns-in_err-count_at c =
    let w = records_end c.in_ok-sizes.sizes.value.unknowns c.args.file.now (λ at x p. search rules) _ _ _ c.in_err-count_at.ensures in
    search (refused_in_records, rules)

pub returns-in_err-count : goal.returns-in_err-count
returns-in_err-count c =
    let w = records_end c.in_ok-sizes.sizes.value.unknowns c.args.file.now (λ at x p. search rules) _ _ _ c.in_ok-count_at.ensures in
    search (refused_in_count, rules)

pub skip-requires-2 : goal.skip-requires-2
skip-requires-2 c =
    let h = cabinets_few _ _ _ c.in_ok-sizes.ensures in
    let k = entries_few _ _ _ c.in_ok-sizes.ensures in
    search of_calls

pub returns-in_err-end : goal.returns-in_err-end
returns-in_err-end c =
    let w = records_end c.in_ok-sizes.sizes.value.unknowns c.args.file.now (λ at x p. search rules) _ _ _ c.in_ok-count_at.ensures in
    let s = c.in_ok-sizes.sizes.value in
    let v = statements_end s.cabinets (s.unknowns + s.records) c.args.file.now (λ at x p. search rules) _ _ _ c.in_err-end.ensures in
    search (refused_in_statements, rules)

pub returns-then-end-file : goal.returns-then-end-file
returns-then-end-file c =
    let w = records_end c.in_ok-sizes.sizes.value.unknowns c.args.file.now (λ at x p. search rules) _ _ _ c.in_ok-count_at.ensures in
    let s = c.in_ok-sizes.sizes.value in
    let v = statements_end s.cabinets (s.unknowns + s.records) c.args.file.now (λ at x p. search rules) _ _ _ c.in_ok-end.ensures in
    rw (c.at.ensures.refusal, c.at.ensures.position)
    (refused_bytes_left _ _ _ c.in_ok-sizes.ensures _ w _ _ c.in_ok-count.ensures _ v c.if-end-file.true)

pub returns : goal.returns
returns c =
    let w = records_end c.in_ok-sizes.sizes.value.unknowns c.args.file.now (λ at x p. search rules) _ _ _ c.in_ok-count_at.ensures in
    let s = c.in_ok-sizes.sizes.value in
    let v = statements_end s.cabinets (s.unknowns + s.records) c.args.file.now (λ at x p. search rules) _ _ _ c.in_ok-end.ensures in
    accepted_whole _ _ _ c.in_ok-sizes.ensures _ w _ _ c.in_ok-count.ensures _ v c.if-end-file.false
