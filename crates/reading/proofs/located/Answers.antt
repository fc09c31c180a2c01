-- `located` meets its contract: one law of statement n for each way out.
use Rattle.std.proofs.Common.{rules, of_calls, ◌+◌}
use Rattle.reading.proofs.FileChecks.{statements_end}
use Rattle.reading.proofs.Spans.{ok_of, err_of, refused_no_span, no_such_statement, cabinets_few, entries_few, entries_known, before_refused, own_refused, own_forward, own_found}
use Rattle.reading.proofs.located.Goals as goal

pub returns-in_err-checked : goal.returns-in_err-checked
returns-in_err-checked c =
    let x = err_of _ _ c.ok.ensures.value c.in_err-checked.was in
    rw c.from_residual.ensures (refused_no_span _ _ _ _ (rw x.1 at c.check_file.ensures))

pub returns-then-checked-n : goal.returns-then-checked-n
returns-then-checked-n c =
    let e = rw (ok_of _ _ _ c.ok.ensures.value c.in_ok-checked.was) at c.check_file.ensures in
    no_such_statement _ _ _ _ e c.if-checked-n.true

pub entries-entries-requires : goal.entries-entries-requires
entries-entries-requires c =
    let e = rw (ok_of _ _ _ c.ok.ensures.value c.in_ok-checked.was) at c.check_file.ensures in
    entries_known _ c.args.n _ _ e

pub skip-requires : goal.skip-requires
skip-requires c =
    let e = rw (ok_of _ _ _ c.ok.ensures.value c.in_ok-checked.was) at c.check_file.ensures in
    let h = cabinets_few _ c.args.n _ _ e in
    let k = entries_few _ c.args.n _ _ e in
    search of_calls

pub returns-in_err-start : goal.returns-in_err-start
returns-in_err-start c =
    let e = rw (ok_of _ _ _ c.ok.ensures.value c.in_ok-checked.was) at c.check_file.ensures in
    let x = c.in_ok-checked.field-0.value in
    let y = err_of _ _ c.ok-2.ensures.value c.in_err-start.was in
    rw c.from_residual-in_err-start.ensures
    (before_refused _ _ _ _ e c.if-checked-n.false _
    (statements_end x.sizes.cabinets (x.sizes.unknowns + x.sizes.records) c.args.file.now (λ at r p. search rules) _ _ _ (rw y.1 at c.skip.ensures)))

pub read_statement-requires : goal.read_statement-requires
read_statement-requires c =
    let e = rw (ok_of _ _ _ c.ok.ensures.value c.in_ok-checked.was) at c.check_file.ensures in
    (cabinets_few _ c.args.n _ _ e, rw c.entries-entries.ensures (entries_few _ c.args.n _ _ e))

pub returns-in_err-end : goal.returns-in_err-end
returns-in_err-end c =
    let e = rw (ok_of _ _ _ c.ok.ensures.value c.in_ok-checked.was) at c.check_file.ensures in
    let x = c.in_ok-checked.field-0.value in
    let y = ok_of _ _ _ c.ok-2.ensures.value c.in_ok-start.was in
    let z = err_of _ _ c.ok-3.ensures.value c.in_err-end.was in
    rw c.from_residual-in_err-end.ensures
    (own_refused _ _ _ _ e c.if-checked-n.false _
    (statements_end x.sizes.cabinets (x.sizes.unknowns + x.sizes.records) c.args.file.now (λ at r p. search rules) _ _ _ (rw y at c.skip.ensures))
    _ _ (rw (z.1, c.entries-entries.ensures) at c.read_statement.ensures))

pub overflow_sub-result : goal.overflow_sub-result
overflow_sub-result c =
    let z = ok_of _ _ _ c.ok-3.ensures.value c.in_ok-end.was in
    own_forward _ _ _ _ _ _ (rw z at c.read_statement.ensures)

pub returns : goal.returns
returns c =
    let e = rw (ok_of _ _ _ c.ok.ensures.value c.in_ok-checked.was) at c.check_file.ensures in
    let x = c.in_ok-checked.field-0.value in
    let y = ok_of _ _ _ c.ok-2.ensures.value c.in_ok-start.was in
    let z = ok_of _ _ _ c.ok-3.ensures.value c.in_ok-end.was in
    own_found _ _ _ _ e c.if-checked-n.false _
    (statements_end x.sizes.cabinets (x.sizes.unknowns + x.sizes.records) c.args.file.now (λ at r p. search rules) _ _ _ (rw y at c.skip.ensures))
    _ _ (rw (z, c.entries-entries.ensures) at c.read_statement.ensures)
