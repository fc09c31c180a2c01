-- `load` meets its contract: one law of the call for each way out.
use Rattle.std.proofs.Common.{◌≡◌, length, Err}
use Rattle.layout.specs.Offsets.{run_bytes}
use Rattle.statements.proofs.LoadCalls.{load_wrong_length, load_refused, load_cabinets_few, load_unknowns_few, load_records_few, load_entries_few, cabinets_byte, unknowns_byte, records_byte, statements_byte, table_was_read, list_was_read, load_room, load_done}
use borrow.Author.Rules.{rules}
use Rattle.statements.proofs.loading.load.Goals as goal

pub returns-in_default : goal.returns-in_default
returns-in_default c = search (load_wrong_length, rules)

pub returns-in_err-sizes : goal.returns-in_err-sizes
returns-in_err-sizes c =
    let h : length c.args.run.now ≡ run_bytes = search rules in
    let o : c.in-Some.run'.now ≡ c.args.run.now = search rules in
    let x : c.from_residual.result ≡ Err c.in_err-sizes.field-0.0 = search rules in
    search (load_refused, c.in_err-sizes.ensures)

pub overflow_cast-sizes : goal.overflow_cast-sizes
overflow_cast-sizes c = search (cabinets_byte, c.in_ok-sizes.ensures)

pub overflow_cast-sizes-2 : goal.overflow_cast-sizes-2
overflow_cast-sizes-2 c = search (unknowns_byte, c.in_ok-sizes.ensures)

pub overflow_cast-sizes-3 : goal.overflow_cast-sizes-3
overflow_cast-sizes-3 c = search (records_byte, c.in_ok-sizes.ensures)

pub overflow_cast-statements : goal.overflow_cast-statements
overflow_cast-statements c = search (statements_byte, c.in_ok-sizes.ensures)

pub fill_records-requires : goal.fill_records-requires
fill_records-requires c = search (load_unknowns_few, load_records_few, table_was_read, c.in_ok-sizes.ensures, rules)

pub entries-requires : goal.entries-requires
entries-requires c = search (load_unknowns_few, load_records_few, c.in_ok-sizes.ensures)

pub fill_statements-requires : goal.fill_statements-requires
fill_statements-requires c = search (load_room, load_cabinets_few, load_entries_few, list_was_read, c.in_ok-sizes.ensures, rules)

pub returns : goal.returns
returns c =
    let h : length c.args.run.now ≡ run_bytes = search rules in
    search (load_done, c.in_ok-sizes.ensures)
