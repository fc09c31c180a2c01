-- Where each field of the run's bytes stands, computed from the sizes that document 01 names once.
use Rattle.std.specs.Prelude.{ℕ, ◌+◌, ◌*◌}
use Rattle.paper.specs.Sizes.{most_cabinets, most_unknowns, most_records, most_parts, room}

-- "symbol in four" bytes
abbrev pub symbol_bytes : ℕ
symbol_bytes = 4

-- "records of 9 bytes: symbol in four, low first; part count; four parts"
abbrev pub record_bytes : ℕ
record_bytes = symbol_bytes + 1 + most_parts

-- "pending items of 4 bytes"
abbrev pub item_bytes : ℕ
item_bytes = 4

-- 0: "0 running, 1 clashed"
abbrev pub clash_at : ℕ
clash_at = 0

-- 1: "cabinet of the clash, else 0"
abbrev pub clash_cabinet_at : ℕ
clash_cabinet_at = 1

-- "2 to 5": "S, V, R, E"
abbrev pub cabinets_at : ℕ
cabinets_at = 2

abbrev pub unknowns_at : ℕ
unknowns_at = 3

abbrev pub records_at : ℕ
records_at = 4

abbrev pub statements_at : ℕ
statements_at = 5

-- 6: "pending count, two bytes, low first"
abbrev pub count_at : ℕ
count_at = 6

-- 8: "64 records of 9 bytes"
abbrev pub table_at : ℕ
table_at = 8

-- 584: "32 owner marks"
abbrev pub owners_at : ℕ
owners_at = table_at + most_records * record_bytes

-- 616: "8 stores of 32 marks"
abbrev pub stores_at : ℕ
stores_at = owners_at + most_unknowns

-- 872: "8 memos of 1,024 bytes, at 32 × greater + smaller unknown"
abbrev pub memos_at : ℕ
memos_at = stores_at + most_cabinets * most_unknowns

abbrev pub memo_bytes : ℕ
memo_bytes = most_unknowns * most_unknowns

-- 9,064: "12,672 pending items of 4 bytes"
abbrev pub pending_at : ℕ
pending_at = memos_at + most_cabinets * memo_bytes

-- "The run's 59,752 bytes"
abbrev pub run_bytes : ℕ
run_bytes = pending_at + room * item_bytes

-- where a record, a cabinet's store and a pending item start, and a memo's byte stands
abbrev pub record_from : ℕ → ℕ
record_from i = table_at + record_bytes * i

abbrev pub store_from : ℕ → ℕ
store_from c = stores_at + most_unknowns * c

abbrev pub memo_from : ℕ → ℕ → ℕ → ℕ
memo_from c x y = memos_at + memo_bytes * c + most_unknowns * x + y

abbrev pub item_from : ℕ → ℕ
item_from p = pending_at + item_bytes * p

-- "The map is 352 bytes: 32 rows of 11."
abbrev pub row_bytes : ℕ
row_bytes = 2 + symbol_bytes + 1 + most_parts

abbrev pub map_bytes : ℕ
map_bytes = most_unknowns * row_bytes
