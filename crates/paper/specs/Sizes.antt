-- The limits and sizes of document 01, each named once.
use Rattle.std.specs.Prelude.{ℕ, ◌+◌, ◌*◌}

-- "Cabinets S: 1 to 8. V: 0 to 32. R: 0 to 64. Statements E: 0 to 64." A record has "0 to 4 parts".
abbrev pub most_cabinets : ℕ
most_cabinets = 8

abbrev pub most_unknowns : ℕ
most_unknowns = 32

abbrev pub most_records : ℕ
most_records = 64

abbrev pub most_statements : ℕ
most_statements = 64

abbrev pub most_parts : ℕ
most_parts = 4

-- "A number is 1 to 5 groups of seven bits"; "A fifth byte above 15 is refused at once."
abbrev pub most_groups : ℕ
most_groups = 5

abbrev pub top_group : ℕ
top_group = 15

-- a number, and so a symbol, is "at most 4,294,967,295"
abbrev pub number_limit : ℕ
number_limit = 4294967296

-- "12,672 pending items"
abbrev pub room : ℕ
room = 12672

-- "The longest is 836 bytes": three sizes; each record's symbol, part count and parts; E; each statement's three numbers
abbrev pub longest_file : ℕ
longest_file = 3 + most_records * (most_groups + 1 + most_parts) + 1 + most_statements * 3
