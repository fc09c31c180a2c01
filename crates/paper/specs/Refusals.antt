-- The refusal numbers of document 01, "Refusal numbers and their order". 0 means done.
use Rattle.std.specs.Prelude.{ℕ}
use Rattle.paper.specs.declared.refused.Refusal.{Refusal}
use Rattle.paper.specs.declared.refused.Refusal.TheVariants.{FileEnds, BadNumber, BadCabinets, BadUnknowns, BadRecords, TooManyParts, PartNotUnknown, TooManyStatements, NoSuchCabinet, NoSuchEntry, BytesLeft, WrongLength, NoSuchPlace, StillWaits, HasClashed, ItemsPending, NotSound, NoRoom, NotAsLoaded}

-- 1: "file ends in or before a number"
abbrev pub file_ends : ℕ
file_ends = 1

-- 2: "number not shortest or too large"
abbrev pub bad_number : ℕ
bad_number = 2

-- 3, 4, 5: "S, V, R outside its range"
abbrev pub bad_cabinets : ℕ
bad_cabinets = 3

abbrev pub bad_unknowns : ℕ
bad_unknowns = 4

abbrev pub bad_records : ℕ
bad_records = 5

-- 6, 7: "more than 4 parts; part not an unknown"
abbrev pub too_many_parts : ℕ
too_many_parts = 6

abbrev pub part_not_unknown : ℕ
part_not_unknown = 7

-- 8, 9, 10: "E above 64; cabinet not below S; side not below V+R"
abbrev pub too_many_statements : ℕ
too_many_statements = 8

abbrev pub no_such_cabinet : ℕ
no_such_cabinet = 9

abbrev pub no_such_entry : ℕ
no_such_entry = 10

-- 11: "bytes left after the last statement"
abbrev pub bytes_left : ℕ
bytes_left = 11

-- 12: "a lent buffer has the wrong length"
abbrev pub wrong_length : ℕ
wrong_length = 12

-- 13: "place not below the pending count"
abbrev pub no_such_place : ℕ
no_such_place = 13

-- 14: "the statement waits"
abbrev pub still_waits : ℕ
still_waits = 14

-- 15: "run has clashed"
abbrev pub has_clashed : ℕ
has_clashed = 15

-- 16: "map asked with items pending"
abbrev pub items_pending : ℕ
items_pending = 16

-- 17: "run not sound"
abbrev pub not_sound : ℕ
not_sound = 17

-- 18: "step would leave more than 12,672 items"
abbrev pub no_room : ℕ
no_room = 18

-- 19: "write asked of a sound run that isn't as loaded"
abbrev pub not_as_loaded : ℕ
not_as_loaded = 19

-- the number of each refusal that the code names
abbrev pub refusal_number : Refusal → ℕ
refusal_number FileEnds = file_ends
refusal_number BadNumber = bad_number
refusal_number BadCabinets = bad_cabinets
refusal_number BadUnknowns = bad_unknowns
refusal_number BadRecords = bad_records
refusal_number TooManyParts = too_many_parts
refusal_number PartNotUnknown = part_not_unknown
refusal_number TooManyStatements = too_many_statements
refusal_number NoSuchCabinet = no_such_cabinet
refusal_number NoSuchEntry = no_such_entry
refusal_number BytesLeft = bytes_left
refusal_number WrongLength = wrong_length
refusal_number NoSuchPlace = no_such_place
refusal_number StillWaits = still_waits
refusal_number HasClashed = has_clashed
refusal_number ItemsPending = items_pending
refusal_number NotSound = not_sound
refusal_number NoRoom = no_room
refusal_number NotAsLoaded = not_as_loaded
