-- The fields of a run's bytes, each under its line of document 01's table.
use Rattle.std.specs.Prelude.{Bool, false, ◌&&◌, List, [], ◌∷◌, ℕ, zero, suc, ◌+◌, ◌*◌, ◌/◌, ◌%◌, ltb, eqb, get_or}
use Rattle.std.proofs.Math.Option.{Option, none, some}
use Rattle.base.specs.Choice.{pick}
use Rattle.base.specs.Lists.{list_from}
use Rattle.base.specs.Regions.{get}
use Rattle.paper.specs.Sizes.{most_cabinets, most_unknowns}
use Rattle.paper.specs.Tables.{Record, Table}
use Rattle.paper.specs.Runs.{Mark, nothing, initiated, entry, State, Run}
use Rattle.paper.specs.declared.Item.{Item}
use Rattle.paper.specs.declared.Item.TheVariants.{Statement as statement, Ask as ask, News as news}
use Rattle.layout.specs.Offsets.{symbol_bytes, clash_at, clash_cabinet_at, cabinets_at, unknowns_at, records_at, statements_at, count_at, owners_at, record_from, store_from, memo_from, item_from}

abbrev pub byte_at : List ℕ → ℕ → ℕ
byte_at d i = get_or d i 0

-- a value in bytes, "low first"
abbrev pub value_of : List ℕ → ℕ
value_of [] = 0
value_of (b ∷ bs) = b + 256 * value_of bs

abbrev pub bytes_of : ℕ → ℕ → List ℕ
bytes_of zero n = []
bytes_of (suc k) n = n % 256 ∷ bytes_of k (n / 256)

-- 0 and 1: "0 running, 1 clashed"; "cabinet of the clash, else 0"
abbrev pub clash_of : List ℕ → Option ℕ
clash_of d = pick (eqb (byte_at d clash_at) 0) none (some (byte_at d clash_cabinet_at))

-- 6: "pending count, two bytes, low first"
unfoldable pub count_of : List ℕ → ℕ
count_of d = byte_at d count_at + 256 * byte_at d (count_at + 1)

-- 8: record i: "symbol in four, low first; part count; four parts"
unfoldable pub symbol_of : List ℕ → ℕ → ℕ
symbol_of d i = value_of (get (record_from i) symbol_bytes d)

abbrev pub part_count_of : List ℕ → ℕ → ℕ
part_count_of d i = byte_at d (record_from i + symbol_bytes)

abbrev pub part_of : List ℕ → ℕ → ℕ → ℕ
part_of d i k = byte_at d (record_from i + symbol_bytes + 1 + k)

-- n parts of record i from the k-th on
abbrev pub parts_from : List ℕ → ℕ → ℕ → ℕ → List ℕ
parts_from d i n k = list_from (part_of d i) n k

unfoldable pub record_of : List ℕ → ℕ → Record
unfolding symbol_of
record_of d i = record { symbol = symbol_of d i; parts = parts_from d i (part_count_of d i) 0 }

-- n records from the i-th on
abbrev pub records_from : List ℕ → ℕ → ℕ → List Record
records_from d n i = list_from (record_of d) n i

-- "A mark is 255 for nothing, 254 for initiated (stores only), else an entry."
abbrev pub owner_mark : ℕ → Option ℕ
owner_mark m = pick (eqb m 255) none (some m)

abbrev pub store_mark : ℕ → Mark
store_mark m = pick (eqb m 255) nothing (pick (eqb m 254) initiated (entry m))

-- 584: "32 owner marks"; what is out of range is nothing
unfoldable pub owner_of : List ℕ → ℕ → Option ℕ
owner_of d x = pick (ltb x most_unknowns) (owner_mark (byte_at d (owners_at + x))) none

-- 616: "8 stores of 32 marks"
unfoldable pub mark_of : List ℕ → ℕ → ℕ → Mark
mark_of d c x = pick (ltb c most_cabinets && ltb x most_unknowns) (store_mark (byte_at d (store_from c + x))) nothing

-- 872: "8 memos of 1,024 bytes, at 32 × greater + smaller unknown"
unfoldable pub pair_of : List ℕ → ℕ → ℕ → ℕ → Bool
pair_of d c x y =
    pick (ltb c most_cabinets && (ltb x most_unknowns && ltb y most_unknowns)) (eqb (byte_at d (memo_from c x y)) 1) false

-- 9,064: "A pending item is a statement (1), an ask (2) or a news (3), each carrying cabinet, left and right"
abbrev pub item_of_bytes : ℕ → ℕ → ℕ → ℕ → Item
item_of_bytes k c a b = pick (eqb k 1) (statement c a b) (pick (eqb k 2) (ask c a b) (news c a b))

unfoldable pub item_at : List ℕ → ℕ → Item
item_at d p =
    item_of_bytes (byte_at d (item_from p)) (byte_at d (item_from p + 1)) (byte_at d (item_from p + 2)) (byte_at d (item_from p + 3))

-- n items from place p on
abbrev pub items_from : List ℕ → ℕ → ℕ → List Item
items_from d n p = list_from (item_at d) n p

-- the bytes as the paper's table and run
unfoldable pub table_of : List ℕ → Table
unfolding record_of
table_of d = record { cabinets = byte_at d cabinets_at; unknowns = byte_at d unknowns_at; records = records_from d (byte_at d records_at) 0 }

unfoldable pub state_of : List ℕ → State
unfolding owner_of mark_of pair_of
state_of d = record { clash = clash_of d; owner = owner_of d; store = mark_of d; memo = pair_of d }

unfoldable pub run_of : List ℕ → Run
unfolding state_of item_at count_of
run_of d = record { statements = byte_at d statements_at; state = state_of d; pending = items_from d (count_of d) 0 }
