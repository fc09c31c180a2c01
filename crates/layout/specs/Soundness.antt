-- When a run's 59,752 bytes are sound: a test for each region of document 01's table, unused bytes included.
use Rattle.std.specs.Prelude.{Bool, ◌&&◌, ◌||◌, List, ℕ, ◌+◌, ltb, leb, eqb}
use Rattle.base.specs.Choice.{pick, all_below}
use Rattle.paper.specs.Sizes.{most_cabinets, most_unknowns, most_records, most_statements, most_parts, room}
use Rattle.layout.specs.Offsets.{record_bytes, item_bytes, clash_at, clash_cabinet_at, cabinets_at, unknowns_at, records_at, statements_at, owners_at, record_from, store_from, memo_from, item_from}
use Rattle.layout.specs.Fields.{byte_at, count_of, part_count_of, part_of}

-- the n bytes from `at` on are all v
unfoldable pub all_are : ℕ → ℕ → ℕ → List ℕ → Bool
all_are v n at d = all_below n (λ i. eqb (byte_at d (at + i)) v)

-- "all other unused bytes are 0": n of them from `at` on
abbrev pub zeros_at : ℕ → ℕ → List ℕ → Bool
zeros_at n at d = all_are 0 n at d

-- u is an entry less than the unknown x, with v unknowns and r records
unfoldable pub lesser : ℕ → ℕ → ℕ → ℕ → Bool
lesser v r u x = ltb x v && pick (ltb u v) (ltb u x) (ltb u (v + r))

-- 0 and 1: "0 running, 1 clashed"; "cabinet of the clash, else 0"; "Byte 1 is below S if clashed."
unfoldable pub clash_ok : ℕ → ℕ → ℕ → Bool
clash_ok s a c = pick (eqb a 0) (eqb c 0) (eqb a 1 && ltb c s)

-- 2 to 7: S, V, R, E and the pending count in their ranges
unfoldable pub sizes_ok : ℕ → ℕ → ℕ → ℕ → ℕ → Bool
sizes_ok s v r e n =
    (leb 1 s && leb s most_cabinets) && (leb v most_unknowns && (leb r most_records && (leb e most_statements && leb n room)))

-- 8: a record's parts are at most four, each an unknown; part places beyond the count are 0; records from R on are 0
unfoldable pub parts_ok : ℕ → ℕ → List ℕ → Bool
parts_ok v i d =
    leb (part_count_of d i) most_parts
    && all_below most_parts (λ k. pick (ltb k (part_count_of d i)) (ltb (part_of d i k) v) (eqb (part_of d i k) 0))

unfoldable pub record_ok : ℕ → ℕ → List ℕ → ℕ → Bool
record_ok v r d i = pick (ltb i r) (parts_ok v i d) (zeros_at record_bytes (record_from i) d)

unfoldable pub records_ok : ℕ → ℕ → List ℕ → Bool
records_ok v r d = all_below most_records (record_ok v r d)

-- 584: an owner mark is 255, or an entry less than its unknown; "Unused marks are 255"
unfoldable pub owner_ok : ℕ → ℕ → List ℕ → ℕ → Bool
owner_ok v r d x = eqb (byte_at d (owners_at + x)) 255 || lesser v r (byte_at d (owners_at + x)) x

unfoldable pub owners_ok : ℕ → ℕ → List ℕ → Bool
owners_ok v r d = all_below most_unknowns (owner_ok v r d)

-- 616: a mark of a store is 255; or, at a cabinet below S, 254 for an unknown, or an entry less than its unknown
unfoldable pub mark_ok : ℕ → ℕ → ℕ → ℕ → Bool
mark_ok v r x m = eqb m 255 || ((eqb m 254 && ltb x v) || lesser v r m x)

unfoldable pub store_ok : ℕ → ℕ → ℕ → List ℕ → ℕ → Bool
store_ok s v r d c =
    all_below most_unknowns (λ x. pick (ltb c s) (mark_ok v r x (byte_at d (store_from c + x))) (eqb (byte_at d (store_from c + x)) 255))

unfoldable pub stores_ok : ℕ → ℕ → ℕ → List ℕ → Bool
stores_ok s v r d = all_below most_cabinets (store_ok s v r d)

-- 872: "memo bytes are 0 or 1, and 1 only for two unknowns in order at a cabinet below S"
unfoldable pub pair_ok : ℕ → ℕ → ℕ → ℕ → ℕ → ℕ → Bool
pair_ok s v c x y b = eqb b 0 || (eqb b 1 && (ltb c s && (ltb x v && ltb y x)))

unfoldable pub memo_row_ok : ℕ → ℕ → List ℕ → ℕ → ℕ → Bool
memo_row_ok s v d c x = all_below most_unknowns (λ y. pair_ok s v c x y (byte_at d (memo_from c x y)))

unfoldable pub memo_ok : ℕ → ℕ → List ℕ → ℕ → Bool
memo_ok s v d c = all_below most_unknowns (memo_row_ok s v d c)

unfoldable pub memos_ok : ℕ → ℕ → List ℕ → Bool
memos_ok s v d = all_below most_cabinets (memo_ok s v d)

-- 9,064: a statement's sides are entries; "asks and news have an unknown at left and a lesser entry at right"; items from the
-- pending count on are 0
unfoldable pub item_ok : ℕ → ℕ → ℕ → ℕ → ℕ → ℕ → ℕ → Bool
item_ok s v r k c a b =
    ltb c s && pick (eqb k 1) (ltb a (v + r) && ltb b (v + r)) ((eqb k 2 || eqb k 3) && lesser v r b a)

unfoldable pub place_ok : ℕ → ℕ → ℕ → ℕ → List ℕ → ℕ → Bool
place_ok s v r n d p =
    pick (ltb p n)
    (item_ok s v r (byte_at d (item_from p)) (byte_at d (item_from p + 1)) (byte_at d (item_from p + 2)) (byte_at d (item_from p + 3)))
    (zeros_at item_bytes (item_from p) d)

unfoldable pub items_ok : ℕ → ℕ → ℕ → ℕ → List ℕ → Bool
items_ok s v r n d = all_below room (place_ok s v r n d)

-- the regions that depend on the sizes
unfoldable pub regions_ok : ℕ → ℕ → ℕ → ℕ → List ℕ → Bool
regions_ok s v r n d =
    clash_ok s (byte_at d clash_at) (byte_at d clash_cabinet_at)
    && (records_ok v r d && (owners_ok v r d && (stores_ok s v r d && (memos_ok s v d && items_ok s v r n d))))

-- "A run is sound when all ranges above hold, .., and unused bytes are as said."
unfoldable pub sound_bytes : List ℕ → Bool
sound_bytes d =
    sizes_ok (byte_at d cabinets_at) (byte_at d unknowns_at) (byte_at d records_at) (byte_at d statements_at) (count_of d)
    && regions_ok (byte_at d cabinets_at) (byte_at d unknowns_at) (byte_at d records_at) (count_of d) d
