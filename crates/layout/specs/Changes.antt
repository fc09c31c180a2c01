-- What the calls do to a run's bytes, by name: the byte definitions of which loading and the ten rules are made.
use Rattle.std.specs.Prelude.{List, [], ◌∷◌, ◌++◌, ℕ, suc, ◌+◌, ◌-◌, length, set, replicate}
use Rattle.base.specs.Regions.{put, get, gone}
use Rattle.paper.specs.Sizes.{most_unknowns}
use Rattle.paper.specs.Tables.{Record}
use Rattle.paper.specs.declared.Item.{Item}
use Rattle.paper.specs.declared.Item.TheVariants.{Statement as statement, Ask as ask, News as news}
use Rattle.layout.specs.Offsets.{symbol_bytes, item_bytes, clash_at, clash_cabinet_at, cabinets_at, count_at, owners_at, memos_at, run_bytes, record_from, store_from, memo_from, item_from}
use Rattle.layout.specs.Fields.{bytes_of, count_of}

-- the pending count
unfoldable pub with_count : ℕ → List ℕ → List ℕ
with_count n d = put count_at (bytes_of 2 n) d

-- an item's four bytes: kind, cabinet, left, right
abbrev pub bytes_of_item : Item → List ℕ
bytes_of_item (statement c a b) = 1 ∷ c ∷ a ∷ b ∷ []
bytes_of_item (ask c x u) = 2 ∷ c ∷ x ∷ u ∷ []
bytes_of_item (news c x u) = 3 ∷ c ∷ x ∷ u ∷ []

-- "Its item goes, later ones move up": vacated places are 0
unfoldable pub removed_at : ℕ → List ℕ → List ℕ
removed_at p d = with_count (count_of d - 1) (gone item_bytes (item_from p) (item_from (count_of d)) d)

-- "products are appended in the order given"
unfoldable pub appended : Item → List ℕ → List ℕ
appended j d = with_count (count_of d + 1) (put (item_from (count_of d)) (bytes_of_item j) d)

abbrev pub appended_all : List Item → List ℕ → List ℕ
appended_all [] d = d
appended_all (j ∷ js) d = appended_all js (appended j d)

-- a cabinet's store "as one value holding its 32 marks"
unfoldable pub store_of : ℕ → List ℕ → List ℕ
store_of c d = get (store_from c) most_unknowns d

unfoldable pub with_store : ℕ → List ℕ → List ℕ → List ℕ
with_store c marks d = put (store_from c) marks d

-- the owner mark of x; the pair x, y in a cabinet's memo; the clash
unfoldable pub with_owner : ℕ → ℕ → List ℕ → List ℕ
with_owner x u d = set d (owners_at + x) u

unfoldable pub with_pair : ℕ → ℕ → ℕ → List ℕ → List ℕ
with_pair c x y d = set d (memo_from c x y) 1

unfoldable pub with_clash : ℕ → List ℕ → List ℕ
with_clash c d = set (set d clash_at 1) clash_cabinet_at c

-- "every mark 255, every memo byte 0", and no record and no item
unfoldable pub cleared : List ℕ
cleared =
    replicate owners_at 0 ++ (replicate (memos_at - owners_at) 255 ++ replicate (run_bytes - memos_at) 0)

-- S, V, R, E
unfoldable pub with_sizes : ℕ → ℕ → ℕ → ℕ → List ℕ → List ℕ
with_sizes s v r e d = put cabinets_at (s ∷ v ∷ r ∷ e ∷ []) d

-- record i: symbol, part count, parts
unfoldable pub with_record : ℕ → Record → List ℕ → List ℕ
with_record i q d = put (record_from i) (bytes_of symbol_bytes q.symbol ++ (length q.parts ∷ q.parts)) d

-- records from the i-th on
abbrev pub with_records : ℕ → List Record → List ℕ → List ℕ
with_records i [] d = d
with_records i (q ∷ qs) d = with_records (suc i) qs (with_record i q d)
