-- Every element stays a byte: what the changes of specs/Changes write, and what they leave.
use mathlib.Core.List.{List, [], ◌∷◌, ◌++◌}
use Prim.Native.Nat.{ℕ, zero, suc, ◌+◌, ◌-◌, ◌/◌, ◌≤◌, ◌<◌}
use native.Mathlib.Omega.{arith}
use lib.ListN.{length, replicate}
use Rattle.base.specs.Lists.{All, Bytes}
use Rattle.base.proofs.Elements.{all_map}
use Rattle.base.proofs.Bytes.{Byte, byte_each, append_bytes, replicate_bytes, put_bytes, gone_bytes}
use Rattle.paper.specs.Tables.{Record, RecordOk}
use Rattle.paper.specs.declared.Item.{Item}
use Rattle.layout.specs.Offsets.{symbol_bytes, owners_at, memos_at, run_bytes}
use Rattle.layout.specs.Fields.{bytes_of, count_of}
use Rattle.layout.specs.Changes.{with_count, bytes_of_item, removed_at, appended, appended_all, cleared, with_sizes, with_record, with_records}

-- a number's bytes, four bytes, an item's bytes
value_bytes : (k n : ℕ) → Bytes (bytes_of k n)
value_bytes k n = byte_each (bytes_of k n) (go k n)
  where
    go : (k n : ℕ) → All Byte (bytes_of k n)
    go zero n = tt
    go (suc k) n = (omega arith, go k (n / 256))

pub four_bytes : {a b c d : ℕ} → a < 256 → b < 256 → c < 256 → d < 256 → Bytes (a ∷ b ∷ c ∷ d ∷ [])
four_bytes {a} {b} {c} {d} h i j k = byte_each (a ∷ b ∷ c ∷ d ∷ []) (h, (i, (j, (k, tt))))

abbrev pub ItemBytes : Item → Type 0
ItemBytes j = Bytes (bytes_of_item j)

count_bytes : (n : ℕ) (d : List ℕ) → Bytes d → Bytes (with_count n d)
unfolding with_count
count_bytes n d b = put_bytes _ (bytes_of 2 n) d (value_bytes 2 n) b

pub removed_bytes : (p : ℕ) (d : List ℕ) → Bytes d → Bytes (removed_at p d)
unfolding removed_at
removed_bytes p d b = count_bytes (count_of d - 1) _ (gone_bytes _ _ _ d b)

pub appended_bytes : (js : List Item) (d : List ℕ) → All ItemBytes js → Bytes d → Bytes (appended_all js d)
unfolding appended
appended_bytes [] d a b = b
appended_bytes (j ∷ js) d a b =
    appended_bytes js (appended j d) a.1 (count_bytes (count_of d + 1) _ (put_bytes _ (bytes_of_item j) d a.0 b))

pub cleared_bytes : Bytes cleared
unfolding cleared
cleared_bytes =
    append_bytes (replicate owners_at 0) (replicate (memos_at - owners_at) 255 ++ replicate (run_bytes - memos_at) 0)
    (replicate_bytes owners_at 0 (omega arith))
    (append_bytes (replicate (memos_at - owners_at) 255) (replicate (run_bytes - memos_at) 0) (replicate_bytes (memos_at - owners_at) 255 (omega arith))
    (replicate_bytes (run_bytes - memos_at) 0 (omega arith)))

pub sizes_bytes : {s v r e : ℕ} (d : List ℕ) → s < 256 → v < 256 → r < 256 → e < 256 → Bytes d → Bytes (with_sizes s v r e d)
unfolding with_sizes
sizes_bytes {s} {v} {r} {e} d hs hv hr he b = put_bytes _ (s ∷ v ∷ r ∷ e ∷ []) d (four_bytes hs hv hr he) b

pub records_bytes : (v : ℕ) → v ≤ 256 → (i : ℕ) (qs : List Record) (d : List ℕ) → All (RecordOk v) qs → Bytes d → Bytes (with_records i qs d)
unfolding with_record
records_bytes v few i [] d a b = b
records_bytes v few i (q ∷ qs) d a b =
    records_bytes v few (suc i) qs (with_record i q d) a.1
    (put_bytes _ (bytes_of symbol_bytes q.symbol ++ (length q.parts ∷ q.parts)) d
    (append_bytes (bytes_of symbol_bytes q.symbol) (length q.parts ∷ q.parts) (value_bytes symbol_bytes q.symbol)
    (byte_each (length q.parts ∷ q.parts) (omega (arith, a.0.count), all_map (λ p. p < v) Byte (λ x l. omega arith) q.parts a.0.parts)))
    b)
