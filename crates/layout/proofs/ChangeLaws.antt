-- What a writer's loop and way out ask, with premises as its tests and callees give them.
use Prim.Native.Nat.{ℕ, ◌+◌, ◌-◌, ◌≤◌, ◌<◌}
use mathlib.Core.Path.{◌≡◌, refl, ap, ◌∙◌}
use mathlib.Core.List.{List, [], ◌∷◌, ◌++◌, append_assoc, append-nil}
use borrow.Rule.Slice.PartMut.{put_mid}
use lib.ListN.{length-take, length-drop, length, take, drop, set, replicate, length-append, length-replicate, drop_of_length-le}
use lib.Seq.{length-take-le, take_at, drop-append-add, drop-drop, sets-eq}
use native.Mathlib.Nat.{zero-add, add_assoc}
use native.Mathlib.Omega.{arith}
use Rattle.base.specs.Regions.{put}
use Rattle.base.proofs.Regions.{part_put}
use Rattle.paper.specs.Sizes.{most_records, most_parts}
use Rattle.layout.specs.Offsets.{symbol_bytes, owners_at, memos_at, run_bytes, record_from}
use Rattle.layout.specs.Fields.{bytes_of}
use Rattle.layout.specs.Changes.{cleared, with_record}

-- a part of a slice, filled
pub part_filled : (at n v : ℕ) (d part : List ℕ) → at + n ≤ length d
    → part ≡ replicate (length (take (at + n - at) (drop at d))) v → put_mid at (at + n - at) d part ≡ put at (replicate n v) d
part_filled at n v d part h e =
    let k : length (take (at + n - at) (drop at d)) ≡ n = simp (length-take, length-drop) (omega arith) in
    part_put at (at + n - at) d part (replicate n v) (e ∙ ap (λ (m : ℕ). replicate m v) k) (omega (arith, length-replicate n v))

-- a list put right after another; a list put over all there is; one byte put
pub put_then : (at : ℕ) (vs ws d : List ℕ) → at + length vs + length ws ≤ length d → put (at + length vs) ws (put at vs d) ≡ put at (vs ++ ws) d
unfolding put
put_then at vs ws d h =
    let a : length (take at d ++ vs) ≡ at + length vs = length-append (take at d) vs ∙ ap (λ (k : ℕ). k + length vs) (length-take-le at d (omega arith)) in
    let b : drop (at + length vs + length ws) (take at d ++ vs ++ drop (at + length vs) d) ≡ drop (length ws) (drop (at + length vs) d) =
    rw (← a) (drop-append-add (take at d ++ vs) (drop (length (take at d ++ vs)) d) (length ws)) in
    rw (take_at (take at d ++ vs) (drop (at + length vs) d) (at + length vs) a, b, drop-drop, length-append, ← add_assoc, ← append_assoc)

pub put_over : (vs d : List ℕ) → length vs ≡ length d → put 0 vs d ≡ vs
unfolding put
put_over vs d h = rw (zero-add, drop_of_length-le d {i = length vs} (omega arith)) (append-nil vs)

pub put_one : (at v : ℕ) (d : List ℕ) → at < length d → set d at v ≡ put at (v ∷ []) d
unfolding put
put_one at v d h = sets-eq (v ∷ []) d at (omega arith)

-- three lists in a row that are all there is
three_put : (u v w d : List ℕ) → length d ≡ length u + length v + length w → put (length u + length v) w (put (length u) v (put 0 u d)) ≡ u ++ (v ++ w)
three_put u v w d h =
    let n : length (u ++ v) ≡ length u + length v = length-append u v in
    let m : length ((u ++ v) ++ w) ≡ length d = length-append (u ++ v) w ∙ rw (n, h) refl in
    let p : put (length u) v (put 0 u d) ≡ put 0 (u ++ v) d = rw zero-add at (put_then 0 u v d (omega arith)) in
    let q : put (length u + length v) w (put 0 (u ++ v) d) ≡ put 0 ((u ++ v) ++ w) d = rw (zero-add, n) at (put_then 0 (u ++ v) w d (omega arith)) in
    rw (p, q, put_over ((u ++ v) ++ w) d m) (append_assoc u v w)

three_fills : (p q r x y z : ℕ) (d a b e : List ℕ) → length d ≡ p + q + r
    → a ≡ put 0 (replicate p x) d → b ≡ put p (replicate q y) a → e ≡ put (p + q) (replicate r z) b
    → e ≡ replicate p x ++ (replicate q y ++ replicate r z)
three_fills p q r x y z d a b e h f g k =
    let u : length (replicate p x) ≡ p = length-replicate p x in
    let v : length (replicate q y) ≡ q = length-replicate q y in
    let w : length (replicate r z) ≡ r = length-replicate r z in
    k ∙ rw (g, f) (rw (u, v) at (three_put (replicate p x) (replicate q y) (replicate r z) d (omega arith)))

-- the three fills of an empty run
pub cleared_put : (d a b e : List ℕ) → length d ≡ run_bytes
    → a ≡ put 0 (replicate owners_at 0) d → b ≡ put owners_at (replicate (memos_at - owners_at) 255) a → e ≡ put memos_at (replicate (run_bytes - memos_at) 0) b
    → e ≡ cleared
unfolding cleared
cleared_put d a b e h p q r = three_fills owners_at (memos_at - owners_at) (run_bytes - memos_at) 0 255 0 d a b e h p q r

-- a record: its symbol and part count, then its parts
pub record_put : (i symbol n : ℕ) (parts d s e : List ℕ) → length d ≡ run_bytes → i < most_records → length parts ≤ most_parts → n ≡ length parts
    → s ≡ put (record_from i) (bytes_of symbol_bytes symbol ++ (n ∷ [])) d
    → e ≡ put (record_from i + symbol_bytes + 1) parts s
    → e ≡ with_record i (record { symbol = symbol; parts = parts }) d
unfolding with_record
record_put i symbol n parts d s e h l m k hs he =
    let w : record_from i + symbol_bytes + 1 ≡ record_from i + (symbol_bytes + 1) = omega arith in
    he ∙ rw (hs, w, k) (put_then (record_from i) (bytes_of symbol_bytes symbol ++ (length parts ∷ [])) parts d (omega arith))
