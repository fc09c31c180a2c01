-- A list of bytes stays one: what is joined, filled, put, taken out and moved. Its elements are seen one by one, or all together.
use mathlib.Core.List.{List, [], ◌∷◌, ◌++◌}
use Prim.Native.Nat.{ℕ, suc, ◌+◌, ◌-◌, ◌<◌}
use native.Mathlib.Omega.{arith}
use lib.ListN.{length, take, drop, set, replicate}
use Rattle.base.specs.Lists.{All, Bytes}
use Rattle.base.specs.Regions.{put, get, shifted, gone}
use Rattle.base.proofs.Elements.{all_append, all_take, all_drop, all_set, all_replicate, all_get_d}

abbrev pub Byte : ℕ → Type 0
Byte b = b < 256

pub each_byte : (l : List ℕ) → Bytes l → All Byte l
each_byte [] b = tt
each_byte (x ∷ l) b = (b 0, each_byte l (λ i. b (suc i)))

pub byte_each : (l : List ℕ) → All Byte l → Bytes l
byte_each l a i = all_get_d Byte l i 0 (omega arith) a

pub append_bytes : (l m : List ℕ) → Bytes l → Bytes m → Bytes (l ++ m)
append_bytes l m a b = byte_each (l ++ m) (all_append Byte l m (each_byte l a) (each_byte m b))

pub replicate_bytes : (n v : ℕ) → v < 256 → Bytes (replicate n v)
replicate_bytes n v h = byte_each (replicate n v) (all_replicate Byte n v h)

take_bytes : (n : ℕ) (d : List ℕ) → Bytes d → Bytes (take n d)
take_bytes n d b = byte_each (take n d) (all_take Byte d n (each_byte d b))

drop_bytes : (n : ℕ) (d : List ℕ) → Bytes d → Bytes (drop n d)
drop_bytes n d b = byte_each (drop n d) (all_drop Byte d n (each_byte d b))

pub set_bytes : (d : List ℕ) (i v : ℕ) → v < 256 → Bytes d → Bytes (set d i v)
set_bytes d i v h b = byte_each (set d i v) (all_set Byte d i v h (each_byte d b))

pub put_bytes : (at : ℕ) (vs d : List ℕ) → Bytes vs → Bytes d → Bytes (put at vs d)
unfolding put
put_bytes at vs d v b =
    append_bytes (take at d ++ vs) (drop (at + length vs) d) (append_bytes (take at d) vs (take_bytes at d b) v) (drop_bytes (at + length vs) d b)

pub get_bytes : (at n : ℕ) (d : List ℕ) → Bytes d → Bytes (get at n d)
unfolding get
get_bytes at n d b = take_bytes n (drop at d) (drop_bytes at d b)

pub gone_bytes : (w at e : ℕ) (d : List ℕ) → Bytes d → Bytes (gone w at e d)
unfolding gone shifted
gone_bytes w at e d b =
    put_bytes (e - w) (replicate w 0) (shifted w at (e - w) d) (replicate_bytes w 0 (omega arith))
    (put_bytes at (get (at + w) (e - w - at) d) d (get_bytes (at + w) (e - w - at) d b) b)
