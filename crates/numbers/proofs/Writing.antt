-- Laws of writing: how a number's bytes begin, how many they are, and one law for each way out of `write_number`.
use Prim.Native.Nat.{ℕ, zero, suc, ◌+◌, ◌/◌, ◌%◌, ◌≤◌, ◌<◌}
use mathlib.Core.Path.{◌≡◌, refl, sym, ap, ◌∙◌}
use mathlib.Core.List.{List, [], ◌∷◌}
use mathlib.Core.Bool.{Bool, true, false}
use lib.ListN.{length, set, length-set}
use lib.Seq.{sets-eq}
use lib.Dec.{ltb}
use native.Mathlib.Numerals.{add-one}
use native.Mathlib.Omega.{arith}
use borrow.Author.Tests.{lt-ltb, le-ltb}
use Rattle.base.specs.Choice.{pick}
use Rattle.base.specs.Regions.{put}
use Rattle.base.specs.Puts.{PutFrom}
use Rattle.paper.specs.Sizes.{number_limit}
use Rattle.paper.specs.Numbers.{groups_of, number_bytes}
use Rattle.numbers.proofs.Limits.{limit}

-- the first group, and then the rest
pub put_first : (at v : ℕ) (vs d : List ℕ) → at + 1 + length vs ≤ length d → put (at + 1) vs (set d at v) ≡ put at (v ∷ vs) d
unfolding put
put_first at v vs d h =
    let l : length (set d at v) ≡ length d = length-set d at v in
    rw add-one (sym (sets-eq vs (set d at v) (suc at) (omega arith)) ∙ sets-eq (v ∷ vs) d at (omega arith))

-- a small number has no need of its last group
one_group_less : (k n : ℕ) → n < limit k 127 → groups_of (suc k) n ≡ groups_of (suc (suc k)) n
unfolding limit
one_group_less zero n h = rw (lt-ltb n 128 (omega arith)) refl
one_group_less (suc k) n h = rw (one_group_less k (n / 128) (omega arith)) refl

pub bytes_short : (n : ℕ) → n < 128 → number_bytes n ≡ n ∷ []
unfolding number_bytes
bytes_short n h = rw (lt-ltb n 128 h) refl

pub bytes_long : (n : ℕ) → 128 ≤ n → n < number_limit → number_bytes n ≡ (128 + n % 128) ∷ number_bytes (n / 128)
unfolding number_bytes limit
bytes_long n h l = rw (le-ltb n 128 h) (ap (λ (r : List ℕ). (128 + n % 128) ∷ r) (one_group_less 3 (n / 128) (omega arith)))

-- one to k groups are written where at most k are allowed
count_first : (b : Bool) (n m k : ℕ) (rest : List ℕ) → length rest ≤ k → (0 < length (pick b (n ∷ []) (m ∷ rest))) × (length (pick b (n ∷ []) (m ∷ rest)) ≤ suc k)
count_first true n m k rest h = (omega arith, omega arith)
count_first false n m k rest h = (omega arith, omega arith)

count_groups : (k n : ℕ) → (0 < length (groups_of (suc k) n)) × (length (groups_of (suc k) n) ≤ suc k)
count_groups zero n = (omega arith, omega arith)
count_groups (suc k) n = count_first (ltb n 128) n (128 + n % 128) (suc k) (groups_of (suc k) (n / 128)) (count_groups k (n / 128)).1

pub bytes_some : (n : ℕ) → 0 < length (number_bytes n)
unfolding number_bytes
bytes_some n = (count_groups 4 n).0

module _ (at n : ℕ) (d : List ℕ) (fits : at + length (number_bytes n) ≤ length d) where
  pub room_for_one : at < length d
  room_for_one = omega (arith, bytes_some n)

  pub short_written : n < 128 → PutFrom at (number_bytes n) d (set d at n) (at + 1)
  unfolding put
  short_written h = record { past = rw (bytes_short n h) refl; bytes = rw (bytes_short n h) (sets-eq (n ∷ []) d at (rw (bytes_short n h) at fits)) }

  module _ (large : 128 ≤ n) (small : n < number_limit) where
    room : at + 1 + length (number_bytes (n / 128)) ≤ length d
    room = let h = rw (bytes_long n large small) at fits in omega arith

    pub room_for_rest : (v : ℕ) → at + 1 + length (number_bytes (n / 128)) ≤ length (set d at v)
    room_for_rest v = rw length-set room

    pub long_written : (after : List ℕ) (next : ℕ) → PutFrom (at + 1) (number_bytes (n / 128)) (set d at (128 + n % 128)) after next
        → PutFrom at (number_bytes n) d after next
    long_written after next w =
        record {
          past = rw (bytes_long n large small) (omega (arith, w.past));
          bytes = rw (bytes_long n large small) (w.bytes ∙ put_first at (128 + n % 128) (number_bytes (n / 128)) d room);
        }
