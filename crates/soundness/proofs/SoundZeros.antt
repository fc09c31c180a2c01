-- Laws of a loop with no way out, and of bytes that must be 0: a region whose rows from some number on must be 0 asks one test of
-- them all.
use mathlib.Core.Path.{◌≡◌, refl, sym, ap, ◌∙◌}
use mathlib.Core.Bool.{Bool, true, false, ◌&&◌, and_assoc, and_comm}
use mathlib.Core.List.{List}
use Prim.Native.Nat.{ℕ, zero, suc, ◌+◌, ◌-◌, ◌*◌, ◌≤◌, ◌<◌}
use native.Mathlib.Nat.{add_assoc, add-zero, add-suc, mul-zero, mul-suc, mul-add}
use native.Mathlib.Omega.{arith}
use lib.Dec.{eqb}
use borrow.Author.Tests.{lt-ltb, le-ltb}
use Rattle.base.specs.Choice.{all_below}
use Rattle.base.proofs.Ranges.{tested_none}
use Rattle.paper.specs.Sizes.{most_records, room}
use Rattle.layout.specs.Offsets.{record_bytes, item_bytes, table_at, pending_at, record_from, item_from}
use Rattle.layout.specs.Fields.{byte_at}
use Rattle.layout.specs.Soundness.{all_are, zeros_at, parts_ok, record_ok, records_ok, item_ok, place_ok, items_ok}

-- all below a number: those below a lesser one, and those after them; and two tests that say the same
below_cut : (f : ℕ → Bool) (a b : ℕ) → all_below (a + b) f ≡ (all_below b (λ i. f (a + i)) && all_below a f)
unfolding all_below
below_cut f a zero = rw add-zero
below_cut f a (suc b) = rw (add-suc, below_cut f a b) (sym (and_assoc (f (a + b)) (all_below b (λ i. f (a + i))) (all_below a f)))

pub below_parts : (f : ℕ → Bool) (m n : ℕ) → n ≤ m → all_below m f ≡ (all_below n f && all_below (m - n) (λ i. f (n + i)))
below_parts f m n l =
    let e : n + (m - n) ≡ m = omega arith in
    (rw e at (below_cut f n (m - n))) ∙ and_comm (all_below (m - n) (λ i. f (n + i))) (all_below n f)

pub below_same : (f g : ℕ → Bool) (n : ℕ) → ((i : ℕ) → i < n → f i ≡ g i) → all_below n f ≡ all_below n g
unfolding all_below
below_same f g zero h = refl
below_same f g (suc n) h = rw (h n (omega arith), below_same f g n (λ i l. h i (omega arith)))

-- no bytes from `at` on, and a bytes with b bytes after them
module _ (at : ℕ) (d : List ℕ) where
  zeros_none : true ≡ zeros_at 0 at d
  unfolding all_are
  zeros_none = tested_none (λ i. eqb (byte_at d (at + i)) 0)

  zeros_cut : (a b : ℕ) → zeros_at (a + b) at d ≡ (zeros_at b (at + a) d && zeros_at a at d)
  unfolding all_are
  zeros_cut a b = simp add_assoc (below_cut (λ i. eqb (byte_at d (at + i)) 0) a b)

-- tests of rows of w bytes from `at` on, of which those from n on must be 0
module _ (f : ℕ → Bool) (w at n : ℕ) (d : List ℕ) (z : (i : ℕ) → n ≤ i → f i ≡ zeros_at w (at + w * i) d) where
  rows : all_below n f ≡ true → (k : ℕ) → all_below (n + k) f ≡ zeros_at (w * k) (at + w * n) d
  unfolding all_below
  rows h zero = rw (add-zero, mul-zero) (h ∙ zeros_none (at + w * n) d)
  rows h (suc k) =
      let e : at + w * (n + k) ≡ at + w * n + w * k = omega (arith, mul-add w n k) in
      rw (add-suc, mul-suc, zeros_cut (at + w * n) d (w * k) w, rows h k, z (n + k) (omega arith), e)

  pub rest_zeros : all_below n f ≡ true → (m : ℕ) → n ≤ m → all_below m f ≡ zeros_at (w * (m - n)) (at + w * n) d
  rest_zeros h m l = let e : n + (m - n) ≡ m = omega arith in rw e at (rows h (m - n))

  -- at once: the rows below n, and zeros
  pub rest_split : (m : ℕ) → n ≤ m → all_below m f ≡ (all_below n f && zeros_at (w * (m - n)) (at + w * n) d)
  rest_split m l = go (all_below n f) refl
    where
      go : (b : Bool) → all_below n f ≡ b → all_below m f ≡ (b && zeros_at (w * (m - n)) (at + w * n) d)
      go true e = rest_zeros e m l
      go false e = below_parts f m n l ∙ rw e

-- records from R on, and pending items from the count on
pub records_split : (v r : ℕ) (d : List ℕ) → r ≤ most_records
    → records_ok v r d ≡ (all_below r (λ i. parts_ok v i d) && zeros_at (record_bytes * (most_records - r)) (record_from r) d)
unfolding records_ok record_ok
records_split v r d l =
    rest_split (record_ok v r d) record_bytes table_at r d (λ i k. rw (le-ltb i r k)) most_records l
    ∙ ap (λ (b : Bool). b && zeros_at (record_bytes * (most_records - r)) (record_from r) d)
    (below_same (record_ok v r d) (λ i. parts_ok v i d) r (λ i k. rw (lt-ltb i r k)))

-- the item at a place, by its four bytes
abbrev pub item_at_ok : ℕ → ℕ → ℕ → List ℕ → ℕ → Bool
item_at_ok s v r d p =
    item_ok s v r (byte_at d (item_from p)) (byte_at d (item_from p + 1)) (byte_at d (item_from p + 2)) (byte_at d (item_from p + 3))

pub items_split : (s v r n : ℕ) (d : List ℕ) → n ≤ room
    → items_ok s v r n d ≡ (all_below n (item_at_ok s v r d) && zeros_at (item_bytes * (room - n)) (item_from n) d)
unfolding items_ok place_ok
items_split s v r n d l =
    rest_split (place_ok s v r n d) item_bytes pending_at n d (λ p k. rw (le-ltb p n k)) room l
    ∙ ap (λ (b : Bool). b && zeros_at (item_bytes * (room - n)) (item_from n) d)
    (below_same (place_ok s v r n d) (item_at_ok s v r d) n (λ p k. rw (lt-ltb p n k)))
