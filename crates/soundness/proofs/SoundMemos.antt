-- Laws of a memo's bytes: in the row of a greater unknown those of pairs that can stand are 0 or 1, and the rest 0.
use mathlib.Core.Path.{◌≡◌, refl, sym, ap, ◌∙◌}
use mathlib.Core.Bool.{Bool, true, false, ◌&&◌, ◌||◌, and_assoc}
use mathlib.Core.List.{List}
use Prim.Native.Nat.{ℕ, zero, suc, ◌+◌, ◌-◌, ◌*◌, ◌≤◌, ◌<◌}
use native.Mathlib.Nat.{add_assoc}
use native.Mathlib.Omega.{arith}
use lib.Dec.{ltb, leb, eqb}
use borrow.Author.Tests.{lt-ltb, le-ltb, lt-leb, ne_eqb}
use Rattle.base.specs.Choice.{pick, all_below}
use Rattle.base.proofs.Ranges.{below_each, each_below, tested_none, tested_next}
use Rattle.base.proofs.Regions.{part_at}
use lib.ListN.{length, get_or, take, drop, length-take, length-drop}
use Rattle.paper.specs.Sizes.{most_unknowns}
use Rattle.layout.specs.Offsets.{memos_at, memo_bytes}
use Rattle.layout.specs.Fields.{byte_at}
use Rattle.layout.specs.Soundness.{all_are, zeros_at, pair_ok, memo_row_ok, memo_ok}
use Rattle.soundness.proofs.SoundRegions.{and_then, and_stops}
use Rattle.soundness.proofs.SoundZeros.{below_parts, below_same}

-- where the row of a greater unknown starts
abbrev pub row_from : ℕ → ℕ → ℕ
row_from c x = memos_at + memo_bytes * c + most_unknowns * x

-- byte i of those from `at` on can stand for a pair
abbrev pub bit_at : List ℕ → ℕ → ℕ → Bool
bit_at d at i = leb (byte_at d (at + i)) 1

-- a loop over a part of a run: no byte is tested, and one more
module _ (n at : ℕ) (d : List ℕ) where
  pub bits_none : true ≡ all_below 0 (bit_at d at)
  bits_none = tested_none (bit_at d at)

  pub bits_next : (i : ℕ) (clean : Bool) → at + n ≤ length d → i < length (take (at + n - at) (drop at d)) → clean ≡ all_below i (bit_at d at)
      → (clean && leb (get_or (take (at + n - at) (drop at d)) i 0) 1) ≡ all_below (i + 1) (bit_at d at)
  bits_next i clean h l e =
      let k : i < n = omega (arith, simp (length-take, length-drop) at l) in
      tested_next (bit_at d at) i _ clean (ap (λ (b : ℕ). leb b 1) (part_at at n i d k)) e

bit : (b : ℕ) → (eqb b 0 || (eqb b 1 && true)) ≡ leb b 1
bit zero = refl
bit (suc zero) = refl
bit (suc (suc b)) =
    rw (ne_eqb (suc (suc b)) 0 (λ e. omega arith), ne_eqb (suc (suc b)) 1 (λ e. omega arith), lt-leb (suc (suc b)) 1 (omega arith))

-- a row of which n bytes can be 1
module _ (s v c x n : ℕ) (d : List ℕ) (e : n ≡ pick (ltb c s && ltb x v) x 0) where
  pair_below : (y b : ℕ) → pair_ok s v c x y b ≡ (eqb b 0 || (eqb b 1 && ltb y n))
  unfolding pair_ok
  pair_below y b = rw (← and_assoc (ltb c s) (ltb x v) (ltb y x), e) (chosen (ltb c s && ltb x v))
    where
      chosen : (t : Bool) → (eqb b 0 || (eqb b 1 && (t && ltb y x))) ≡ (eqb b 0 || (eqb b 1 && ltb y (pick t x 0)))
      chosen true = refl
      chosen false = rw (le-ltb y 0 (omega arith))

  pair_bit : (y b : ℕ) → y < n → pair_ok s v c x y b ≡ leb b 1
  pair_bit y b l = pair_below y b ∙ rw (lt-ltb y n l) (bit b)

  pair_zero : (y b : ℕ) → n ≤ y → pair_ok s v c x y b ≡ eqb b 0
  pair_zero y b l = pair_below y b ∙ rw (le-ltb y n l) (neither (eqb b 0) (eqb b 1))
    where
      neither : (p q : Bool) → (p || (q && false)) ≡ p
      neither true q = refl
      neither false true = refl
      neither false false = refl

  row_parts : (at m : ℕ)
      → n ≤ m
      → all_below m (λ y. pair_ok s v c x y (byte_at d (at + y))) ≡ (all_below n (bit_at d at) && zeros_at (m - n) (at + n) d)
  unfolding all_are
  row_parts at m l =
      below_parts (λ y. pair_ok s v c x y (byte_at d (at + y))) m n l
      ∙ rw (
        below_same (λ y. pair_ok s v c x y (byte_at d (at + y))) (bit_at d at) n (λ y k. pair_bit y (byte_at d (at + y)) k),
        below_same
            (λ i. pair_ok s v c x (n + i) (byte_at d (at + (n + i))))
            (λ i. eqb (byte_at d (at + n + i)) 0)
            (m - n)
            (λ i k. rw (← add_assoc at n i) (pair_zero (n + i) (byte_at d (at + n + i)) (omega arith))),
      )

  module _ (b : Bool) (h : b ≡ all_below n (bit_at d (row_from c x))) (l : n ≤ x) (k : x < most_unknowns) where
    pub row_stops : b ≡ false → b ≡ memo_row_ok s v d c x
    unfolding memo_row_ok
    row_stops t = and_stops b _ _ h t ∙ sym (row_parts (row_from c x) most_unknowns (omega arith))

    pub row_rest : (z : Bool) → b ≡ true → z ≡ zeros_at (most_unknowns - n) (row_from c x + n) d → z ≡ memo_row_ok s v d c x
    unfolding memo_row_ok
    row_rest z t g = and_then b _ _ h z t g ∙ sym (row_parts (row_from c x) most_unknowns (omega arith))

-- a memo with no pair
module _ (s v c : ℕ) (d : List ℕ) (b : Bool) (h : b ≡ zeros_at memo_bytes (memos_at + memo_bytes * c) d) (t : b ≡ true) where
  no_pair : (x y : ℕ) → x < most_unknowns → y < most_unknowns → eqb (byte_at d (row_from c x + y)) 0 ≡ true
  unfolding all_are
  no_pair x y l k =
      rw (add_assoc (memos_at + memo_bytes * c) (most_unknowns * x) y)
      (below_each (λ i. eqb (byte_at d (memos_at + memo_bytes * c + i)) 0) memo_bytes (sym h ∙ t) (most_unknowns * x + y) (omega arith))

  pub memo_none : true ≡ memo_ok s v d c
  unfolding memo_ok memo_row_ok pair_ok
  memo_none = sym (each_below _ most_unknowns (λ x l. each_below _ most_unknowns (λ y k. rw (no_pair x y l k))))
