-- What is printed is at most most_printed bytes: each number of a row is a byte or a symbol, and there are at most 32 rows.
use Prim.Native.Nat.{ℕ, zero, suc, ◌+◌, ◌*◌, ◌/◌, ◌%◌, ◌≤◌, ◌<◌}
use mathlib.Core.Path.{◌≡◌, refl, ap}
use mathlib.Core.Bool.{Bool, true, false}
use mathlib.Core.Logic.{⊎_elim}
use mathlib.Core.List.{List, [], ◌∷◌, ◌++◌}
use native.Mathlib.Omega.{arith}
use lib.Dec.{eqb, leb}
use borrow.Author.Tests.{lt-ltb, le-ltb, leb-true}
use lib.ListN.{length, length-append}
use Rattle.base.specs.Choice.{pick}
use Rattle.base.specs.Lists.{list_from, Bytes}
use Rattle.base.proofs.Regions.{lt_or_le}
use Rattle.paper.specs.Sizes.{most_unknowns, most_parts, number_limit}
use Rattle.paper.specs.Files.{each}
use Rattle.paper.specs.Maps.{open_look, record_look}
use Rattle.paper.specs.Programs.{digits, decimal, newline, spaced, spaced_all, printed_look, printed_row, printed_refusal}
use Rattle.layout.specs.Offsets.{symbol_bytes}
use Rattle.layout.specs.Fields.{byte_at}
use Rattle.layout.specs.Given.{byte_limit}
use Rattle.printing.specs.declared.Text.{Text}
use Rattle.printing.specs.Prints.{row_from, lowest_at, kind_at, symbol_at, part_count_at, part_at, parts_at, look_at, row_printed, rows_printed, map_printed, most_line, most_printed}
use Rattle.printing.specs.Texts.{HasRoom}

-- digits, by whether one is enough
last_digit : (j n : ℕ) → n < 10 → digits (suc j) n ≡ (48 + n) ∷ []
last_digit j n h = rw (digits, lt-ltb n 10 h) refl

more_digits : (j n : ℕ) → 10 ≤ n → digits (suc j) n ≡ digits j (n / 10) ++ ((48 + n % 10) ∷ [])
more_digits j n h = rw (digits, le-ltb n 10 h) refl

-- how many digits: at most k, and at most j of a number below 10 to the j
unfoldable pub tens : ℕ → ℕ
tens zero = 1
tens (suc j) = 10 * tens j

pub digits_most : (k n : ℕ) → length (digits k n) ≤ k
digits_most zero n = omega arith
digits_most (suc k) n =
    ⊎_elim (λ h. omega (arith, ap length (last_digit k n h)))
    (λ h. omega (arith, ap length (more_digits k n h), length-append (digits k (n / 10)) ((48 + n % 10) ∷ []), digits_most k (n / 10)))
    (lt_or_le n 10)

pub digits_short : (k j n : ℕ) → n < tens (suc j) → length (digits k n) ≤ suc j
unfolding tens
digits_short zero j n h = omega arith
digits_short (suc k) zero n h = omega (arith, ap length (last_digit k n (omega arith)))
digits_short (suc k) (suc j) n h =
    ⊎_elim (λ g. omega (arith, ap length (last_digit k n g)))
    (λ g. omega (arith, ap length (more_digits k n g), length-append (digits k (n / 10)) ((48 + n % 10) ∷ []), digits_short k j (n / 10) (omega arith)))
    (lt_or_le n 10)

module _ (n : ℕ) where
  pub decimal_most : length (decimal n) ≤ 20
  unfolding decimal
  decimal_most = digits_most 20 n

  pub decimal_byte : n < byte_limit → length (decimal n) ≤ 3
  unfolding decimal tens
  decimal_byte h = digits_short 20 2 n (omega arith)

  pub decimal_number : n < number_limit → length (decimal n) ≤ 10
  unfolding decimal tens
  decimal_number h = digits_short 20 9 n (omega arith)

-- four pieces, one after the other
pub joined_length : (a b c e : List ℕ) → length (a ++ (b ++ (c ++ e))) ≡ length a + (length b + (length c + length e))
joined_length a b c e = simp length-append

-- n pieces of at most b bytes
each_most : (w : ℕ → List ℕ) (b n i : ℕ) → ((k : ℕ) → i ≤ k → k < i + n → length (w k) ≤ b) → length (each w (list_from (λ x. x) n i)) ≤ n * b
each_most w b zero i h = omega arith
each_most w b (suc n) i h =
    omega (arith, length-append (w i) (each w (list_from (λ x. x) n (suc i))), h i (omega arith) (omega arith), each_most w b n (suc i) (λ k l g. h k (omega arith) (omega arith)))

spaced_most : (f : ℕ → ℕ) (n i : ℕ) → ((k : ℕ) → f k < byte_limit) → length (spaced_all (list_from f n i)) ≤ n * 4
spaced_most f zero i h = omega arith
spaced_most f (suc n) i h =
    omega (arith, length-append (spaced (f i)) (spaced_all (list_from f n (suc i))), decimal_byte (f i) (h i), spaced_most f n (suc i) h)

few : (n : ℕ) (b : Bool) → leb n most_parts ≡ b → pick b n most_parts ≤ most_parts
few n true e = leb-true n most_parts e
few n false e = omega arith

look_most : (b : Bool) (s : ℕ) (ns : List ℕ) → length (spaced s) ≤ 11 → length (spaced_all ns) ≤ 16 → length (printed_look (pick b open_look (record_look s ns))) ≤ 33
look_most true s ns h g = omega arith
look_most false s ns h g = omega (arith, length-append (spaced s) (spaced_all ns))

module _ (m : List ℕ) (bytes : Bytes m) where
  part_count_most : (x : ℕ) → part_count_at m x ≤ most_parts
  unfolding part_count_at
  part_count_most x = few (byte_at m (row_from x + 2 + symbol_bytes)) (leb (byte_at m (row_from x + 2 + symbol_bytes)) most_parts) refl

  symbol_most : (x : ℕ) → symbol_at m x < number_limit
  unfolding symbol_at
  symbol_most x =
      omega (arith, bytes (row_from x + 2), bytes (row_from x + 3), bytes (row_from x + 4), bytes (row_from x + 5))

  row_look_most : (x : ℕ) → length (printed_look (look_at m x)) ≤ 33
  unfolding look_at
  row_look_most x =
      look_most (eqb (kind_at m x) 0) (symbol_at m x) (parts_at m x) (omega (arith, decimal_number (symbol_at m x) (symbol_most x)))
      (omega (arith, part_count_most x, spaced_most (part_at m x) (part_count_at m x) 0 (λ k. bytes (row_from x + 3 + symbol_bytes + k))))

  pub row_most : (x : ℕ) → x < most_unknowns → length (row_printed m x) ≤ most_line
  unfolding row_printed printed_row
  row_most x h =
      omega (arith, joined_length (decimal x) (spaced (lowest_at m x)) (printed_look (look_at m x)) newline, decimal_byte x (omega arith), decimal_byte (lowest_at m x) (bytes (row_from x)), row_look_most x)

  pub map_most : (v : ℕ) → v ≤ most_unknowns → length (map_printed m v) ≤ most_printed
  unfolding map_printed
  map_most v h =
      omega (arith, length-append (spaced v) (newline ++ rows_printed m v), decimal_byte v (omega arith), each_most (row_printed m) most_line v 0 (λ k l g. row_most k (omega arith)))

-- a buffer of that length is enough
module _ (t : Text) (d : List ℕ) (same : t.buffer.now ≡ d) (start : t.end ≡ 0) (most : most_printed ≤ length d) where
  pub map_fits : (m : List ℕ) (v : ℕ) → v ≤ most_unknowns → ((i : ℕ) → byte_at m i < 256) → HasRoom t (map_printed m v)
  map_fits m v h b = record { fits = omega (arith, ap length same, map_most m b v h) }

  pub refusal_fits : (k p : ℕ) → HasRoom t (printed_refusal k p)
  unfolding printed_refusal
  refusal_fits k p =
      record {
        fits = omega (arith, ap length same, length-append (spaced k) (32 ∷ 97 ∷ 116 ∷ (spaced p ++ newline)), length-append (spaced p) newline, decimal_most k, decimal_most p);
      }
