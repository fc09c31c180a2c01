-- The text printed from a map's bytes is the paper's: a row's bytes are read back as the row, for a table within its limits.
use Prim.Native.Nat.{ℕ, zero, suc, ◌+◌, ◌-◌, ◌*◌, ◌/◌, ◌%◌, ◌≤◌, ◌<◌}
use mathlib.Core.Path.{◌≡◌, refl, ap, ap₂, subst, ◌∙◌}
use mathlib.Core.Bool.{Bool, true, false}
use mathlib.Core.List.{List, [], ◌∷◌, ◌++◌, append_assoc}
use mathlib.Core.Option.{Option, none, some}
use native.Mathlib.Omega.{arith}
use borrow.Author.Tests.{le-leb}
use lib.ListN.{length, get_or, replicate, length-append, length-replicate, get_or-append}
use lib.Seq.{get_or-append-add}
use Rattle.std.proofs.lemmas.List.{length-map}
use Rattle.base.specs.Lists.{list_from, All}
use Rattle.base.specs.Puts.{PutFrom}
use Rattle.paper.specs.Sizes.{most_parts, number_limit}
use Rattle.paper.specs.Tables.{Table, Record, RecordOk, TableOk, is_unknown, no_record}
use Rattle.paper.specs.Runs.{Run}
use Rattle.paper.specs.Ends.{End, at_open, at_record, by_entry, followed, end_of}
use Rattle.paper.specs.Files.{each}
use Rattle.paper.specs.Maps.{Look, open_look, record_look, Row, look_of, row_of, lowest_of, map_row, rows_from, map_rows}
use Rattle.paper.specs.Programs.{decimal, spaced, newline, printed_row, printed_rows, printed_map}
use Rattle.layout.specs.Offsets.{symbol_bytes, row_bytes, map_bytes}
use Rattle.layout.specs.Fields.{byte_at}
use Rattle.layout.specs.MapRows.{look_bytes, bytes_of_row, map_of}
use Rattle.printing.specs.Prints.{row_from, lowest_at, symbol_at, part_count_at, part_at, parts_at, look_at, row_at, row_printed, map_printed}

-- a look that a row's bytes hold: a symbol of four bytes, and at most four parts
abbrev LookOk : Look → Type 0
LookOk open_look = Unit {0}
LookOk (record_look s ls) = (s < number_limit) × (length ls ≤ most_parts)

-- the look of an end: a record of the table
abbrev EndOk : End → Type 0
EndOk (at_open z) = Unit {0}
EndOk (at_record q) = (q.symbol < number_limit) × (length q.parts ≤ most_parts)

module _ (t : Table) (ok : TableOk t) where
  one_ok : (v : ℕ) (qs : List Record) (i : ℕ) → All (RecordOk v) qs → EndOk (at_record (get_or qs i no_record))
  one_ok v [] i a = (omega arith, omega arith)
  one_ok v (q ∷ qs) zero a = (a.0.symbol, a.0.count)
  one_ok v (q ∷ qs) (suc i) a = one_ok v qs i a.1

  entry_ok : (b : Bool) (o : Option ℕ) (a : ℕ) (f : ℕ → End) → ((v : ℕ) → EndOk (f v)) → EndOk (by_entry b t o a f)
  entry_ok true none a f h = tt
  entry_ok true (some v) a f h = h v
  entry_ok false o a f h = one_ok t.unknowns t.records (a - t.unknowns) ok.records

  end_ok : (o : ℕ → Option ℕ) (n a : ℕ) → EndOk (followed t o n a)
  end_ok o zero a = tt
  end_ok o (suc n) a = entry_ok (is_unknown t a) (o a) a (λ v. followed t o n v) (λ v. end_ok o n v)

look_ok : (e : ℕ → End) (v : ℕ) (z : End) → EndOk z → LookOk (look_of e v z)
look_ok e v (at_open z) h = tt
look_ok e v (at_record q) h = (h.0, omega (arith, h.1, length-map q.parts (lowest_of e v)))

row_ok : (t : Table) (r : Run) (x : ℕ) → TableOk t → LookOk (map_row t r x).look
unfolding map_row row_of end_of
row_ok t r x ok =
    look_ok (end_of t r.state.owner) t.unknowns (end_of t r.state.owner x) (end_ok t ok r.state.owner (suc t.unknowns) x)

-- eleven bytes a row
look_long : (k : Look) → LookOk k → length (look_bytes k) ≡ 10
look_long open_look h = refl
look_long (record_look s ls) h =
    omega (arith, h.1, length-append ls (replicate {A = ℕ} (most_parts - length ls) 0), length-replicate {A = ℕ} (most_parts - length ls) 0)

row_long : (w : Row) → LookOk w.look → length (bytes_of_row w) ≡ row_bytes
row_long w h = omega (arith, look_long w.look h)

-- byte j of row x of the map is byte j of the row's bytes
module _ (b rest : List ℕ) (j : ℕ) (long : length b ≡ row_bytes) where
  first_row : j < row_bytes → get_or (b ++ rest) (row_from 0 + j) 0 ≡ get_or b j 0
  first_row g =
      let e : row_from 0 + j ≡ j = omega arith in
      ap (λ (i : ℕ). get_or (b ++ rest) i 0) e ∙ get_or-append b rest 0 j (omega arith)

  later_row : (x : ℕ) → get_or (b ++ rest) (row_from (suc x) + j) 0 ≡ get_or rest (row_from x + j) 0
  later_row x =
      let e : row_from (suc x) + j ≡ length b + (row_from x + j) = omega arith in
      ap (λ (i : ℕ). get_or (b ++ rest) i 0) e ∙ get_or-append-add b rest (row_from x + j) 0

module _ (t : Table) (r : Run) (ok : TableOk t) where
  long : (y : ℕ) → length (bytes_of_row (map_row t r y)) ≡ row_bytes
  long y = row_long (map_row t r y) (row_ok t r y ok)

  abbrev rows : ℕ → ℕ → List ℕ
  rows k y = each bytes_of_row (rows_from t r k y)

  there : (k y x j : ℕ) (z : List ℕ) → x < k → j < row_bytes
      → get_or (each bytes_of_row (rows_from t r k y) ++ z) (row_from x + j) 0 ≡ get_or (bytes_of_row (map_row t r (y + x))) j 0
  there zero y x j z h g = absurd (let i : ⊥ = omega arith in i)
  there (suc k) y zero j z h g =
      let e : y ≡ y + 0 = omega arith in
      ap (λ (l : List ℕ). get_or l (row_from 0 + j) 0) (append_assoc (bytes_of_row (map_row t r y)) (rows k (suc y)) z)
      ∙ first_row (bytes_of_row (map_row t r y)) (rows k (suc y) ++ z) j (long y) g
      ∙ ap (λ (n : ℕ). get_or (bytes_of_row (map_row t r n)) j 0) e
  there (suc k) y (suc x) j z h g =
      let e : suc y + x ≡ y + suc x = omega arith in
      ap (λ (l : List ℕ). get_or l (row_from (suc x) + j) 0) (append_assoc (bytes_of_row (map_row t r y)) (rows k (suc y)) z)
      ∙ later_row (bytes_of_row (map_row t r y)) (rows k (suc y) ++ z) j (long y) x
      ∙ there k (suc y) x j z (omega arith) g
      ∙ ap (λ (n : ℕ). get_or (bytes_of_row (map_row t r n)) j 0) e

  stands : (x j : ℕ) → x < t.unknowns → j < row_bytes → byte_at (map_of t r) (row_from x + j) ≡ byte_at (bytes_of_row (map_row t r x)) j
  unfolding map_of map_rows
  stands x j h g =
      let e : 0 + x ≡ x = omega arith in
      there t.unknowns 0 x j (replicate (map_bytes - row_bytes * t.unknowns) 0) h g
      ∙ ap (λ (n : ℕ). get_or (bytes_of_row (map_row t r n)) j 0) e

-- a list is read back from its elements
list_back : (f : ℕ → ℕ) (ls : List ℕ) (i : ℕ) → ((k : ℕ) → k < length ls → f (i + k) ≡ get_or ls k 0) → list_from f (length ls) i ≡ ls
list_back f [] i h = refl
list_back f (l ∷ ls) i h =
    let a : i + 0 ≡ i = omega arith in
    ap₂ (λ (x : ℕ) (xs : List ℕ). x ∷ xs) (subst (λ (n : ℕ). f n ≡ l) a (h 0 (omega arith)))
    (list_back f ls (suc i) (λ k g. (let b : suc i + k ≡ i + suc k = omega arith in ap f b ∙ h (suc k) (omega arith))))

past_seven : (a b c d e f g k : ℕ) (l : List ℕ) → get_or (a ∷ b ∷ c ∷ d ∷ e ∷ f ∷ g ∷ l) (7 + k) 0 ≡ get_or l k 0
past_seven a b c d e f g k l = get_or-append-add (a ∷ b ∷ c ∷ d ∷ e ∷ f ∷ g ∷ []) l k 0

four_back : (s : ℕ) → s < number_limit → s % 256 + 256 * (s / 256 % 256) + 65536 * (s / 256 / 256 % 256 + 256 * (s / 256 / 256 / 256 % 256)) ≡ s
four_back s h = omega arith

symbol_back : (m : List ℕ) (x s : ℕ) → s < number_limit → byte_at m (row_from x + 2) ≡ s % 256 → byte_at m (row_from x + 3) ≡ s / 256 % 256
    → byte_at m (row_from x + 4) ≡ s / 256 / 256 % 256 → byte_at m (row_from x + 5) ≡ s / 256 / 256 / 256 % 256 → symbol_at m x ≡ s
unfolding symbol_at
symbol_back m x s h a b c d = rw (a, b, c, d) (four_back s h)

count_back : (m : List ℕ) (x n : ℕ) → n ≤ most_parts → byte_at m (row_from x + 6) ≡ n → part_count_at m x ≡ n
unfolding part_count_at
count_back m x n h e =
    let a : row_from x + 2 + symbol_bytes ≡ row_from x + 6 = omega arith in
    rw (a, e, le-leb n most_parts h) refl

parts_back : (m : List ℕ) (x : ℕ) (ls : List ℕ) → length ls ≤ most_parts → byte_at m (row_from x + 6) ≡ length ls
    → ((k : ℕ) → k < length ls → byte_at m (row_from x + (7 + k)) ≡ get_or ls k 0) → parts_at m x ≡ ls
parts_back m x ls h e each_part =
    ap (λ (n : ℕ). list_from (part_at m x) n 0) (count_back m x (length ls) h e)
    ∙ list_back (part_at m x) ls 0 (λ k g. (let a : row_from x + 3 + symbol_bytes + (0 + k) ≡ row_from x + (7 + k) = omega arith in ap (byte_at m) a ∙ each_part k g))

-- a look is read back from its bytes
module _ (m : List ℕ) (x low : ℕ) where
  look_back : (k : Look) → LookOk k → ((j : ℕ) → j < row_bytes → byte_at m (row_from x + j) ≡ byte_at (low ∷ look_bytes k) j) → look_at m x ≡ k
  unfolding look_at
  look_back open_look ok h = rw (h 1 (omega arith)) refl
  look_back (record_look s ls) ok h = rw (h 1 (omega arith)) (ap₂ record_look symbol parts)
    where
      symbol : symbol_at m x ≡ s
      symbol = symbol_back m x s ok.0 (h 2 (omega arith)) (h 3 (omega arith)) (h 4 (omega arith)) (h 5 (omega arith))

      parts : parts_at m x ≡ ls
      parts =
          parts_back m x ls ok.1 (h 6 (omega arith))
          (λ k g. h (7 + k) (omega (arith, ok.1))
          ∙ past_seven low 1 (s % 256) (s / 256 % 256) (s / 256 / 256 % 256) (s / 256 / 256 / 256 % 256) (length ls) k (ls ++ replicate (most_parts - length ls) 0)
          ∙ get_or-append ls (replicate (most_parts - length ls) 0) 0 k g)

-- the rows, and so the text, are the paper's
module _ (t : Table) (r : Run) (ok : TableOk t) where
  pub row_back : (x : ℕ) → x < t.unknowns → row_at (map_of t r) x ≡ map_row t r x
  row_back x h =
      let low : lowest_at (map_of t r) x ≡ (map_row t r x).lowest =
      (let a : row_from x ≡ row_from x + 0 = omega arith in ap (byte_at (map_of t r)) a ∙ stands t r ok x 0 h (omega arith)) in
      ap₂ (λ (a : ℕ) (b : Look). record { lowest = a; look = b }) low
      (look_back (map_of t r) x (map_row t r x).lowest (map_row t r x).look (row_ok t r x ok) (λ j g. stands t r ok x j h g))

  pub row_text : (x : ℕ) → x < t.unknowns → row_printed (map_of t r) x ≡ printed_row x (map_row t r x)
  unfolding row_printed
  row_text x h = ap (printed_row x) (row_back x h)

  rows_text : (k x : ℕ) → x + k ≤ t.unknowns → each (row_printed (map_of t r)) (list_from (λ y. y) k x) ≡ printed_rows t r k x
  rows_text zero x h = refl
  rows_text (suc k) x h =
      ap₂ (λ (a b : List ℕ). a ++ b) (row_text x (omega arith)) (rows_text k (suc x) (omega arith))

  pub map_text : map_printed (map_of t r) t.unknowns ≡ printed_map t r
  unfolding map_printed printed_map
  map_text =
      ap (λ (l : List ℕ). 105 ∷ 116 ∷ 101 ∷ 109 ∷ 115 ∷ (spaced t.unknowns ++ (newline ++ l))) (rows_text t.unknowns 0 (omega arith))

  -- so what `print_map` puts of such a map is the paper's text
  pub map_printed_lem : {m : List ℕ} {v : ℕ} {b a : List ℕ} {n : ℕ} → m ≡ map_of t r → v ≡ t.unknowns → PutFrom 0 (map_printed m v) b a n
      → PutFrom 0 (printed_map t r) b a n
  map_printed_lem {m} {v} {b} {a} {n} e u w =
      subst (λ (bs : List ℕ). PutFrom 0 bs b a n) (ap₂ map_printed e u ∙ map_text) w

-- document 01's example: `items 2`, `0 0 plate 7 0`, `1 0 plate 7 0`
abbrev pub example_map : List ℕ
example_map = 0 ∷ 1 ∷ 7 ∷ 0 ∷ 0 ∷ 0 ∷ 1 ∷ 0 ∷ 0 ∷ 0 ∷ 0 ∷ 0 ∷ 1 ∷ 7 ∷ 0 ∷ 0 ∷ 0 ∷ 1 ∷ replicate 334 0

pub example_text :
    map_printed example_map 2
    ≡ 105 ∷ 116 ∷ 101 ∷ 109 ∷ 115 ∷ 32 ∷ 50 ∷ 10
    ∷ 48 ∷ 32 ∷ 48 ∷ 32 ∷ 112 ∷ 108 ∷ 97 ∷ 116 ∷ 101 ∷ 32 ∷ 55 ∷ 32 ∷ 48 ∷ 10
    ∷ 49 ∷ 32 ∷ 48 ∷ 32 ∷ 112 ∷ 108 ∷ 97 ∷ 116 ∷ 101 ∷ 32 ∷ 55 ∷ 32 ∷ 48 ∷ 10 ∷ []
unfolding map_printed row_printed printed_row look_at symbol_at part_count_at decimal
example_text = refl
