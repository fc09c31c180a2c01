-- Laws of the lines: that each piece of a refusal, a plate, a row or the map has room after those before it, and that they make the whole.
use Prim.Native.Nat.{ℕ, ◌+◌, ◌-◌, ◌<◌}
use native.Mathlib.Omega.{arith}
use lib.ListN.{get_or, take, drop}
use Rattle.std.proofs.lemmas.List.{get_or-take, get_or-drop}
use Rattle.layout.specs.Offsets.{symbol_bytes}
use mathlib.Core.Path.{◌≡◌, refl, ap, subst, ◌∙◌}
use borrow.Author.Tests.{eq-eqb, ne_eqb}
use mathlib.Core.List.{List, [], ◌∷◌, ◌++◌}
use Rattle.base.specs.Lists.{list_from}
use Rattle.paper.specs.Files.{each}
use Rattle.paper.specs.Programs.{decimal, newline, spaced, spaced_all, printed_look, printed_row, printed_refusal}
use Rattle.printing.specs.declared.Text.{Text}
use Rattle.printing.specs.Prints.{row_from, lowest_at, kind_at, symbol_at, part_count_at, part_at, parts_at, look_at, plate_printed, row_printed, rows_printed, map_printed}
use Rattle.printing.specs.Texts.{HasRoom, Adds}
use Rattle.printing.proofs.Texts.{first_fits, then_fits, then_adds}

spaced_each : (ns : List ℕ) → spaced_all ns ≡ each spaced ns
spaced_each [] = refl
spaced_each (n ∷ ns) = ap (λ (l : List ℕ). spaced n ++ l) (spaced_each ns)

-- a refusal
abbrev pub refused : List ℕ
refused = 114 ∷ 101 ∷ 102 ∷ 117 ∷ 115 ∷ 101 ∷ 100 ∷ []

abbrev pub at_word : List ℕ
at_word = 32 ∷ 97 ∷ 116 ∷ []

module _ {t u : Text} (k p : ℕ) (room : HasRoom t (printed_refusal k p)) (a : Adds t refused u) where
  after_refused : HasRoom u (spaced k ++ (at_word ++ (spaced p ++ newline)))
  unfolding printed_refusal
  after_refused = then_fits {bs = refused} room a

  pub number_fits : HasRoom u (spaced k)
  number_fits = first_fits (spaced k) (at_word ++ (spaced p ++ newline)) after_refused

  module _ {v : Text} (b : Adds u (spaced k) v) where
    after_number : HasRoom v (at_word ++ (spaced p ++ newline))
    after_number = then_fits after_refused b

    pub at_fits : HasRoom v at_word
    at_fits = first_fits at_word (spaced p ++ newline) after_number

    module _ {w : Text} (c : Adds v at_word w) where
      after_at : HasRoom w (spaced p ++ newline)
      after_at = then_fits after_number c

      pub position_fits : HasRoom w (spaced p)
      position_fits = first_fits (spaced p) newline after_at

      module _ {x : Text} (e : Adds w (spaced p) x) where
        pub newline_fits : HasRoom x newline
        newline_fits = then_fits after_at e

        pub refusal_adds : {y : Text} → Adds x newline y → Adds t (printed_refusal k p) y
        unfolding printed_refusal
        refusal_adds {y} f =
            then_adds {bs = refused} room a (then_adds after_refused b (then_adds after_number c (then_adds after_at e f)))

-- the looks
abbrev pub open_word : List ℕ
open_word = 32 ∷ 111 ∷ 112 ∷ 101 ∷ 110 ∷ []

abbrev pub plate_word : List ℕ
plate_word = 32 ∷ 112 ∷ 108 ∷ 97 ∷ 116 ∷ 101 ∷ []

module _ (m : List ℕ) (x : ℕ) where
  pub open_is : kind_at m x ≡ 0 → printed_look (look_at m x) ≡ open_word
  unfolding look_at
  open_is h = rw (eq-eqb (kind_at m x) 0 h) refl

  pub plate_is : (kind_at m x ≡ 0 → ⊥) → printed_look (look_at m x) ≡ plate_word ++ plate_printed m x
  unfolding look_at plate_printed
  plate_is h = rw (ne_eqb (kind_at m x) 0 h) refl

-- a line
module _ {t : Text} (m : List ℕ) (x : ℕ) (room : HasRoom t (row_printed m x)) where
  row_room : HasRoom t (decimal x ++ (spaced (lowest_at m x) ++ (printed_look (look_at m x) ++ newline)))
  unfolding row_printed printed_row
  row_room = room

  pub unknown_fits : HasRoom t (decimal x)
  unknown_fits = first_fits (decimal x) (spaced (lowest_at m x) ++ (printed_look (look_at m x) ++ newline)) row_room

  module _ {u : Text} (a : Adds t (decimal x) u) (n : ℕ) (e : n ≡ lowest_at m x) where
    after_unknown : HasRoom u (spaced n ++ (printed_look (look_at m x) ++ newline))
    after_unknown = rw e (then_fits row_room a)

    pub lowest_fits : HasRoom u (spaced n)
    lowest_fits = first_fits (spaced n) (printed_look (look_at m x) ++ newline) after_unknown

    module _ {v : Text} (b : Adds u (spaced n) v) where
      after_lowest : HasRoom v (printed_look (look_at m x) ++ newline)
      after_lowest = then_fits after_unknown b

      pub look_fits : HasRoom v (printed_look (look_at m x))
      look_fits = first_fits (printed_look (look_at m x)) newline after_lowest

      module _ {w : Text} (c : Adds v (printed_look (look_at m x)) w) where
        pub line_end_fits : HasRoom w newline
        line_end_fits = then_fits after_lowest c

        pub row_adds : {y : Text} → Adds w newline y → Adds t (row_printed m x) y
        unfolding row_printed printed_row
        row_adds {y} d =
            then_adds row_room a
            (subst (λ (k : ℕ). Adds u (spaced k ++ (printed_look (look_at m x) ++ newline)) y) e (then_adds after_unknown b (then_adds after_lowest c d)))

-- a part, read from its row
pub part_read : (m : List ℕ) (x n i r : ℕ) → i < n
    → r ≡ get_or (take (row_from x + 3 + symbol_bytes + n - (row_from x + 3 + symbol_bytes)) (drop (row_from x + 3 + symbol_bytes) m)) i 0
    → r ≡ part_at m x i
part_read m x n i r h e =
    e
    ∙ get_or-take (row_from x + 3 + symbol_bytes + n - (row_from x + 3 + symbol_bytes)) (drop (row_from x + 3 + symbol_bytes) m) i 0 (omega arith)
    ∙ get_or-drop (row_from x + 3 + symbol_bytes) m i 0

-- a plate
module _ {t : Text} (m : List ℕ) (x : ℕ) (room : HasRoom t (plate_printed m x)) (s : ℕ) (e : s ≡ symbol_at m x) where
  abbrev pub parts : ℕ → List ℕ
  parts n = each spaced (list_from (part_at m x) n 0)

  plate_room : HasRoom t (spaced s ++ parts (part_count_at m x))
  unfolding plate_printed
  plate_room = rw (e, ← spaced_each (parts_at m x)) room

  pub symbol_fits : HasRoom t (spaced s)
  symbol_fits = first_fits (spaced s) (parts (part_count_at m x)) plate_room

  module _ {u : Text} (a : Adds t (spaced s) u) (n : ℕ) (few : n ≡ part_count_at m x) where
    pub parts_fit : HasRoom u (parts n)
    parts_fit = rw few (then_fits plate_room a)

    pub plate_adds : {v : Text} → Adds u (parts n) v → Adds t (plate_printed m x) v
    unfolding plate_printed
    plate_adds {v} b = rw (← e, spaced_each (parts_at m x)) (then_adds plate_room a (rw (← few) b))

-- the map
abbrev pub items : List ℕ
items = 105 ∷ 116 ∷ 101 ∷ 109 ∷ 115 ∷ []

module _ {t u : Text} (m : List ℕ) (n : ℕ) (room : HasRoom t (map_printed m n)) (a : Adds t items u) where
  after_items : HasRoom u (spaced n ++ (newline ++ rows_printed m n))
  unfolding map_printed
  after_items = then_fits {bs = items} room a

  pub count_fits : HasRoom u (spaced n)
  count_fits = first_fits (spaced n) (newline ++ rows_printed m n) after_items

  module _ {v : Text} (b : Adds u (spaced n) v) where
    after_count : HasRoom v (newline ++ rows_printed m n)
    after_count = then_fits after_items b

    pub count_end_fits : HasRoom v newline
    count_end_fits = first_fits newline (rows_printed m n) after_count

    module _ {w : Text} (c : Adds v newline w) where
      pub rows_fit : HasRoom w (rows_printed m n)
      rows_fit = then_fits {bs = newline} after_count c

      pub map_adds : {x : Text} → Adds w (rows_printed m n) x → Adds t (map_printed m n) x
      unfolding map_printed
      map_adds {x} e = then_adds {bs = items} room a (then_adds after_items b (then_adds {bs = newline} after_count c e))
