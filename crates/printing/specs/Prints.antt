-- The map's rows read back from its 352 bytes, what is printed of them, and the most bytes that this is.
use Rattle.std.specs.Prelude.{List, ◌∷◌, ◌++◌, ℕ, ◌+◌, ◌*◌, eqb, leb}
use Rattle.base.specs.Choice.{pick}
use Rattle.base.specs.Lists.{list_from}
use Rattle.paper.specs.Sizes.{most_unknowns, most_parts}
use Rattle.paper.specs.Files.{each}
use Rattle.paper.specs.Maps.{Look, open_look, record_look, Row}
use Rattle.paper.specs.Programs.{newline, spaced, spaced_all, printed_row}
use Rattle.layout.specs.Offsets.{symbol_bytes, row_bytes}
use Rattle.layout.specs.Fields.{byte_at}

-- "32 rows of 11": where a row starts
abbrev pub row_from : ℕ → ℕ
row_from x = row_bytes * x

-- "A row has the lowest unknown that is the same item"
abbrev pub lowest_at : List ℕ → ℕ → ℕ
lowest_at m x = byte_at m (row_from x)

-- "0 open or 1 record"
abbrev pub kind_at : List ℕ → ℕ → ℕ
kind_at m x = byte_at m (row_from x + 1)

-- "symbol in four bytes", low first
unfoldable pub symbol_at : List ℕ → ℕ → ℕ
symbol_at m x =
    byte_at m (row_from x + 2) + 256 * byte_at m (row_from x + 3)
    + 65536 * (byte_at m (row_from x + 4) + 256 * byte_at m (row_from x + 5))

-- "part count": a row has room for four, so that a greater byte, which no map has, counts as four
unfoldable pub part_count_at : List ℕ → ℕ → ℕ
part_count_at m x =
    pick (leb (byte_at m (row_from x + 2 + symbol_bytes)) most_parts) (byte_at m (row_from x + 2 + symbol_bytes)) most_parts

-- "for each part its lowest same item"
abbrev pub part_at : List ℕ → ℕ → ℕ → ℕ
part_at m x k = byte_at m (row_from x + 3 + symbol_bytes + k)

abbrev pub parts_at : List ℕ → ℕ → List ℕ
parts_at m x = list_from (part_at m x) (part_count_at m x) 0

-- the row of x
unfoldable pub look_at : List ℕ → ℕ → Look
look_at m x = pick (eqb (kind_at m x) 0) open_look (record_look (symbol_at m x) (parts_at m x))

abbrev pub row_at : List ℕ → ℕ → Row
row_at m x = record { lowest = lowest_at m x; look = look_at m x }

-- a record's symbol and parts, each after a space
unfoldable pub plate_printed : List ℕ → ℕ → List ℕ
plate_printed m x = spaced (symbol_at m x) ++ spaced_all (parts_at m x)

-- its line
unfoldable pub row_printed : List ℕ → ℕ → List ℕ
row_printed m x = printed_row x (row_at m x)

-- the lines of the first v unknowns
abbrev pub rows_printed : List ℕ → ℕ → List ℕ
rows_printed m v = each (row_printed m) (list_from (λ x. x) v 0)

-- "`items V`", and the lines
unfoldable pub map_printed : List ℕ → ℕ → List ℕ
map_printed m v = 105 ∷ 116 ∷ 101 ∷ 109 ∷ 115 ∷ (spaced v ++ (newline ++ rows_printed m v))

-- a line: the unknown's number and its lowest same item in at most three digits each, " plate", the symbol in at most ten, each
-- part in at most three, the spaces and the newline
abbrev pub most_line : ℕ
most_line = 3 + 4 + 6 + 11 + most_parts * 4 + 1

-- "items", V and the newline; the lines. What a refusal or a clash prints is shorter.
abbrev pub most_printed : ℕ
most_printed = 5 + 4 + 1 + most_unknowns * most_line
