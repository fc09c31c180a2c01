-- The map's 352 bytes, from the paper's rows.
use Rattle.std.specs.Prelude.{List, ◌∷◌, ◌++◌, ℕ, ◌-◌, ◌*◌, length, replicate}
use Rattle.paper.specs.Sizes.{most_parts}
use Rattle.paper.specs.Tables.{Table}
use Rattle.paper.specs.Runs.{Run}
use Rattle.paper.specs.Files.{each}
use Rattle.paper.specs.Maps.{Look, open_look, record_look, Row, map_rows}
use Rattle.layout.specs.Offsets.{symbol_bytes, row_bytes, map_bytes}
use Rattle.layout.specs.Fields.{bytes_of}

-- "0 open or 1 record; symbol in four bytes; part count; for each part its lowest same item. An open row holds 0 after its
-- first byte; part places beyond the count .. hold 0."
abbrev pub look_bytes : Look → List ℕ
look_bytes open_look = replicate (row_bytes - 1) 0
look_bytes (record_look symbol lows) =
    1 ∷ (bytes_of symbol_bytes symbol ++ (length lows ∷ (lows ++ replicate (most_parts - length lows) 0)))

-- "A row has the lowest unknown that is the same item", and the rest
abbrev pub bytes_of_row : Row → List ℕ
bytes_of_row w = w.lowest ∷ look_bytes w.look

-- "The map is 352 bytes: 32 rows of 11"; "rows from V on hold 0"
unfoldable pub map_of : Table → Run → List ℕ
map_of t r = each bytes_of_row (map_rows t r) ++ replicate (map_bytes - row_bytes * t.unknowns) 0
