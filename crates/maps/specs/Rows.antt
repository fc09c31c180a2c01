-- The map's bytes as they are while its rows are drawn.
use Rattle.std.specs.Prelude.{◌≡◌, List, ◌∷◌, ◌++◌, map, ℕ, ◌-◌, ◌*◌, length, replicate}
use Rattle.base.specs.Lists.{list_from}
use Rattle.base.specs.Regions.{put}
use Rattle.paper.specs.Sizes.{most_unknowns}
use Rattle.paper.specs.Files.{each}
use Rattle.paper.specs.Maps.{lowest_of, rows_from}
use Rattle.layout.specs.Offsets.{symbol_bytes, row_bytes, map_bytes}
use Rattle.layout.specs.Fields.{bytes_of, symbol_of, part_count_of, record_of, table_of, run_of}
use Rattle.layout.specs.MapRows.{bytes_of_row}
use Rattle.agreement.specs.Ends.{ends_of}

-- the lowest same item of each unknown, and 0 from v on
unfoldable pub lowest_items : List ℕ → ℕ → List ℕ
lowest_items d v = put 0 (list_from (lowest_of (ends_of d) v) v 0) (replicate most_unknowns 0)

-- the lowest same item of each part of record i
unfoldable pub lows_of : List ℕ → ℕ → ℕ → List ℕ
lows_of d v i = map (lowest_of (ends_of d) v) (record_of d i).parts

-- the row of record i after its first byte, up to its last part
unfoldable pub record_look_of : List ℕ → ℕ → ℕ → List ℕ
unfolding lows_of
record_look_of d v i = 1 ∷ (bytes_of symbol_bytes (symbol_of d i) ++ (part_count_of d i ∷ lows_of d v i))

-- the first x rows
unfoldable pub rows_of : List ℕ → ℕ → List ℕ
rows_of d x = each bytes_of_row (rows_from (table_of d) (run_of d) x 0)

-- bytes, and 0 after them to the map's end
unfoldable pub laid : List ℕ → List ℕ
laid bs = bs ++ replicate (map_bytes - length bs) 0

-- x rows are drawn, and all else is 0
pub record Drawn (d : List ℕ) (x : ℕ) (m : List ℕ) : Type 0 where
  pub long : length m ≡ map_bytes
  pub rows : length (rows_of d x) ≡ row_bytes * x
  pub is : m ≡ laid (rows_of d x)
