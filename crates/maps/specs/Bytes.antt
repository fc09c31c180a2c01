-- What a map call replies and leaves.
use Rattle.std.specs.Prelude.{◌&&◌, List, ℕ, eqb, length, Result, Ok, Err}
use Rattle.base.specs.Choice.{pick}
use Rattle.paper.specs.Refusals.{refusal_number, wrong_length, has_clashed, items_pending, not_sound}
use Rattle.paper.specs.declared.refused.Refusal.{Refusal}
use Rattle.layout.specs.Offsets.{clash_at, run_bytes, map_bytes}
use Rattle.layout.specs.Fields.{byte_at, count_of, table_of, run_of}
use Rattle.layout.specs.Soundness.{sound_bytes}
use Rattle.layout.specs.MapRows.{map_of}

-- number (0 for done, else the refusal) and the map's bytes
pub data Mapped : Type 0 where
  mapped : ℕ → List ℕ → Mapped

-- what a caller is told by the answer, beside the bytes m
abbrev pub told : Result (Unit {0}) Refusal → List ℕ → Mapped
told (Ok _) m = mapped 0 m
told (Err e) m = mapped (refusal_number e) m

-- after 12 and 17: "15, 16"
unfoldable pub drawn_map : List ℕ → List ℕ → Mapped
drawn_map d m =
    pick (eqb (byte_at d clash_at) 0)
    (pick (eqb (count_of d) 0) (mapped 0 (map_of (table_of d) (run_of d))) (mapped items_pending m))
    (mapped has_clashed m)

-- "Map: 12, 17, 15, 16."
unfoldable pub map_bytes_of : List ℕ → List ℕ → Mapped
map_bytes_of d m =
    pick (eqb (length d) run_bytes && eqb (length m) map_bytes)
    (pick (sound_bytes d) (drawn_map d m) (mapped not_sound m))
    (mapped wrong_length m)
