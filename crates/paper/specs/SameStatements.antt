-- Demand 3's two files, "the same numbered items and records, and the same set of statements once cabinet, order, repeats
-- and left or right are forgotten", and how their runs end.
use Rattle.std.specs.Prelude.{◌≡◌, ◌⊎◌, ◌↔◌, List, ℕ}
use Rattle.paper.specs.Tables.{Table}
use Rattle.paper.specs.Runs.{Statement, Run}
use Rattle.paper.specs.Reached.{Clashed, Finished}
use Rattle.paper.specs.Alike.{Stated, Clash}
use Rattle.paper.specs.Maps.{map_rows}

-- "the same numbered items and records": the cabinets are free
abbrev pub SameItems : Table → Table → Type 0
SameItems t t' = (t.unknowns ≡ t'.unknowns) × (t.records ≡ t'.records)

-- a = b or b = a is a statement, of whatever cabinet, at whatever place, however often
abbrev pub Said : List Statement → ℕ → ℕ → Type 0
Said qs a b = Stated qs a b ⊎ Stated qs b a

-- "the same set of statements once cabinet, order, repeats and left or right are forgotten"
abbrev pub SameSet : List Statement → List Statement → Type 0
SameSet qs qs' = (a b : ℕ) → Said qs a b ↔ Said qs' a b

-- how the two runs end: one result
pub data OneResult (t t' : Table) (qs : List Statement) (r r' : Run) : Type 0 where
  -- "Both clash, exactly when the statements cannot all hold,"
  both_clash : Clashed r → Clashed r' → Clash t qs → OneResult t t' qs r r'
  -- "or both give the same map"
  same_map : Finished r → Finished r' → (Clash t qs → ⊥) → map_rows t r ≡ map_rows t' r' → OneResult t t' qs r r'
