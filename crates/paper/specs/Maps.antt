-- The map's rows: from the statements alone, and computed from a run.
use Rattle.std.specs.Prelude.{◌≡◌, true, List, [], ◌∷◌, map, ℕ, zero, suc, ◌<◌}
use Rattle.base.specs.Choice.{first_of}
use Rattle.base.specs.Lists.{AllZip}
use Rattle.paper.specs.Tables.{Table, is_record, record_at}
use Rattle.paper.specs.Runs.{Statement, Run}
use Rattle.paper.specs.Alike.{Alike, SameItem}
use Rattle.paper.specs.Ends.{End, at_open, at_record, end_of, agree}

-- "0 open or 1 record; symbol ..; part count; for each part its lowest same item"
pub data Look : Type 0 where
  open_look : Look
  record_look : ℕ → List ℕ → Look

-- "A row has the lowest unknown that is the same item", and the rest
pub record Row : Type 0 where
  pub lowest : ℕ
  pub look : Look

-- from the statements: m is the lowest unknown that is the same item as x. No bound is asked: x is its own same item, so m is
-- an unknown.
pub record IsLowest (t : Table) (qs : List Statement) (x m : ℕ) : Type 0 where
  pub same : SameItem t qs x m
  pub least : (y : ℕ) → y < m → SameItem t qs x y → ⊥

-- a record alike to x: "symbol in four bytes; part count; for each part its lowest same item"
pub record IsRecordLook (t : Table) (qs : List Statement) (x symbol : ℕ) (lows : List ℕ) : Type 0 where
  pub one : ℕ
  pub one_record : is_record t one ≡ true
  pub alike : Alike t qs x one
  pub symbols : (record_at t one).symbol ≡ symbol
  pub parts : AllZip (IsLowest t qs) (record_at t one).parts lows

-- the look of x: open where no record is alike to it
abbrev pub IsLook : Table → List Statement → ℕ → Look → Type 0
IsLook t qs x open_look = (a : ℕ) → is_record t a ≡ true → Alike t qs x a → ⊥
IsLook t qs x (record_look s ms) = IsRecordLook t qs x s ms

-- the row of x
pub record IsRow (t : Table) (qs : List Statement) (x : ℕ) (w : Row) : Type 0 where
  pub lowest : IsLowest t qs x w.lowest
  pub look : IsLook t qs x w.look

-- from a run
unfoldable pub lowest_of : (ℕ → End) → ℕ → ℕ → ℕ
lowest_of e v x = first_of (λ y. agree e v x y) x 0

-- the look of an end
abbrev pub look_of : (ℕ → End) → ℕ → End → Look
look_of e v (at_open z) = open_look
look_of e v (at_record q) = record_look q.symbol (map (lowest_of e v) q.parts)

-- the row of x over ends, at depth v
unfoldable pub row_of : (ℕ → End) → ℕ → ℕ → Row
unfolding lowest_of
row_of e v x = record { lowest = lowest_of e v x; look = look_of e v (e x) }

-- the row of x in a run's map
unfoldable pub map_row : Table → Run → ℕ → Row
unfolding end_of row_of
map_row t r x = row_of (end_of t r.state.owner) t.unknowns x

-- k rows from x on; the map's rows
abbrev pub rows_from : Table → Run → ℕ → ℕ → List Row
rows_from t r zero x = []
rows_from t r (suc k) x = map_row t r x ∷ rows_from t r k (suc x)

unfoldable pub map_rows : Table → Run → List Row
unfolding map_row
map_rows t r = rows_from t r t.unknowns 0
