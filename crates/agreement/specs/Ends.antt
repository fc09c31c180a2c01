-- Where the owner marks of a run's bytes end.
use Rattle.std.specs.Prelude.{◌≡◌, List, ℕ, ◌+◌, ◌-◌, ◌<◌, ltb, length, get_or}
use Rattle.base.specs.Choice.{pick}
use Rattle.paper.specs.Sizes.{most_unknowns}
use Rattle.paper.specs.Ends.{End, at_open, at_record, end_of}
use Rattle.layout.specs.Offsets.{unknowns_at, records_at}
use Rattle.layout.specs.Fields.{byte_at, record_of, owner_of, table_of}

-- the paper's ends, of the run that the bytes hold
abbrev pub ends_of : List ℕ → ℕ → End
ends_of d = end_of (table_of d) (owner_of d)

-- an entry as an end: an unknown is open, and any other entry is its record
unfoldable pub end_at : List ℕ → ℕ → End
end_at d a = pick (ltb a (byte_at d unknowns_at)) (at_open a) (at_record (record_of d (a - byte_at d unknowns_at)))

-- the marks from x on end at the entry a
pub record EndsAt (d : List ℕ) (x a : ℕ) : Type 0 where
  pub entry : a < byte_at d unknowns_at + byte_at d records_at
  pub is : ends_of d x ≡ end_at d a

-- the marks from each unknown below n on end at its entry of es
pub record AllEnd (d : List ℕ) (n : ℕ) (es : List ℕ) : Type 0 where
  pub long : length es ≡ most_unknowns
  pub at : (x : ℕ) → x < n → EndsAt d x (get_or es x 0)
