-- The table that a file states: cabinets, unknowns and records; and which entry is less than which.
use Rattle.std.specs.Prelude.{Bool, ◌&&◌, ◌||◌, List, [], ℕ, ◌+◌, ◌-◌, ◌≤◌, ◌<◌, ltb, leb, eqb, length, get_or}
use Rattle.base.specs.Lists.{All}
use Rattle.paper.specs.Sizes.{most_cabinets, most_unknowns, most_records, most_parts, number_limit}

-- "A record has a symbol .. and 0 to 4 parts, each an unknown."
pub record Record : Type 0 where
  pub symbol : ℕ
  pub parts : List ℕ

-- S, V and the records
pub record Table : Type 0 where
  pub cabinets : ℕ
  pub unknowns : ℕ
  pub records : List Record

-- "entries 0 to V−1 are unknowns and V to V+R−1 are records"
abbrev pub entries : Table → ℕ
entries t = t.unknowns + length t.records

-- asked of entries, and so is `is_record`: a number beyond the entries counts as a record
abbrev pub is_unknown : Table → ℕ → Bool
is_unknown t a = ltb a t.unknowns

abbrev pub is_record : Table → ℕ → Bool
is_record t a = leb t.unknowns a

-- what stands at no place of the records
abbrev pub no_record : Record
no_record = record { symbol = 0; parts = [] }

-- asked of records only
abbrev pub record_at : Table → ℕ → Record
record_at t a = get_or t.records (a - t.unknowns) no_record

-- "An entry is less than an unknown x when it is a record or a smaller-numbered unknown."
abbrev pub less : Table → ℕ → ℕ → Bool
less t u x = is_unknown t x && (is_record t u || ltb u x)

-- same symbol and part count
abbrev pub same_head : Record → Record → Bool
same_head p q = eqb p.symbol q.symbol && eqb (length p.parts) (length q.parts)

-- a record's ranges, with v unknowns
pub record RecordOk (v : ℕ) (q : Record) : Type 0 where
  pub symbol : q.symbol < number_limit
  pub count : length q.parts ≤ most_parts
  pub parts : All (λ p. p < v) q.parts

-- "Cabinets S: 1 to 8. V: 0 to 32. R: 0 to 64."
pub record TableOk (t : Table) : Type 0 where
  pub one : 1 ≤ t.cabinets
  pub cabinets : t.cabinets ≤ most_cabinets
  pub unknowns : t.unknowns ≤ most_unknowns
  pub count : length t.records ≤ most_records
  pub records : All (RecordOk t.unknowns) t.records
