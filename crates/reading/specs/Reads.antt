-- What the code's answers mean as the paper's reads.
use Rattle.std.specs.Prelude.{◌≡◌, Result, Ok, Err, MatchResult, IfOk, ⊤, List, [], ℕ, zero, suc, ◌-◌, ◌≤◌, length, take, drop, replicate}
use Rattle.paper.specs.Sizes.{most_cabinets, most_unknowns, most_records, most_parts}
use Rattle.paper.specs.Refusals.{refusal_number, bad_cabinets, bad_unknowns, bad_records, part_not_unknown, no_such_cabinet, no_such_entry}
use Rattle.paper.specs.Numbers.{Read, got, fault}
use Rattle.paper.specs.Tables.{Record}
use Rattle.paper.specs.Runs.{Statement as FileStatement}
use Rattle.paper.specs.Files.{Form, end, ◌>>=◌, number, times, table_form, count_form, File, reading, read_file, Span as FileSpan}
use Rattle.paper.specs.declared.refused.Fault.{Fault}
use Rattle.paper.specs.declared.Found.{Found}
use Rattle.paper.specs.declared.Statement.{Statement}
use Rattle.reading.specs.declared.Sizes.{Sizes}
use Rattle.reading.specs.declared.RecordRead.{RecordRead}
use Rattle.reading.specs.declared.Checked.{Checked}
use Rattle.reading.specs.declared.Span.{Span}

-- what the code read, its value as the paper's
module _ {A B : Type 0} where
  abbrev pub read_as : (A → B) → Result (Found A) Fault → Read B
  read_as g (Ok x) = got (g x.value) x.next
  read_as g (Err e) = fault (refusal_number e.refusal) e.at

module _ {A : Type 0} where
  -- the position after what was read
  abbrev pub next_of : Read A → ℕ
  next_of (got a to) = to
  next_of (fault k p) = 0

  -- a read that was not refused
  abbrev pub WasRead : Read A → Type 0
  WasRead (got a to) = ⊤
  WasRead (fault k p) = ⊥

  -- the values that were read
  abbrev pub list_of : Read (List A) → List A
  list_of (got l to) = l
  list_of (fault k p) = []

  -- so many reads in turn, each from where the one before ended: where the last ended, or the first fault
  unfoldable pub Skipped : (ℕ → Result (Found A) Fault → Type 0) → ℕ → ℕ → Result ℕ Fault → Type 0
  Skipped P zero at r = r ≡ Ok at
  Skipped P (suc n) at r =
      (x : Result (Found A) Fault) × P at x × MatchResult x (λ y. Skipped P n y.next r) (λ e. r ≡ Err e)

-- S, V and R
pub record Heading : Type 0 where
  pub cabinets : ℕ
  pub unknowns : ℕ
  pub count : ℕ

-- "S, V, R", with which a table starts
abbrev pub sizes_form : Form Heading
sizes_form = do
  s ← number 1 (suc most_cabinets) bad_cabinets
  v ← number 0 (suc most_unknowns) bad_unknowns
  r ← number 0 (suc most_records) bad_records
  end (record { cabinets = s; unknowns = v; count = r })

abbrev pub heading : Sizes → Heading
heading x = record { cabinets = x.cabinets; unknowns = x.unknowns; count = x.records }

-- a record's parts, the last that is read of it
abbrev pub parts_form : ℕ → ℕ → ℕ → Form Record
parts_form v symbol count = do
  parts ← times count (number 0 v part_not_unknown)
  end (record { symbol = symbol; parts = parts })

abbrev pub record_of : RecordRead → Record
record_of x = record { symbol = x.symbol; parts = take x.count x.parts }

-- all four part places are told, those beyond the count being 0
pub record AllPlaces (x : RecordRead) : Type 0 where
  pub few : x.count ≤ most_parts
  pub long : length x.parts ≡ most_parts
  pub rest : drop x.count x.parts ≡ replicate (most_parts - x.count) 0

-- a record read by a form
pub record RecordFound (m : Form Record) (f : List ℕ) (at : ℕ) (x : Result (Found RecordRead) Fault) : Type 0 where
  pub read : read_as record_of x ≡ reading m f at
  pub places : IfOk x (λ y. AllPlaces y.value)

-- a statement of a table with s cabinets and n entries: the paper's statement_form, which asks no more of the table
abbrev pub statement_form_of : ℕ → ℕ → Form FileStatement
statement_form_of s n = do
  c ← number 0 s no_such_cabinet
  a ← number 0 n no_such_entry
  b ← number 0 n no_such_entry
  end (record { cabinet = c; left = a; right = b })

abbrev pub statement_of : Statement → FileStatement
statement_of x = record { cabinet = x.cabinet; left = x.left; right = x.right }

-- an accepted file's sizes, and the positions after "S, V, R" and after E; or the refusal
abbrev pub checked_of : List ℕ → Read File → Read Checked
checked_of f (got x to) =
    got
    (record {
      sizes = record { cabinets = x.table.cabinets; unknowns = x.table.unknowns; records = length x.table.records };
      statements = length x.statements;
      table = next_of (reading sizes_form f 0);
      list = next_of (reading (table_form >>= λ t. count_form) f 0);
    })
    to
checked_of f (fault k p) = fault k p

unfoldable pub checked_file : List ℕ → Read Checked
checked_file f = checked_of f (read_file f)

abbrev pub span_of : Span → FileSpan
span_of x = record { start = x.start; size = x.size }
