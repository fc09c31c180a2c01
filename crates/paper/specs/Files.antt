-- The statement file: what is read, in order; reading it with refusal and position; writing it; statement n.
use Rattle.std.specs.Prelude.{List, [], ◌∷◌, ◌++◌, ℕ, zero, suc, ◌-◌, ltb, length, take, drop, replicate}
use Rattle.base.specs.Choice.{pick}
use Rattle.paper.specs.Sizes.{most_cabinets, most_unknowns, most_records, most_statements, most_parts, number_limit, longest_file}
use Rattle.paper.specs.Refusals.{bad_number, bad_cabinets, bad_unknowns, bad_records, too_many_parts, part_not_unknown, too_many_statements, no_such_cabinet, no_such_entry, bytes_left}
use Rattle.paper.specs.Numbers.{Read, got, fault, ranged_at, number_bytes}
use Rattle.paper.specs.Tables.{Record, Table, entries}
use Rattle.paper.specs.Runs.{Statement}

-- a table and statements
pub record File : Type 0 where
  pub table : Table
  pub statements : List Statement

-- What is to be read: nothing more; or a number at least `low` and below `below`, else a refusal, and then what its value
-- leads to.
pub data Form (A : Type 0) : Type 0 where
  end : A → Form A
  next : (low below refusal : ℕ) → (ℕ → Form A) → Form A

-- one form and then another
module _ {A B : Type 0} where
  infixl 20 ◌>>=◌
  abbrev pub ◌>>=◌ : Form A → (A → Form B) → Form B
  ◌>>=◌ (end a) f = f a
  ◌>>=◌ (next low below k g) f = next low below k (λ n. g n >>= f)

-- a number in a range, and nothing more
abbrev pub number : ℕ → ℕ → ℕ → Form ℕ
number low below k = next low below k end

-- a form so many times
module _ {A : Type 0} where
  abbrev pub times : ℕ → Form A → Form (List A)
  times zero f = end []
  times (suc n) f = do
    a ← f
    l ← times n f
    end (a ∷ l)

-- "for each record symbol, part count, parts"
abbrev pub record_form : ℕ → Form Record
record_form v = do
  symbol ← number 0 number_limit bad_number
  count ← number 0 (suc most_parts) too_many_parts
  parts ← times count (number 0 v part_not_unknown)
  end (record { symbol = symbol; parts = parts })

-- "In order: S, V, R; for each record .."
abbrev pub table_form : Form Table
table_form = do
  s ← number 1 (suc most_cabinets) bad_cabinets
  v ← number 0 (suc most_unknowns) bad_unknowns
  r ← number 0 (suc most_records) bad_records
  records ← times r (record_form v)
  end (record { cabinets = s; unknowns = v; records = records })

-- "for each statement cabinet, left, right"
abbrev pub statement_form : Table → Form Statement
statement_form t = do
  c ← number 0 t.cabinets no_such_cabinet
  a ← number 0 (entries t) no_such_entry
  b ← number 0 (entries t) no_such_entry
  end (record { cabinet = c; left = a; right = b })

-- "Statements E: 0 to 64."
abbrev pub count_form : Form ℕ
count_form = number 0 (suc most_statements) too_many_statements

-- "..; E; for each statement .."
unfoldable pub file_form : Form File
file_form = do
  t ← table_form
  e ← count_form
  qs ← times e (statement_form t)
  end (record { table = t; statements = qs })

module _ {A : Type 0} where
  -- what follows a number that was read
  abbrev pub onward : Read ℕ → (ℕ → ℕ → Read A) → Read A
  onward (got n at) f = f n at
  onward (fault k p) f = fault k p

  -- "the first fault in reading order"
  abbrev pub reading : Form A → List ℕ → ℕ → Read A
  reading (end a) s at = got a at
  reading (next low below k g) s at = onward (ranged_at low below k s at) (λ n at'. reading (g n) s at')

  -- 11: "the first byte left over"
  abbrev pub ended : List ℕ → Read A → Read A
  ended s (got a at) = pick (ltb at (length s)) (fault bytes_left at) (got a at)
  ended s (fault k p) = fault k p

-- a file is accepted where this gives it
unfoldable pub read_file : List ℕ → Read File
unfolding file_form ranged_at
read_file s = ended s (reading file_form s 0)

-- writing: each element's bytes in turn
module _ {A : Type 0} where
  abbrev pub each : (A → List ℕ) → List A → List ℕ
  each w [] = []
  each w (a ∷ l) = w a ++ each w l

-- "symbol, part count, parts"
unfoldable pub record_bytes : Record → List ℕ
unfolding number_bytes
record_bytes q = number_bytes q.symbol ++ (number_bytes (length q.parts) ++ each number_bytes q.parts)

-- "cabinet, left, right"
unfoldable pub statement_bytes : Statement → List ℕ
unfolding number_bytes
statement_bytes q = number_bytes q.cabinet ++ (number_bytes q.left ++ number_bytes q.right)

-- "S, V, R; for each record .."
unfoldable pub table_bytes : Table → List ℕ
unfolding record_bytes
table_bytes t =
    number_bytes t.cabinets
    ++ (number_bytes t.unknowns ++ (number_bytes (length t.records) ++ each record_bytes t.records))

-- a file's bytes: the table, E, the statements
unfoldable pub file_bytes : File → List ℕ
unfolding table_bytes statement_bytes
file_bytes f = table_bytes f.table ++ (number_bytes (length f.statements) ++ each statement_bytes f.statements)

-- The writer "needs exactly 836 bytes: the file, then zeros".
unfoldable pub padded_file : File → List ℕ
unfolding file_bytes
padded_file f = file_bytes f ++ replicate (longest_file - length (file_bytes f)) 0

-- a part of the file: where it starts, and its length
pub record Span : Type 0 where
  pub start : ℕ
  pub size : ℕ

-- an empty part
abbrev pub empty_span : Span
empty_span = record { start = 0; size = 0 }

-- all that stands before statement n
abbrev pub before_statement : ℕ → Form Table
before_statement n = do
  t ← table_form
  e ← count_form
  qs ← times n (statement_form t)
  end t

-- the part from where a statement starts to where it ends
abbrev pub span_from : ℕ → Read Statement → Span
span_from at (got q to) = record { start = at; size = to - at }
span_from at (fault k p) = empty_span

-- the statement that stands after a table and the statements before it
abbrev pub span_at : List ℕ → Read Table → Span
span_at s (got t at) = span_from at (reading (statement_form t) s at)
span_at s (fault k p) = empty_span

-- statement n of a file, by what reading the file gives
abbrev pub span_in : List ℕ → ℕ → Read File → Span
span_in s n (got f at) = pick (ltb n (length f.statements)) (span_at s (reading (before_statement n) s 0)) empty_span
span_in s n (fault k p) = empty_span

-- "the answer is that statement's own bytes, a part of the lent file, and an empty part exactly when the file is refused
-- or n is not below E"
unfoldable pub statement_span : List ℕ → ℕ → Span
unfolding read_file
statement_span s n = span_in s n (read_file s)

-- the bytes of that part
unfoldable pub statement_part : List ℕ → ℕ → List ℕ
unfolding statement_span
statement_part s n = take (statement_span s n).size (drop (statement_span s n).start s)
