-- The stages of reading a file: the sizes, the records, E, the statements. A stage's fault is the file's, and a file that is
-- read went through all of them.
use Prim.Native.Nat.{ℕ, suc, ◌+◌}
use mathlib.Core.Path.{◌≡◌, refl, sym, ap, ◌∙◌}
use mathlib.Core.List.{List}
use lib.ListN.{length}
use Rattle.paper.specs.Sizes.{most_statements}
use Rattle.paper.specs.Refusals.{too_many_statements}
use Rattle.paper.specs.Numbers.{Read, got, fault, ranged_at}
use Rattle.paper.specs.Tables.{Record, Table, entries}
use Rattle.paper.specs.Runs.{Statement}
use Rattle.paper.specs.Files.{Form, end, ◌>>=◌, times, record_form, table_form, statement_form, count_form, file_form, File, reading}
use Rattle.reading.specs.Reads.{Heading, sizes_form, statement_form_of}
use Rattle.reading.proofs.Onward.{bind_on, bind_fault, bind_got, number_got}
use Rattle.reading.proofs.Times.{times_count}

-- a table's statements, by its cabinets and its entries
pub statement_form_of_lem : (t : Table) → statement_form t ≡ statement_form_of t.cabinets (entries t)
statement_form_of_lem t = refl

-- the records after those sizes, and a statement after them
abbrev pub records_after : Heading → Form (List Record)
records_after h = times h.count (record_form h.unknowns)

abbrev pub statement_after : Heading → Form Statement
statement_after h = statement_form_of h.cabinets (h.unknowns + h.count)

-- E, at a position
abbrev pub count_at : List ℕ → ℕ → Read ℕ
count_at f at = ranged_at 0 (suc most_statements) too_many_statements f at

-- a table of those sizes and records, and a file of that table and statements
abbrev pub table_of : Heading → List Record → Table
table_of h l = record { cabinets = h.cabinets; unknowns = h.unknowns; records = l }

abbrev pub file_of : Table → List Statement → File
file_of t q = record { table = t; statements = q }

-- what follows the sizes in a table, the table in a file, and E in a file
abbrev table_after : Heading → Form Table
table_after h = records_after h >>= λ l. end (table_of h l)

abbrev list_after : Table → ℕ → Form File
list_after t e = times e (statement_form t) >>= λ q. end (file_of t q)

abbrev file_after : Table → Form File
file_after t = count_form >>= list_after t

module _ (f : List ℕ) where
  pub sizes_fault : (k p : ℕ) → reading sizes_form f 0 ≡ fault k p → reading file_form f 0 ≡ fault k p
  unfolding file_form
  sizes_fault k p d = bind_fault table_form file_after f 0 k p (bind_fault sizes_form table_after f 0 k p d)

  module _ (h : Heading) (t1 : ℕ) (d1 : reading sizes_form f 0 ≡ got h t1) where
    pub records_fault : (k p : ℕ) → reading (records_after h) f t1 ≡ fault k p → reading file_form f 0 ≡ fault k p
    unfolding file_form
    records_fault k p d =
        bind_fault table_form file_after f 0 k p
        (bind_on sizes_form table_after f 0 h t1 d1 ∙ bind_fault (records_after h) (λ l. end (table_of h l)) f t1 k p d)

    module _ (l : List Record) (t2 : ℕ) (d2 : reading (records_after h) f t1 ≡ got l t2) where
      pub table_got : reading table_form f 0 ≡ got (table_of h l) t2
      table_got = bind_on sizes_form table_after f 0 h t1 d1 ∙ bind_on (records_after h) (λ k. end (table_of h k)) f t1 l t2 d2

      -- as many records as R says, so that a statement's sides are below V + R
      pub as_many : length l ≡ h.count
      as_many = times_count (record_form h.unknowns) f h.count t1 l t2 d2

      pub statement_form_lem : statement_form (table_of h l) ≡ statement_after h
      statement_form_lem = statement_form_of_lem (table_of h l) ∙ rw as_many refl

      table_then : reading file_form f 0 ≡ reading (file_after (table_of h l)) f t2
      unfolding file_form
      table_then = bind_on table_form file_after f 0 (table_of h l) t2 table_got

      pub count_fault : (k p : ℕ) → count_at f t2 ≡ fault k p → reading file_form f 0 ≡ fault k p
      count_fault k p d = table_then ∙ rw d refl

      module _ (e t3 : ℕ) (d3 : count_at f t2 ≡ got e t3) where
        pub count_got : reading (table_form >>= λ t. count_form) f 0 ≡ got e t3
        count_got = bind_on table_form (λ t. count_form) f 0 (table_of h l) t2 table_got ∙ rw d3 refl

        count_then : reading file_form f 0 ≡ reading (list_after (table_of h l) e) f t3
        count_then = table_then ∙ rw d3 refl

        pub statements_fault : (k p : ℕ) → reading (times e (statement_after h)) f t3 ≡ fault k p → reading file_form f 0 ≡ fault k p
        statements_fault k p d =
            count_then
            ∙ bind_fault (times e (statement_form (table_of h l))) (λ q. end (file_of (table_of h l) q)) f t3 k p (rw (← statement_form_lem) at d)

        pub file_got : (q : List Statement) (t4 : ℕ) → reading (times e (statement_after h)) f t3 ≡ got q t4
            → reading file_form f 0 ≡ got (file_of (table_of h l) q) t4
        file_got q t4 d =
            count_then
            ∙ bind_on (times e (statement_form (table_of h l))) (λ k. end (file_of (table_of h l) k)) f t3 q t4 (rw (← statement_form_lem) at d)

-- all stages, and where each ended
pub record Stages (f : List ℕ) : Type 0 where
  pub heading : Heading
  pub table : ℕ
  pub sizes_read_lem : reading sizes_form f 0 ≡ got heading table
  pub records : List Record
  pub between : ℕ
  pub records_read : reading (records_after heading) f table ≡ got records between
  pub count : ℕ
  pub list : ℕ
  pub count_read : count_at f between ≡ got count list
  pub statements : List Statement
  pub last : ℕ
  pub statements_read : reading (times count (statement_after heading)) f list ≡ got statements last

module _ {f : List ℕ} (w : Stages f) where
  -- the file that they make
  abbrev pub staged_file : File
  staged_file = file_of (table_of w.heading w.records) w.statements

  pub stages_read : reading file_form f 0 ≡ got staged_file w.last
  stages_read =
      file_got f w.heading w.table w.sizes_read_lem w.records w.between w.records_read w.count w.list w.count_read
      w.statements w.last w.statements_read

  pub stages_table : reading table_form f 0 ≡ got staged_file.table w.between
  stages_table = table_got f w.heading w.table w.sizes_read_lem w.records w.between w.records_read

  pub stages_form : statement_form staged_file.table ≡ statement_after w.heading
  stages_form = statement_form_lem f w.heading w.table w.sizes_read_lem w.records w.between w.records_read

  pub stages_list : reading (table_form >>= λ t. count_form) f 0 ≡ got w.count w.list
  stages_list =
      count_got f w.heading w.table w.sizes_read_lem w.records w.between w.records_read w.count w.list w.count_read

  pub stages_records : length w.records ≡ w.heading.count
  stages_records = as_many f w.heading w.table w.sizes_read_lem w.records w.between w.records_read

  pub stages_statements : length w.statements ≡ w.count
  stages_statements = times_count (statement_after w.heading) f w.count w.list w.statements w.last w.statements_read

-- a file that is read went through them
module _ (f : List ℕ) where
  -- the stages of a table
  record TableStages (t : Table) (to : ℕ) : Type 0 where
    pub heading : Heading
    pub table : ℕ
    pub sizes_read_lem : reading sizes_form f 0 ≡ got heading table
    pub records : List Record
    pub records_read : reading (records_after heading) f table ≡ got records to
    pub is : t ≡ table_of heading records

  table_stages : (t : Table) (to : ℕ) → reading table_form f 0 ≡ got t to → TableStages t to
  table_stages t to e =
      let x = bind_got sizes_form table_after f 0 t to e in
      let y = bind_got (records_after x.value) (λ l. end (table_of x.value l)) f x.between t to x.second in
      let o : y.between ≡ to = cc y.second in
      record {
        heading = x.value;
        table = x.between;
        sizes_read_lem = x.first;
        records = y.value;
        records_read = y.first ∙ ap (got y.value) o;
        is = cc y.second;
      }

  -- and of what follows it
  record ListStages (t : Table) (from to : ℕ) : Type 0 where
    pub count : ℕ
    pub list : ℕ
    pub count_read : count_at f from ≡ got count list
    pub statements : List Statement
    pub statements_read : reading (times count (statement_form t)) f list ≡ got statements to

  list_stages : (t : Table) (from : ℕ) (x : File) (to : ℕ) → reading (file_after t) f from ≡ got x to → ListStages t from to
  list_stages t from x to e =
      let y = number_got f 0 (suc most_statements) too_many_statements (list_after t) from x to e in
      let z = bind_got (times y.value (statement_form t)) (λ q. end (file_of t q)) f y.between x to y.second in
      let o : z.between ≡ to = cc z.second in
      record {
        count = y.value;
        list = y.between;
        count_read = y.first;
        statements = z.value;
        statements_read = z.first ∙ ap (got z.value) o;
      }

  pub went_through : (x : File) (to : ℕ) → reading file_form f 0 ≡ got x to → (w : Stages f) × (w.last ≡ to)
  unfolding file_form
  went_through x to e =
      let p = bind_got table_form file_after f 0 x to e in
      let a = table_stages p.value p.between p.first in
      let b = list_stages p.value p.between x to p.second in
      let s : statement_form p.value ≡ statement_after a.heading =
      ap statement_form a.is ∙ statement_form_lem f a.heading a.table a.sizes_read_lem a.records p.between a.records_read in (
        record {
          heading = a.heading;
          table = a.table;
          sizes_read_lem = a.sizes_read_lem;
          records = a.records;
          between = p.between;
          records_read = a.records_read;
          count = b.count;
          list = b.list;
          count_read = b.count_read;
          statements = b.statements;
          last = to;
          statements_read = ap (λ (m : Form Statement). reading (times b.count m) f b.list) (sym s) ∙ b.statements_read;
        },
        refl,
      )
