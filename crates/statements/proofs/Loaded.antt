-- What loading leaves views as the paper's initial run of the file's table and statements, and is sound.
use mathlib.Core.Path.{◌≡◌, refl, sym, subst, ap, ap₂, ◌∙◌}
use mathlib.Core.Logic.{◌⊎◌, inl, inr, ◌≢◌}
use mathlib.Core.Bool.{true}
use mathlib.Core.List.{List, [], ◌∷◌, ◌++◌, map}
use Prim.Native.Nat.{ℕ, zero, suc, ◌+◌, ◌-◌, ◌*◌, ◌/◌, ◌^◌, ◌≤◌, ◌<◌}
use native.Mathlib.Nat.{pow-suc, zero-add}
use Rattle.std.proofs.Common.{arith}
use Rattle.std.proofs.lemmas.Grind.{common_steps}
use lib.ListN.{length, get_or, replicate, length-replicate, length-append, length-map, get_or-append}
use lib.Seq.{ext_get_or}
use Rattle.base.specs.Lists.{list_from, All}
use Rattle.base.specs.Regions.{get}
use Rattle.base.proofs.Froms.{from_same}
use Rattle.base.proofs.Regions.{length_put, put_before, put_in, put_after, get_at, length_get, get_same, lt_or_le}
use Rattle.paper.specs.Sizes.{most_records, most_parts, room, number_limit}
use Rattle.paper.specs.Tables.{Record, Table, RecordOk}
use Rattle.paper.specs.Runs.{Run, as_item, initial, Sound}
use Rattle.paper.specs.Files.{File}
use Rattle.paper.specs.Reached.{FileOk}
use Rattle.paper.proofs.Soundness.{loaded_sound}
use Rattle.layout.specs.Offsets.{symbol_bytes, record_bytes, clash_at, clash_cabinet_at, cabinets_at, records_at, count_at, table_at, owners_at, memos_at, run_bytes, record_from, memo_from}
use Rattle.layout.specs.Fields.{byte_at, value_of, bytes_of, count_of, symbol_of, part_count_of, part_of, parts_from, record_of, records_from, items_from, table_of, state_of, run_of}
use Rattle.layout.specs.Soundness.{sound_bytes}
use Rattle.layout.specs.Changes.{cleared, with_sizes, with_record, with_records}
use Rattle.layout.proofs.Frames.{Same, Shaped}
use Rattle.layout.proofs.Views.{pending_now, appended_all_lem}
use Rattle.layout.proofs.Canonical.{Canonical}
use Rattle.layout.proofs.CanonicalKept.{appended_all_canonical}
use Rattle.layout.proofs.SoundViews.{bytes_sound}
use Rattle.statements.specs.Loads.{loaded_bytes}
use Rattle.statements.proofs.Bare.{bare_state}

-- the cleared buffer: 0 but for the marks
pub length_cleared : length cleared ≡ run_bytes
unfolding cleared
length_cleared = omega (arith, length-append {A = ℕ}, length-replicate {A = ℕ})

-- the steps of `grind` at lengths that are no numerals
module _ (a b c i : ℕ) where
  abbrev regions : List ℕ
  regions = replicate a 0 ++ (replicate b 255 ++ replicate c 0)

  in_first : i < a → get_or regions i 0 ≡ 0
  in_first h = grind (arith, common_steps)

  in_second : a ≤ i → i < a + b → get_or regions i 0 ≡ 255
  in_second h k = grind (arith, common_steps)

  in_third : a + b ≤ i → get_or regions i 0 ≡ 0
  in_third h = grind (arith, common_steps)

pub cleared_low : (i : ℕ) → i < owners_at → byte_at cleared i ≡ 0
unfolding cleared
cleared_low i h = in_first owners_at (memos_at - owners_at) (run_bytes - memos_at) i h

pub cleared_marks : (i : ℕ) → owners_at ≤ i → i < memos_at → byte_at cleared i ≡ 255
unfolding cleared
cleared_marks i h k = in_second owners_at (memos_at - owners_at) (run_bytes - memos_at) i h k

pub cleared_rest : (i : ℕ) → memos_at ≤ i → byte_at cleared i ≡ 0
unfolding cleared
cleared_rest i h = in_third owners_at (memos_at - owners_at) (run_bytes - memos_at) i h

-- bytes written low first are worth the value
pub value_of_bytes : (k n : ℕ) → n < 256 ^ k → value_of (bytes_of k n) ≡ n
value_of_bytes zero n h = omega arith
value_of_bytes (suc k) n h =
    let h' : n < 256 ^ k * 256 = rw pow-suc at h in
    omega (arith, value_of_bytes k (n / 256) (omega arith))

pub bytes_length : (k n : ℕ) → length (bytes_of k n) ≡ k
bytes_length zero n = refl
bytes_length (suc k) n = ap suc (bytes_length k (n / 256))

-- a list is what a function gives at its places
list_of : (f : ℕ → ℕ) (l : List ℕ) (i : ℕ) → ((k : ℕ) → k < length l → f (i + k) ≡ get_or l k 0) → list_from f (length l) i ≡ l
list_of f [] i h = refl
list_of f (x ∷ l) i h =
    let e = h 0 in
    let t = list_of f l (suc i) (λ k a. let u = h (suc k) in grind arith) in
    grind arith

-- a record written: its own bytes, and all else as it was
module _ (i : ℕ) (q : Record) (d : List ℕ) (long : length d ≡ run_bytes) (hi : i < most_records) (few : length q.parts ≤ most_parts) where
  unfoldable pub row : List ℕ
  row = bytes_of symbol_bytes q.symbol ++ (length q.parts ∷ q.parts)

  pub row_length : length row ≡ symbol_bytes + 1 + length q.parts
  unfolding row
  row_length = length-append (bytes_of symbol_bytes q.symbol) (length q.parts ∷ q.parts) ∙ omega (arith, bytes_length symbol_bytes q.symbol)

  in_symbol : (k : ℕ) → k < symbol_bytes → get_or row k 0 ≡ get_or (bytes_of symbol_bytes q.symbol) k 0
  unfolding row
  in_symbol k h = get_or-append (bytes_of symbol_bytes q.symbol) (length q.parts ∷ q.parts) 0 k (omega (arith, bytes_length symbol_bytes q.symbol))

  in_count : get_or row symbol_bytes 0 ≡ length q.parts
  unfolding row
  in_count = refl

  in_parts : (k : ℕ) → get_or row (symbol_bytes + 1 + k) 0 ≡ get_or q.parts k 0
  unfolding row
  in_parts k = let n = bytes_length symbol_bytes q.symbol in grind (arith, common_steps)

  pub fits : record_from i + length row ≤ length d
  fits = omega (arith, row_length, long)

  pub written_long : length (with_record i q d) ≡ length d
  unfolding with_record row
  written_long = length_put (record_from i) row d fits

  written_before : (j : ℕ) → j < record_from i → byte_at (with_record i q d) j ≡ byte_at d j
  unfolding with_record row
  written_before j h = put_before (record_from i) row d fits j h

  written_after : (j : ℕ) → record_from i + symbol_bytes + 1 + length q.parts ≤ j → byte_at (with_record i q d) j ≡ byte_at d j
  unfolding with_record row
  written_after j h = put_after (record_from i) row d fits j (omega (arith, row_length))

  written_in : (k : ℕ) → k < symbol_bytes + 1 + length q.parts → byte_at (with_record i q d) (record_from i + k) ≡ get_or row k 0
  unfolding with_record row
  written_in k h = put_in (record_from i) row d fits k (omega (arith, row_length))

  written_symbol : q.symbol < number_limit → symbol_of (with_record i q d) i ≡ q.symbol
  unfolding symbol_of
  written_symbol h = ap value_of same ∙ value_of_bytes symbol_bytes q.symbol h
    where
      room_here : record_from i + symbol_bytes ≤ length (with_record i q d)
      room_here = omega (arith, written_long, long)

      same : get (record_from i) symbol_bytes (with_record i q d) ≡ bytes_of symbol_bytes q.symbol
      same =
          ext_get_or 0 (get (record_from i) symbol_bytes (with_record i q d)) (bytes_of symbol_bytes q.symbol) (length_get (record_from i) symbol_bytes (with_record i q d) room_here)
          (λ k l.
          let l' : k < symbol_bytes = omega (arith, length_get (record_from i) symbol_bytes (with_record i q d) room_here) in
          get_at (record_from i) symbol_bytes (with_record i q d) room_here k l' ∙ written_in k (omega arith) ∙ in_symbol k l')

  written_count : part_count_of (with_record i q d) i ≡ length q.parts
  written_count = written_in symbol_bytes (omega arith) ∙ in_count

  written_part : (k : ℕ) → k < length q.parts → part_of (with_record i q d) i k ≡ get_or q.parts k 0
  written_part k h =
      let w = written_in (symbol_bytes + 1 + k) in
      let p = in_parts k in
      grind arith

  -- the record read back is the record written
  written_record : q.symbol < number_limit → record_of (with_record i q d) i ≡ q
  unfolding record_of
  written_record h = λ j. record { symbol = written_symbol h j; parts = parts j }
    where
      parts : parts_from (with_record i q d) i (part_count_of (with_record i q d) i) 0 ≡ q.parts
      parts = rw written_count (list_of (part_of (with_record i q d) i) q.parts 0 (λ k l. ap (part_of (with_record i q d) i) (zero-add k) ∙ written_part k l))

  -- another record stays
  written_other : (k : ℕ) → k < most_records → k ≢ i → part_count_of d k ≤ most_parts → record_of (with_record i q d) k ≡ record_of d k
  unfolding record_of symbol_of
  written_other k hk ne c = λ j. record { symbol = ap value_of symbols j; parts = parts j }
    where
      outside : (m : ℕ) → m < record_bytes → byte_at (with_record i q d) (record_from k + m) ≡ byte_at d (record_from k + m)
      outside m h = let b = written_before (record_from k + m) in let a = written_after (record_from k + m) in grind arith

      symbols : get (record_from k) symbol_bytes (with_record i q d) ≡ get (record_from k) symbol_bytes d
      symbols =
          get_same (record_from k) symbol_bytes d (with_record i q d) (omega (arith, long)) (omega (arith, written_long, long))
          (λ m a b. let o = outside (m - record_from k) in grind arith)

      count : part_count_of (with_record i q d) k ≡ part_count_of d k
      count = outside symbol_bytes (omega arith)

      parts : parts_from (with_record i q d) k (part_count_of (with_record i q d) k) 0 ≡ parts_from d k (part_count_of d k) 0
      parts =
          rw count
          (from_same (part_of d k) (part_of (with_record i q d) k) (part_count_of d k) 0
          (λ m a b. let o = outside (symbol_bytes + 1 + m) in grind arith))

-- what stands in the table while records are written: those before i, and 0 from there on
pub record Filling (i : ℕ) (d : List ℕ) : Type 0 where
  pub long : length d ≡ run_bytes
  pub few : (k : ℕ) → k < i → part_count_of d k ≤ most_parts
  pub tail : (k m : ℕ) → k < i → part_count_of d k ≤ m → m < most_parts → part_of d k m ≡ 0
  pub free : (j : ℕ) → record_from i ≤ j → j < owners_at → byte_at d j ≡ 0

-- bytes outside the table
abbrev Beside : List ℕ → List ℕ → Type 0
Beside d d' = Same 0 table_at d d' × Same owners_at run_bytes d d'

pub record Filled (i : ℕ) (qs : List Record) (d d' : List ℕ) : Type 0 where
  pub filling : Filling (i + length qs) d'
  pub beside : Beside d d'
  pub old : (k : ℕ) → k < i → record_of d' k ≡ record_of d k
  pub new : records_from d' (length qs) i ≡ qs

pub one_filled : (i : ℕ) (q : Record) (v : ℕ) (d : List ℕ) → RecordOk v q → i < most_records → Filling i d → Filling (suc i) (with_record i q d)
one_filled i q v d ok hi f =
    record {
      long = written_long i q d f.long hi ok.count ∙ f.long;
      few = λ k h.
          let c = written_count i q d f.long hi ok.count in
          let b = before_here k symbol_bytes in
          let g = f.few k in
          grind arith;
      tail = λ k m h a b.
          let c = written_count i q d f.long hi ok.count in
          let x = before_here k symbol_bytes in
          let y = before_here k (symbol_bytes + 1 + m) in
          let z = written_after i q d f.long hi ok.count (record_from i + symbol_bytes + 1 + m) in
          let t = f.tail k m in
          let g = f.free (record_from i + symbol_bytes + 1 + m) in
          grind arith;
      free = λ j a b. written_after i q d f.long hi ok.count j (omega (arith, ok.count)) ∙ f.free j (omega arith) b;
    }
  where
    before_here : (k j : ℕ) → k < i → j < record_bytes → byte_at (with_record i q d) (record_from k + j) ≡ byte_at d (record_from k + j)
    before_here k j h l = written_before i q d f.long hi ok.count (record_from k + j) (omega arith)

pub records_filled : (qs : List Record) (i v : ℕ) (d : List ℕ) → All (RecordOk v) qs → i + length qs ≤ most_records → Filling i d
    → Filled i qs d (with_records i qs d)
records_filled [] i v d a h f =
    record {
      filling = subst (λ (n : ℕ). Filling n d) (omega arith) f;
      beside = (λ j x y. refl, λ j x y. refl);
      old = λ k l. refl;
      new = refl;
    }
records_filled (q ∷ qs) i v d a h f =
    let hi : i < most_records = omega arith in
    let ok : RecordOk v q = a.0 in
    let w = records_filled qs (suc i) v (with_record i q d) a.1 (omega arith) (one_filled i q v d ok hi f) in
    record {
      filling = subst (λ (n : ℕ). Filling n (with_records (suc i) qs (with_record i q d))) (omega arith) w.filling;
      beside = (
        λ j x y. w.beside.0 j x y ∙ written_before i q d f.long hi ok.count j (omega arith),
        λ j x y. w.beside.1 j x y ∙ written_after i q d f.long hi ok.count j (omega (arith, ok.count)),
      );
      old = λ k l. w.old k (omega arith) ∙ written_other i q d f.long hi ok.count k (omega arith) (λ e. omega arith) (f.few k l);
      new = ap₂ (λ (p : Record) (l : List Record). p ∷ l) (w.old i (omega arith) ∙ written_record i q d f.long hi ok.count ok.symbol) w.new;
    }

-- the sizes
module _ (s v r e : ℕ) where
  unfoldable pub sized : List ℕ
  sized = with_sizes s v r e cleared

  pub sizes_fit : cabinets_at + length (s ∷ v ∷ r ∷ e ∷ []) ≤ length cleared
  sizes_fit = omega (arith, length_cleared)

  sized_long : length sized ≡ run_bytes
  unfolding sized with_sizes
  sized_long = length_put cabinets_at (s ∷ v ∷ r ∷ e ∷ []) cleared sizes_fit ∙ length_cleared

  sized_before : (i : ℕ) → i < cabinets_at → byte_at sized i ≡ 0
  unfolding sized with_sizes
  sized_before i h = put_before cabinets_at (s ∷ v ∷ r ∷ e ∷ []) cleared sizes_fit i h ∙ cleared_low i (omega arith)

  sized_in : (k : ℕ) → k < 4 → byte_at sized (cabinets_at + k) ≡ get_or (s ∷ v ∷ r ∷ e ∷ []) k 0
  unfolding sized with_sizes
  sized_in k h = put_in cabinets_at (s ∷ v ∷ r ∷ e ∷ []) cleared sizes_fit k h

  sized_after : (i : ℕ) → count_at ≤ i → byte_at sized i ≡ byte_at cleared i
  unfolding sized with_sizes
  sized_after i h = put_after cabinets_at (s ∷ v ∷ r ∷ e ∷ []) cleared sizes_fit i h

  pub sized_filling : Filling 0 sized
  sized_filling =
      record {
        long = sized_long;
        few = λ k h. absurd (omega arith);
        tail = λ k m h a b. absurd (omega arith);
        free = λ j a b. sized_after j (omega arith) ∙ cleared_low j b;
      }

module _ (f : File) (ok : FileOk f.table f.statements) where
  abbrev t : Table
  t = f.table

  abbrev pub base : List ℕ
  base = sized t.cabinets t.unknowns (length t.records) (length f.statements)

  abbrev pub tabled : List ℕ
  tabled = with_records 0 t.records base

  filled : Filled 0 t.records base tabled
  filled =
      records_filled t.records 0 t.unknowns base ok.table.records (omega (arith, ok.table.count))
      (sized_filling t.cabinets t.unknowns (length t.records) (length f.statements))

  -- S, V, R, E
  size : (k : ℕ) → k < 4 → byte_at tabled (cabinets_at + k) ≡ get_or (t.cabinets ∷ t.unknowns ∷ length t.records ∷ length f.statements ∷ []) k 0
  size k h =
      filled.beside.0 (cabinets_at + k) (omega arith) (omega arith)
      ∙ sized_in t.cabinets t.unknowns (length t.records) (length f.statements) k h

  count_is_zero : count_of tabled ≡ 0
  unfolding count_of
  count_is_zero = omega (arith, at count_at (omega arith) (omega arith), at (count_at + 1) (omega arith) (omega arith))
    where
      at : (i : ℕ) → count_at ≤ i → i < table_at → byte_at tabled i ≡ 0
      at i a b =
          filled.beside.0 i (omega arith) b ∙ sized_after t.cabinets t.unknowns (length t.records) (length f.statements) i a
          ∙ cleared_low i (omega arith)

  late : (i : ℕ) → owners_at ≤ i → i < run_bytes → byte_at tabled i ≡ byte_at cleared i
  late i a b =
      filled.beside.1 i a b ∙ sized_after t.cabinets t.unknowns (length t.records) (length f.statements) i (omega arith)

  filling : Filling (length t.records) tabled
  filling = subst (λ (n : ℕ). Filling n tabled) (zero-add (length t.records)) filled.filling

  pub shaped : Shaped tabled
  shaped =
      record {
        long = filling.long;
        records = omega (arith, size 2 (omega arith), ok.table.count);
        parts = λ i h. parts i h (lt_or_le i (length t.records));
        count = omega (arith, count_is_zero);
      }
    where
      parts : (i : ℕ) → i < most_records → (i < length t.records) ⊎ (length t.records ≤ i) → part_count_of tabled i ≤ most_parts
      parts i h (inl l) = filling.few i l
      parts i h (inr l) = omega (arith, filling.free (record_from i + symbol_bytes) (omega arith) (omega arith))

  table_is : table_of tabled ≡ t
  unfolding table_of
  table_is = λ j. record { cabinets = size 0 (omega arith) j; unknowns = size 1 (omega arith) j; records = records j }
    where
      records : records_from tabled (byte_at tabled records_at) 0 ≡ t.records
      records = ap (λ (n : ℕ). records_from tabled n 0) (size 2 (omega arith)) ∙ filled.new

  mark_255 : (i : ℕ) → owners_at ≤ i → i < memos_at → byte_at tabled i ≡ 255
  mark_255 i a b = late i a (omega arith) ∙ cleared_marks i a b

  rest_0 : (i : ℕ) → memos_at ≤ i → i < run_bytes → byte_at tabled i ≡ 0
  rest_0 i a b = late i (omega arith) b ∙ cleared_rest i a

  low_0 : (i : ℕ) → i < cabinets_at → byte_at tabled i ≡ 0
  low_0 i h =
      filled.beside.0 i (omega arith) (omega arith) ∙ sized_before t.cabinets t.unknowns (length t.records) (length f.statements) i h

  state_is : state_of tabled ≡ (initial f.statements).state
  state_is = bare_state tabled (low_0 clash_at (omega arith)) mark_255 (λ i a b. rest_0 i a (omega arith)) f.statements

  -- a run with everything but its pending items
  run_is : run_of tabled ≡ record { statements = length f.statements; state = (initial f.statements).state; pending = [] }
  unfolding run_of
  run_is = λ j. record { statements = size 3 (omega arith) j; state = state_is j; pending = none_yet j }
    where
      none_yet : items_from tabled (count_of tabled) 0 ≡ []
      none_yet = ap (λ (n : ℕ). items_from tabled n 0) count_is_zero

  empty_canonical : Canonical tabled
  empty_canonical =
      record {
        flag = omega (arith, low_0 clash_at (omega arith));
        quiet = λ h. low_0 clash_cabinet_at (omega arith);
        records = λ i k h l m. filling.free (record_from i + k) (omega (arith, size 2 (omega arith))) (omega arith);
        parts = λ i k h l m. filling.tail i k (omega (arith, size 2 (omega arith))) l m;
        memos = λ c x y hc hx hy. omega (arith, rest_0 (memo_from c x y) (omega arith) (omega arith));
        kinds = λ p h. absurd (omega (arith, count_is_zero));
        items = λ i a b. rest_0 i (omega arith) b;
      }

  pub few_items : count_of tabled + length (map as_item f.statements) ≤ room
  few_items = omega (arith, count_is_zero, length-map f.statements as_item, ok.count)

  -- what loading leaves: the file's table, the paper's initial run, and sound bytes
  pub record LoadedAs (d : List ℕ) : Type 0 where
    pub shape : Shaped d
    pub table : table_of d ≡ t
    pub run : run_of d ≡ initial f.statements
    pub canonical : Canonical d

  pub loaded_as : LoadedAs (loaded_bytes f)
  unfolding loaded_bytes sized initial
  loaded_as =
      let w = appended_all_lem (map as_item f.statements) tabled shaped few_items in
      record {
        shape = w.shaped;
        table = w.table ∙ table_is;
        run = w.run ∙ ap (λ (r : Run). pending_now r (r.pending ++ map as_item f.statements)) run_is;
        canonical = appended_all_canonical (map as_item f.statements) tabled shaped empty_canonical few_items;
      }

  pub loaded_bytes_sound : sound_bytes (loaded_bytes f) ≡ true
  loaded_bytes_sound =
      let w = loaded_as in
      bytes_sound (loaded_bytes f) w.shape
      (subst (λ (u : Table). Sound u (run_of (loaded_bytes f))) (sym w.table) (subst (Sound t) (sym w.run) (loaded_sound t f.statements ok)))
      w.canonical
