-- The map as its rows are drawn: bytes laid at the end of those that are there, a row more, and the whole.
use mathlib.Core.Path.{◌≡◌, refl, sym, ap, ap₂, ◌∙◌}
use mathlib.Core.List.{List, [], ◌∷◌, ◌++◌, append_assoc, append-nil}
use Prim.Native.Nat.{ℕ, zero, suc, ◌+◌, ◌-◌, ◌*◌, ◌≤◌, ◌<◌}
use native.Mathlib.Nat.{add-zero, add-suc, zero-add, suc-add, sub-zero, zero-sub, suc-sub-suc}
use native.Mathlib.Numerals.{add-one}
use native.Mathlib.Omega.{arith}
use lib.ListN.{length, get_or, drop, set, replicate, length-append, length-replicate, replicate-append-replicate}
use lib.Seq.{take_at, drop-append-add}
use Rattle.base.specs.Regions.{put}
use Rattle.paper.specs.Sizes.{most_parts, number_limit}
use Rattle.paper.specs.Tables.{Table}
use Rattle.paper.specs.Runs.{Run}
use Rattle.paper.specs.Files.{each}
use Rattle.paper.specs.Maps.{Row, lowest_of, look_of, row_of, map_row, rows_from, map_rows}
use Rattle.paper.proofs.StatementParts.{each_append}
use Rattle.layout.specs.Offsets.{symbol_bytes, unknowns_at, records_at, row_bytes, map_bytes}
use Rattle.layout.specs.Fields.{byte_at, bytes_of, symbol_of, part_count_of, record_of, table_of, state_of, run_of}
use Rattle.layout.specs.MapRows.{look_bytes, bytes_of_row, map_of}
use Rattle.layout.specs.Given.{Reads, byte_limit}
use Rattle.layout.proofs.ChangeLaws.{put_then, put_one}
use Rattle.agreement.specs.Given.{SoundRun, OneRecord}
use Rattle.agreement.specs.Ends.{ends_of, EndsAt}
use Rattle.agreement.proofs.Ranges.{counted_record, ended_record}
use Rattle.agreement.proofs.Chains.{open_end, record_end}
use Rattle.maps.specs.Rows.{lowest_items, lows_of, record_look_of, rows_of, laid, Drawn}
use Rattle.maps.proofs.Lowest.{lows_count, looked_up}

drop_replicate : (k n a : ℕ) → drop k (replicate n a) ≡ replicate (n - k) a
drop_replicate zero n a = ap (λ (m : ℕ). replicate m a) (sym (sub-zero n))
drop_replicate (suc k) zero a = ap (λ (m : ℕ). replicate m a) (sym (zero-sub (suc k)))
drop_replicate (suc k) (suc n) a = drop_replicate k n a ∙ ap (λ (m : ℕ). replicate m a) (sym (suc-sub-suc n k))

-- bytes laid at the end of others
module _ (rs : List ℕ) (at : ℕ) (e : length rs ≡ at) where
  laid_long : at ≤ map_bytes → length (laid rs) ≡ map_bytes
  unfolding laid
  laid_long h = length-append rs (replicate (map_bytes - length rs) 0) ∙ ap (λ (n : ℕ). length rs + n) (length-replicate (map_bytes - length rs) 0) ∙ sum
    where
      sum : length rs + (map_bytes - length rs) ≡ map_bytes
      sum = omega arith

  laid_put : (bs : List ℕ) → at + length bs ≤ map_bytes → put at bs (laid rs) ≡ laid (rs ++ bs)
  unfolding laid put
  laid_put bs h =
      let z : List ℕ = replicate (map_bytes - length rs) 0 in
      let p : drop (at + length bs) (rs ++ z) ≡ drop (length bs) z = rw (← e) (drop-append-add rs z (length bs)) in
      let n : map_bytes - length rs - length bs ≡ map_bytes - length (rs ++ bs) = omega (arith, length-append rs bs) in
      rw (take_at rs z at e, p, drop_replicate (length bs) (map_bytes - length rs) 0, n) refl

-- 0 laid over 0
blanks_joined : (rs : List ℕ) (k n : ℕ) → (rs ++ replicate k 0) ++ replicate n 0 ≡ rs ++ replicate (k + n) 0
blanks_joined rs k n = append_assoc rs (replicate k 0) (replicate n 0) ∙ ap (λ (z : List ℕ). rs ++ z) (replicate-append-replicate k n 0)

laid_blank : (rs : List ℕ) (k : ℕ) → length rs + k ≤ map_bytes → laid (rs ++ replicate k 0) ≡ laid rs
unfolding laid
laid_blank rs k h =
    let l : length (rs ++ replicate k 0) ≡ length rs + k = length-append rs (replicate k 0) ∙ ap (λ (n : ℕ). length rs + n) (length-replicate k 0) in
    let n : k + (map_bytes - length (rs ++ replicate k 0)) ≡ map_bytes - length rs = omega arith in
    blanks_joined rs k (map_bytes - length (rs ++ replicate k 0)) ∙ ap (λ (m : ℕ). rs ++ replicate m 0) n

-- the bytes bs of a row, behind the rows rs, and more of them put, or none but 0
module _ (rs bs : List ℕ) (at k : ℕ) (ea : length rs ≡ at) (eb : length bs ≡ k) where
  behind : length (rs ++ bs) ≡ at + k
  behind = length-append rs bs ∙ ap₂ (λ (m n : ℕ). m + n) ea eb

  row_put : (cs : List ℕ) → at + k + length cs ≤ map_bytes → put (at + k) cs (laid (rs ++ bs)) ≡ laid (rs ++ (bs ++ cs))
  row_put cs h = laid_put (rs ++ bs) (at + k) behind cs h ∙ ap laid (append_assoc rs bs cs)

  row_blank : (n : ℕ) → at + k + n ≤ map_bytes → laid (rs ++ bs) ≡ laid (rs ++ (bs ++ replicate n 0))
  row_blank n h =
      let l = behind in
      sym (ap laid (sym (append_assoc rs bs (replicate n 0))) ∙ laid_blank (rs ++ bs) n (omega arith))

rows_last : (t : Table) (r : Run) (k i : ℕ) → rows_from t r (suc k) i ≡ rows_from t r k i ++ (map_row t r (i + k) ∷ [])
rows_last t r zero i = ap (λ (n : ℕ). map_row t r n ∷ []) (sym (add-zero i))
rows_last t r (suc k) i =
    ap (λ (l : List Row). map_row t r i ∷ l) (rows_last t r k (suc i) ∙ ap (λ (n : ℕ). rows_from t r k (suc i) ++ (map_row t r n ∷ [])) (suc-add i k ∙ sym (add-suc i k)))

-- row x of the run's map
row_at : List ℕ → ℕ → List ℕ
row_at d x = bytes_of_row (map_row (table_of d) (run_of d) x)

rows_bytes : (t : Table) (r : Run) (k : ℕ)
    → each bytes_of_row (rows_from t r (k + 1) 0) ≡ each bytes_of_row (rows_from t r k 0) ++ bytes_of_row (map_row t r k)
rows_bytes t r k =
    ap (λ (n : ℕ). each bytes_of_row (rows_from t r n 0)) (add-one k)
    ∙ ap (each bytes_of_row) (rows_last t r k 0)
    ∙ ap (λ (n : ℕ). each bytes_of_row (rows_from t r k 0 ++ (map_row t r n ∷ []))) (zero-add k)
    ∙ each_append bytes_of_row (rows_from t r k 0) (map_row t r k ∷ [])
    ∙ ap (λ (l : List ℕ). each bytes_of_row (rows_from t r k 0) ++ l) (append-nil (bytes_of_row (map_row t r k)))

rows_more : (d : List ℕ) (x : ℕ) → rows_of d (x + 1) ≡ rows_of d x ++ row_at d x
unfolding rows_of row_at
rows_more d x = rows_bytes (table_of d) (run_of d) x

row_is : (d : List ℕ) (v x : ℕ) → SoundRun d v → row_at d x ≡ lowest_of (ends_of d) v x ∷ look_bytes (look_of (ends_of d) v (ends_of d x))
unfolding row_at map_row row_of table_of run_of state_of
row_is d v x g = rw g.unknowns refl

-- a record's bytes put: the kind, the head s and n, the parts
module _ (d : List ℕ) (v i at s n : ℕ) (m m₁ : List ℕ) (g : SoundRun d v) (h : i < byte_at d records_at) (long : length m ≡ map_bytes)
    (fits : at + row_bytes ≤ map_bytes + 1)
    (rs : Reads (symbol_of d i) number_limit s) (rn : Reads (part_count_of d i) byte_limit n)
    (e₁ : m₁ ≡ put (at + 1) (bytes_of symbol_bytes s ++ (n ∷ [])) (set m at 1)) where
  head : List ℕ
  head = 1 ∷ (bytes_of symbol_bytes s ++ (n ∷ []))

  counted : OneRecord d v i n
  counted = counted_record d v i n g h rn.same

  head_put : m₁ ≡ put at head m
  unfolding head
  head_put =
      e₁
      ∙ ap (put (at + 1) (bytes_of symbol_bytes s ++ (n ∷ []))) (put_one at 1 m (omega arith))
      ∙ put_then at (1 ∷ []) (bytes_of symbol_bytes s ++ (n ∷ [])) m (omega arith)

  module _ (m₂ : List ℕ) (e₂ : m₂ ≡ put (at + 6) (lows_of d v i) m₁) where
    pub record_put : m₂ ≡ put at (record_look_of d v i) m
    unfolding head record_look_of
    record_put =
        let k = counted.few in
        let c = lows_count d v i n counted in
        let p : put (at + 6) (lows_of d v i) (put at head m) ≡ put at (head ++ lows_of d v i) m = put_then at head (lows_of d v i) m (omega arith) in
        e₂ ∙ ap (put (at + 6) (lows_of d v i)) head_put ∙ p ∙ rw (rs.same, rn.same) refl

-- a row drawn
module _ (d : List ℕ) (v x a : ℕ) (m ls : List ℕ) (g : SoundRun d v) (r : ls ≡ lowest_items d v) (h : x < v) (w : Drawn d x m) (e : EndsAt d x a) where
  abbrev low : ℕ
  low = get_or ls x 0

  low_is : low ≡ lowest_of (ends_of d) v x
  low_is = looked_up d v g ls x r h

  next_drawn : (m' : List ℕ) → m' ≡ laid (rows_of d x ++ row_at d x) → length (row_at d x) ≡ row_bytes → Drawn d (x + 1) m'
  next_drawn m' q n =
      let f = g.few_unknowns in
      let l : length (rows_of d x ++ row_at d x) ≡ row_bytes * x + row_bytes = length-append (rows_of d x) (row_at d x) ∙ ap₂ (λ (i j : ℕ). i + j) w.rows n in
      let l' : length (rows_of d (x + 1)) ≡ row_bytes * (x + 1) = ap length (rows_more d x) ∙ l ∙ product x in
      record { long = ap length q ∙ laid_long (rows_of d x ++ row_at d x) (row_bytes * x + row_bytes) l (omega arith); rows = l'; is = q ∙ ap laid (sym (rows_more d x)) }
    where
      product : (k : ℕ) → row_bytes * k + row_bytes ≡ row_bytes * (k + 1)
      product k = omega arith

  low_put : set m (row_bytes * x) low ≡ laid (rows_of d x ++ (low ∷ []))
  low_put =
      let f = g.few_unknowns in
      let l = w.long in
      put_one (row_bytes * x) low m (omega arith)
      ∙ ap (put (row_bytes * x) (low ∷ [])) w.is
      ∙ laid_put (rows_of d x) (row_bytes * x) w.rows (low ∷ []) (omega arith)

  open_row : a < v → row_at d x ≡ low ∷ replicate (row_bytes - 1) 0
  open_row l =
      let u = g.unknowns in
      row_is d v x g ∙ rw (e.is, open_end d a (omega arith)) (ap (λ (n : ℕ). n ∷ replicate (row_bytes - 1) 0) (sym low_is))

  pub open_drawn : a < v → Drawn d (x + 1) (set m (row_bytes * x) (get_or ls x 0))
  open_drawn l =
      let f = g.few_unknowns in
      next_drawn (set m (row_bytes * x) (get_or ls x 0))
      (low_put
      ∙ row_blank (rows_of d x) (low ∷ []) (row_bytes * x) 1 w.rows refl (row_bytes - 1) (omega arith)
      ∙ ap (λ (b : List ℕ). laid (rows_of d x ++ b)) (sym (open_row l)))
      (ap length (open_row l))

  module _ (h' : v ≤ a) where
    ended : OneRecord d v (a - v) (part_count_of d (a - v))
    ended = ended_record d v x a (part_count_of d (a - v)) g e h' refl

    -- the row but for the 0 at its end
    filled : List ℕ
    filled = low ∷ record_look_of d v (a - v)

    filled_count : length filled ≡ 7 + part_count_of d (a - v)
    unfolding filled record_look_of
    filled_count = omega (arith, lows_count d v (a - v) (part_count_of d (a - v)) ended)

    record_row : row_at d x ≡ filled ++ replicate (most_parts - part_count_of d (a - v)) 0
    unfolding filled record_look_of lows_of record_of
    record_row =
        let u = g.unknowns in
        row_is d v x g
        ∙ rw (e.is, record_end d a (omega arith), ← u, lows_count d v (a - v) (part_count_of d (a - v)) ended)
        (ap (λ (k : ℕ). k ∷ (record_look_of d v (a - v) ++ replicate (most_parts - part_count_of d (a - v)) 0)) (sym low_is))

    module _ (m' : List ℕ) (e' : m' ≡ put (row_bytes * x + 1) (record_look_of d v (a - v)) (set m (row_bytes * x) (get_or ls x 0))) where
      filled_laid : m' ≡ laid (rows_of d x ++ filled)
      unfolding filled
      filled_laid =
          let f = g.few_unknowns in
          let k = ended.few in
          let c = filled_count in
          e'
          ∙ ap (put (row_bytes * x + 1) (record_look_of d v (a - v))) low_put
          ∙ row_put (rows_of d x) (low ∷ []) (row_bytes * x) 1 w.rows refl (record_look_of d v (a - v)) (omega arith)

      pub record_drawn : Drawn d (x + 1) m'
      record_drawn =
          let f = g.few_unknowns in
          let n : ℕ = part_count_of d (a - v) in
          let k = ended.few in
          next_drawn m'
          (filled_laid
          ∙ row_blank (rows_of d x) filled (row_bytes * x) (7 + n) w.rows filled_count (most_parts - n) (omega arith)
          ∙ ap (λ (b : List ℕ). laid (rows_of d x ++ b)) (sym record_row))
          (ap length record_row
          ∙ length-append filled (replicate (most_parts - n) 0)
          ∙ ap₂ (λ (i j : ℕ). i + j) filled_count (length-replicate (most_parts - n) 0)
          ∙ (let z : 7 + n + (most_parts - n) ≡ row_bytes = omega arith in z))

-- nothing drawn yet, and all rows drawn
pub none_drawn : (d m m₀ : List ℕ) → m ≡ replicate (length m₀) 0 → length m₀ ≡ map_bytes → Drawn d 0 m
unfolding laid rows_of
none_drawn d m m₀ e h =
    let q : m ≡ replicate map_bytes 0 = rw h at e in
    record { long = ap length q ∙ length-replicate {A = ℕ} map_bytes 0; rows = refl; is = q }

pub all_drawn : (d : List ℕ) (v x : ℕ) (m : List ℕ) → Drawn d x m → SoundRun d v → x ≤ v → v ≤ x → m ≡ map_of (table_of d) (run_of d)
unfolding laid rows_of map_of map_rows table_of
all_drawn d v x m w g h l =
    let e : x ≡ byte_at d unknowns_at = omega (arith, g.unknowns) in
    w.is ∙ rw (w.rows, e) refl
