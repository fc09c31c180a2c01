-- A run's bytes reached from a file: what loading leaves, then any accepted steps; how such a run ends; and what bytes are the
-- map that the statements alone determine.
use Rattle.std.specs.Prelude.{◌≡◌, ◌⊎◌, List, [], ◌∷◌, ◌++◌, ℕ, suc, ◌-◌, ◌*◌, length, replicate}
use Rattle.std.proofs.Math.Option.{some}
use Rattle.std.proofs.Math.ListN.{get_elem?}
pub use Rattle.base.specs.Lists.{Bytes}
use Rattle.paper.specs.Tables.{Table}
use Rattle.paper.specs.Runs.{Statement}
use Rattle.paper.specs.Numbers.{got}
use Rattle.paper.specs.Files.{File, read_file, each}
use Rattle.paper.specs.Maps.{Row, IsRow}
use Rattle.layout.specs.Offsets.{clash_at, row_bytes, map_bytes}
use Rattle.layout.specs.Fields.{byte_at, count_of}
use Rattle.layout.specs.MapRows.{bytes_of_row}
use Rattle.statements.specs.Writes.{answer, load_bytes}
use Rattle.rules.specs.Bytes.{out, step_bytes}

-- a file that loading accepts, and what it says
pub record Accepted (s : List ℕ) (f : File) : Type 0 where
  pub bytes : Bytes s
  pub end : ℕ
  pub read : read_file s ≡ got f end

-- loaded into whatever stood there before, then so many accepted steps at any places
pub data FromFile (s : List ℕ) : ℕ → List ℕ → Type 0 where
  loaded : (before : List ℕ) {d : List ℕ} → load_bytes s before ≡ answer 0 0 d → FromFile s 0 d
  stepped : {n : ℕ} {d : List ℕ} → FromFile s n d → (i k : ℕ) {e : List ℕ} → step_bytes d i ≡ out 0 k e → FromFile s (suc n) e

-- the bytes that accepted steps at these places, in their order, make of bytes
pub data Along : List ℕ → List ℕ → List ℕ → Type 0 where
  none_left : {d : List ℕ} → Along d [] d
  one_more : {d e u is : List ℕ} (i k : ℕ) → step_bytes d i ≡ out 0 k e → Along e is u → Along d (i ∷ is) u

-- why a list of places ends with number k when n are done, and leaves e: all are done, or "it stops at the first refused place and
-- gives that number"
pub data ListEnds (is e : List ℕ) : ℕ → ℕ → Type 0 where
  all_done : ListEnds is e 0 (length is)
  stops : {n k : ℕ} (i : ℕ) → get_elem? is n ≡ some i → step_bytes e i ≡ out (suc k) 0 e → ListEnds is e (suc k) n

-- "until it clashes or nothing is pending"
abbrev pub HasClashed : List ℕ → Type 0
HasClashed d = byte_at d clash_at ≡ 1

pub record NothingPending (d : List ℕ) : Type 0 where
  pub running : byte_at d clash_at ≡ 0
  pub empty : count_of d ≡ 0

abbrev pub AtEnd : List ℕ → Type 0
AtEnd d = HasClashed d ⊎ NothingPending d

-- the 352 bytes whose rows are those that the statements determine; rows from V on hold 0
pub record IsMap (t : Table) (qs : List Statement) (m : List ℕ) : Type 0 where
  pub rows : List Row
  pub many : length rows ≡ t.unknowns
  pub are : (x : ℕ) (w : Row) → get_elem? rows x ≡ some w → IsRow t qs x w
  pub bytes : m ≡ each bytes_of_row rows ++ replicate (map_bytes - row_bytes * t.unknowns) 0
