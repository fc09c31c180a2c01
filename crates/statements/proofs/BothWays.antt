-- Reading and writing undo each other at the bytes: a loaded run is written as its file, and a written file loads to the very
-- same 59,752 bytes.
use mathlib.Core.Path.{◌≡◌, refl, sym, subst, ap, ap₂, ◌∙◌}
use mathlib.Core.Logic.{◌↔◌}
use mathlib.Core.Bool.{true}
use mathlib.Core.List.{List, [], ◌∷◌, map}
use Prim.Native.Nat.{ℕ}
use native.Mathlib.Omega.{arith}
use borrow.Author.Tests.{eq-eqb}
use lib.ListN.{length}
use Rattle.base.specs.Lists.{All, Bytes}
use Rattle.paper.specs.Sizes.{longest_file}
use Rattle.paper.specs.Tables.{Table, TableOk}
use Rattle.paper.specs.Runs.{Statement, Run, as_item, initial, Sound}
use Rattle.paper.specs.Numbers.{got}
use Rattle.paper.specs.Files.{File, read_file, file_bytes, padded_file}
use Rattle.paper.specs.Reached.{StatementOk, FileOk}
use Rattle.paper.specs.Replies.{AsLoaded}
use Rattle.paper.proofs.RoundTrip.{written_read}
use Rattle.layout.specs.Offsets.{run_bytes}
use Rattle.layout.specs.Fields.{table_of, run_of}
use Rattle.layout.specs.Soundness.{sound_bytes}
use Rattle.layout.specs.Changes.{cleared}
use Rattle.layout.proofs.SoundViews.{tested, shaped, view_sound, canonical}
use Rattle.layout.proofs.ByteLaws.{four_bytes, ItemBytes, appended_bytes, cleared_bytes, sizes_bytes, records_bytes}
use Rattle.layout.proofs.SameBytes.{same_view}
use Rattle.statements.specs.Loads.{loaded_bytes}
use Rattle.statements.specs.Writes.{as_loaded, file_of, answer, written_bytes}
use Rattle.statements.proofs.Loaded.{loaded_as, loaded_bytes_sound}
use Rattle.statements.proofs.AsLoaded.{AsLoadedBytes, as_loaded_out, as_loaded_in, as_loaded_run, as_loaded_ok, initial_as_loaded}

-- a statement is its item
same_statements : (qs rs : List Statement) → map as_item qs ≡ map as_item rs → qs ≡ rs
same_statements [] [] e = refl
same_statements [] (r ∷ rs) e = absurd cc
same_statements (q ∷ qs) [] e = absurd cc
same_statements (q ∷ qs) (r ∷ rs) e =
    let h : as_item q ≡ as_item r = cc in
    let t : map as_item qs ≡ map as_item rs = cc in
    let a : q.cabinet ≡ r.cabinet = cc in
    let b : q.left ≡ r.left = cc in
    let c : q.right ≡ r.right = cc in
    ap₂ (λ (x : Statement) (l : List Statement). x ∷ l) (λ i. record { cabinet = a i; left = b i; right = c i }) (same_statements qs rs t)

pending_of : (qs rs : List Statement) → initial qs ≡ initial rs → map as_item qs ≡ map as_item rs
unfolding initial
pending_of qs rs e = ap (λ (r : Run). r.pending) e

-- a loaded run's file is the file
module _ (f : File) (ok : FileOk f.table f.statements) where
  pub loaded_passes : AsLoadedBytes (loaded_bytes f)
  loaded_passes = let w = loaded_as f ok in initial_as_loaded (loaded_bytes f) f.statements w.run w.canonical

  pub loaded_file : file_of (loaded_bytes f) ≡ f
  unfolding file_of
  loaded_file = λ i. record { table = (loaded_as f ok).table i; statements = statements i }
    where
      both : initial (file_of (loaded_bytes f)).statements ≡ initial f.statements
      both = sym (as_loaded_run (loaded_bytes f) loaded_passes) ∙ (loaded_as f ok).run

      statements : (file_of (loaded_bytes f)).statements ≡ f.statements
      statements = same_statements (file_of (loaded_bytes f)).statements f.statements (pending_of (file_of (loaded_bytes f)).statements f.statements both)

  -- A loaded run is sound and is written as its file, then zeros, its reply giving the file's length.
  pub loaded_written : (m : List ℕ) → length m ≡ longest_file → written_bytes (loaded_bytes f) m ≡ answer 0 (length (file_bytes f)) (padded_file f)
  unfolding written_bytes
  loaded_written m h =
      rw (
        eq-eqb (length (loaded_bytes f)) run_bytes (loaded_as f ok).shape.long,
        eq-eqb (length m) longest_file h,
        loaded_bytes_sound f ok,
        as_loaded_in (loaded_bytes f) loaded_passes,
        loaded_file,
      )

-- what a file is loaded to has only bytes
statements_bytes : (t : Table) → TableOk t → (qs : List Statement) → All (StatementOk t) qs → All ItemBytes (map as_item qs)
statements_bytes t ok [] a = tt
statements_bytes t ok (q ∷ qs) a =
    let c = a.0.cabinet in
    let l = a.0.left in
    let r = a.0.right in
    let s = ok.cabinets in
    let v = ok.unknowns in
    let n = ok.count in
    (four_bytes (omega arith) (omega arith) (omega arith) (omega arith), statements_bytes t ok qs a.1)

pub loaded_bytes_lem : (f : File) → FileOk f.table f.statements → Bytes (loaded_bytes f)
unfolding loaded_bytes
loaded_bytes_lem f ok =
    let s = ok.table.cabinets in
    let v = ok.table.unknowns in
    let n = ok.table.count in
    let e = ok.count in
    appended_bytes (map as_item f.statements) _ (statements_bytes f.table ok.table f.statements ok.statements)
    (records_bytes f.table.unknowns (omega arith) 0 f.table.records _ ok.table.records
    (sizes_bytes cleared (omega arith) (omega arith) (omega arith) (omega arith) cleared_bytes))

-- a sound run that passes is what loading its own file leaves
module _ (d : List ℕ) (long : length d ≡ run_bytes) (b : Bytes d) (s : sound_bytes d ≡ true) (a : as_loaded d ≡ true) where
  passes : AsLoadedBytes d
  passes = as_loaded_out d a

  sound : Sound (table_of d) (run_of d)
  sound = view_sound d long (tested d s) b

  pub own_file_ok : FileOk (file_of d).table (file_of d).statements
  own_file_ok = as_loaded_ok d passes sound

  pub loads_back : loaded_bytes (file_of d) ≡ d
  unfolding file_of
  loads_back =
      let w = loaded_as (file_of d) own_file_ok in
      same_view (loaded_bytes (file_of d)) d w.shape (shaped d long (tested d s)) (loaded_bytes_lem (file_of d) own_file_ok) b w.canonical (canonical d long (tested d s))
      w.table (w.run ∙ sym (as_loaded_run d passes))

  -- A written file is accepted and loads to the very same bytes.
  pub written_loads : read_file (file_bytes (file_of d)) ≡ got (file_of d) (length (file_bytes (file_of d)))
  written_loads = written_read (file_of d) own_file_ok

-- "as loading some file leaves it": a run's bytes are as loaded exactly when some file loads to them
pub as_loaded_exactly : (d : List ℕ) → length d ≡ run_bytes → Bytes d → sound_bytes d ≡ true
    → (as_loaded d ≡ true) ↔ ((f : File) × FileOk f.table f.statements × (loaded_bytes f ≡ d))
as_loaded_exactly d long b s = (
  λ a. (file_of d, own_file_ok d long b s a, loads_back d long b s a),
  λ w. subst (λ (e : List ℕ). as_loaded e ≡ true) w.2 (as_loaded_in (loaded_bytes w.0) (loaded_passes w.0 w.1)),
)

-- and exactly when their view is, in the paper
pub as_loaded_view : (d : List ℕ) → length d ≡ run_bytes → Bytes d → sound_bytes d ≡ true → (as_loaded d ≡ true) ↔ AsLoaded (table_of d) (run_of d)
unfolding file_of
as_loaded_view d long b s = (
  λ a. record { statements = (file_of d).statements; ok = own_file_ok d long b s a; is = as_loaded_run d (as_loaded_out d a) },
  λ w. as_loaded_in d (initial_as_loaded d w.statements w.is (canonical d long (tested d s))),
)
