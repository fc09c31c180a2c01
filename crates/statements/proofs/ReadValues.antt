-- What is read is in its ranges, whatever stands in the file.
use Prim.Native.Nat.{ℕ}
use mathlib.Core.Path.{◌≡◌, refl, subst}
use mathlib.Core.List.{List, [], ◌++◌}
use Rattle.numbers.proofs.Reading.{number_next}
use Rattle.paper.specs.Numbers.{Read, got, fault, ranged_at, number_bytes}
use Rattle.paper.specs.Reached.{FileOk}
use Rattle.paper.specs.Files.{Form, end, next, file_form, File, onward, reading, read_file}
use Rattle.paper.proofs.Forms.{Spells, done, more}
use Rattle.paper.proofs.NumberCodec.{fault_got, Ranged, inside, ranged}
use Rattle.paper.proofs.RoundTrip.{file_codec}
use Rattle.reading.proofs.FileAccepted.{ended_got}

-- some bytes spell it
spelt : {A : Type 0} (s : List ℕ) (m : Form A) (at : ℕ) (a : A) (to : ℕ) → reading m s at ≡ got a to → (b : List ℕ) × Spells m b a
spelt s (end x) at a to e = let v : x ≡ a = cc in ([], subst (Spells (end x) []) v done)
spelt s (next low below k g) at a to e =
    go (ranged_at low below k s at) (λ n t d. spelt s (g n) t a to d) (ranged low below k s at (ranged_at low below k s at) refl) e
  where
    go : (x : Read ℕ) → ((n t : ℕ) → reading (g n) s t ≡ got a to → (b : List ℕ) × Spells (g n) b a) → Ranged low below k s at x
        → onward x (λ n t. reading (g n) s t) ≡ got a to → (b : List ℕ) × Spells (next low below k g) b a
    go (got n t) ih (inside d l h) e =
        let i = ih n t e in
        (number_bytes n ++ i.0, more n l h (number_next s at n t d).2 i.1 refl)
    go (fault j p) ih v e = absurd (fault_got e)

pub file_ok : (s : List ℕ) (f : File) (to : ℕ) → read_file s ≡ got f to → FileOk f.table f.statements
unfolding read_file
file_ok s f to e =
    let p = ended_got s (reading file_form s 0) f to e in
    (file_codec.back (spelt s file_form 0 f to p.0).1).1
