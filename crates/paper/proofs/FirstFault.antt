-- A file is refused with its first fault in reading order.
use mathlib.Core.Path.{◌≡◌, refl, sym, subst, ◌∙◌}
use mathlib.Core.Logic.{◌↔◌}
use mathlib.Core.Bool.{Bool, true, false}
use mathlib.Core.List.{List}
use Prim.Native.Nat.{ℕ}
use borrow.Author.Tests.{ltb-true, lt-ltb}
use lib.Dec.{ltb}
use lib.ListN.{length}
use Rattle.base.specs.Choice.{pick}
use Rattle.paper.specs.Refusals.{bytes_left}
use Rattle.paper.specs.Numbers.{Read, got, fault, ranged_at}
use Rattle.paper.specs.Files.{Form, end, next, File, onward, reading, ended, file_form, read_file}
use Rattle.paper.specs.Faults.{FirstFault, malformed, outside, later, FileFault, inside, left_over}
use Rattle.paper.proofs.NumberCodec.{fault_got, Ranged, inside as in_range, outside as out_of_range, malformed as no_number, ranged, ranged_is}

-- what holds of one refusal and position holds of the same
same_fault : {A : Type 0} (P : ℕ → ℕ → Type 0) {j k p q : ℕ} → ◌≡◌ {A = Read A} (fault j p) (fault k q) → P j p → P k q
same_fault P {j} {k} {p} {q} e h =
    let x : j ≡ k = cc in
    let y : p ≡ q = cc in
    subst (λ (n : ℕ). P n q) x (subst (P j) y h)

module _ {A : Type 0} (s : List ℕ) where
  -- a form is refused with its first fault
  pub refused_first : (m : Form A) (at k p : ℕ) → reading m s at ≡ fault k p → FirstFault s m at k p
  refused_first (end a) at k p e = absurd (fault_got (sym e))
  refused_first (next low below j g) at k p e =
      go (ranged_at low below j s at) (λ n to d. refused_first (g n) to k p d) (ranged low below j s at (ranged_at low below j s at) refl) e
    where
      go : (x : Read ℕ) → ((n to : ℕ) → reading (g n) s to ≡ fault k p → FirstFault s (g n) to k p) → Ranged low below j s at x
          → onward x (λ n to. reading (g n) s to) ≡ fault k p → FirstFault s (next low below j g) at k p
      go (got n to) ih (in_range d l h) e = later d l h (ih n to e)
      go (fault i q) ih (out_of_range d h) e = same_fault (FirstFault s (next low below j g) at) e (outside d h)
      go (fault i q) ih (no_number d) e = same_fault (FirstFault s (next low below j g) at) e (malformed d)

  -- and its first fault is what it is refused with
  pub first_refused : {m : Form A} {at k p : ℕ} → FirstFault s m at k p → reading m s at ≡ fault k p
  first_refused (malformed {low} {below} {k} {g} {at} d) = rw (ranged_is low below k s at (no_number d))
  first_refused (outside {low} {below} {k} {g} {at} d h) = rw (ranged_is low below k s at (out_of_range d h))
  first_refused (later {low} {below} {k} {g} {at} d l h i) = rw (ranged_is low below k s at (in_range d l h)) (first_refused i)

-- the first fault of a file is what it is refused with
fault_refused : {s : List ℕ} {k p : ℕ} → FileFault s k p → read_file s ≡ fault k p
unfolding read_file
fault_refused {s} (inside i) = rw (first_refused s i)
fault_refused {s} (left_over {p = p} d h) = rw (d, lt-ltb p (length s) h)

-- a file is refused exactly with "the first fault in reading order, with the position where the faulty number starts"
pub refused_is_first_fault : (s : List ℕ) (k p : ℕ) → (read_file s ≡ fault k p) ↔ FileFault s k p
unfolding read_file
refused_is_first_fault s k p = (λ e. go (reading file_form s 0) refl e, fault_refused)
  where
    over : (f : File) (to : ℕ) → reading file_form s 0 ≡ got f to → (b : Bool) → ltb to (length s) ≡ b
        → pick b (fault bytes_left to) (got f to) ≡ fault k p → FileFault s k p
    over f to d true c e = same_fault (FileFault s) e (left_over d (ltb-true to (length s) c))
    over f to d false c e = absurd (fault_got (sym e))

    go : (x : Read File) → reading file_form s 0 ≡ x → ended s x ≡ fault k p → FileFault s k p
    go (fault j q) d e = inside (refused_first s file_form 0 k p (d ∙ e))
    go (got f to) d e = over f to d (ltb to (length s)) refl e
