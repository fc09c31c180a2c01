-- Laws of reading one form after another, there and back; and a read goes forward and stays in the file.
use Prim.Native.Nat.{ℕ, ◌≤◌, ◌<◌}
use mathlib.Core.Path.{◌≡◌, refl, sym, ◌∙◌}
use mathlib.Core.List.{List}
use native.Mathlib.Omega.{arith}
use lib.ListN.{length}
use Rattle.numbers.proofs.Reading.{ranged_next}
use Rattle.paper.specs.Numbers.{Read, got, fault, ranged_at}
use Rattle.paper.specs.Files.{Form, end, next, ◌>>=◌, onward, reading}
use Rattle.paper.proofs.NumberCodec.{fault_got}
use Rattle.paper.proofs.Forms.{and_then, reading_bind}

-- the same read has the same value
pub got_value : {A : Type 0} {a b : A} {s t : ℕ} → got a s ≡ got b t → a ≡ b
got_value e = cc

module _ {A B : Type 0} (m : Form A) (g : A → Form B) (f : List ℕ) (at : ℕ) where
  pub bind_on : (a : A) (to : ℕ) → reading m f at ≡ got a to → reading (m >>= g) f at ≡ reading (g a) f to
  bind_on a to e = reading_bind m g f at ∙ rw e refl

  pub bind_fault : (k p : ℕ) → reading m f at ≡ fault k p → reading (m >>= g) f at ≡ fault k p
  bind_fault k p e = reading_bind m g f at ∙ rw e refl

  -- what was read of the first form, and then of the second
  pub record BothRead (b : B) (to : ℕ) : Type 0 where
    pub value : A
    pub between : ℕ
    pub first : reading m f at ≡ got value between
    pub second : reading (g value) f between ≡ got b to

  pub bind_got : (b : B) (to : ℕ) → reading (m >>= g) f at ≡ got b to → BothRead b to
  bind_got b to e = go (reading m f at) refl (sym (reading_bind m g f at) ∙ e)
    where
      go : (x : Read A) → reading m f at ≡ x → and_then x (λ a t. reading (g a) f t) ≡ got b to → BothRead b to
      go (got a t) d e = record { value = a; between = t; first = d; second = e }
      go (fault k p) d e = absurd (fault_got e)

module _ {A : Type 0} (f : List ℕ) where
  -- what was read of a number, and then of the rest
  pub record NumberRead (low below k : ℕ) (g : ℕ → Form A) (at : ℕ) (a : A) (to : ℕ) : Type 0 where
    pub value : ℕ
    pub between : ℕ
    pub first : ranged_at low below k f at ≡ got value between
    pub second : reading (g value) f between ≡ got a to

  pub number_got : (low below k : ℕ) (g : ℕ → Form A) (at : ℕ) (a : A) (to : ℕ) → reading (next low below k g) f at ≡ got a to
      → NumberRead low below k g at a to
  number_got low below k g at a to e = go (ranged_at low below k f at) refl e
    where
      go : (x : Read ℕ) → ranged_at low below k f at ≡ x → onward x (λ n t. reading (g n) f t) ≡ got a to → NumberRead low below k g at a to
      go (got n t) d e = record { value = n; between = t; first = d; second = e }
      go (fault j p) d e = absurd (fault_got e)

  -- a read goes forward, and does not leave the file
  pub reading_within : (m : Form A) (at : ℕ) (a : A) (to : ℕ) → reading m f at ≡ got a to → (at ≤ to) × (at ≤ length f → to ≤ length f)
  reading_within (end x) at a to e = let o : at ≡ to = cc in (omega arith, λ l. omega arith)
  reading_within (next low below k g) at a to e =
      let w = number_got low below k g at a to e in
      let n = ranged_next low below k f at w.value w.between w.first in
      let i = reading_within (g w.value) w.between a to w.second in
      let past : at < w.between = n.0 in
      let inside : w.between ≤ length f = n.1 in
      let on : w.between ≤ to = i.0 in
      (omega arith, λ l. i.1 inside)
