-- Laws of reading a form so many times: the first time and then the rest, how many values there are, and where reads end of
-- which none is kept.
use Prim.Native.Nat.{ℕ, zero, suc, ◌+◌, ◌-◌, ◌≤◌, ◌<◌}
use mathlib.Core.Path.{◌≡◌, refl, sym, ap, ◌∙◌}
use mathlib.Core.List.{List, [], ◌∷◌, ◌++◌, append_assoc}
use native.Mathlib.Nat.{sub-zero}
use native.Mathlib.Omega.{arith}
use lib.ListN.{length}
use Rattle.paper.specs.Numbers.{Read, got, fault}
use Rattle.paper.specs.Files.{Form, end, ◌>>=◌, times, reading}
use Rattle.paper.proofs.Forms.{and_then, reading_bind}
use Rattle.std.specs.Prelude.{Result, Ok, Err}
use Rattle.paper.specs.Refusals.{refusal_number}
use Rattle.paper.specs.declared.refused.Fault.{Fault}
use Rattle.paper.specs.declared.Found.{Found}
use Rattle.reading.specs.Reads.{read_as, Skipped}
use Rattle.reading.proofs.Onward.{bind_got}

module _ {A : Type 0} where
  -- a read of values that stand after those of a list
  abbrev pub after : List A → Read (List A) → Read (List A)
  after l (got m to) = got (l ++ m) to
  after l (fault k p) = fault k p

  pub after_after : (l m : List A) (x : Read (List A)) → after l (after m x) ≡ after (l ++ m) x
  after_after l m (got n to) = ap (λ (k : List A). got k to) (sym (append_assoc l m n))
  after_after l m (fault k p) = refl

  pub after_none : (x : Read (List A)) → after [] x ≡ x
  after_none (got m to) = refl
  after_none (fault k p) = refl

  module _ (m : Form A) (f : List ℕ) (n at : ℕ) where
    -- once more is once, and then so many times
    once_more : reading (times (suc n) m) f at ≡ and_then (reading m f at) (λ a to. after (a ∷ []) (reading (times n m) f to))
    once_more = reading_bind m (λ a. times n m >>= λ l. end (a ∷ l)) f at ∙ go (reading m f at)
      where
        rest : (a : A) (x : Read (List A)) → and_then x (λ l to. got (a ∷ l) to) ≡ after (a ∷ []) x
        rest a (got l to) = refl
        rest a (fault k p) = refl

        go : (x : Read A) → and_then x (λ a to. reading (times n m >>= λ l. end (a ∷ l)) f to) ≡ and_then x (λ a to. after (a ∷ []) (reading (times n m) f to))
        go (got a to) = reading_bind (times n m) (λ l. end (a ∷ l)) f to ∙ rest a (reading (times n m) f to)
        go (fault k p) = refl

    pub first_read : (a : A) (to : ℕ) → reading m f at ≡ got a to → reading (times (suc n) m) f at ≡ after (a ∷ []) (reading (times n m) f to)
    first_read a to e = once_more ∙ rw e refl

    pub first_refused : (k p : ℕ) → reading m f at ≡ fault k p → reading (times (suc n) m) f at ≡ fault k p
    first_refused k p e = once_more ∙ rw e refl

  -- as many values are read as were asked for
  pub times_count : (m : Form A) (f : List ℕ) (n at : ℕ) (l : List A) (to : ℕ) → reading (times n m) f at ≡ got l to → length l ≡ n
  times_count m f zero at l to e = let d : [] ≡ l = cc in rw (← d) refl
  times_count m f (suc n) at l to e =
      let w = bind_got m (λ a. times n m >>= λ k. end (a ∷ k)) f at l to e in
      let v = bind_got (times n m) (λ k. end (w.value ∷ k)) f w.between l to w.second in
      let d : w.value ∷ v.value ≡ l = cc v.second in
      rw (← d) (ap suc (times_count m f n w.between v.value v.between v.first))

-- it ended there
module _ {B : Type 0} where
  abbrev pub EndsAs : Result ℕ Fault → Read B → Type 0
  EndsAs (Ok to) x = (b : B) × (x ≡ got b to)
  EndsAs (Err e) x = x ≡ fault (refusal_number e.refusal) e.at

ends_after : {B : Type 0} (l : List B) (x : Read (List B)) (r : Result ℕ Fault) → EndsAs r x → EndsAs r (after l x)
ends_after l x (Ok to) h = (l ++ h.0, rw (h.1) refl)
ends_after l x (Err e) h = rw h refl

-- where so many reads ended, the paper's read of so many ended
module _ {A B : Type 0} (P : ℕ → Result (Found A) Fault → Type 0) (g : A → B) (m : Form B) (f : List ℕ)
    (reads : (at : ℕ) (x : Result (Found A) Fault) → P at x → read_as g x ≡ reading m f at) where
  pub skipped_ends : (n at : ℕ) (r : Result ℕ Fault) → Skipped P n at r → EndsAs r (reading (times n m) f at)
  unfolding Skipped
  skipped_ends zero at r h = rw h ([], refl)
  skipped_ends (suc n) at r (Ok y, p, h) =
      rw (first_read m f n at (g y.value) y.next (sym (reads at (Ok y) p)))
      (ends_after (g y.value ∷ []) (reading (times n m) f y.next) r (skipped_ends n y.next r h))
  skipped_ends (suc n) at r (Err e, p, h) = rw h (first_refused m f n at (refusal_number e.refusal) e.at (sym (reads at (Err e) p)))

-- the turns of a loop that makes so many reads
module _ {A : Type 0} (P : ℕ → Result (Found A) Fault → Type 0) (n at : ℕ) where
  -- i of them are made, up to `here`: the rest end as all do
  unfoldable pub SkippedTo : ℕ → ℕ → Type 0
  SkippedTo i here = (r : Result ℕ Fault) → Skipped P (n - i) here r → Skipped P n at r

  pub none_skipped : SkippedTo 0 at
  unfolding SkippedTo
  none_skipped = rw sub-zero (λ r h. h)

  module _ (i here : ℕ) (h : SkippedTo i here) where
    pub all_skipped : n ≤ i → Skipped P n at (Ok here)
    unfolding SkippedTo Skipped
    all_skipped l = let z : n - i ≡ 0 = omega arith in h (Ok here) (rw z refl)

    module _ (l : i < n) where
      one_left : n - i ≡ suc (n - (i + 1))
      one_left = omega arith

      pub skip_refused : (e : Fault) → P here (Err e) → Skipped P n at (Err e)
      unfolding SkippedTo Skipped
      skip_refused e p = h (Err e) (rw one_left (Err e, p, refl))

      pub skip_one : (y : Found A) → P here (Ok y) → SkippedTo (i + 1) y.next
      unfolding SkippedTo Skipped
      skip_one y p r k = h r (rw one_left (Ok y, p, k))
