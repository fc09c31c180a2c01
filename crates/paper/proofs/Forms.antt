-- Laws of reading a form: what it accepts are the bytes that spell a value of the form, and only those.
use mathlib.Core.Path.{◌≡◌, refl, sym, subst, ap, ap₂, ◌∙◌}
use mathlib.Core.List.{List, [], ◌∷◌, ◌++◌, append_assoc, append-nil}
use Prim.Native.Nat.{ℕ, zero, suc, ◌+◌, ◌≤◌, ◌<◌}
use native.Mathlib.Omega.{arith}
use lib.ListN.{length, drop, length-append}
use Rattle.base.specs.Lists.{All, Bytes}
use Rattle.base.proofs.Positions.{append_after, drop_past}
use Rattle.paper.specs.Sizes.{number_limit}
use Rattle.paper.specs.Numbers.{Read, got, fault, ranged_at, number_bytes}
use Rattle.paper.specs.Files.{Form, end, next, ◌>>=◌, number, times, onward, reading, each}
use Rattle.paper.proofs.NumberCodec.{fault_got, number_there, number_back, Ranged, inside, ranged, ranged_is}

module _ {A B : Type 0} where
  -- a reading, and then what its value leads to
  abbrev pub and_then : Read A → (A → ℕ → Read B) → Read B
  and_then (got a at) f = f a at
  and_then (fault k p) f = fault k p

  -- one form and then another is read one after the other
  pub reading_bind : (m : Form A) (f : A → Form B) (s : List ℕ) (at : ℕ)
      → reading (m >>= f) s at ≡ and_then (reading m s at) (λ a to. reading (f a) s to)
  reading_bind (end a) f s at = refl
  reading_bind (next low below k g) f s at = go (ranged_at low below k s at) (λ n to. reading_bind (g n) f s to)
    where
      go : (x : Read ℕ)
          → ((n to : ℕ) → reading (g n >>= f) s to ≡ and_then (reading (g n) s to) (λ a to'. reading (f a) s to'))
          → onward x (λ n to. reading (g n >>= f) s to)
          ≡ and_then (onward x (λ n to. reading (g n) s to)) (λ a to. reading (f a) s to)
      go (got n to) ih = ih n to
      go (fault j p) ih = refl

-- the bytes spell a value of the form: its numbers, each in its range, one after the other
pub data Spells {A : Type 0} : Form A → List ℕ → A → Type 0 where
  done : {a : A} → Spells (end a) [] a
  more : {low below k : ℕ} {g : ℕ → Form A} {b : List ℕ} {a : A} (n : ℕ) {c : List ℕ} → low ≤ n → n < below → n < number_limit
      → Spells (g n) c a → b ≡ number_bytes n ++ c → Spells (next low below k g) b a

-- the same for a number that may be 0
pub number_spells : {A : Type 0} {below k : ℕ} {g : ℕ → Form A} {b : List ℕ} {a : A} (n : ℕ) {c : List ℕ} → n < below → n < number_limit
    → Spells (g n) c a → b ≡ number_bytes n ++ c → Spells (next 0 below k g) b a
number_spells n h w i e = more {low = 0} n (omega arith) h w i e

-- bytes that spell a value of a form that starts with a number: the number, and what follows
pub record Opened {A : Type 0} (low below : ℕ) (g : ℕ → Form A) (b : List ℕ) (a : A) : Type 0 where
  pub value : ℕ
  pub rest : List ℕ
  pub least : low ≤ value
  pub most : value < below
  pub small : value < number_limit
  pub goes_on : Spells (g value) rest a
  pub bytes : b ≡ number_bytes value ++ rest

module _ {A : Type 0} where
  -- the first number of what is spelt, and nothing where nothing is to be read
  pub spells_next : {low below k : ℕ} {g : ℕ → Form A} {b : List ℕ} {a : A} → Spells (next low below k g) b a → Opened low below g b a
  spells_next (more n {c} l h w i e) =
      record { value = n; rest = c; least = l; most = h; small = w; goes_on = i; bytes = e }

  pub spells_end : {x : A} {b : List ℕ} {a : A} → Spells (end x) b a → (b ≡ []) × (x ≡ a)
  spells_end done = (refl, refl)

-- what stands at a position where a value of a form was read
pub record FormRead {A : Type 0} (m : Form A) (s : List ℕ) (at : ℕ) (a : A) (to : ℕ) : Type 0 where
  pub part : List ℕ
  pub spells : Spells m part a
  pub bytes : drop at s ≡ part ++ drop to s
  pub ends : to ≡ at + length part

module _ {A : Type 0} (s : List ℕ) where
  -- bytes that spell a value are read as it
  pub spelt_read : {m : Form A} {b : List ℕ} {a : A} → Spells m b a → (at : ℕ) (r : List ℕ) → drop at s ≡ b ++ r
      → reading m s at ≡ got a (at + length b)
  spelt_read (done {a}) at r e = ap (got a) (omega arith)
  spelt_read (more {low} {below} {k} {g} {a = a} n {c} l h w i d) at r e =
      let e' : drop at s ≡ number_bytes n ++ (c ++ r) = rw (d, append_assoc) at e in
      rw (ranged_is low below k s at (inside (number_there s at n (c ++ r) w e') l h))
      (spelt_read i (at + length (number_bytes n)) r (drop_past s at (number_bytes n) (c ++ r) e')
      ∙ ap (got a) (omega (arith, ap length d, length-append (number_bytes n) c)))

  -- and what is read is spelt by the bytes read
  pub read_spelt : Bytes s → (m : Form A) (at : ℕ) (a : A) (to : ℕ) → reading m s at ≡ got a to → FormRead m s at a to
  read_spelt y (end x) at a to e =
      let v : x ≡ a = cc in
      let o : at ≡ to = cc in
      record { part = []; spells = subst (Spells (end x) []) v done; bytes = ap (λ (p : ℕ). drop p s) o; ends = omega arith }
  read_spelt y (next low below k g) at a to e =
      go (ranged_at low below k s at) (λ n t d. read_spelt y (g n) t a to d) (ranged low below k s at (ranged_at low below k s at) refl) e
    where
      go : (x : Read ℕ) → ((n t : ℕ) → reading (g n) s t ≡ got a to → FormRead (g n) s t a to) → Ranged low below k s at x
          → onward x (λ n t. reading (g n) s t) ≡ got a to → FormRead (next low below k g) s at a to
      go (got n t) ih (inside d l h) e =
          let w = number_back s at n t y d in
          let i = ih n t e in
          record {
            part = number_bytes n ++ i.part;
            spells = more n l h w.small i.spells refl;
            bytes = rw append_assoc (w.bytes ∙ append_after (number_bytes n) i.bytes);
            ends = omega (arith, w.ends, i.ends, length-append (number_bytes n) i.part);
          }
      go (fault j p) ih v e = absurd (fault_got e)

module _ {A B : Type 0} where
  -- bytes that spell a value of one form and then another: where they part
  pub record Parted (m : Form A) (f : A → Form B) (b : List ℕ) (v : B) : Type 0 where
    pub value : A
    pub first : List ℕ
    pub second : List ℕ
    pub spells : Spells m first value
    pub goes_on : Spells (f value) second v
    pub bytes : b ≡ first ++ second

  -- one spelt after the other is spelt by their bytes together
  pub bind_spells : {m : Form A} (f : A → Form B) {b c : List ℕ} {a : A} {v : B} → Spells m b a → Spells (f a) c v
      → Spells (m >>= f) (b ++ c) v
  bind_spells f done j = j
  bind_spells f {c = c} (more n {c = d} l h w i e) j =
      more n l h w (bind_spells f i j) (ap (λ (r : List ℕ). r ++ c) e ∙ append_assoc (number_bytes n) d c)

  -- and what spells one and then the other parts into the two
  pub spells_bind : (m : Form A) (f : A → Form B) {b : List ℕ} {v : B} → Spells (m >>= f) b v → Parted m f b v
  spells_bind (end a) f {b} j = record { value = a; first = []; second = b; spells = done; goes_on = j; bytes = refl }
  spells_bind (next low below k g) f (more n l h w j e) =
      let i = spells_bind (g n) f j in
      record {
        value = i.value;
        first = number_bytes n ++ i.first;
        second = i.second;
        spells = more n l h w i.spells refl;
        goes_on = i.goes_on;
        bytes = rw append_assoc (e ∙ append_after (number_bytes n) i.bytes);
      }

  -- bytes that spell what is made of a value of a form
  pub record Made (m : Form A) (f : A → B) (b : List ℕ) (v : B) : Type 0 where
    pub value : A
    pub spells : Spells m b value
    pub is : f value ≡ v

  -- what is made of a value is spelt as that value, and nothing else spells it
  pub made_spells : {m : Form A} (f : A → B) {b : List ℕ} {a : A} → Spells m b a → Spells (m >>= λ x. end (f x)) b (f a)
  made_spells f done = done
  made_spells f (more n l h w i e) = more n l h w (made_spells f i) e

  pub spells_made : (m : Form A) (f : A → B) {b : List ℕ} {v : B} → Spells (m >>= λ x. end (f x)) b v → Made m f b v
  spells_made (end a) f done = record { value = a; spells = done; is = refl }
  spells_made (next low below k g) f (more n l h w j e) =
      let i = spells_made (g n) f j in
      record { value = i.value; spells = more n l h w i.spells e; is = i.is }

-- the values of a form are those with Ok, and w writes each
pub record Codec {A : Type 0} (m : Form A) (w : A → List ℕ) (Ok : A → Type 0) : Type 0 where
  pub there : (a : A) → Ok a → Spells m (w a) a
  pub back : {b : List ℕ} {a : A} → Spells m b a → (b ≡ w a) × Ok a

module _ {A : Type 0} {m : Form A} {w : A → List ℕ} {Ok : A → Type 0} (c : Codec m w Ok) (s : List ℕ) (at : ℕ) (a : A) where
  -- what is written is read as the same
  pub codec_there : (r : List ℕ) → Ok a → drop at s ≡ w a ++ r → reading m s at ≡ got a (at + length (w a))
  codec_there r h e = spelt_read s (c.there a h) at r e

  -- what stands at a position where a value was read
  pub record CodecRead (to : ℕ) : Type 0 where
    pub bytes : drop at s ≡ w a ++ drop to s
    pub ends : to ≡ at + length (w a)
    pub ok : Ok a

  -- what is read is written as the same
  pub codec_back : (to : ℕ) → Bytes s → reading m s at ≡ got a to → CodecRead to
  codec_back to y e =
      let i = read_spelt s y m at a to e in
      let j = c.back i.spells in
      record { bytes = rw (← j.0) i.bytes; ends = rw (← j.0) i.ends; ok = j.1 }

-- a number below a limit
pub number_codec : (below k : ℕ) → below ≤ number_limit → Codec (number 0 below k) number_bytes (λ n. n < below)
number_codec below k l = record { there = there; back = back }
  where
    there : (n : ℕ) → n < below → Spells (number 0 below k) (number_bytes n) n
    there n h = number_spells n h (omega arith) done (sym (append-nil (number_bytes n)))

    back : {b : List ℕ} {n : ℕ} → Spells (number 0 below k) b n → (b ≡ number_bytes n) × (n < below)
    back {b} j =
        let i = spells_next j in
        let e = spells_end i.goes_on in
        subst (λ (n : ℕ). (b ≡ number_bytes n) × (n < below)) e.1
        (i.bytes ∙ append_after (number_bytes i.value) e.0 ∙ append-nil (number_bytes i.value), i.most)

-- a form so many times: a list of that length
module _ {A : Type 0} {m : Form A} {w : A → List ℕ} {Ok : A → Type 0} (c : Codec m w Ok) where
  times_there : (l : List A) → All Ok l → Spells (times (length l) m) (each w l) l
  times_there [] h = done
  times_there (a ∷ l) h =
      bind_spells (λ x. times (length l) m >>= λ k. end (x ∷ k)) (c.there a h.0) (made_spells (λ k. a ∷ k) (times_there l h.1))

  times_back : (n : ℕ) {b : List ℕ} {l : List A} → Spells (times n m) b l → (b ≡ each w l) × ((length l ≡ n) × All Ok l)
  times_back zero done = (refl, (refl, tt))
  times_back (suc n) {b} {l} j =
      let p = spells_bind m (λ a. times n m >>= λ k. end (a ∷ k)) j in
      let q = spells_made (times n m) (λ k. p.value ∷ k) p.goes_on in
      let x = c.back p.spells in
      let y = times_back n q.spells in
      subst (λ (k : List A). (b ≡ each w k) × ((length k ≡ suc n) × All Ok k)) q.is
      (p.bytes ∙ ap₂ ◌++◌ x.0 y.0, (ap suc y.1.0, (x.1, y.1.1)))

  pub times_codec : (n : ℕ) → Codec (times n m) (each w) (λ l. (length l ≡ n) × All Ok l)
  times_codec n =
      record {
        there = λ l h. subst (λ (k : ℕ). Spells (times k m) (each w l) l) h.0 (times_there l h.1);
        back = times_back n;
      }
