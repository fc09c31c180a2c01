-- A number written and read is the number, and bytes read as a number and written are the bytes.
use mathlib.Core.Path.{◌≡◌, refl, sym, subst, ap, ◌∙◌}
use mathlib.Core.Logic.{◌⊎◌, inl, inr}
use mathlib.Core.Bool.{Bool, true, false, ◌&&◌, and-false}
use mathlib.Core.List.{List, [], ◌∷◌, ◌++◌}
use Prim.Native.Nat.{ℕ, zero, suc, ◌+◌, ◌*◌, ◌/◌, ◌%◌, ◌≤◌, ◌<◌}
use native.Mathlib.Omega.{arith}
use borrow.Author.Tests.{ltb-true, ltb-false, leb-true, leb-false, lt-ltb, le-ltb, le-leb, lt-leb}
use lib.Dec.{ltb, leb}
use lib.ListN.{length, get_or, drop}
use Rattle.base.specs.Choice.{pick}
use Rattle.base.specs.Lists.{Bytes}
use Rattle.base.proofs.Tests.{fst_true, snd_true}
use Rattle.base.proofs.Positions.{element_at, drop_at_element}
use Rattle.paper.specs.Sizes.{most_groups, top_group, number_limit}
use Rattle.paper.specs.Refusals.{file_ends, bad_number}
use Rattle.paper.specs.Numbers.{Read, got, fault, largest, above, groups_from, number_at, within, ranged_at, groups_of, number_bytes}

-- what k groups hold, with a last group of at most `top`
abbrev pub limit : ℕ → ℕ → ℕ
limit zero top = 0
limit (suc zero) top = suc top
limit (suc (suc k)) top = 128 * limit (suc k) top

-- at least one number
limit_pos : (k top : ℕ) → 1 ≤ limit (suc k) top
limit_pos zero top = omega arith
limit_pos (suc k) top = omega (arith, limit_pos k top)

-- one step of reading, by what stands there: no byte, an ending group that is fit or not, or a group that another follows
pub data Group (k top least : ℕ) (s : List ℕ) (from at : ℕ) : Read ℕ → Type 0 where
  cut : length s ≤ at → Group k top least s from at (fault file_ends from)
  unfit : at < length s → get_or s at 0 < 128 → Group k top least s from at (fault bad_number from)
  last : at < length s → get_or s at 0 < 128 → least ≤ get_or s at 0 → get_or s at 0 ≤ largest k top
      → Group k top least s from at (got (get_or s at 0) (at + 1))
  first : at < length s → 128 ≤ get_or s at 0 → (x : Read ℕ) → groups_from k top 1 s from (at + 1) ≡ x
      → Group k top least s from at (above (get_or s at 0 % 128) x)

module _ (k top least : ℕ) (s : List ℕ) (from at : ℕ) where
  -- it is one of these
  pub group : Group k top least s from at (groups_from (suc k) top least s from at)
  unfolding groups_from
  group = go (ltb at (length s)) refl (ltb b 128) refl (leb least b && leb b (largest k top)) refl
    where
      b : ℕ
      b = get_or s at 0

      go : (p : Bool) → ltb at (length s) ≡ p → (q : Bool) → ltb b 128 ≡ q
          → (c : Bool) → (leb least b && leb b (largest k top)) ≡ c
          → Group k top least s from at
          (pick p (pick q (pick c (got b (at + 1)) (fault bad_number from)) (above (b % 128) (groups_from k top 1 s from (at + 1))))
          (fault file_ends from))
      go false h q d c e = cut (ltb-false at (length s) h)
      go true h true d false e = unfit (ltb-true at (length s) h) (ltb-true b 128 d)
      go true h true d true e =
          last (ltb-true at (length s) h) (ltb-true b 128 d) (leb-true least b (fst_true (leb least b) (leb b (largest k top)) e))
          (leb-true b (largest k top) (snd_true (leb least b) (leb b (largest k top)) e))
      go true h false d c e = first (ltb-true at (length s) h) (ltb-false b 128 d) (groups_from k top 1 s from (at + 1)) refl

  -- an ending group that is fit is the number, and one that another follows goes in front of it
  group_ends : (b : ℕ) → at < length s → get_or s at 0 ≡ b → b < 128 → least ≤ b → b ≤ largest k top
      → groups_from (suc k) top least s from at ≡ got b (at + 1)
  unfolding groups_from
  group_ends b h e l m n = rw (e, lt-ltb at (length s) h, lt-ltb b 128 l, le-leb least b m, le-leb b (largest k top) n)

  pub group_goes_on : (b : ℕ) → at < length s → get_or s at 0 ≡ b → 128 ≤ b
      → groups_from (suc k) top least s from at ≡ above (b % 128) (groups_from k top 1 s from (at + 1))
  unfolding groups_from
  group_goes_on b h e l = rw (e, lt-ltb at (length s) h, le-ltb b 128 l)

-- the same number and the same end
same_got : {m n p q : ℕ} → m ≡ n → p ≡ q → got m p ≡ got n q
same_got e d = rw (e, d)

-- a number written in at most k groups is read as that number, up to where it ends
pub groups_there : (k top least : ℕ) (s : List ℕ) (from at n : ℕ) (r : List ℕ) → top < 128 → n < limit k top → least ≤ n
    → drop at s ≡ groups_of k n ++ r → groups_from k top least s from at ≡ got n (at + length (groups_of k n))
groups_there zero top least s from at n r t h l e = absurd (let z : ⊥ = omega arith in z)
groups_there (suc zero) top least s from at n r t h l e =
    let i = element_at s at 0 e in
    group_ends zero top least s from at n i.below i.is (omega arith) l (omega arith)
groups_there (suc (suc k)) top least s from at n r t h l e =
    go (ltb n 128) refl e (λ m d. groups_there (suc k) top 1 s from (at + 1) (n / 128) r t (omega arith) (omega arith) d)
  where
    go : (b : Bool) → ltb n 128 ≡ b → drop at s ≡ pick b (n ∷ []) ((128 + n % 128) ∷ groups_of (suc k) (n / 128)) ++ r
        → (128 ≤ n → drop (at + 1) s ≡ groups_of (suc k) (n / 128) ++ r
        → groups_from (suc k) top 1 s from (at + 1) ≡ got (n / 128) (at + 1 + length (groups_of (suc k) (n / 128))))
        → groups_from (suc (suc k)) top least s from at
        ≡ got n (at + length (pick b (n ∷ []) ((128 + n % 128) ∷ groups_of (suc k) (n / 128))))
    go true d e ih =
        let i = element_at s at 0 e in
        let m = ltb-true n 128 d in
        group_ends (suc k) top least s from at n i.below i.is m l (omega arith)
    go false d e ih =
        let i = element_at s at 0 e in
        let m = ltb-false n 128 d in
        rw (group_goes_on (suc k) top least s from at (128 + n % 128) i.below i.is (omega arith), ih m i.after)
        (same_got (omega arith) (omega arith))

-- what stands at a position where a number of at most k groups was read
pub record GroupsRead (k top least : ℕ) (s : List ℕ) (at n next : ℕ) : Type 0 where
  pub bytes : drop at s ≡ groups_of k n ++ drop next s
  pub ends : next ≡ at + length (groups_of k n)
  pub inside : next ≤ length s
  pub small : n < limit k top
  pub shortest : least ≤ n

-- the groups of a number: one below 128, else the lowest and then the rest
one_group : (k n : ℕ) → n < 128 → groups_of (suc k) n ≡ n ∷ []
one_group zero n h = refl
one_group (suc k) n h = rw (lt-ltb n 128 h)

one_group_small : (k top n : ℕ) → n < 128 → n ≤ largest k top → n < limit (suc k) top
one_group_small zero top n h l = omega arith
one_group_small (suc k) top n h l = omega (arith, limit_pos k top)

more_groups : (k n : ℕ) → 128 ≤ n → groups_of (suc (suc k)) n ≡ (128 + n % 128) ∷ groups_of (suc k) (n / 128)
more_groups k n h = rw (le-ltb n 128 h)

-- what is refused is not read
pub fault_got : {A : Type 0} {a : A} {k p at : ℕ} → fault k p ≡ got a at → ⊥
fault_got e = let z : ◌≡◌ {A = ℕ} 0 1 = cc in omega arith

-- bytes read as a number of at most k groups are those of that number
pub groups_back : (k top least : ℕ) (s : List ℕ) (from at n next : ℕ) → least ≤ 128 → Bytes s
    → groups_from k top least s from at ≡ got n next → GroupsRead k top least s at n next
unfolding groups_from
groups_back zero top least s from at n next l a e = absurd (fault_got e)
groups_back (suc k) top least s from at n next l a e =
    go (groups_from (suc k) top least s from at) (group k top least s from at) e
    (λ m d. groups_back k top 1 s from (at + 1) m next (omega arith) a d)
  where
    b : ℕ
    b = get_or s at 0

    ends_here : at < length s → b < 128 → least ≤ b → b ≤ largest k top → GroupsRead (suc k) top least s at b (at + 1)
    ends_here h d m t =
        record {
          bytes = rw (one_group k b d) (drop_at_element s at 0 h);
          ends = rw (one_group k b d);
          inside = omega arith;
          small = one_group_small k top b d t;
          shortest = m;
        }

    goes_on : (k m : ℕ) → at < length s → 128 ≤ b → b % 128 + 128 * m ≡ n → GroupsRead k top 1 s (at + 1) m next
        → GroupsRead (suc k) top least s at n next
    goes_on zero m h d v i = absurd (let z : ⊥ = omega (arith, i.small) in z)
    goes_on (suc k) m h d v i =
        let low : b < 256 = a at in
        let pos : 1 ≤ m = i.shortest in
        let top : n / 128 ≡ m = omega arith in
        let rem : 128 + n % 128 ≡ b = omega arith in
        let big : 128 ≤ n = omega arith in
        record {
          bytes = rw (more_groups k n big, rem, top) (drop_at_element s at 0 h ∙ ap (λ (r : List ℕ). b ∷ r) i.bytes);
          ends = rw (more_groups k n big, top) (omega (arith, i.ends));
          inside = i.inside;
          small = omega (arith, i.small);
          shortest = omega arith;
        }

    go : (x : Read ℕ) → Group k top least s from at x → x ≡ got n next
        → ((m : ℕ) → groups_from k top 1 s from (at + 1) ≡ got m next → GroupsRead k top 1 s (at + 1) m next)
        → GroupsRead (suc k) top least s at n next
    go x (cut h) e ih = absurd (fault_got e)
    go x (unfit h d) e ih = absurd (fault_got e)
    go x (last h d m t) e ih =
        let v : b ≡ n = cc in
        let o : at + 1 ≡ next = cc in
        subst (λ (w : ℕ). GroupsRead (suc k) top least s at w next) v
        (subst (GroupsRead (suc k) top least s at b) o (ends_here h d m t))
    go x (first h d (fault j p) r) e ih = absurd (fault_got e)
    go x (first h d (got m to) r) e ih =
        let v : b % 128 + 128 * m ≡ n = cc in
        let o : to ≡ next = cc in
        goes_on k m h d v (ih m (r ∙ ap (got m) o))

-- a refused number is refused with 1 or 2, and with the position where it starts
groups_refused : (k top least : ℕ) (s : List ℕ) (from at : ℕ) {j p : ℕ} → groups_from k top least s from at ≡ fault j p
    → (p ≡ from) × ((j ≡ file_ends) ⊎ (j ≡ bad_number))
unfolding groups_from
groups_refused zero top least s from at e = (cc, inr cc)
groups_refused (suc k) top least s from at {j} {p} e =
    go (groups_from (suc k) top least s from at) (group k top least s from at) e (λ d. groups_refused k top 1 s from (at + 1) d)
  where
    go : (x : Read ℕ) → Group k top least s from at x → x ≡ fault j p
        → (groups_from k top 1 s from (at + 1) ≡ fault j p → (p ≡ from) × ((j ≡ file_ends) ⊎ (j ≡ bad_number)))
        → (p ≡ from) × ((j ≡ file_ends) ⊎ (j ≡ bad_number))
    go x (cut h) e ih = (cc, inl cc)
    go x (unfit h d) e ih = (cc, inr cc)
    go x (last h d m t) e ih = absurd (fault_got (sym e))
    go x (first h d (got m to) r) e ih = absurd (fault_got (sym e))
    go x (first h d (fault i q) r) e ih = ih (r ∙ e)

module _ (s : List ℕ) (at : ℕ) {j p : ℕ} (e : number_at s at ≡ fault j p) where
  -- "the position where the faulty number starts"
  pub number_refused_at : p ≡ at
  unfolding number_at
  number_refused_at = (groups_refused most_groups top_group 0 s at at e).0

  pub number_refusals : (j ≡ file_ends) ⊎ (j ≡ bad_number)
  unfolding number_at
  number_refusals = (groups_refused most_groups top_group 0 s at at e).1

-- a number of at most 4,294,967,295 written is read as that number
pub number_there : (s : List ℕ) (at n : ℕ) (r : List ℕ) → n < number_limit → drop at s ≡ number_bytes n ++ r
    → number_at s at ≡ got n (at + length (number_bytes n))
unfolding number_at number_bytes
number_there s at n r h e = groups_there most_groups top_group 0 s at at n r (omega arith) h (omega arith) e

-- what stands at a position where a number was read
pub record NumberRead (s : List ℕ) (at n next : ℕ) : Type 0 where
  pub bytes : drop at s ≡ number_bytes n ++ drop next s
  pub ends : next ≡ at + length (number_bytes n)
  pub inside : next ≤ length s
  pub small : n < number_limit

-- bytes read as a number are those of that number
pub number_back : (s : List ℕ) (at n next : ℕ) → Bytes s → number_at s at ≡ got n next → NumberRead s at n next
unfolding number_at number_bytes
number_back s at n next a e =
    let w = groups_back most_groups top_group 0 s at at n next (omega arith) a e in
    record { bytes = w.bytes; ends = w.ends; inside = w.inside; small = w.small }

-- a number is at least one group and at most k
groups_some : (k n : ℕ) → 1 ≤ length (groups_of (suc k) n)
groups_some zero n = omega arith
groups_some (suc k) n = go (ltb n 128)
  where
    go : (b : Bool) → 1 ≤ length (pick b (n ∷ []) ((128 + n % 128) ∷ groups_of (suc k) (n / 128)))
    go true = omega arith
    go false = omega arith

groups_most : (k n : ℕ) → length (groups_of k n) ≤ k
groups_most zero n = omega arith
groups_most (suc zero) n = omega arith
groups_most (suc (suc k)) n = go (ltb n 128) (groups_most (suc k) (n / 128))
  where
    go : (b : Bool) → length (groups_of (suc k) (n / 128)) ≤ suc k
        → length (pick b (n ∷ []) ((128 + n % 128) ∷ groups_of (suc k) (n / 128))) ≤ suc (suc k)
    go true h = omega arith
    go false h = omega arith

-- "A number is 1 to 5 groups", and one where it is below 128
module _ (n : ℕ) where
  pub number_some : 1 ≤ length (number_bytes n)
  unfolding number_bytes
  number_some = groups_some 4 n

  pub number_most : length (number_bytes n) ≤ most_groups
  unfolding number_bytes
  number_most = groups_most most_groups n

  pub number_one : n < 128 → length (number_bytes n) ≡ 1
  unfolding number_bytes
  number_one h = ap length (one_group 4 n h)

-- "Each number's range is tested as soon as it is read": what a number with a range can be
pub data Ranged (low below k : ℕ) (s : List ℕ) (at : ℕ) : Read ℕ → Type 0 where
  inside : {n to : ℕ} → number_at s at ≡ got n to → low ≤ n → n < below → Ranged low below k s at (got n to)
  outside : {n to : ℕ} → number_at s at ≡ got n to → (n < low) ⊎ (below ≤ n) → Ranged low below k s at (fault k at)
  malformed : {j : ℕ} → number_at s at ≡ fault j at → Ranged low below k s at (fault j at)

module _ (low below k : ℕ) (s : List ℕ) (at : ℕ) where
  -- a number with a range is read as one of these
  pub ranged : (x : Read ℕ) → ranged_at low below k s at ≡ x → Ranged low below k s at x
  unfolding ranged_at
  ranged x e = subst (Ranged low below k s at) e (go (number_at s at) refl)
    where
      tested : (n to : ℕ) → number_at s at ≡ got n to → (p q : Bool) → leb low n ≡ p → ltb n below ≡ q
          → Ranged low below k s at (pick (p && q) (got n to) (fault k at))
      tested n to e true true d c = inside e (leb-true low n d) (ltb-true n below c)
      tested n to e true false d c = outside e (inr (ltb-false n below c))
      tested n to e false q d c = outside e (inl (leb-false low n d))

      go : (y : Read ℕ) → number_at s at ≡ y → Ranged low below k s at (within low below k at y)
      go (got n to) e = tested n to e (leb low n) (ltb n below) refl refl
      go (fault j p) e =
          let o : p ≡ at = number_refused_at s at e in
          subst (λ (q : ℕ). Ranged low below k s at (fault j q)) (sym o) (malformed (e ∙ ap (fault j) o))

  -- and each of these is how it is read
  pub ranged_is : {x : Read ℕ} → Ranged low below k s at x → ranged_at low below k s at ≡ x
  unfolding ranged_at
  ranged_is (inside {n} {to} e l h) = rw (e, le-leb low n l, lt-ltb n below h)
  ranged_is (outside {n} {to} e (inl h)) = rw (e, lt-leb low n h)
  ranged_is (outside {n} {to} e (inr h)) = rw (e, le-ltb n below h, and-false)
  ranged_is (malformed e) = rw e
