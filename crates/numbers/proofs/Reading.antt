-- Laws of reading: one for each way out of `number_at` and `ranged_at`, and what a number that was read keeps to.
use Prim.Native.Nat.{ℕ, zero, suc, ◌+◌, ◌-◌, ◌*◌, ◌%◌, ◌≤◌, ◌<◌}
use mathlib.Core.Path.{◌≡◌, refl, sym, ap, ◌∙◌}
use mathlib.Core.Logic.{◌⊎◌, inl, inr, ⊎_elim}
use mathlib.Core.List.{List}
use mathlib.Core.Bool.{Bool, true, false, ◌&&◌}
use lib.ListN.{length, get_or}
use lib.Dec.{ltb, leb}
use native.Mathlib.Nat.{add_assoc, mul-add, mul_assoc, mul-le-mul_left}
use native.Mathlib.Omega.{arith}
use mir.Syntax.{w64}
use mir.Val.{Fits}
use borrow.Author.Tests.{lt-ltb, le-ltb, le-leb, lt-leb, ltb-true, leb-true}
use Rattle.base.specs.Choice.{pick}
use Rattle.base.proofs.Tests.{fst_true, snd_true}
use Rattle.std.specs.Prelude.{Result, Ok, Err, IsErr}
use Rattle.std.proofs.Math.Bool.{and-false}
use Rattle.std.proofs.lemmas.Grind.{get_or_default_zero}
use Rattle.paper.specs.declared.refused.Fault.{Fault}
use Rattle.paper.specs.declared.Found.{Found}
use Rattle.paper.specs.Found.{as_read}
use Rattle.paper.specs.Sizes.{most_groups, top_group, number_limit}
use Rattle.paper.specs.Refusals.{file_ends, bad_number, refusal_number}
use Rattle.paper.specs.Numbers.{Read, got, fault, largest, above, groups_from, number_at, within, ranged_at}
use Rattle.numbers.specs.Told.{read_or_told}
use Rattle.numbers.proofs.Limits.{limit, limit_some, limit_up}

-- the byte that `get` gave, as the group read there
pub byte_there : (s : List ℕ) (here b group : ℕ) → true ≡ ltb here (length s) → b ≡ get_or s here b → group ≡ b → (here < length s) × (group ≡ get_or s here 0)
byte_there s here b group t e g = let h : here < length s = ltb-true _ _ (sym t) in (h, g ∙ e ∙ get_or_default_zero s here b h)

-- what the groups from `at` on come to: at most `left` groups at `at` of a number that starts at `from`
module _ (left top least : ℕ) (s : List ℕ) (from at : ℕ) where
  no_group_left : left ≡ 0 → fault bad_number from ≡ groups_from left top least s from at
  unfolding groups_from
  no_group_left e = rw e refl

  module _ (some : left ≡ 0 → ⊥) where
    one_at_least : left ≡ suc (left - 1)
    one_at_least = omega arith

    file_ends_lem : length s ≤ at → fault file_ends from ≡ groups_from left top least s from at
    unfolding groups_from
    file_ends_lem h = rw one_at_least (simp (le-ltb _ _ h))

    module _ (inside : at < length s) (b : ℕ) (e : b ≡ get_or s at 0) where
      not_shortest : b < 128 → b < least → fault bad_number from ≡ groups_from left top least s from at
      unfolding groups_from
      not_shortest h1 h2 = rw (one_at_least, ← e) (simp (lt-ltb _ _ inside, lt-ltb _ _ h1, lt-leb _ _ h2))

      module _ (most : ℕ) (m : most ≡ largest (left - 1) top) (h1 : b < 128) (h2 : least ≤ b) where
        too_large : most < b → fault bad_number from ≡ groups_from left top least s from at
        unfolding groups_from
        too_large h3 = rw (one_at_least, ← e, ← m) (simp (lt-ltb _ _ inside, lt-ltb _ _ h1, le-leb _ _ h2, lt-leb _ _ h3))

        group_ends : b ≤ most → got b (at + 1) ≡ groups_from left top least s from at
        unfolding groups_from
        group_ends h3 = rw (one_at_least, ← e, ← m) (simp (lt-ltb _ _ inside, lt-ltb _ _ h1, le-leb _ _ h2, le-leb _ _ h3))

      another_follows : 128 ≤ b → (x : Read ℕ) → x ≡ groups_from (left - 1) top 1 s from (at + 1) → above (b % 128) x ≡ groups_from left top least s from at
      unfolding groups_from
      another_follows h x f = rw (one_at_least, ← e, ← f) (simp (lt-ltb _ _ inside, le-ltb _ _ h))

-- what was read is in range, and ends within the input
record Inside (k top : ℕ) (s : List ℕ) (at n next : ℕ) : Type 0 where
  pub small : n < limit k top
  pub past : at < next
  pub ends : next ≤ length s

never : {k p n next : ℕ} {A : Type 0} → ◌≡◌ {A = Read ℕ} (fault k p) (got n next) → A
never e = let z : ◌≡◌ {A = ℕ} 0 1 = cc in absurd (omega arith)

-- what a choice that came out as a number chose
pick_got : (b : Bool) (x : Read ℕ) (k p n next : ℕ) → pick b x (fault k p) ≡ got n next → (b ≡ true) × (x ≡ got n next)
pick_got true x k p n next e = (refl, e)
pick_got false x k p n next e = never e

pick_cases : {A : Type 0} (b : Bool) (x y z : A) → pick b x y ≡ z → ((b ≡ true) × (x ≡ z)) ⊎ ((b ≡ false) × (y ≡ z))
pick_cases true x y z e = inl (refl, e)
pick_cases false x y z e = inr (refl, e)

above_got : (d : ℕ) (x : Read ℕ) (n next : ℕ) → above d x ≡ got n next → (m : ℕ) × (x ≡ got m next) × (n ≡ d + 128 * m)
above_got d (got m p) n next e = (m, cc, (cc))
above_got d (fault k p) n next e = never e

below_limit : (k top b : ℕ) → b < 128 → b ≤ largest k top → b < limit k top
unfolding limit
below_limit zero top b h c = omega arith
below_limit (suc k) top b h c = let p = limit_some k top in omega arith

module _ (top : ℕ) (s : List ℕ) (from : ℕ) where
  -- a read takes a byte, which ends the number or has the rest of it after it
  one_group : (k least at n next : ℕ) → groups_from (suc k) top least s from at ≡ got n next
      → ((m : ℕ) → groups_from k top 1 s from (at + 1) ≡ got m next → n ≡ get_or s at 0 % 128 + 128 * m → Inside k top s at n next)
      → Inside k top s at n next
  unfolding groups_from
  one_group k least at n next e more =
      let p = pick_got (ltb at (length s)) _ file_ends from n next e in
      let h : at < length s = ltb-true _ _ p.0 in
      ⊎_elim (λ q. ended h (ltb-true _ _ q.0) (pick_got (leb least (get_or s at 0) && leb (get_or s at 0) (largest k top)) _ bad_number from n next q.1))
      (λ q. let g = above_got (get_or s at 0 % 128) (groups_from k top 1 s from (at + 1)) n next q.1 in more g.0 g.1 g.2)
      (pick_cases (ltb (get_or s at 0) 128) _ _ _ p.1)
    where
      ended : at < length s → get_or s at 0 < 128
          → ((leb least (get_or s at 0) && leb (get_or s at 0) (largest k top)) ≡ true) × (got (get_or s at 0) (at + 1) ≡ got n next) → Inside k top s at n next
      ended h b g =
          let en : get_or s at 0 ≡ n = cc in
          let ep : at + 1 ≡ next = cc in
          let l = below_limit k top (get_or s at 0) b (leb-true _ _ (snd_true (leb least (get_or s at 0)) _ g.0)) in
          record { small = omega arith; past = omega arith; ends = omega arith }

  groups_inside : (k least at n next : ℕ) → groups_from (suc k) top least s from at ≡ got n next → Inside k top s at n next
  unfolding groups_from limit
  groups_inside zero least at n next e = one_group zero least at n next e (λ m g q. never g)
  groups_inside (suc k) least at n next e =
      one_group (suc k) least at n next e λ m g q.
      let i : Inside k top s (at + 1) m next = groups_inside k 1 (at + 1) m next g in
      record { small = omega arith; past = omega arith; ends = i.ends }

-- groups that were read before what follows: they come to n, and what follows counts `scale` times
abbrev pub joined : ℕ → ℕ → Read ℕ → Read ℕ
joined n scale (got m next) = got (n + scale * m) next
joined n scale (fault k p) = fault k p

-- the loop of `number_at`: the groups before `here` are read
pub record SoFar (s : List ℕ) (at n scale least left here : ℕ) : Type 0 where
  pub same : joined n scale (groups_from left top_group least s at here) ≡ number_at s at
  pub few : left ≤ most_groups
  pub scaled : scale ≡ limit (most_groups - left) 0
  pub below : n < scale

pub none_read : (s : List ℕ) (at : ℕ) → SoFar s at 0 1 0 most_groups at
unfolding number_at limit
none_read s at = record { same = alone (groups_from most_groups top_group 0 s at at); few = omega arith; scaled = refl; below = omega arith }
  where
    alone : (x : Read ℕ) → joined 0 1 x ≡ x
    alone (got m next) = ap (λ (k : ℕ). got k next) (let z : 0 + 1 * m ≡ m = omega arith in z)
    alone (fault k p) = refl

-- a group before what follows joins those before it
joined_above : (n scale d : ℕ) (x : Read ℕ) → joined n scale (above d x) ≡ joined (n + scale * d) (scale * 128) x
joined_above n scale d (got m next) =
    ap (λ (k : ℕ). got k next)
    (ap (λ (k : ℕ). n + k) (mul-add scale d (128 * m) ∙ ap (λ (k : ℕ). scale * d + k) (sym (mul_assoc scale 128 m))) ∙ sym (add_assoc n (scale * d) (scale * 128 * m)))
joined_above n scale d (fault k p) = refl

module _ (s : List ℕ) (at n scale least left here : ℕ) (h : SoFar s at n scale least left here) where
  -- what is read of the rest is what is read of all
  whole_read : (x : Read ℕ) → x ≡ groups_from left top_group least s at here → joined n scale x ≡ number_at s at
  whole_read x e = ap (joined n scale) e ∙ h.same

  pub all_read : left ≤ 0 → fault bad_number at ≡ number_at s at
  all_read l = whole_read (fault bad_number at) (no_group_left left top_group least s at here (omega arith))

  module _ (l : 0 < left) where
    some : left ≡ 0 → ⊥
    some e = omega arith

    pub cut_short : length s ≤ here → fault file_ends at ≡ number_at s at
    cut_short k = whole_read (fault file_ends at) (file_ends_lem left top_group least s at here some k)

    module _ (inside : here < length s) (b : ℕ) (e : b ≡ get_or s here 0) where
      pub longer_than_need : b < 128 → b < least → fault bad_number at ≡ number_at s at
      longer_than_need h1 h2 = whole_read (fault bad_number at) (not_shortest left top_group least s at here some inside b e h1 h2)

      module _ (h1 : b < 128) (h2 : least ≤ b) (most : ℕ) (m : most ≡ largest (left - 1) top_group) where
        pub over_the_limit : most < b → fault bad_number at ≡ number_at s at
        over_the_limit h3 = whole_read (fault bad_number at) (too_large left top_group least s at here some inside b e most m h1 h2 h3)

        pub number_ends : b ≤ most → got (n + scale * b) (here + 1) ≡ number_at s at
        number_ends h3 = whole_read (got b (here + 1)) (group_ends left top_group least s at here some inside b e most m h1 h2 h3)

  -- the products and sums fit into 64 bits
  small_scale : 0 < left → scale ≤ limit 4 0
  small_scale l = let k = limit_up 0 (most_groups - left) 4 (omega arith) in omega (arith, h.scaled)

  module _ (l : 0 < left) (b : ℕ) (k : b < 128) where
    small_product : scale * b ≤ scale * 127
    small_product = mul-le-mul_left scale (let z : b ≤ 127 = omega arith in z)

    pub product_fits : Fits w64 (scale * b)
    unfolding limit
    product_fits = let x = small_scale l in let y = small_product in omega arith

    pub sum_fits : Fits w64 (n + scale * b)
    unfolding limit
    sum_fits = let x = small_scale l in let y = small_product in omega (arith, h.below)

  module _ (l : 0 < left) (b : ℕ) where
    pub group_product_fits : Fits w64 (scale * (b % 128))
    group_product_fits = product_fits l (b % 128) (omega arith)

    pub group_sum_fits : Fits w64 (n + scale * (b % 128))
    group_sum_fits = sum_fits l (b % 128) (omega arith)

  pub scale_fits : 0 < left → Fits w64 (scale * 128)
  unfolding limit
  scale_fits l = let x = small_scale l in omega arith

  pub one_more : (b : ℕ) → 0 < left → here < length s → b ≡ get_or s here 0 → 128 ≤ b
      → SoFar s at (n + scale * (b % 128)) (scale * 128) 1 (left - 1) (here + 1)
  unfolding limit
  one_more b l inside e k =
      let q : most_groups - (left - 1) ≡ suc (most_groups - left) = omega (arith, h.few) in
      let y = small_product l (b % 128) (omega arith) in
      record {
        same = sym (joined_above n scale (b % 128) (groups_from (left - 1) top_group 1 s at (here + 1)))
            ∙ whole_read (above (b % 128) (groups_from (left - 1) top_group 1 s at (here + 1))) (another_follows left top_group least s at here (some l) inside b e k (groups_from (left - 1) top_group 1 s at (here + 1)) refl);
        few = omega (arith, h.few);
        scaled = rw q (omega (arith, h.scaled));
        below = omega (arith, h.below);
      }

-- the ways out of `ranged_at`
module _ (low below j : ℕ) (s : List ℕ) (at : ℕ) where
  pub ranged_refused : (x : Result (Found ℕ) Fault) → IsErr x → as_read x ≡ number_at s at → as_read x ≡ ranged_at low below j s at
  unfolding ranged_at
  ranged_refused (Ok x) h e = cc
  ranged_refused (Err f) h e = rw (← e) refl

  module _ (n next : ℕ) (e : got n next ≡ number_at s at) where
    read_in_range : pick (leb low n && ltb n below) (got n next) (fault j at) ≡ ranged_at low below j s at
    unfolding ranged_at
    read_in_range = rw (← e) refl

    pub ranged_low : n < low → fault j at ≡ ranged_at low below j s at
    ranged_low h = rw (lt-leb _ _ h) at read_in_range

    pub ranged_high : below ≤ n → fault j at ≡ ranged_at low below j s at
    ranged_high h = rw (le-ltb _ _ h, and-false) at read_in_range

    pub ranged_got : low ≤ n → n < below → got n next ≡ ranged_at low below j s at
    ranged_got h1 h2 = rw (le-leb _ _ h1, lt-ltb _ _ h2) at read_in_range

-- what is told of a `Refusal` is what `as_read` says
pub told_as_read : {A : Type 0} (r : Result (Found A) Fault) → read_or_told (λ e. refusal_number e.refusal) (λ e. e.at) r ≡ as_read r
told_as_read (Ok x) = refl
told_as_read (Err e) = refl

-- what callers ask of a number that was read
pub number_next : (s : List ℕ) (at n next : ℕ) → number_at s at ≡ got n next → (at < next) × (next ≤ length s) × (n < number_limit)
unfolding number_at limit
number_next s at n next e = let i = groups_inside top_group s at 4 0 at n next e in (i.past, i.ends, i.small)

within_got : (low below k at : ℕ) (x : Read ℕ) (n next : ℕ) → within low below k at x ≡ got n next → (x ≡ got n next) × (low ≤ n) × (n < below)
within_got low below k at (got m p) n next e =
    let q = pick_got (leb low m && ltb m below) (got m p) k at n next e in
    let en : m ≡ n = cc in
    let l : low ≤ m = leb-true _ _ (fst_true _ _ q.0) in
    let b : m < below = ltb-true _ _ (snd_true (leb low m) _ q.0) in
    (q.1, omega arith, omega arith)
within_got low below k at (fault j p) n next e = never e

pub ranged_next : (low below k : ℕ) (s : List ℕ) (at n next : ℕ) → ranged_at low below k s at ≡ got n next
    → (at < next) × (next ≤ length s) × (low ≤ n) × (n < below)
unfolding ranged_at
ranged_next low below k s at n next e =
    let w = within_got low below k at (number_at s at) n next e in
    let i = number_next s at n next w.0 in
    (i.0, i.1, w.1, w.2)

-- one of them with its premise as it stands in code
pub ranged_below : (low below k : ℕ) (s : List ℕ) (at n next : ℕ) → got n next ≡ ranged_at low below k s at → n < below
ranged_below low below k s at n next e = (ranged_next low below k s at n next (sym e)).3
