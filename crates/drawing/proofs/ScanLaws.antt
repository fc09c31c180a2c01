-- Laws of the scan for a ready place: the places from the drawn one on, then, going round, all of them.
use Rattle.std.proofs.Common.{◌≡◌, ℕ, zero, suc, ◌+◌, ◌-◌, ◌<◌, ◌≤◌, Bool, true, false, not, ltb, List, sym, refl, ap, ◌∙◌, add-one, arith, le-ltb, lt-ltb}
use Rattle.base.specs.Choice.{pick, first_of}
use Rattle.layout.specs.Fields.{count_of}
use Rattle.rules.specs.Given.{waits_bytes}
use Rattle.drawing.specs.Draws.{ready_at, ready_from}

-- the first of the numbers from i up to n that passes: one of them looked at
module _ (f : ℕ → Bool) (n i : ℕ) where
  first_on : i < n → f i ≡ false → first_of f (n - i) i ≡ first_of f (n - (i + 1)) (i + 1)
  first_on h e =
      let s : n - i ≡ suc (n - (i + 1)) = omega arith in
      ap (λ (k : ℕ). first_of f k i) s ∙ rw (e, first_of, add-one) refl

  first_here : i < n → f i ≡ true → first_of f (n - i) i ≡ i
  first_here h e =
      let s : n - i ≡ suc (n - (i + 1)) = omega arith in
      ap (λ (k : ℕ). first_of f k i) s ∙ rw (e, first_of) refl

  first_none : n ≤ i → first_of f (n - i) i ≡ i
  first_none h =
      let s : n - i ≡ 0 = omega arith in
      ap (λ (k : ℕ). first_of f k i) s

-- the place to take from a place on: from the next on, from there, and from the first on
module _ (d : List ℕ) (i : ℕ) where
  ready_on : first_of (ready_at d) (count_of d - i) i ≡ first_of (ready_at d) (count_of d - (i + 1)) (i + 1) → ready_from d (i + 1) ≡ ready_from d i
  unfolding ready_from
  ready_on e = ap (λ (a : ℕ). pick (ltb a (count_of d)) a (first_of (ready_at d) (count_of d) 0)) (sym e)

  ready_here : i < count_of d → first_of (ready_at d) (count_of d - i) i ≡ i → ready_from d i ≡ i
  unfolding ready_from
  ready_here h e =
      ap (λ (a : ℕ). pick (ltb a (count_of d)) a (first_of (ready_at d) (count_of d) 0)) e
      ∙ ap (λ (b : Bool). pick b i (first_of (ready_at d) (count_of d) 0)) (lt-ltb i (count_of d) h)

  ready_round : count_of d ≤ i → ready_from d i ≡ first_of (ready_at d) (count_of d - 0) 0
  unfolding ready_from
  ready_round h =
      let z : count_of d ≡ count_of d - 0 = omega arith in
      ap (λ (a : ℕ). pick (ltb a (count_of d)) a (first_of (ready_at d) (count_of d) 0)) (first_none (ready_at d) (count_of d) i h)
      ∙ ap (λ (b : Bool). pick b i (first_of (ready_at d) (count_of d) 0)) (le-ltb i (count_of d) h)
      ∙ ap (λ (n : ℕ). first_of (ready_at d) n 0) z

-- from the first place on there is one scan: of all places, as the second would be
ready_first : (d : List ℕ) → ready_from d 0 ≡ first_of (ready_at d) (count_of d - 0) 0
unfolding ready_from
ready_first d = go (ltb (first_of (ready_at d) (count_of d - 0) 0) (count_of d))
  where
    z : count_of d ≡ count_of d - 0
    z = omega arith

    go : (b : Bool) → pick b (first_of (ready_at d) (count_of d - 0) 0) (first_of (ready_at d) (count_of d) 0) ≡ first_of (ready_at d) (count_of d - 0) 0
    go true = refl
    go false = ap (λ (n : ℕ). first_of (ready_at d) n 0) z

-- what the scan finds from a place on, in round 0 and in round 1
abbrev scanned : List ℕ → ℕ → ℕ → ℕ
scanned d zero i = ready_from d i
scanned d (suc k) i = first_of (ready_at d) (count_of d - i) i

-- what is still to be found from a place on is what was to be found from `from` on
pub record Scan (d : List ℕ) (from round place : ℕ) : Type 0 where
  pub within : place ≤ count_of d
  pub same : scanned d round place ≡ ready_from d from

pub scan_start : (d : List ℕ) (from : ℕ) → from ≤ count_of d → Scan d from 0 from
scan_start d from h = record { within = h; same = refl }

-- the scan that begins at `from`: round 0, or round 1 at once where no place is before `from`
pub scan_first : (d : List ℕ) (from : ℕ) → from ≤ count_of d → Scan d from (1 - from) from
scan_first d zero h = record { within = h; same = sym (ready_first d) }
scan_first d (suc k) h = let z : 1 - suc k ≡ 0 = omega arith in rw z (scan_start d (suc k) h)

module _ (d : List ℕ) (from round place : ℕ) (h : Scan d from round place) (n : ℕ) (c : n ≡ count_of d) where
  module _ (l : place < n) (w : Bool) (e : w ≡ waits_bytes d place) where
    ready : ready_at d place ≡ not w
    unfolding ready_at
    ready = ap not (sym e)

    pub scan_waits : not w ≡ false → Scan d from round (place + 1)
    scan_waits t = record { within = omega arith; same = go round ∙ h.same }
      where
        on : first_of (ready_at d) (count_of d - place) place ≡ first_of (ready_at d) (count_of d - (place + 1)) (place + 1)
        on = first_on (ready_at d) (count_of d) place (omega arith) (ready ∙ t)

        go : (r : ℕ) → scanned d r (place + 1) ≡ scanned d r place
        go zero = ready_on d place on
        go (suc k) = sym on

    pub scan_ready : not w ≡ true → place ≡ ready_from d from
    scan_ready t = sym (go round) ∙ h.same
      where
        here : first_of (ready_at d) (count_of d - place) place ≡ place
        here = first_here (ready_at d) (count_of d) place (omega arith) (ready ∙ t)

        go : (r : ℕ) → scanned d r place ≡ place
        go zero = ready_here d place (omega arith) here
        go (suc k) = here

  module _ (l : n ≤ place) where
    pub scan_round : round ≡ 0 → Scan d from 1 0
    scan_round z =
        record { within = omega arith; same = sym (ready_round d place (omega arith)) ∙ ap (λ (r : ℕ). scanned d r place) (sym z) ∙ h.same }
