-- Every question has an answer with met pairs: the pairs not yet met fall at each new one.
use mathlib.Core.Path.{◌≡◌, refl, subst}
use mathlib.Core.Bool.{Bool, true, false}
use mathlib.Core.List.{List, [], ◌∷◌}
use Prim.Native.Nat.{ℕ, zero, suc, max, min, ◌+◌, ◌≤◌, ◌<◌}
use native.Mathlib.Decide.{ℕ_discrete}
use native.Mathlib.Omega.{arith}
use lib.Dec.{T, eqb}
use lib.ListN.{length}
use Rattle.base.specs.Choice.{pick, upd}
use Rattle.base.specs.Lists.{All, sum}
use Rattle.base.proofs.Tests.{true_T}
use Rattle.base.proofs.Sums.{sum_le, sum_upd}
use Rattle.base.proofs.Changes.{pair_keeps}
use Rattle.paper.specs.Tables.{same_head}
use Rattle.paper.specs.Ends.{End, at_open, at_record, is_met, meeting, Unknowns, same, already, opens, left_open, right_open, differ, records, Parts, over, apart, on}
use Rattle.paper.proofs.SameEnds.{head_count}
use Rattle.paper.proofs.Depth.{LowEnd}

-- the pairs below v that are not in a table
pub unmet : ℕ → (ℕ → ℕ → Bool) → ℕ
unmet v m = sum v (λ x. sum v (λ y. pick (m x y) 0 1))

not_more : (a b : Bool) → (T a → T b) → pick b 0 1 ≤ pick a 0 1
not_more true true h = omega arith
not_more true false h = absurd (h tt)
not_more false true h = omega arith
not_more false false h = omega arith

pub unmet_le : (v : ℕ) (m m' : ℕ → ℕ → Bool) → ((p q : ℕ) → T (m p q) → T (m' p q)) → unmet v m' ≤ unmet v m
unfolding unmet
unmet_le v m m' h =
    sum_le v (λ x. sum v (λ y. pick (m' x y) 0 1)) (λ x. sum v (λ y. pick (m x y) 0 1))
    (λ x. sum_le v (λ y. pick (m' x y) 0 1) (λ y. pick (m x y) 0 1) (λ y. not_more (m x y) (m' x y) (h x y)))

unmet_put : (v : ℕ) (m : ℕ → ℕ → Bool) (x y : ℕ) → x < v → y < v → m x y ≡ false
    → unmet v (upd m x (upd (m x) y true)) + 1 ≡ unmet v m
unfolding unmet
unmet_put v m x y hx hy d =
    let inner : sum v (λ q. pick (upd (m x) y true q) 0 1) + pick (m x y) 0 1 ≡ sum v (λ q. pick (m x q) 0 1) + 0 =
    sum_upd (λ q b. pick b 0 1) (m x) v y true hy in
    omega (arith, sum_upd (λ p f. sum v (λ q. pick (f q) 0 1)) m v x (upd (m x) y true) hx, rw d at inner)

-- "pairs not yet met fall"
pub unmet_falls : (v : ℕ) (m : ℕ → ℕ → Bool) (x y : ℕ) → x < v → y < v → is_met m x y ≡ false
    → unmet v (meeting m x y) + 1 ≡ unmet v m
unmet_falls v m x y hx hy = unmet_put v m (max x y) (min x y) (omega arith) (omega arith)

module _ (e : ℕ → End) where
  -- the table after has what the table before has
  pub met_keeps : {x y : ℕ} {m m' : ℕ → ℕ → Bool} {b : Bool} → Unknowns e x y m b m' → (p q : ℕ) → T (m p q) → T (m' p q)
  met_keeps u =
      elim u as (λ x y m b m' u'. (p q : ℕ) → T (m p q) → T (m' p q))
      (λ ps qs m b m' u'. (p q : ℕ) → T (m p q) → T (m' p q)) [
        | same ↦ λ p q h. h
        | already k ↦ λ p q h. h
        | opens {x} {y} {z} {w} {m} d k c f ↦ pair_keeps m (max x y) (min x y)
        | left_open {x} {y} {z} {q} {m} d k c f ↦ pair_keeps m (max x y) (min x y)
        | right_open {x} {y} {w} {p} {m} d k c f ↦ pair_keeps m (max x y) (min x y)
        | differ {x} {y} {p} {q} {m} d k c f j ↦ pair_keeps m (max x y) (min x y)
        | records {x} {y} {p} {q} {m} d k c f j (ps → ih) ↦ λ a b h. ih a b (pair_keeps m (max x y) (min x y) a b h)
        | over ↦ λ p q h. h
        | apart (u' → ih) ↦ ih
        | on (u' → ih) (us → jh) ↦ λ p q h. jh p q (ih p q h)
      ]

  Answered : ℕ → ℕ → (ℕ → ℕ → Bool) → Type 0
  Answered x y m = (b : Bool) × (m' : ℕ → ℕ → Bool) × Unknowns e x y m b m'

  module _ (v : ℕ) (low : (x : ℕ) → x < v → LowEnd v (e x)) where
    Answers : ℕ → Type 0
    Answers n = (m : ℕ → ℕ → Bool) (x y : ℕ) → x < v → y < v → unmet v m < n → Answered x y m

    parts_answered : (n : ℕ) → Answers n → (ps qs : List ℕ) (m : ℕ → ℕ → Bool) → length ps ≡ length qs → All (λ p. p < v) ps
        → All (λ q. q < v) qs → unmet v m < n → (b : Bool) × (m' : ℕ → ℕ → Bool) × Parts e ps qs m b m'
    unfolding Answers Answered
    parts_answered n an [] [] m l a b u = (true, m, over)
    parts_answered n an [] (q ∷ qs) m l a b u = absurd (let z : ⊥ = omega arith in z)
    parts_answered n an (p ∷ ps) [] m l a b u = absurd (let z : ⊥ = omega arith in z)
    parts_answered n an (p ∷ ps) (q ∷ qs) m l a b u =
        go (an m p q a.0 b.0 u) (λ m' k. parts_answered n an ps qs m' (omega arith) a.1 b.1 (omega arith))
      where
        go : (c : Bool) × (m' : ℕ → ℕ → Bool) × Unknowns e p q m c m'
            → ((m' : ℕ → ℕ → Bool) → unmet v m' ≤ unmet v m → (c : Bool) × (m'' : ℕ → ℕ → Bool) × Parts e ps qs m' c m'')
            → (c : Bool) × (m'' : ℕ → ℕ → Bool) × Parts e (p ∷ ps) (q ∷ qs) m c m''
        go (true, m', one) rest =
            let two = rest m' (unmet_le v m m' (met_keeps one)) in
            (two.0, two.1, on one two.2)
        go (false, m', one) rest = (false, m', apart one)

    by_ends : (n : ℕ) → Answers n → (m : ℕ → ℕ → Bool) (x y : ℕ) → (x ≡ y → ⊥) → is_met m x y ≡ false
        → unmet v (meeting m x y) < n
        → (i : End) → e x ≡ i → LowEnd v i → (j : End) → e y ≡ j → LowEnd v j → Answered x y m
    unfolding Answered
    by_ends n an m x y d k u (at_open z) c hx (at_open w) f hy = (eqb z w, meeting m x y, opens d k c f)
    by_ends n an m x y d k u (at_open z) c hx (at_record q) f hy = (false, meeting m x y, left_open d k c f)
    by_ends n an m x y d k u (at_record p) c hx (at_open w) f hy = (false, meeting m x y, right_open d k c f)
    by_ends n an m x y d k u (at_record p) c hx (at_record q) f hy = go (same_head p q) refl
      where
        go : (b : Bool) → same_head p q ≡ b → (b' : Bool) × (m' : ℕ → ℕ → Bool) × Unknowns e x y m b' m'
        go true j =
            let w = parts_answered n an p.parts q.parts (meeting m x y) (head_count p q (true_T (same_head p q) j)) hx hy u in
            (w.0, w.1, records d k c f j w.2)
        go false j = (false, meeting m x y, differ d k c f j)

    answers : (n : ℕ) → Answers n
    unfolding Answers Answered
    answers zero m x y hx hy u = absurd (let z : ⊥ = omega arith in z)
    answers (suc n) m x y hx hy u = go (ℕ_discrete x y) (is_met m x y) refl (answers n)
      where
        go : Dec (x ≡ y) → (b : Bool) → is_met m x y ≡ b → Answers n → Answered x y m
        go (yes d) b k an = subst (λ (z : ℕ). Answered x z m) d (true, m, same)
        go (no d) true k an = (true, m, already k)
        go (no d) false k an =
            by_ends n an m x y d k (omega (arith, unmet_falls v m x y hx hy k)) (e x) refl (low x hx) (e y) refl (low y hy)

    -- every question about two unknowns has an answer
    pub met_pairs_answer : (x y : ℕ) → x < v → y < v → (b : Bool) × (m : ℕ → ℕ → Bool) × Unknowns e x y (λ p q. false) b m
    unfolding Answers Answered
    met_pairs_answer x y hx hy = answers (suc (unmet v (λ p q. false))) (λ p q. false) x y hx hy (omega arith)
