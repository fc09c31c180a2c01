-- Met pairs: "a pair already met in answering one question is not compared again and no depth is counted; the answer is still
-- that of depth V".
use mathlib.Core.Path.{◌≡◌, sym, subst, subst₂}
use mathlib.Core.Logic.{◌⊎◌, inl, inr, ⊎_elim}
use mathlib.Core.Bool.{Bool, false, ◌||◌}
use Prim.Native.Nat.{ℕ, zero, suc, max, min, ◌<◌}
use native.Mathlib.Decide.{ℕ_discrete}
use native.Mathlib.Omega.{arith}
use lib.Dec.{T, eqb, eqb→eq, eqb_refl}
use Rattle.base.specs.Lists.{pairwise}
use Rattle.base.proofs.Tests.{fst_T, snd_T, and_T, or_left, or_right, or_T, T?, t_same, true_T, false_T, eqb_flip}
use Rattle.base.proofs.Changes.{pair_keeps, pair_here, pair_only}
use Rattle.paper.specs.Tables.{same_head}
use Rattle.paper.specs.Ends.{End, same_ends, agree, is_met, meeting, Unknowns, same, already, opens, left_open, right_open, differ, records, over, apart, on}
use Rattle.paper.proofs.SameEnds.{ends_in, ends_head, ends_parts, ends_mono, ends_flip}
use Rattle.paper.proofs.Depth.{LowEnd, agree_refl, depth_V_is_every_depth}

-- met, or one unknown twice
known : (ℕ → ℕ → Bool) → ℕ → ℕ → Bool
known m p q = eqb p q || is_met m p q

-- the table after has the pairs of the table before
Keeps : (ℕ → ℕ → Bool) → (ℕ → ℕ → Bool) → Type 0
Keeps m m' = (p q : ℕ) → T (is_met m p q) → T (is_met m' p q)

known_keeps : (m m' : ℕ → ℕ → Bool) → Keeps m m' → (p q : ℕ) → T (known m p q) → T (known m' p q)
unfolding known Keeps
known_keeps m m' k p q h =
    ⊎_elim (λ j. or_left (eqb p q) (is_met m' p q) j) (λ j. or_right (eqb p q) (is_met m' p q) (k p q j))
    (or_T (eqb p q) (is_met m p q) h)

-- a pair is met either way round
met_flip : (m : ℕ → ℕ → Bool) (p q : ℕ) → T (is_met m p q) → T (is_met m q p)
met_flip m p q h =
    let d : max p q ≡ max q p = omega arith in
    let e : min p q ≡ min q p = omega arith in
    subst₂ (λ (a b : ℕ). T (m a b)) d e h

known_flip : (m : ℕ → ℕ → Bool) (p q : ℕ) → T (known m p q) → T (known m q p)
unfolding known
known_flip m p q h =
    ⊎_elim (λ j. or_left (eqb q p) (is_met m q p) (eqb_flip p q j)) (λ j. or_right (eqb q p) (is_met m q p) (met_flip m p q j))
    (or_T (eqb p q) (is_met m p q) h)

meeting_only : (m : ℕ → ℕ → Bool) (x y p q : ℕ) → T (is_met (meeting m x y) p q)
    → T (is_met m p q) ⊎ (((p ≡ x) × (q ≡ y)) ⊎ ((p ≡ y) × (q ≡ x)))
meeting_only m x y p q h =
    ⊎_elim (λ j. inl j) (λ j. inr (go j.0 j.1 (ℕ_discrete p x)))
    (pair_only m (max x y) (min x y) (max p q) (min p q) h)
  where
    go : max p q ≡ max x y → min p q ≡ min x y → Dec (p ≡ x) → ((p ≡ x) × (q ≡ y)) ⊎ ((p ≡ y) × (q ≡ x))
    go d e (yes a) = inl (omega arith)
    go d e (no a) = inr (omega arith)

module _ (e : ℕ → End) where
  -- the table after: no pair is lost, and each new one holds by the pairs in it
  record Grown (m m' : ℕ → ℕ → Bool) : Type 0 where
    keeps : Keeps m m'
    closed : (p q : ℕ) → T (is_met m' p q) → T (is_met m p q) ⊎ T (same_ends (known m') (e p) (e q))

  unchanged : (m : ℕ → ℕ → Bool) → Grown m m
  unfolding Keeps
  unchanged m = record { keeps = λ p q h. h; closed = λ p q h. inl h }

  further : {m m' m'' : ℕ → ℕ → Bool} → Grown m m' → Grown m' m'' → Grown m m''
  unfolding Keeps
  further {m} {m'} {m''} g h =
      record {
        keeps = λ p q k. h.keeps p q (g.keeps p q k);
        closed = λ p q k.
            ⊎_elim
            (λ k'.
            ⊎_elim (λ j. inl j)
            (λ j. inr (ends_mono (known m') (known m'') (known_keeps m' m'' h.keeps) (e p) (e q) j)) (g.closed p q k'))
            (λ k'. inr k') (h.closed p q k);
      }

  -- a pair met whose ends compare well in the table after
  met_grown : (m m' : ℕ → ℕ → Bool) (x y : ℕ) → Grown (meeting m x y) m' → T (same_ends (known m') (e x) (e y))
      → Grown m m' × T (known m' x y)
  unfolding Keeps known
  met_grown m m' x y g s = (
    record {
      keeps = λ p q h. g.keeps p q (pair_keeps m (max x y) (min x y) (max p q) (min p q) h);
      closed = λ p q h.
          ⊎_elim (λ h'. ⊎_elim (λ j. inl j) (λ j. inr (here p q j)) (meeting_only m x y p q h')) (λ h'. inr h') (g.closed p q h);
    },
    or_right (eqb x y) (is_met m' x y) (g.keeps x y (pair_here m (max x y) (min x y))),
  )
    where
      here : (p q : ℕ) → ((p ≡ x) × (q ≡ y)) ⊎ ((p ≡ y) × (q ≡ x)) → T (same_ends (known m') (e p) (e q))
      here p q (inl (c, d)) = subst₂ (λ (a b : ℕ). T (same_ends (known m') (e a) (e b))) (sym c) (sym d) s
      here p q (inr (c, d)) =
          subst₂ (λ (a b : ℕ). T (same_ends (known m') (e a) (e b))) (sym c) (sym d)
          (ends_flip (known m') (known m') (known_flip m') (e x) (e y) s)

  -- yes: the table after has the pair
  unknowns_yes : {x y : ℕ} {m m' : ℕ → ℕ → Bool} {b : Bool} → Unknowns e x y m b m' → T b → Grown m m' × T (known m' x y)
  unfolding known
  unknowns_yes u =
      elim u as (λ x y m b m' u'. T b → Grown m m' × T (known m' x y))
      (λ ps qs m b m' u'. T b → Grown m m' × T (pairwise (known m') ps qs)) [
        | same {x} {m} ↦ λ h. (unchanged m, or_left (eqb x x) (is_met m x x) (eqb_refl x))
        | already {x} {y} {m} k ↦ λ h. (unchanged m, or_right (eqb x y) (is_met m x y) (true_T (is_met m x y) k))
        | opens {x} {y} {z} {w} {m} d k c f ↦ λ h. met_grown m (meeting m x y) x y (unchanged (meeting m x y)) (rw (c, f) h)
        | left_open d k c f ↦ λ h. absurd h
        | right_open d k c f ↦ λ h. absurd h
        | differ d k c f j ↦ λ h. absurd h
        | records {x} {y} {p} {q} {m} {m'} d k c f j (ps → ih) ↦ λ h.
            met_grown m m' x y (ih h).0 (rw (c, f) (ends_in p q (known m') (true_T (same_head p q) j) (ih h).1))
        | over {m} ↦ λ h. (unchanged m, tt)
        | apart u' ↦ λ h. absurd h
        | on {p} {q} {ps} {qs} {m} {m'} {m''} (u' → ih) (us → jh) ↦ λ h. (
          further (ih tt).0 (jh h).0,
          and_T (known m'' p q) (pairwise (known m'') ps qs) (known_keeps m' m'' (jh h).0.keeps p q (ih tt).1) (jh h).1,
        )
      ]

  -- no: agreement fails at some depth
  unknowns_no : {x y : ℕ} {m m' : ℕ → ℕ → Bool} {b : Bool} → Unknowns e x y m b m' → (T b → ⊥)
      → (d : ℕ) × (T (agree e d x y) → ⊥)
  unknowns_no u =
      elim u as (λ x y m b m' u'. (T b → ⊥) → (d : ℕ) × (T (agree e d x y) → ⊥))
      (λ ps qs m b m' u'. (T b → ⊥) → (d : ℕ) × (T (pairwise (agree e d) ps qs) → ⊥)) [
        | same ↦ λ n. absurd (n tt)
        | already k ↦ λ n. absurd (n tt)
        | opens d k c f ↦ λ n. (1, λ h. n (rw (c, f) at h))
        | left_open d k c f ↦ λ n. (1, λ h. rw (c, f) at h)
        | right_open d k c f ↦ λ n. (1, λ h. rw (c, f) at h)
        | differ {p = p} {q = q} d k c f j ↦ λ n. (1, λ h. false_T (same_head p q) j (ends_head p q (agree e 0) (rw (c, f) at h)))
        | records {p = p} {q = q} d k c f j (ps → ih) ↦ λ n.
            (suc (ih n).0, λ h. (ih n).1 (ends_parts p q (agree e (ih n).0) (rw (c, f) at h)))
        | over ↦ λ n. absurd (n tt)
        | apart {p} {q} {ps} {qs} (u' → ih) ↦ λ n.
            ((ih n).0, λ h. (ih n).1 (fst_T (agree e (ih n).0 p q) (pairwise (agree e (ih n).0) ps qs) h))
        | on {p} {q} {ps} {qs} u' (us → jh) ↦ λ n.
            ((jh n).0, λ h. (jh n).1 (snd_T (agree e (jh n).0 p q) (pairwise (agree e (jh n).0) ps qs) h))
      ]

  -- pairs that hold by one another agree to every depth
  bisimulation : (m : ℕ → ℕ → Bool) → ((p q : ℕ) → T (is_met m p q) → T (same_ends (known m) (e p) (e q))) → (d x y : ℕ)
      → T (known m x y) → T (agree e d x y)
  unfolding known
  bisimulation m h zero x y k = tt
  bisimulation m h (suc d) x y k =
      ⊎_elim (λ j. subst (λ (z : ℕ). T (agree e (suc d) x z)) (eqb→eq x y j) (agree_refl e (suc d) x))
      (λ j. ends_mono (known m) (agree e d) (bisimulation m h d) (e x) (e y) (h x y j))
      (or_T (eqb x y) (is_met m x y) k)

  -- with met pairs, from the empty table, and no depth counted, the answer is that of depth V
  pub met_pairs_answer_depth_V : (v : ℕ) → ((x : ℕ) → x < v → LowEnd v (e x)) → {x y : ℕ} {b : Bool} {m : ℕ → ℕ → Bool}
      → Unknowns e x y (λ p q. false) b m → x < v → y < v → b ≡ agree e v x y
  met_pairs_answer_depth_V v low {x} {y} {b} {m} u hx hy =
      t_same b (agree e v x y) yes_agrees
      (λ h. ⊎_elim (λ k. k) (λ n. absurd (no_agrees h (unknowns_no u n))) (T? b))
    where
      yes_agrees : T b → T (agree e v x y)
      yes_agrees h =
          let g = unknowns_yes u h in
          bisimulation m (λ p q k. ⊎_elim (λ j. absurd j) (λ j. j) (g.0.closed p q k)) v x y g.1

      no_agrees : T (agree e v x y) → (d : ℕ) × (T (agree e d x y) → ⊥) → ⊥
      no_agrees h w = w.1 (depth_V_is_every_depth e v low x y hx hy h w.0)
