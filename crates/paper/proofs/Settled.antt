-- Pairs that a run has settled: where each pair of H has led to pairs of H, all of them agree over ends at every depth.
use mathlib.Core.Path.{◌≡◌, subst}
use mathlib.Core.Bool.{true}
use mathlib.Core.Option.{Option, some}
use Prim.Native.Nat.{ℕ, zero, suc, ◌+◌, ◌*◌, ◌<◌}
use native.Mathlib.Omega.{arith}
use lib.Dec.{T}
use Rattle.base.specs.Lists.{Zip}
use Rattle.base.proofs.Tests.{true_T}
use Rattle.base.proofs.Pairs.{zip_pairwise}
use Rattle.paper.specs.Tables.{Table, Record, is_record, record_at, same_head}
use Rattle.paper.specs.Ends.{agree, end_of}
use Rattle.paper.proofs.Ranks.{rank}
use Rattle.paper.proofs.SameEnds.{head_count, ends_in}
use Rattle.paper.proofs.Depth.{agree_refl, agree_sym}
use Rattle.paper.proofs.Chains.{Falls, end_record, end_owner}

-- what the statement a = b has led to: b = a; nothing, a being b; v = b for the owner's entry v of a; its parts' statements
pub data Settled (t : Table) (o : ℕ → Option ℕ) (H : ℕ → ℕ → Type 0) (a b : ℕ) : Type 0 where
  swapped : rank t a < rank t b → H b a → Settled t o H a b
  same : a ≡ b → Settled t o H a b
  dereferenced : {v : ℕ} → o a ≡ some v → rank t b < rank t a → H v b → Settled t o H a b
  decomposed : is_record t a ≡ true → is_record t b ≡ true → same_head (record_at t a) (record_at t b) ≡ true
      → ((p q : ℕ) → Zip (record_at t a).parts (record_at t b).parts p q → H p q) → Settled t o H a b

-- two records with the same symbol and count agree by their parts
pub records_agree : (t : Table) (o : ℕ → Option ℕ) (d a b : ℕ) → is_record t a ≡ true → is_record t b ≡ true
    → same_head (record_at t a) (record_at t b) ≡ true
    → ((p q : ℕ) → Zip (record_at t a).parts (record_at t b).parts p q → T (agree (end_of t o) d p q))
    → T (agree (end_of t o) (suc d) a b)
records_agree t o d a b ha hb e h =
    let p : Record = record_at t a in
    let q : Record = record_at t b in
    let k : T (same_head p q) = true_T (same_head p q) e in
    rw (end_record t o a ha, end_record t o b hb)
    (ends_in p q (agree (end_of t o) d) k (zip_pairwise (agree (end_of t o) d) p.parts q.parts (head_count p q k) h))

module _ (t : Table) (o : ℕ → Option ℕ) (fall : Falls t o) (H : ℕ → ℕ → Type 0) where
  -- falls from a pair to the one that it led to
  level : ℕ → ℕ → ℕ
  level a b = rank t a + 2 * rank t b

  one_deeper : (d : ℕ) → ((p q : ℕ) → H p q → T (agree (end_of t o) d p q)) → (a b : ℕ)
      → ((p q : ℕ) → level p q < level a b → H p q → T (agree (end_of t o) (suc d) p q)) → Settled t o H a b
      → T (agree (end_of t o) (suc d) a b)
  unfolding level
  one_deeper d ih a b jh (swapped l h) = agree_sym (end_of t o) (suc d) b a (jh b a (omega arith) h)
  one_deeper d ih a b jh (same e) = subst (λ (c : ℕ). T (agree (end_of t o) (suc d) a c)) e (agree_refl (end_of t o) (suc d) a)
  one_deeper d ih a b jh (dereferenced {v = v} e l h) = rw (end_owner t o fall a v e) (jh v b (omega (arith, fall a v e)) h)
  one_deeper d ih a b jh (decomposed ha hb e h) = records_agree t o d a b ha hb e (λ p q z. ih p q (h p q z))

  module _ (settled : (a b : ℕ) → H a b → Settled t o H a b) where
    by_level : (d : ℕ) → ((p q : ℕ) → H p q → T (agree (end_of t o) d p q)) → (n a b : ℕ) → level a b < n → H a b
        → T (agree (end_of t o) (suc d) a b)
    by_level d ih zero a b l h = absurd (let z : ⊥ = omega arith in z)
    by_level d ih (suc n) a b l h = one_deeper d ih a b (λ p q k. by_level d ih n p q (omega arith)) (settled a b h)

    -- settled pairs agree over ends at every depth
    pub settled_agree : (d a b : ℕ) → H a b → T (agree (end_of t o) d a b)
    settled_agree zero a b h = tt
    settled_agree (suc d) a b h = by_level d (settled_agree d) (suc (level a b)) a b (omega arith) h
