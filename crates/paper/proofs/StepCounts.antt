-- The step count and the room: two scales of one potential. At the largest limits: 2,105,728 steps, 12,160 statements and
-- 12,672 items, so that refusal 18 never comes from an accepted file.
use mathlib.Core.Path.{◌≡◌, refl, sym, subst, ◌∙◌}
use mathlib.Core.Bool.{Bool, true, false, ◌&&◌}
use mathlib.Core.List.{List, [], ◌∷◌}
use mathlib.Core.Option.{Option, none, some}
use Prim.Native.Nat.{ℕ, zero, suc, ◌+◌, ◌*◌, ◌-◌, ◌≤◌, ◌<◌}
use native.Mathlib.Nat.{le_refl, mul-le-mul, add-zero, add-suc}
use native.Mathlib.Omega.{arith}
use borrow.Author.Tests.{lt-ltb, le-ltb}
use lib.Dec.{ltb}
use lib.ListN.{length}
use Rattle.base.specs.Choice.{pick}
use Rattle.base.specs.Lists.{total, sum}
use Rattle.base.proofs.Counting.{bit, bit_le}
use Rattle.paper.specs.Sizes.{room}
use Rattle.paper.specs.Refusals.{has_clashed, no_room}
use Rattle.paper.specs.Tables.{Table, is_unknown}
use Rattle.paper.specs.Runs.{Statement, State, Run}
use Rattle.paper.specs.Rules.{Carried}
use Rattle.paper.specs.Steps.{refused, step}
use Rattle.paper.specs.Reached.{FileOk, Reached}
use Rattle.paper.specs.Counts.{pairs_of, most_steps, most_held, is_statement}
use Rattle.paper.specs.declared.Item.{Item}
use Rattle.paper.specs.declared.Item.TheVariants.{Statement as statement, Ask as ask, News as news}
use Rattle.paper.proofs.Ranks.{rank, rank_unknown, rank_le}
use Rattle.paper.proofs.StepIsRule.{full_exactly}
use Rattle.paper.proofs.Refusals.{clashed_exactly}
use Rattle.paper.proofs.Soundness.{reached_sound}
use Rattle.paper.proofs.Potential.{Scale, weigh, potential, items_le, most, spent, spent_more}

-- V (V - 1) / 2 is the sum of the numbers below V
twice : (v : ℕ) → 2 * sum v (λ x. x) + v ≡ v * v
twice zero = refl
twice (suc n) = omega (arith, twice n)

pub pairs_sum : (v : ℕ) → sum v (λ x. x) ≡ pairs_of v
pairs_sum zero = refl
pairs_sum (suc n) =
    let one : suc n - 1 ≡ n = omega arith in
    rw one (omega (arith, twice (suc n), twice n))

-- k where a side is a record
module _ (t : Table) (k : ℕ) where
  heavy : ℕ → ℕ → ℕ
  heavy a b = pick (is_unknown t a && is_unknown t b) 0 k

  heavy_unknowns : (a b : ℕ) → a < t.unknowns → b < t.unknowns → heavy a b ≡ 0
  unfolding heavy
  heavy_unknowns a b h h' = rw (lt-ltb a t.unknowns h, lt-ltb b t.unknowns h')

  heavy_record : (a b : ℕ) → t.unknowns ≤ b → heavy a b ≡ k
  unfolding heavy
  heavy_record a b h = rw (le-ltb b t.unknowns h) (go (is_unknown t a))
    where
      go : (p : Bool) → pick (p && false) 0 k ≡ k
      go true = refl
      go false = refl

  heavy_le : (a b : ℕ) → heavy a b ≤ k
  unfolding heavy
  heavy_le a b = go (is_unknown t a && is_unknown t b)
    where
      go : (p : Bool) → pick p 0 k ≤ k
      go true = omega arith
      go false = omega arith

  heavy_turned : (a b : ℕ) → heavy a b ≡ heavy b a
  unfolding heavy
  heavy_turned a b = go (is_unknown t a) (is_unknown t b)
    where
      go : (p q : Bool) → pick (p && q) 0 k ≡ pick (q && p) 0 k
      go true true = refl
      go true false = refl
      go false true = refl
      go false false = refl

bit_one : (a b : ℕ) → a < b → bit (ltb a b) ≡ 1
bit_one a b h = rw (lt-ltb a b h)

bit_none : (a b : ℕ) → b ≤ a → bit (ltb a b) ≡ 0
bit_none a b h = rw (le-ltb a b h)

module _ (t : Table) where
  unit : ℕ
  unit = 4 * t.unknowns + 2

  -- a statement's steps
  cost : ℕ → ℕ → ℕ
  cost a b = 2 * (rank t a + rank t b) + bit (ltb (rank t a) (rank t b)) + 1 + heavy t (4 * unit) a b

  step_scale : Scale t
  unfolding cost unit
  step_scale =
      record {
        fee = 1;
        statement_w = cost;
        ask_w = 1;
        news_w = 1;
        mark_w = 2;
        pair_w = 4 * unit;
        owner_w = t.cabinets;
        part_w = unit;
        base = λ a b. omega arith;
        turned = λ a b h. omega (arith, bit_one (rank t a) (rank t b) h, bit_none (rank t b) (rank t a) (omega arith), heavy_turned t (4 * unit) a b);
        followed = λ a b v ha hb h. omega (arith, heavy_le t (4 * unit) v b, bit_le (ltb (rank t v) (rank t b)));
        followed_record = λ a b v hb h. omega (arith, heavy_record t (4 * unit) a b hb, heavy_le t (4 * unit) v b, bit_le (ltb (rank t v) (rank t b)));
        parted = λ p q hp hq. omega (arith, heavy_unknowns t (4 * unit) p q hp hq, bit_le (ltb (rank t p) (rank t q)), rank_unknown t p hp, rank_unknown t q hq);
        split = λ a b ha hb. omega (arith, heavy_record t (4 * unit) a b hb);
        asked = omega arith;
        won = omega arith;
        lost = omega arith;
        arrived = omega arith;
      }

  cost_le : (a b : ℕ) → step_scale.statement_w a b ≤ 5 * unit
  unfolding step_scale unit cost
  cost_le a b = omega (arith, heavy_le t (4 * unit) a b, bit_le (ltb (rank t a) (rank t b)), rank_le t a, rank_le t b)

  -- what a statement may become: four for one with a record, one for another
  load : ℕ → ℕ → ℕ
  load a b = 1 + heavy t 3 a b

  -- k is 0 to count statements, 1 to count all items
  load_scale : ℕ → Scale t
  unfolding load
  load_scale k =
      record {
        fee = 0;
        statement_w = load;
        ask_w = k;
        news_w = k;
        mark_w = k;
        pair_w = 3;
        owner_w = t.cabinets * k;
        part_w = 1;
        base = λ a b. omega arith;
        turned = λ a b h. omega (arith, heavy_turned t 3 a b);
        followed = λ a b v ha hb h. omega (arith, heavy_le t 3 v b);
        followed_record = λ a b v hb h. omega (arith, heavy_record t 3 a b hb, heavy_le t 3 v b);
        parted = λ p q hp hq. omega (arith, heavy_unknowns t 3 p q hp hq);
        split = λ a b ha hb. omega (arith, heavy_record t 3 a b hb);
        asked = omega arith;
        won = omega arith;
        lost = omega arith;
        arrived = omega arith;
      }

  load_le : (k a b : ℕ) → (load_scale k).statement_w a b ≤ 4
  unfolding load_scale load
  load_le k a b = omega (arith, heavy_le t 3 a b)

  -- 1 for a statement, k for another item
  abbrev counted : ℕ → Item → ℕ
  counted k (statement c a b) = 1
  counted k (ask c x u) = k
  counted k (news c x u) = k

  counted_le : (k : ℕ) (l : List Item) → total (counted k) l ≤ total (weigh t (load_scale k)) l
  unfolding load_scale load
  counted_le k [] = omega arith
  counted_le k (statement c a b ∷ l) = omega (arith, counted_le k l)
  counted_le k (ask c a b ∷ l) = omega (arith, counted_le k l)
  counted_le k (news c a b ∷ l) = omega (arith, counted_le k l)

  statements_counted : (l : List Item) → total (counted 0) l ≡ total is_statement l
  statements_counted [] = refl
  statements_counted (statement c a b ∷ l) = omega (arith, statements_counted l)
  statements_counted (ask c a b ∷ l) = omega (arith, statements_counted l)
  statements_counted (news c a b ∷ l) = omega (arith, statements_counted l)

  all_counted : (l : List Item) → total (counted 1) l ≡ length l
  all_counted [] = refl
  all_counted (statement c a b ∷ l) = omega (arith, all_counted l)
  all_counted (ask c a b ∷ l) = omega (arith, all_counted l)
  all_counted (news c a b ∷ l) = omega (arith, all_counted l)

module _ (t : Table) (qs : List Statement) (ok : FileOk t qs) where
  -- "no run from an accepted file takes more than (5E + 4SP)(4V + 2) + 3VS steps"
  pub step_count : {n : ℕ} {r : Run} → Reached t qs n r → n ≤ most_steps t.cabinets t.unknowns (length qs)
  unfolding most step_scale unit
  step_count {n} h =
      subst (λ (p : ℕ). n ≤ (5 * length qs + 4 * t.cabinets * p) * (4 * t.unknowns + 2) + 3 * t.unknowns * t.cabinets)
      (pairs_sum t.unknowns) (omega (arith, spent t (step_scale t) (5 * unit t) (cost_le t) qs ok h))

  -- "nor holds more than 4E + 3SP statements"
  pub statements_held : {n : ℕ} {r : Run} → Reached t qs n r → total is_statement r.pending ≤ most_held t.cabinets t.unknowns (length qs)
  unfolding most load_scale
  statements_held {n} {r} h =
      subst (λ (p : ℕ). total is_statement r.pending ≤ 4 * length qs + 3 * t.cabinets * p) (pairs_sum t.unknowns)
      (omega (arith, spent t (load_scale t 0) 4 (load_le t 0) qs ok h, counted_le t 0 r.pending, statements_counted t r.pending, items_le t (load_scale t 0) r.state r.pending))

  -- items in all, where the potential is at most that of the file
  items_most : (σ : State) (l : List Item) → potential t (load_scale t 1) σ l ≤ most t (load_scale t 1) 4 (load_le t 1) qs ok
      → length l ≤ most_held t.cabinets t.unknowns (length qs) + 2 * t.unknowns * t.cabinets
  unfolding most load_scale
  items_most σ l h =
      subst (λ (p : ℕ). length l ≤ 4 * length qs + 3 * t.cabinets * p + 2 * t.unknowns * t.cabinets) (pairs_sum t.unknowns)
      (omega (arith, h, counted_le t 1 l, all_counted t l, items_le t (load_scale t 1) σ l))

-- at the largest limits
sum_up : (n k : ℕ) → sum n (λ x. x) ≤ sum (n + k) (λ x. x)
sum_up n zero = subst (λ (m : ℕ). sum n (λ x. x) ≤ sum m (λ x. x)) (sym (add-zero n)) (le_refl (sum n (λ x. x)))
sum_up n (suc k) = subst (λ (m : ℕ). sum n (λ x. x) ≤ sum m (λ x. x)) (sym (add-suc n k)) (omega (arith, sum_up n k))

pairs_largest : (v : ℕ) → v ≤ 32 → pairs_of v ≤ 496
pairs_largest v h =
    subst (λ (p : ℕ). p ≤ 496) (pairs_sum v)
    (subst (λ (m : ℕ). sum v (λ x. x) ≤ sum m (λ x. x)) (up v h) (sum_up v (32 - v)))
  where
    up : (m : ℕ) → m ≤ 32 → m + (32 - m) ≡ 32
    up m l = omega arith

-- S P and V S at the largest limits
cabinet_pairs : (s v : ℕ) → s ≤ 8 → v ≤ 32 → s * pairs_of v ≤ 3968
cabinet_pairs s v hs hv = mul-le-mul hs (pairs_largest v hv)

cabinet_unknowns : (s v : ℕ) → s ≤ 8 → v ≤ 32 → v * s ≤ 256
cabinet_unknowns s v hs hv = mul-le-mul hv hs

module _ (t : Table) (qs : List Statement) (ok : FileOk t qs) where
  p : ℕ
  p = pairs_of t.unknowns

  sp : t.cabinets * p ≤ 3968
  unfolding p
  sp = cabinet_pairs t.cabinets t.unknowns ok.table.cabinets ok.table.unknowns

  vs : t.unknowns * t.cabinets ≤ 256
  vs = cabinet_unknowns t.cabinets t.unknowns ok.table.cabinets ok.table.unknowns

  -- "At the largest limits this is 2,105,728 steps."
  pub step_count_largest : {n : ℕ} {r : Run} → Reached t qs n r → n ≤ 2105728
  unfolding p
  step_count_largest {n} h =
      let first : 5 * length qs + 4 * t.cabinets * p ≤ 16192 = omega (arith, ok.count, sp) in
      let second : 4 * t.unknowns + 2 ≤ 130 = omega (arith, ok.table.unknowns) in
      omega (arith, step_count t qs ok h, mul-le-mul first second, vs)

  pub statements_held_largest : {n : ℕ} {r : Run} → Reached t qs n r → total is_statement r.pending ≤ 12160
  unfolding p
  statements_held_largest {n} {r} h = omega (arith, statements_held t qs ok h, ok.count, sp)

  within_room : (l : List Item) → length l ≤ most_held t.cabinets t.unknowns (length qs) + 2 * t.unknowns * t.cabinets
      → length l ≤ room
  unfolding p
  within_room l h = omega (arith, h, ok.count, sp, vs)

  -- the 12,672 items for which there is room are never passed, whatever rule is carried out next
  pub rule_fits : {n : ℕ} {r : Run} → Reached t qs n r → r.state.clash ≡ none → (i k : ℕ) (r' : Run) → Carried t r i k r'
      → length r'.pending ≤ room
  unfolding load_scale
  rule_fits {n} {r} h free i k r' v =
      within_room r'.pending
      (items_most t qs ok r'.state r'.pending
      (omega (arith, spent_more t (load_scale t 1) 4 (load_le t 1) qs ok h (reached_sound t qs ok h) free i k r' v)))

  -- "So 18 comes only from runs made by hand."
  pub never_full : {n : ℕ} {r : Run} → Reached t qs n r → (i : ℕ) → step t r i ≡ refused no_room → ⊥
  never_full {n} {r} h i e = go r.state.clash refl
    where
      go : (o : Option ℕ) → r.state.clash ≡ o → ⊥
      go none free =
          let w = (full_exactly t r (reached_sound t qs ok h) free i).0 e in
          omega (arith, w.3, rule_fits h free i w.0 w.1 w.2)
      go (some c) d =
          let f : refused has_clashed ≡ refused no_room = sym ((clashed_exactly t r i).1 (c, d)) ∙ e in
          let z : has_clashed ≡ no_room = cc in
          omega arith
