-- Soundness is kept by every accepted step of any sound run, and so holds of every run reached from an accepted file.
use mathlib.Core.Path.{◌≡◌, refl, sym, subst}
use mathlib.Core.Bool.{Bool, true, false}
use mathlib.Core.List.{List, [], ◌∷◌, ◌++◌, map}
use mathlib.Core.Option.{none, some}
use Prim.Native.Nat.{ℕ, zero, suc, ◌+◌, ◌≤◌, ◌<◌}
use native.Mathlib.Omega.{arith}
use lib.Dec.{lit<}
use lib.ListN.{length, length-map, get_elem?}
use Rattle.base.specs.Choice.{pick, upd}
use Rattle.base.specs.Lists.{without, All}
use Rattle.base.proofs.Changes.{upd_all}
use Rattle.base.proofs.Elements.{all_append, all_without, all_at, all_get_d}
use Rattle.paper.specs.Sizes.{room}
use Rattle.paper.specs.Tables.{Table, RecordOk, TableOk, is_unknown, record_at, no_record, less}
use Rattle.paper.specs.Runs.{Mark, initiated, entry, Statement, State, Run, as_item, initial, Lesser, ItemOk, OwnerOk, MarkOk, MemoOk, StateOk, Sound}
use Rattle.paper.specs.Rules.{with_mark, with_pair, add, part_statements, news_to, Rule, interchange, memo, dereference, identify, conflict, decompose, initiate, win, lose, arrive, Carried}
use Rattle.paper.specs.Steps.{done, step}
use Rattle.paper.specs.Reached.{StatementOk, FileOk, Reached, loaded, stepped}
use Rattle.paper.specs.declared.Item.{Item}
use Rattle.paper.proofs.Ranks.{rank_unknown, rank_pos, less_rank, unknown_is}
use Rattle.paper.proofs.StepIsRule.{done_is_rule}
use Rattle.paper.proofs.Refusals.{unclashed}

pub record_ok : (t : Table) → TableOk t → (a : ℕ) → RecordOk t.unknowns (record_at t a)
record_ok t k a =
    all_get_d (RecordOk t.unknowns) t.records _ no_record (record { symbol = lit< tt; count = omega arith; parts = tt }) k.records

-- x is an unknown where something is less than it
pub less_unknown : (t : Table) (u x : ℕ) → less t u x ≡ true → x < t.unknowns
less_unknown t u x l = rank_pos t x (omega (arith, less_rank t u x l))

module _ (t : Table) where
  parts_ok : (c : ℕ) → c < t.cabinets → (ps qs : List ℕ) → All (λ p. p < t.unknowns) ps → All (λ p. p < t.unknowns) qs
      → All (ItemOk t) (part_statements c ps qs)
  parts_ok c h [] qs a b = tt
  parts_ok c h (p ∷ ps) [] a b = tt
  parts_ok c h (p ∷ ps) (q ∷ qs) a b = ((h, omega (arith, a.0), omega (arith, b.0)), parts_ok c h ps qs a.1 b.1)

  news_ok : (c k x u : ℕ) → c + k ≤ t.cabinets → Lesser t u x → All (ItemOk t) (news_to c k x u)
  news_ok c zero x u h l = tt
  news_ok c (suc k) x u h l = ((omega arith, l), news_ok (suc c) k x u (omega arith) l)

  module _ (σ : State) (s : StateOk t σ) where
    marked_ok : (c x : ℕ) (m : Mark) → MarkOk t c x m → StateOk t (with_mark σ c x m)
    marked_ok c x m h =
        record {
          clash = s.clash;
          owner = s.owner;
          store =
              upd_all (λ d f. (y : ℕ) → MarkOk t d y (f y)) σ.store c (upd (σ.store c) x m) s.store
              (upd_all (MarkOk t c) (σ.store c) x m (s.store c) h);
          memo = s.memo;
        }

    paired_ok : (c x y : ℕ) → MemoOk t c x y true → StateOk t (with_pair σ c x y)
    paired_ok c x y h =
        record {
          clash = s.clash;
          owner = s.owner;
          store = s.store;
          memo =
              upd_all (λ d f. (z w : ℕ) → MemoOk t d z w (f z w)) σ.memo c (upd (σ.memo c) x (upd (σ.memo c x) y true)) s.memo
              (upd_all (λ z f. (w : ℕ) → MemoOk t c z w (f w)) (σ.memo c) x (upd (σ.memo c x) y true) (s.memo c)
              (upd_all (MemoOk t c x) (σ.memo c x) y true (s.memo c x) h));
        }

    added_ok : (c x u : ℕ) → c < t.cabinets → less t u x ≡ true → StateOk t (add t σ c x u)
    added_ok c x u hc l = go (is_unknown t u) refl
      where
        go : (b : Bool) → is_unknown t u ≡ b → StateOk t (pick b (with_pair σ c x u) σ)
        go true e =
            let hx : x < t.unknowns = less_unknown t u x l in
            paired_ok c x u (hc, hx, omega (arith, less_rank t u x l, rank_unknown t x hx, rank_unknown t u (unknown_is t u e)))
        go false e = s

  pub store_entry : (σ : State) → StateOk t σ → (c x v : ℕ) → σ.store c x ≡ entry v → (c < t.cabinets) × Lesser t v x
  store_entry σ s c x v e = subst (MarkOk t c x) e (s.store c x)

  -- what a rule makes of a sound state and item is sound
  pub rule_sound : TableOk t → {k : ℕ} {j : Item} {σ : State} {ps : List Item} {σ' : State} → StateOk t σ → ItemOk t j
      → Rule t k j σ ps σ' → StateOk t σ' × All (ItemOk t) ps
  rule_sound g s i (interchange l) = (s, ((i.0, i.2, i.1), tt))
  rule_sound g s i (memo l e h) = (s, tt)
  rule_sound g s i (dereference {c = c} {x = x} {u = u} {v = v} {σ = σ} l e h) =
      (added_ok σ s c x u i.0 l, ((i.0, (store_entry σ s c x v e).1.entry, i.2), tt))
  rule_sound g s i (identify h) = (s, tt)
  rule_sound g s i (conflict ha hb e) = (record { clash = i.0; owner = s.owner; store = s.store; memo = s.memo }, tt)
  rule_sound g s i (decompose {c = c} {a = a} {b = b} ha hb e) =
      (s, parts_ok c i.0 (record_at t a).parts (record_at t b).parts (record_ok t g a).parts (record_ok t g b).parts)
  rule_sound g s i (initiate {c = c} {x = x} {u = u} {σ = σ} l e) = (
    marked_ok σ s c x initiated (i.0, less_unknown t u x l),
    ((i.0, record { is = l; entry = i.2 }), (i, tt)),
  )
  rule_sound g s i (win {x = x} {u = u} {σ = σ} e) = (
    record {
      clash = s.clash;
      owner = upd_all (OwnerOk t) σ.owner x (some u) s.owner i.1;
      store = s.store;
      memo = s.memo;
    },
    news_ok 0 t.cabinets x u (omega arith) i.1,
  )
  rule_sound g s i (lose e) = (s, tt)
  rule_sound g s i (arrive {c = c} {x = x} {u = u} {σ = σ}) = (marked_ok σ s c x (entry u) i, tt)

-- the item at a place of a sound run
pub item_ok : (t : Table) (r : Run) → Sound t r → (i : ℕ) (j : Item) → get_elem? r.pending i ≡ some j → ItemOk t j
item_ok t r s i j e = all_at (ItemOk t) r.pending i j e s.items

-- Soundness is kept by every accepted step of any sound run.
pub soundness_kept : (t : Table) (r : Run) → Sound t r → (i k : ℕ) (r' : Run) → step t r i ≡ done k r' → Sound t r'
soundness_kept t r s i k r' e =
    let w = done_is_rule t r s (unclashed t r i k r' e) i k r' e in
    let v = w.0 in
    let h = rule_sound t s.table s.state (item_ok t r s i v.item v.place) v.rule in
    let left : List Item = without r.pending i in
    let fits : length (left ++ v.products) ≤ room = subst (λ (q : Run). length q.pending ≤ room) v.run w.1 in
    subst (Sound t) (sym v.run)
    (record {
      table = s.table;
      statements = s.statements;
      state = h.0;
      items = all_append (ItemOk t) left v.products (all_without (ItemOk t) r.pending i s.items) h.1;
      fits = fits;
    })

statements_ok : (t : Table) (qs : List Statement) → All (StatementOk t) qs → All (ItemOk t) (map as_item qs)
statements_ok t [] a = tt
statements_ok t (q ∷ qs) a = ((a.0.cabinet, a.0.left, a.0.right), statements_ok t qs a.1)

-- What loading leaves is sound.
pub loaded_sound : (t : Table) (qs : List Statement) → FileOk t qs → Sound t (initial qs)
unfolding initial
loaded_sound t qs k =
    record {
      table = k.table;
      statements = k.count;
      state = record { clash = tt; owner = λ x. tt; store = λ c x. tt; memo = λ c x y. tt };
      items = statements_ok t qs k.statements;
      fits = omega (arith, length-map qs as_item, k.count);
    }

pub reached_sound : (t : Table) (qs : List Statement) → FileOk t qs → {n : ℕ} {r : Run} → Reached t qs n r → Sound t r
reached_sound t qs k loaded = loaded_sound t qs k
reached_sound t qs k (stepped {r = r} h i n {r' = r'} e) = soundness_kept t r (reached_sound t qs k h) i n r' e

-- What holds of the loaded run, whatever item is brought to the front, and is kept by each rule, holds of every reached run,
-- with the number of its steps.
module _ {ℓ} (t : Table) (qs : List Statement) (ok : FileOk t qs) (P : ℕ → State → List Item → Type ℓ)
    (start : P 0 (initial qs).state (initial qs).pending)
    (front : (n : ℕ) (σ : State) (l : List Item) (i : ℕ) (j : Item) → get_elem? l i ≡ some j → P n σ l → P n σ (j ∷ without l i))
    (kept : (n : ℕ) (σ : State) → StateOk t σ → σ.clash ≡ none → (j : Item) → ItemOk t j → (m : List Item) (k : ℕ)
    (ps : List Item) (σ' : State) → Rule t k j σ ps σ' → P n σ (j ∷ m) → P (suc n) σ' (m ++ ps)) where
  -- one rule more
  pub carried_keeps : (n : ℕ) (r : Run) → Sound t r → r.state.clash ≡ none → (i k : ℕ) (r' : Run) → Carried t r i k r'
      → P n r.state r.pending → P (suc n) r'.state r'.pending
  carried_keeps n r s free i k r' v p =
      subst (λ (q : Run). P (suc n) q.state q.pending) (sym v.run)
      (kept n r.state s.state free v.item (item_ok t r s i v.item v.place) (without r.pending i) k v.products
      v.state v.rule (front n r.state r.pending i v.item v.place p))

  pub reached_keeps : {n : ℕ} {r : Run} → Reached t qs n r → P n r.state r.pending
  reached_keeps loaded = start
  reached_keeps (stepped {n = n} {r = r} h i k {r' = r'} e) =
      let s = reached_sound t qs ok h in
      let free = unclashed t r i k r' e in
      carried_keeps n r s free i k r' (done_is_rule t r s free i k r' e).0 (reached_keeps h)
