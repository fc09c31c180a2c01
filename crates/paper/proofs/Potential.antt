-- A potential over a scale of weights: each rule lowers it by the scale's fee, a fee of 0 meaning that none raises it.
use mathlib.Core.Path.{◌≡◌, ap, ◌∙◌}
use mathlib.Core.Logic.{inl}
use mathlib.Core.Bool.{Bool, true, false}
use mathlib.Core.List.{List, [], ◌∷◌, ◌++◌, map}
use mathlib.Core.Option.{Option, none, some}
use Prim.Native.Nat.{ℕ, zero, suc, ◌+◌, ◌*◌, ◌≤◌, ◌<◌}
use native.Mathlib.Omega.{arith}
use native.Mathlib.Nat.{mul-le-mul_right}
use lib.ListN.{length, get_elem?}
use Rattle.base.specs.Choice.{pick, upd}
use Rattle.base.specs.Lists.{without, All, total, sum}
use Rattle.base.proofs.Tests.{not_true_false}
use Rattle.base.proofs.Sums.{sum_same, sum_const, sum_mul, sum_upd}
use Rattle.base.proofs.Elements.{total_append, total_without}
use Rattle.paper.specs.Tables.{Table, TableOk, record_at}
use Rattle.paper.specs.Runs.{Mark, nothing, initiated, entry, Statement, State, Run, as_item, initial, ItemOk, StateOk, Sound}
use Rattle.paper.specs.Rules.{with_owner, with_mark, with_pair, add, part_statements, news_to, Rule, interchange, memo, dereference, identify, conflict, decompose, initiate, win, lose, arrive, Carried}
use Rattle.paper.specs.Reached.{FileOk, Reached}
use Rattle.paper.specs.declared.Item.{Item}
use Rattle.paper.specs.declared.Item.TheVariants.{Statement as statement, Ask as ask, News as news}
use Rattle.paper.proofs.Ranks.{rank, rank_unknown, less_rank, record_is, Kind, unknown, recorded, kind, is_unknown_lem, not_unknown}
use Rattle.paper.proofs.Soundness.{record_ok, less_unknown, store_entry, carried_keeps, reached_keeps}

-- weights, and what they have to meet
pub record Scale (t : Table) : Type 0 where
  pub fee : ℕ
  pub statement_w : ℕ → ℕ → ℕ
  pub ask_w : ℕ
  pub news_w : ℕ
  pub mark_w : ℕ
  pub pair_w : ℕ
  pub owner_w : ℕ
  pub part_w : ℕ
  pub base : (a b : ℕ) → fee ≤ statement_w a b
  pub turned : (a b : ℕ) → rank t a < rank t b → statement_w b a + fee ≤ statement_w a b
  pub followed : (a b v : ℕ) → a < t.unknowns → b < t.unknowns → rank t v < rank t a → statement_w v b + fee ≤ statement_w a b + pair_w
  pub followed_record : (a b v : ℕ) → t.unknowns ≤ b → rank t v < rank t a → statement_w v b + fee ≤ statement_w a b
  pub parted : (p q : ℕ) → p < t.unknowns → q < t.unknowns → statement_w p q ≤ part_w
  pub split : (a b : ℕ) → t.unknowns ≤ a → t.unknowns ≤ b → 4 * part_w + fee ≤ statement_w a b
  pub asked : ask_w + fee ≤ mark_w
  pub won : t.cabinets * news_w + fee ≤ ask_w + owner_w
  pub lost : fee ≤ ask_w
  pub arrived : fee ≤ news_w

module _ (t : Table) (z : Scale t) where
  abbrev pub weigh : Item → ℕ
  weigh (statement c a b) = z.statement_w a b
  weigh (ask c x u) = z.ask_w
  weigh (news c x u) = z.news_w

  abbrev unmarked : Mark → ℕ
  unmarked nothing = z.mark_w
  unmarked initiated = 0
  unmarked (entry v) = 0

  abbrev unowned : Option ℕ → ℕ
  unowned none = z.owner_w
  unowned (some v) = 0

  abbrev unpaired : Bool → ℕ
  unpaired b = pick b 0 z.pair_w

  abbrev marks : (ℕ → Mark) → ℕ
  marks s = sum t.unknowns (λ x. unmarked (s x))

  abbrev row : ℕ → (ℕ → Bool) → ℕ
  row x m = sum x (λ y. unpaired (m y))

  abbrev memos : (ℕ → ℕ → Bool) → ℕ
  memos m = sum t.unknowns (λ x. row x (m x))

  abbrev pub held : State → ℕ
  held σ =
      sum t.cabinets (λ c. marks (σ.store c)) + sum t.cabinets (λ c. memos (σ.memo c))
      + sum t.unknowns (λ x. unowned (σ.owner x))

  -- the potential of a state and pending items
  pub potential : State → List Item → ℕ
  potential σ l = total weigh l + held σ

  pub items_le : (σ : State) (l : List Item) → total weigh l ≤ potential σ l
  unfolding potential
  items_le σ l = omega arith

  unmarked_le : (m : Mark) → unmarked m ≤ z.mark_w
  unmarked_le nothing = omega arith
  unmarked_le initiated = omega arith
  unmarked_le (entry v) = omega arith

  -- what each change of a state does
  marked_held : (σ : State) (c x : ℕ) (m : Mark) → c < t.cabinets → x < t.unknowns
      → held (with_mark σ c x m) + unmarked (σ.store c x) ≡ held σ + unmarked m
  marked_held σ c x m hc hx =
      omega (arith, sum_upd (λ d. marks) σ.store t.cabinets c (upd (σ.store c) x m) hc, sum_upd (λ d. unmarked) (σ.store c) t.unknowns x m hx)

  paired_held : (σ : State) (c x y : ℕ) → c < t.cabinets → x < t.unknowns → y < x → σ.memo c x y ≡ false
      → held (with_pair σ c x y) + z.pair_w ≡ held σ
  paired_held σ c x y hc hx hy e =
      let inner : row x (upd (σ.memo c x) y true) + unpaired (σ.memo c x y) ≡ row x (σ.memo c x) + 0 =
      sum_upd (λ d. unpaired) (σ.memo c x) x y true hy in
      let inner' : row x (upd (σ.memo c x) y true) + z.pair_w ≡ row x (σ.memo c x) + 0 = rw e at inner in
      omega (
        arith,
        inner',
        sum_upd (λ d. memos) σ.memo t.cabinets c (upd (σ.memo c) x (upd (σ.memo c x) y true)) hc,
        sum_upd row (σ.memo c) t.unknowns x (upd (σ.memo c x) y true) hx,
      )

  owned_held : (σ : State) (x u : ℕ) → x < t.unknowns → σ.owner x ≡ none → held (with_owner σ x (some u)) + z.owner_w ≡ held σ
  owned_held σ x u hx e =
      let h : sum t.unknowns (λ y. unowned (upd σ.owner x (some u) y)) + unowned (σ.owner x) ≡ sum t.unknowns (λ y. unowned (σ.owner y)) + 0 =
      sum_upd (λ y. unowned) σ.owner t.unknowns x (some u) hx in
      omega (arith, rw e at h)

  parts_weigh : (c : ℕ) (ps qs : List ℕ) → All (λ p. p < t.unknowns) ps → All (λ p. p < t.unknowns) qs
      → total weigh (part_statements c ps qs) ≤ length ps * z.part_w
  parts_weigh c [] qs h k = omega arith
  parts_weigh c (p ∷ ps) [] h k = omega arith
  parts_weigh c (p ∷ ps) (q ∷ qs) h k = omega (arith, z.parted p q h.0 k.0, parts_weigh c ps qs h.1 k.1)

  news_weigh : (c k x u : ℕ) → total weigh (news_to c k x u) ≡ k * z.news_w
  news_weigh c zero x u = omega arith
  news_weigh c (suc k) x u = omega (arith, news_weigh (suc c) k x u)

  -- each rule lowers what its item and state weigh by the fee
  lowered : TableOk t → {k : ℕ} {j : Item} {σ : State} {ps : List Item} {σ' : State} → StateOk t σ → ItemOk t j → Rule t k j σ ps σ'
      → total weigh ps + held σ' + z.fee ≤ weigh j + held σ
  lowered g s i (interchange {u = u} {x = x} l) = omega (arith, z.turned u x (less_rank t u x l))
  lowered g s i (memo {x = x} {u = u} l e h) = omega (arith, z.base x u)
  lowered g s i (dereference {c = c} {x = x} {u = u} {v = v} {σ = σ} l e h) = go (kind t u)
    where
      falls : rank t v < rank t x
      falls = less_rank t v x (store_entry t σ s c x v e).1.is

      hx : x < t.unknowns
      hx = less_unknown t u x l

      free : σ.memo c x u ≡ false
      free = not_true_false (σ.memo c x u) (λ d. h (inl d))

      go : Kind t u → total weigh (statement c v u ∷ []) + held (add t σ c x u) + z.fee ≤ weigh (statement c x u) + held σ
      go (unknown hu r) =
          rw (is_unknown_lem t u hu)
          (omega (arith, z.followed x u v hx hu falls, paired_held σ c x u i.0 hx (omega (arith, less_rank t u x l, rank_unknown t x hx)) free))
      go (recorded hu r) = rw (not_unknown t u hu) (omega (arith, z.followed_record x u v hu falls))
  lowered g s i (identify {x = x} h) = omega (arith, z.base x x)
  lowered g s i (conflict {a = a} {b = b} ha hb e) = omega (arith, z.base a b)
  lowered g s i (decompose {c = c} {a = a} {b = b} ha hb e) =
      omega (
        arith,
        parts_weigh c (record_at t a).parts (record_at t b).parts (record_ok t g a).parts (record_ok t g b).parts,
        z.split a b (record_is t a ha) (record_is t b hb),
        mul-le-mul_right z.part_w (record_ok t g a).count,
      )
  lowered g s i (initiate {c = c} {x = x} {u = u} {σ = σ} l e) =
      omega (arith, z.asked, rw e at (marked_held σ c x initiated i.0 (less_unknown t u x l)))
  lowered g s i (win {x = x} {u = u} {σ = σ} e) =
      omega (arith, z.won, news_weigh 0 t.cabinets x u, owned_held σ x u (less_unknown t u x i.1.is) e)
  lowered g s i (lose e) = omega (arith, z.lost)
  lowered g s i (arrive {c = c} {x = x} {u = u} {σ = σ}) =
      omega (arith, z.arrived, marked_held σ c x (entry u) i.0 (less_unknown t u x i.1.is))

  fronted : (σ : State) (l : List Item) (i : ℕ) (j : Item) → get_elem? l i ≡ some j → potential σ (j ∷ without l i) ≡ potential σ l
  unfolding potential
  fronted σ l i j e = omega (arith, total_without weigh l i j e)

  module _ (k : ℕ) (top : (a b : ℕ) → z.statement_w a b ≤ k) (qs : List Statement) (ok : FileOk t qs) where
    -- the most that a file's run weighs
    unfoldable pub most : ℕ
    most =
        length qs * k + t.cabinets * (sum t.unknowns (λ x. x) * z.pair_w) + t.cabinets * (t.unknowns * z.mark_w)
        + t.unknowns * z.owner_w

    statements_weigh : (l : List Statement) → total weigh (map as_item l) ≤ length l * k
    statements_weigh [] = omega arith
    statements_weigh (q ∷ l) = omega (arith, top q.left q.right, statements_weigh l)

    -- so many steps, each at the fee, and what the run weighs
    abbrev Spent : ℕ → State → List Item → Type 0
    Spent n σ l = n * z.fee + potential σ l ≤ most

    start : Spent 0 (initial qs).state (initial qs).pending
    unfolding most potential initial
    start =
        let w : ℕ = z.pair_w in
        let rows : sum t.unknowns (λ x. sum x (λ y. w)) ≡ sum t.unknowns (λ x. x) * w =
        sum_same t.unknowns (λ x. sum x (λ y. w)) (λ x. x * w) (λ y b. sum_const y w) ∙ sum_mul t.unknowns w (λ x. x) in
        let all_rows : sum t.cabinets (λ c. sum t.unknowns (λ x. sum x (λ y. w))) ≡ t.cabinets * (sum t.unknowns (λ x. x) * w) =
        sum_const t.cabinets (sum t.unknowns (λ x. sum x (λ y. w))) ∙ ap (λ (n : ℕ). t.cabinets * n) rows in
        let all_marks : sum t.cabinets (λ c. sum t.unknowns (λ x. z.mark_w)) ≡ t.cabinets * (t.unknowns * z.mark_w) =
        sum_const t.cabinets (sum t.unknowns (λ x. z.mark_w)) ∙ ap (λ (n : ℕ). t.cabinets * n) (sum_const t.unknowns z.mark_w) in
        omega (arith, statements_weigh qs, all_rows, all_marks, sum_const t.unknowns z.owner_w)

    front : (n : ℕ) (σ : State) (l : List Item) (i : ℕ) (j : Item) → get_elem? l i ≡ some j → Spent n σ l → Spent n σ (j ∷ without l i)
    front n σ l i j e h = omega (arith, fronted σ l i j e)

    kept : (n : ℕ) (σ : State) → StateOk t σ → σ.clash ≡ none → (j : Item) → ItemOk t j → (m : List Item) (k : ℕ) (ps : List Item)
        (σ' : State) → Rule t k j σ ps σ' → Spent n σ (j ∷ m) → Spent (suc n) σ' (m ++ ps)
    unfolding potential
    kept n σ s free j i m k ps σ' r h = omega (arith, h, lowered ok.table s i r, total_append weigh m ps)

    pub spent : {n : ℕ} {r : Run} → Reached t qs n r → n * z.fee + potential r.state r.pending ≤ most
    spent h = reached_keeps t qs ok Spent start front kept h

    -- and after one rule more
    pub spent_more : {n : ℕ} {r : Run} → Reached t qs n r → Sound t r → r.state.clash ≡ none → (i k : ℕ) (r' : Run) → Carried t r i k r'
        → suc n * z.fee + potential r'.state r'.pending ≤ most
    spent_more {n} {r} h s free i k r' v = carried_keeps t qs ok Spent start front kept n r s free i k r' v (spent h)
