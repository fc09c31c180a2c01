-- "As loading some file leaves it" is the test that writing makes of a sound run: what a loaded run passes, and only a loaded
-- run passes.
use mathlib.Core.Path.{◌≡◌, refl, sym, subst, ap, ◌∙◌}
use mathlib.Core.Bool.{true, false}
use mathlib.Core.List.{List, [], ◌∷◌, map}
use mathlib.Core.Option.{none}
use Prim.Native.Nat.{ℕ, zero, suc, ◌+◌, ◌-◌, ◌/◌, ◌%◌, ◌≤◌, ◌<◌}
use Rattle.std.proofs.Common.{arith}
use Rattle.std.proofs.lemmas.Bool.Decides.{nat_tests}
use borrow.Author.Tests.{eqb-true, eq-eqb}
use lib.Dec.{eqb}
use native.Mathlib.Nat.{add-zero, add-suc, suc-add, zero-add}
use lib.ListN.{length, length-map}
use Rattle.base.specs.Lists.{list_from}
use Rattle.base.proofs.Ranges.{below_each, each_below}
use Rattle.base.proofs.Froms.{from_length, from_same, from_all, all_from}
use Rattle.paper.specs.Sizes.{most_cabinets, most_unknowns}
use Rattle.paper.specs.Runs.{nothing, Statement, State, Run, as_item, initial, ItemOk, Sound}
use Rattle.paper.specs.Reached.{StatementOk, FileOk}
use Rattle.paper.specs.declared.Item.{Item}
use Rattle.paper.specs.declared.Item.TheVariants.{Statement as statement}
use Rattle.layout.specs.Offsets.{clash_at, statements_at, owners_at, stores_at, memos_at, pending_at, store_from, memo_from, item_from}
use Rattle.layout.specs.Fields.{byte_at, clash_of, count_of, owner_of, mark_of, pair_of, item_of_bytes, item_at, items_from, table_of, state_of, run_of}
use Rattle.layout.specs.Soundness.{all_are}
use Rattle.layout.proofs.Canonical.{Canonical}
use Rattle.statements.specs.Writes.{all_statements, as_loaded, statement_at, file_of}
use Rattle.statements.proofs.Bare.{bare_state}

-- the test, taken apart
pub record AsLoadedBytes (d : List ℕ) : Type 0 where
  pub running : byte_at d clash_at ≡ 0
  pub count : count_of d ≡ byte_at d statements_at
  pub marks : (i : ℕ) → owners_at ≤ i → i < memos_at → byte_at d i ≡ 255
  pub memos : (i : ℕ) → memos_at ≤ i → i < pending_at → byte_at d i ≡ 0
  pub kinds : (p : ℕ) → p < byte_at d statements_at → byte_at d (item_from p) ≡ 1

module _ (d : List ℕ) where
  -- bytes that are all v, one by one
  each_is : (v n at i : ℕ) → all_are v n at d ≡ true → at ≤ i → i < at + n → byte_at d i ≡ v
  unfolding all_are
  each_is v n at i h a b =
      let e : at + (i - at) ≡ i = omega arith in
      subst (λ (j : ℕ). byte_at d j ≡ v) e
      (eqb-true (byte_at d (at + (i - at))) v (below_each (λ j. eqb (byte_at d (at + j)) v) n h (i - at) (omega arith)))

  each_statement : (n p : ℕ) → all_statements n d ≡ true → p < n → byte_at d (item_from p) ≡ 1
  unfolding all_statements
  each_statement n p h a = eqb-true (byte_at d (item_from p)) 1 (below_each (λ p. eqb (byte_at d (item_from p)) 1) n h p a)

  pub as_loaded_out : as_loaded d ≡ true → AsLoadedBytes d
  unfolding as_loaded
  as_loaded_out h =
      let m : all_are 255 (memos_at - owners_at) owners_at d ≡ true = grind (arith, nat_tests) in
      let z : all_are 0 (pending_at - memos_at) memos_at d ≡ true = grind (arith, nat_tests) in
      let k : all_statements (byte_at d statements_at) d ≡ true = grind (arith, nat_tests) in
      record {
        running = grind (arith, nat_tests);
        count = grind (arith, nat_tests);
        marks = λ i a b. each_is 255 (memos_at - owners_at) owners_at i m a b;
        memos = λ i a b. each_is 0 (pending_at - memos_at) memos_at i z a b;
        kinds = λ p a. each_statement (byte_at d statements_at) p k a;
      }

  pub as_loaded_in : AsLoadedBytes d → as_loaded d ≡ true
  unfolding as_loaded all_are all_statements
  as_loaded_in w =
      rw (
        eq-eqb (byte_at d clash_at) 0 w.running,
        eq-eqb (count_of d) (byte_at d statements_at) w.count,
        each_below (λ j. eqb (byte_at d (owners_at + j)) 255) (memos_at - owners_at) (λ j l. eq-eqb (byte_at d (owners_at + j)) 255 (w.marks (owners_at + j) (omega arith) (omega arith))),
        each_below (λ j. eqb (byte_at d (memos_at + j)) 0) (pending_at - memos_at) (λ j l. eq-eqb (byte_at d (memos_at + j)) 0 (w.memos (memos_at + j) (omega arith) (omega arith))),
        each_below (λ p. eqb (byte_at d (item_from p)) 1) (byte_at d statements_at) (λ p l. eq-eqb (byte_at d (item_from p)) 1 (w.kinds p l)),
      )

-- only kind 1 is a statement
pub kind_1 : (k c a b c' a' b' : ℕ) → item_of_bytes k c a b ≡ statement c' a' b' → k ≡ 1
kind_1 k c a b c' a' b' e = grind (arith, nat_tests)

-- an item of kind 1
item_of_kind : (d : List ℕ) (p : ℕ) → byte_at d (item_from p) ≡ 1 → item_at d p ≡ as_item (statement_at d p)
unfolding item_at
item_of_kind d p e = rw e

-- only a loaded run passes
module _ (d : List ℕ) (w : AsLoadedBytes d) where
  items_are : items_from d (count_of d) 0 ≡ map as_item (list_from (statement_at d) (byte_at d statements_at) 0)
  items_are =
      ap (λ (n : ℕ). items_from d n 0) w.count
      ∙ from_same (λ p. as_item (statement_at d p)) (item_at d) (byte_at d statements_at) 0 (λ p a b. item_of_kind d p (w.kinds p (omega arith)))
      ∙ mapped (byte_at d statements_at) 0
    where
      mapped : (n p : ℕ) → list_from (λ q. as_item (statement_at d q)) n p ≡ map as_item (list_from (statement_at d) n p)
      mapped zero p = refl
      mapped (suc n) p = ap (λ (l : List Item). as_item (statement_at d p) ∷ l) (mapped n (suc p))

  -- its view is the paper's initial run of the statements that it holds
  pub as_loaded_run : run_of d ≡ initial (file_of d).statements
  unfolding run_of initial file_of
  as_loaded_run =
      λ i.
      record {
        statements = sym (from_length (statement_at d) (byte_at d statements_at) 0) i;
        state = bare_state d w.running w.marks w.memos (file_of d).statements i;
        pending = items_are i;
      }

  -- and its file is in range
  pub as_loaded_ok : Sound (table_of d) (run_of d) → FileOk (file_of d).table (file_of d).statements
  unfolding file_of run_of
  as_loaded_ok s =
      record {
        table = s.table;
        count = omega (arith, from_length (statement_at d) (byte_at d statements_at) 0, s.statements);
        statements = from_all (StatementOk (table_of d)) (statement_at d) (byte_at d statements_at) 0 (λ p a b. one p (omega arith));
      }
    where
      one : (p : ℕ) → p < byte_at d statements_at → StatementOk (table_of d) (statement_at d p)
      one p h =
          let i : ItemOk (table_of d) (as_item (statement_at d p)) =
          subst (ItemOk (table_of d)) (item_of_kind d p (w.kinds p h)) (all_from (ItemOk (table_of d)) (item_at d) (count_of d) 0 s.items p (omega arith) (omega (arith, w.count))) in
          record { cabinet = i.0; left = i.1; right = i.2 }

-- a loaded run passes: its view and the bytes of no meaning say so
module _ (d : List ℕ) (qs : List Statement) (run : run_of d ≡ initial qs) (z : Canonical d) where
  state_bare : state_of d ≡ (initial qs).state
  unfolding run_of
  state_bare = ap (λ (r : Run). r.state) run

  running : byte_at d clash_at ≡ 0
  unfolding state_of initial
  running =
      let e : clash_of d ≡ none = ap (λ (σ : State). σ.clash) state_bare in
      grind (arith, nat_tests)

  owner_255 : (x : ℕ) → x < most_unknowns → byte_at d (owners_at + x) ≡ 255
  unfolding state_of initial owner_of
  owner_255 x h =
      let e : owner_of d x ≡ none = ap (λ (σ : State). σ.owner x) state_bare in
      grind (arith, nat_tests)

  store_255 : (c x : ℕ) → c < most_cabinets → x < most_unknowns → byte_at d (store_from c + x) ≡ 255
  unfolding state_of initial mark_of
  store_255 c x hc hx =
      let e : mark_of d c x ≡ nothing = ap (λ (σ : State). σ.store c x) state_bare in
      grind (arith, nat_tests)

  memo_0 : (c x y : ℕ) → c < most_cabinets → x < most_unknowns → y < most_unknowns → byte_at d (memo_from c x y) ≡ 0
  unfolding state_of initial pair_of
  memo_0 c x y hc hx hy =
      let e : pair_of d c x y ≡ false = ap (λ (σ : State). σ.memo c x y) state_bare in
      let z : byte_at d (memo_from c x y) ≤ 1 = z.memos c x y hc hx hy in
      grind (arith, nat_tests)

  marks_255 : (i : ℕ) → owners_at ≤ i → i < memos_at → byte_at d i ≡ 255
  marks_255 i a b =
      let o = owner_255 (i - owners_at) in
      let t = store_255 ((i - stores_at) / most_unknowns) ((i - stores_at) % most_unknowns) in
      grind arith

  memos_0 : (i : ℕ) → memos_at ≤ i → i < pending_at → byte_at d i ≡ 0
  memos_0 i a b =
      let k : ℕ = (i - memos_at) % 1024 in
      let m = memo_0 ((i - memos_at) / 1024) (k / most_unknowns) (k % most_unknowns) in
      grind arith

  pending_is : items_from d (count_of d) 0 ≡ map as_item qs
  unfolding run_of initial
  pending_is = ap (λ (r : Run). r.pending) run

  stated_is : byte_at d statements_at ≡ length qs
  unfolding run_of initial
  stated_is = ap (λ (r : Run). r.statements) run

  count_is : count_of d ≡ byte_at d statements_at
  count_is = sym (from_length (item_at d) (count_of d) 0) ∙ ap length pending_is ∙ length-map qs as_item ∙ sym stated_is

  -- each item is the statement in its place
  each_item : (l : List Statement) (n p : ℕ) → list_from (item_at d) n p ≡ map as_item l → (k : ℕ) → k < n → (q : Statement) × (item_at d (p + k) ≡ as_item q)
  each_item [] zero p e k b = absurd (omega arith)
  each_item [] (suc n) p e k b = absurd cc
  each_item (q ∷ l) zero p e k b = absurd (omega arith)
  each_item (q ∷ l) (suc n) p e zero b = (q, rw add-zero cc)
  each_item (q ∷ l) (suc n) p e (suc k) b = let r = each_item l n (suc p) (cc) k (omega arith) in (r.0, rw (add-suc, ← suc-add) r.1)

  kinds_1 : (p : ℕ) → p < byte_at d statements_at → byte_at d (item_from p) ≡ 1
  unfolding item_at
  kinds_1 p h =
      let w = each_item qs (count_of d) 0 pending_is p (omega (arith, count_is)) in
      kind_1 (byte_at d (item_from p)) (byte_at d (item_from p + 1)) (byte_at d (item_from p + 2)) (byte_at d (item_from p + 3)) w.0.cabinet w.0.left w.0.right (rw zero-add at w.1)

  pub initial_as_loaded : AsLoadedBytes d
  initial_as_loaded = record { running = running; count = count_is; marks = marks_255; memos = memos_0; kinds = kinds_1 }
