-- What each change of the bytes is to the paper's run: the view after is the paper's change of the view before.
use mathlib.Core.Path.{◌≡◌, refl, sym, subst, ap, ap₂, ◌∙◌, fun_ext}
use mathlib.Core.Logic.{◌⊎◌, inl, inr, ⊎_elim, ◌≢◌}
use mathlib.Core.Bool.{Bool, true, false, ◌&&◌}
use mathlib.Core.List.{List, [], ◌∷◌, ◌++◌, append-nil, append_assoc}
use mathlib.Core.Option.{none, some}
use Prim.Native.Nat.{ℕ, zero, suc, ◌+◌, ◌-◌, ◌/◌, ◌%◌, ◌≤◌, ◌<◌}
use native.Mathlib.Nat.{zero-add}
use native.Mathlib.Omega.{arith}
use borrow.Author.Tests.{ltb-true, lt-ltb}
use lib.Dec.{ltb, eqb}
use lib.ListN.{length, get_or, set, length-set}
use lib.Seq.{get_or-set_same, get_or-set_other}
use Rattle.base.specs.Choice.{pick, upd}
use Rattle.base.specs.Lists.{without}
use Rattle.base.specs.Regions.{put, gone}
use Rattle.base.proofs.Tests.{fst_true, snd_true, and_true}
use Rattle.base.proofs.Changes.{upd_is}
use Rattle.base.proofs.Froms.{from_without, from_last}
use Rattle.base.proofs.Regions.{length_put, put_before, put_in, put_after, put_set, length_gone, gone_before, gone_in}
use Rattle.paper.specs.Sizes.{most_cabinets, most_unknowns, room}
use Rattle.paper.specs.Runs.{nothing, State, Run}
use Rattle.paper.specs.Rules as rules
use Rattle.paper.specs.declared.Item.{Item}
use Rattle.paper.specs.declared.Item.TheVariants.{Statement as statement, Ask as ask, News as news}
use Rattle.layout.specs.Offsets.{item_bytes, clash_at, clash_cabinet_at, cabinets_at, statements_at, count_at, table_at, owners_at, stores_at, memos_at, pending_at, run_bytes, store_from, memo_from, item_from}
use Rattle.layout.specs.Fields.{byte_at, bytes_of, clash_of, count_of, owner_mark, store_mark, owner_of, mark_of, pair_of, item_of_bytes, item_at, items_from, table_of, state_of, run_of}
use Rattle.layout.specs.Changes.{with_count, bytes_of_item, removed_at, appended, appended_all, store_of, with_store, with_owner, with_pair, with_clash}
use Rattle.layout.proofs.Frames.{Same, Shaped, clash_same, count_same, owners_same, stores_same, memos_same, item_same, items_same, table_same, shape_same}

-- a run that differs in its pending items, or in its state
abbrev pub pending_now : Run → List Item → Run
pending_now r l = record { statements = r.statements; state = r.state; pending = l }

abbrev pub state_now : Run → State → Run
state_now r σ = record { statements = r.statements; state = σ; pending = r.pending }

-- the count
module _ (n : ℕ) (d : List ℕ) (long : 8 ≤ length d) where
  pub length_count : length (with_count n d) ≡ length d
  unfolding with_count
  length_count = length_put count_at (bytes_of 2 n) d long

  pub count_after : (i : ℕ) → 8 ≤ i → byte_at (with_count n d) i ≡ byte_at d i
  unfolding with_count
  count_after i h = put_after count_at (bytes_of 2 n) d long i h

  pub count_before : (i : ℕ) → i < 6 → byte_at (with_count n d) i ≡ byte_at d i
  unfolding with_count
  count_before i h = put_before count_at (bytes_of 2 n) d long i h

  pub count_is : n < 65536 → count_of (with_count n d) ≡ n
  unfolding with_count count_of
  count_is h =
      let a : byte_at (put count_at (bytes_of 2 n) d) 6 ≡ n % 256 = put_in count_at (bytes_of 2 n) d long 0 (omega arith) in
      let b : byte_at (put count_at (bytes_of 2 n) d) 7 ≡ n / 256 % 256 = put_in count_at (bytes_of 2 n) d long 1 (omega arith) in
      rw (a, b) (omega arith)

-- an item comes to bytes of a run's length: the length stays, and the count is one more
pub item_long : (j : Item) → length (bytes_of_item j) ≡ item_bytes
item_long (statement c a b) = refl
item_long (ask c x u) = refl
item_long (news c x u) = refl

module _ (d : List ℕ) (j : Item) (long : length d ≡ run_bytes) (h : count_of d < room) where
  item_put : length (put (item_from (count_of d)) (bytes_of_item j) d) ≡ length d
  item_put = length_put (item_from (count_of d)) (bytes_of_item j) d (omega (arith, item_long j))

  pub appended_long : length (appended j d) ≡ run_bytes
  unfolding appended
  appended_long = length_count (count_of d + 1) (put (item_from (count_of d)) (bytes_of_item j) d) (omega (arith, item_put)) ∙ item_put ∙ long

  pub appended_count : count_of (appended j d) ≡ count_of d + 1
  unfolding appended
  appended_count = count_is (count_of d + 1) (put (item_from (count_of d)) (bytes_of_item j) d) (omega (arith, item_put)) (omega arith)

-- what changes neither the table nor the state nor E: bytes 0 to 5 and 8 up to the pending items
module _ (d d' : List ℕ) (s : Shaped d) (long : length d' ≡ run_bytes) (low : Same 0 count_at d d') (mid : Same table_at pending_at d d') where
  pub beside_table : table_of d' ≡ table_of d
  beside_table = table_same d d' s long (λ i a b. low i (omega arith) (omega arith)) (λ i a b. mid i a (omega arith))

  pub beside_shaped : count_of d' ≤ room → Shaped d'
  beside_shaped c = shape_same d d' s long c (λ i a b. low i (omega arith) (omega arith)) (λ i a b. mid i a (omega arith))

  beside_state : state_of d' ≡ state_of d
  unfolding state_of
  beside_state = λ i. record { clash = c i; owner = o i; store = m i; memo = p i }
    where
      c : clash_of d' ≡ clash_of d
      c = clash_same d d' (λ i a b. low i (omega arith) (omega arith))

      o : owner_of d' ≡ owner_of d
      o = owners_same d d' (λ i a b. mid i (omega arith) (omega arith))

      m : mark_of d' ≡ mark_of d
      m = stores_same d d' (λ i a b. mid i (omega arith) (omega arith))

      p : pair_of d' ≡ pair_of d
      p = memos_same d d' (λ i a b. mid i (omega arith) (omega arith))

  pub beside_run : (l : List Item) → items_from d' (count_of d') 0 ≡ l → run_of d' ≡ pending_now (run_of d) l
  unfolding run_of
  beside_run l e = λ i. record { statements = low statements_at (omega arith) (omega arith) i; state = beside_state i; pending = e i }

module _ (d : List ℕ) (s : Shaped d) where
  -- an item goes
  module _ (p : ℕ) (h : p < count_of d) where
    unfoldable pub closed : List ℕ
    closed = gone item_bytes (item_from p) (item_from (count_of d)) d

    pub fits : item_from p + item_bytes ≤ item_from (count_of d)
    fits = omega arith

    pub ends : item_from (count_of d) ≤ length d
    ends = omega (arith, s.long, s.count)

    pub closed_long : length closed ≡ length d
    unfolding closed
    closed_long = length_gone item_bytes (item_from p) (item_from (count_of d)) d fits ends

    removed_long : length (removed_at p d) ≡ run_bytes
    unfolding removed_at closed
    removed_long = length_count (count_of d - 1) closed (omega (arith, closed_long, s.long)) ∙ closed_long ∙ s.long

    pub removed_low : Same 0 count_at d (removed_at p d)
    unfolding removed_at closed
    removed_low i a b =
        count_before (count_of d - 1) closed (omega (arith, closed_long, s.long)) i b
        ∙ gone_before item_bytes (item_from p) (item_from (count_of d)) d fits ends i (omega arith)

    pub removed_mid : Same table_at pending_at d (removed_at p d)
    unfolding removed_at closed
    removed_mid i a b =
        count_after (count_of d - 1) closed (omega (arith, closed_long, s.long)) i a
        ∙ gone_before item_bytes (item_from p) (item_from (count_of d)) d fits ends i (omega arith)

    pub removed_count : count_of (removed_at p d) ≡ count_of d - 1
    unfolding removed_at closed
    removed_count = count_is (count_of d - 1) closed (omega (arith, closed_long, s.long)) (omega (arith, s.count))

    pub late : (i : ℕ) → pending_at ≤ i → byte_at (removed_at p d) i ≡ byte_at closed i
    unfolding removed_at closed
    late i a = count_after (count_of d - 1) closed (omega (arith, closed_long, s.long)) i (omega arith)

    stays : (q : ℕ) → q < p → item_at (removed_at p d) q ≡ item_at d q
    unfolding closed
    stays q l =
        item_same d (removed_at p d) q q
        (λ k a. late (item_from q + k) (omega arith) ∙ gone_before item_bytes (item_from p) (item_from (count_of d)) d fits ends (item_from q + k) (omega arith))

    moves : (q : ℕ) → p ≤ q → q < count_of d - 1 → item_at (removed_at p d) q ≡ item_at d (suc q)
    unfolding closed
    moves q a b =
        item_same d (removed_at p d) q (suc q)
        (λ k l.
        late (item_from q + k) (omega arith)
        ∙ gone_in item_bytes (item_from p) (item_from (count_of d)) d fits ends (item_from q + k) (omega arith) (omega arith)
        ∙ ap (byte_at d) (omega arith))

    removed_items : items_from (removed_at p d) (count_of (removed_at p d)) 0 ≡ without (items_from d (count_of d) 0) p
    removed_items = rw removed_count (before (count_of d) refl)
      where
        before : (n : ℕ) → count_of d ≡ n → items_from (removed_at p d) (n - 1) 0 ≡ without (items_from d n 0) p
        before zero e = absurd (let z : ⊥ = omega arith in z)
        before (suc n) e =
            let one : suc n - 1 ≡ n = omega arith in
            rw one
            (from_without (item_at d) (item_at (removed_at p d)) p n 0 (omega arith) (λ q l. stays q (omega arith)) (λ q a b. moves q (omega arith) (omega arith)))

    pub removed_shaped : Shaped (removed_at p d)
    removed_shaped = beside_shaped d (removed_at p d) s removed_long removed_low removed_mid (omega (arith, removed_count, s.count))

    pub removed_table : table_of (removed_at p d) ≡ table_of d
    removed_table = beside_table d (removed_at p d) s removed_long removed_low removed_mid

    pub removed_run : run_of (removed_at p d) ≡ pending_now (run_of d) (without (run_of d).pending p)
    unfolding run_of
    removed_run = beside_run d (removed_at p d) s removed_long removed_low removed_mid (without (items_from d (count_of d) 0) p) removed_items

  -- an item comes
  module _ (j : Item) (h : count_of d < room) where
    pub room_left : item_from (count_of d) + length (bytes_of_item j) ≤ length d
    room_left = omega (arith, item_long j, s.long)

    unfoldable pub written : List ℕ
    written = put (item_from (count_of d)) (bytes_of_item j) d

    pub written_long : length written ≡ length d
    unfolding written
    written_long = length_put (item_from (count_of d)) (bytes_of_item j) d room_left

    pub appended_low : Same 0 count_at d (appended j d)
    unfolding appended written
    appended_low i a b =
        count_before (count_of d + 1) written (omega (arith, written_long, s.long)) i b
        ∙ put_before (item_from (count_of d)) (bytes_of_item j) d room_left i (omega arith)

    -- everything from 8 on before the new item
    pub appended_mid : (i : ℕ) → table_at ≤ i → i < item_from (count_of d) → byte_at (appended j d) i ≡ byte_at d i
    unfolding appended written
    appended_mid i a b =
        count_after (count_of d + 1) written (omega (arith, written_long, s.long)) i a
        ∙ put_before (item_from (count_of d)) (bytes_of_item j) d room_left i b

    pub appended_in : (k : ℕ) → k < item_bytes → byte_at (appended j d) (item_from (count_of d) + k) ≡ get_or (bytes_of_item j) k 0
    unfolding appended written
    appended_in k l =
        count_after (count_of d + 1) written (omega (arith, written_long, s.long)) (item_from (count_of d) + k) (omega arith)
        ∙ put_in (item_from (count_of d)) (bytes_of_item j) d room_left k (omega (arith, item_long j))

    decoded : item_at (appended j d) (count_of d) ≡ j
    unfolding item_at
    decoded =
        let a : byte_at (appended j d) (item_from (count_of d)) ≡ get_or (bytes_of_item j) 0 0 =
        subst (λ (m : ℕ). byte_at (appended j d) m ≡ get_or (bytes_of_item j) 0 0) (omega arith) (appended_in 0 (omega arith)) in
        rw (a, appended_in 1 (omega arith), appended_in 2 (omega arith), appended_in 3 (omega arith)) (go j)
      where
        go : (k : Item) → item_of_bytes (get_or (bytes_of_item k) 0 0) (get_or (bytes_of_item k) 1 0) (get_or (bytes_of_item k) 2 0) (get_or (bytes_of_item k) 3 0) ≡ k
        go (statement c a b) = refl
        go (ask c x u) = refl
        go (news c x u) = refl

    appended_items : items_from (appended j d) (count_of (appended j d)) 0 ≡ items_from d (count_of d) 0 ++ (j ∷ [])
    appended_items =
        let one : count_of d + 1 ≡ suc (count_of d) = omega arith in
        rw (appended_count d j s.long h, one)
        (from_last (item_at (appended j d)) (count_of d) 0
        ∙ ap₂ (λ (l : List Item) (k : Item). l ++ (k ∷ []))
        (items_same d (appended j d) (count_of d) 0 (λ i a b. appended_mid i (omega arith) (omega arith)))
        (ap (item_at (appended j d)) (zero-add (count_of d)) ∙ decoded))

    pub appended_shaped : Shaped (appended j d)
    appended_shaped =
        beside_shaped d (appended j d) s (appended_long d j s.long h) appended_low (λ i a b. appended_mid i a (omega arith))
        (omega (arith, appended_count d j s.long h))

    pub appended_table : table_of (appended j d) ≡ table_of d
    appended_table = beside_table d (appended j d) s (appended_long d j s.long h) appended_low (λ i a b. appended_mid i a (omega arith))

    pub appended_run : run_of (appended j d) ≡ pending_now (run_of d) ((run_of d).pending ++ (j ∷ []))
    unfolding run_of
    appended_run =
        beside_run d (appended j d) s (appended_long d j s.long h) appended_low (λ i a b. appended_mid i a (omega arith))
        (items_from d (count_of d) 0 ++ (j ∷ [])) appended_items

-- items come, in order
pub record Appended (d : List ℕ) (js : List Item) (d' : List ℕ) : Type 0 where
  pub shaped : Shaped d'
  pub count : count_of d' ≡ count_of d + length js
  pub table : table_of d' ≡ table_of d
  pub run : run_of d' ≡ pending_now (run_of d) ((run_of d).pending ++ js)

pub appended_all_lem : (js : List Item) (d : List ℕ) → Shaped d → count_of d + length js ≤ room → Appended d js (appended_all js d)
appended_all_lem [] d s h =
    record {
      shaped = s;
      count = omega arith;
      table = refl;
      run = ap (pending_now (run_of d)) (sym (append-nil (run_of d).pending));
    }
appended_all_lem (j ∷ js) d s h =
    let l : count_of d < room = omega arith in
    let c = appended_count d j s.long l in
    let w = appended_all_lem js (appended j d) (appended_shaped d s j l) (omega arith) in
    record {
      shaped = w.shaped;
      count = omega (arith, w.count, c);
      table = w.table ∙ appended_table d s j l;
      run =
          w.run ∙ ap (λ (r : Run). pending_now r (r.pending ++ js)) (appended_run d s j l)
          ∙ ap (pending_now (run_of d)) (append_assoc (run_of d).pending (j ∷ []) js);
    }

-- a change of one region, between the table and the pending items or of the clash: the table and the pending items stay
module _ (d d' : List ℕ) (s : Shaped d) (long : length d' ≡ run_bytes) (sizes : Same cabinets_at owners_at d d') (items : Same pending_at run_bytes d d') where
  kept_count : count_of d' ≡ count_of d
  kept_count = count_same d d' (λ i a b. sizes i (omega arith) (omega arith))

  pub kept_shaped : Shaped d'
  kept_shaped =
      shape_same d d' s long (omega (arith, kept_count, s.count)) (λ i a b. sizes i a (omega arith)) (λ i a b. sizes i (omega arith) b)

  pub kept_table : table_of d' ≡ table_of d
  kept_table = table_same d d' s long (λ i a b. sizes i a (omega arith)) (λ i a b. sizes i (omega arith) b)

  kept_items : items_from d' (count_of d') 0 ≡ items_from d (count_of d) 0
  kept_items = rw kept_count (items_same d d' (count_of d) 0 (λ i a b. items i (omega arith) (omega (arith, s.count))))

  pub kept_run : (σ : State) → state_of d' ≡ σ → run_of d' ≡ state_now (run_of d) σ
  unfolding run_of
  kept_run σ e = λ i. record { statements = sizes statements_at (omega arith) (omega arith) i; state = e i; pending = kept_items i }

-- a byte set
module _ (d : List ℕ) (at m : ℕ) where
  pub set_other : (lo hi : ℕ) → (hi ≤ at) ⊎ (at < lo) → Same lo hi d (set d at m)
  set_other lo hi w i a b = get_or-set_other d at i m 0 (λ e. ⊎_elim (λ (h : hi ≤ at). omega arith) (λ (h : at < lo). omega arith) w)

-- what a change is: shape and table kept, and the run with another state
pub record Changed (d : List ℕ) (σ : State) (d' : List ℕ) : Type 0 where
  pub shaped : Shaped d'
  pub table : table_of d' ≡ table_of d
  pub run : run_of d' ≡ state_now (run_of d) σ

module _ (d : List ℕ) (s : Shaped d) where
  -- a byte set outside the sizes, the table and the pending items, and the state that it makes
  by_set : (at m : ℕ) (σ : State) → (at < cabinets_at) ⊎ ((owners_at ≤ at) × (at < pending_at)) → state_of (set d at m) ≡ σ → Changed d σ (set d at m)
  by_set at m σ w e =
      let d' : List ℕ = set d at m in
      let long : length d' ≡ run_bytes = length-set d at m ∙ s.long in
      let sizes : Same cabinets_at owners_at d d' =
      ⊎_elim (λ (h : at < cabinets_at). set_other d at m cabinets_at owners_at (inr h)) (λ h. set_other d at m cabinets_at owners_at (inl h.0)) w in
      let items : Same pending_at run_bytes d d' =
      ⊎_elim (λ (h : at < cabinets_at). set_other d at m pending_at run_bytes (inr (omega arith))) (λ h. set_other d at m pending_at run_bytes (inr h.1)) w in
      record { shaped = kept_shaped d d' s long sizes items; table = kept_table d d' s long sizes items; run = kept_run d d' s long sizes items σ e }

  -- the owner mark of x
  owner_of_lem : (x u : ℕ) → x < most_unknowns → owner_of (set d (owners_at + x) u) ≡ upd (owner_of d) x (owner_mark u)
  unfolding owner_of
  owner_of_lem x u hx =
      upd_is (owner_of d) (owner_of (set d (owners_at + x) u)) x (owner_mark u)
      (rw (lt-ltb x most_unknowns hx) (ap owner_mark (get_or-set_same d (owners_at + x) u 0 (omega (arith, s.long)))))
      (λ y h. other y h (ltb y most_unknowns))
    where
      other : (y : ℕ) → y ≢ x → (b : Bool)
          → pick b (owner_mark (byte_at (set d (owners_at + x) u) (owners_at + y))) none ≡ pick b (owner_mark (byte_at d (owners_at + y))) none
      other y h true = ap owner_mark (get_or-set_other d (owners_at + x) (owners_at + y) u 0 (λ e. h (omega arith)))
      other y h false = refl

  pub owner_changed : (x u : ℕ) → x < most_unknowns → Changed d (rules.with_owner (state_of d) x (owner_mark u)) (with_owner x u d)
  unfolding with_owner state_of
  owner_changed x u hx = by_set (owners_at + x) u _ (inr (omega arith, omega arith)) (λ i. record { clash = c i; owner = o i; store = m i; memo = p i })
    where
      d' : List ℕ
      d' = set d (owners_at + x) u

      c : clash_of d' ≡ clash_of d
      c = clash_same d d' (set_other d (owners_at + x) u clash_at cabinets_at (inl (omega arith)))

      o : owner_of d' ≡ upd (owner_of d) x (owner_mark u)
      o = owner_of_lem x u hx

      m : mark_of d' ≡ mark_of d
      m = stores_same d d' (set_other d (owners_at + x) u stores_at memos_at (inr (omega arith)))

      p : pair_of d' ≡ pair_of d
      p = memos_same d d' (set_other d (owners_at + x) u memos_at pending_at (inr (omega arith)))

  -- the pair x, y in cabinet c's memo
  pair_of_lem : (c x y : ℕ) → c < most_cabinets → x < most_unknowns → y < most_unknowns
      → pair_of (set d (memo_from c x y) 1) ≡ upd (pair_of d) c (upd (pair_of d c) x (upd (pair_of d c x) y true))
  unfolding pair_of
  pair_of_lem c x y hc hx hy =
      upd_is (pair_of d) (pair_of d') c (upd (pair_of d c) x (upd (pair_of d c x) y true))
      (upd_is (pair_of d c) (pair_of d' c) x (upd (pair_of d c x) y true)
      (upd_is (pair_of d c x) (pair_of d' c x) y true here (λ q h. other c x q (λ l. omega arith)))
      (λ p h. fun_ext λ q. other c p q (λ l. let a = l.1 in let b = l.2 in omega arith)))
      (λ z h. fun_ext λ p. fun_ext λ q. other z p q (λ l. let a = l.0 in let b = l.1 in let e = l.2 in omega arith))
    where
      d' : List ℕ
      d' = set d (memo_from c x y) 1

      here : pair_of d' c x y ≡ true
      here =
          rw (and_true (ltb c most_cabinets) (ltb x most_unknowns && ltb y most_unknowns) (lt-ltb c most_cabinets hc) (and_true (ltb x most_unknowns) (ltb y most_unknowns) (lt-ltb x most_unknowns hx) (lt-ltb y most_unknowns hy)))
          (ap (λ (n : ℕ). eqb n 1) (get_or-set_same d (memo_from c x y) 1 0 (omega (arith, s.long))))

      other : (z p q : ℕ) → ((z < most_cabinets) × (p < most_unknowns) × (q < most_unknowns) → memo_from z p q ≢ memo_from c x y) → pair_of d' z p q ≡ pair_of d z p q
      other z p q f = go (ltb z most_cabinets && (ltb p most_unknowns && ltb q most_unknowns)) refl
        where
          go : (b : Bool) → (ltb z most_cabinets && (ltb p most_unknowns && ltb q most_unknowns)) ≡ b
              → pick b (eqb (byte_at d' (memo_from z p q)) 1) false ≡ pick b (eqb (byte_at d (memo_from z p q)) 1) false
          go true e =
              let e' = snd_true (ltb z most_cabinets) (ltb p most_unknowns && ltb q most_unknowns) e in
              let hz : z < most_cabinets = ltb-true z most_cabinets (fst_true (ltb z most_cabinets) (ltb p most_unknowns && ltb q most_unknowns) e) in
              let hp : p < most_unknowns = ltb-true p most_unknowns (fst_true (ltb p most_unknowns) (ltb q most_unknowns) e') in
              let hq : q < most_unknowns = ltb-true q most_unknowns (snd_true (ltb p most_unknowns) (ltb q most_unknowns) e') in
              ap (λ (n : ℕ). eqb n 1) (get_or-set_other d (memo_from c x y) (memo_from z p q) 1 0 (f (hz, hp, hq)))
          go false e = refl

  pub pair_changed : (c x y : ℕ) → c < most_cabinets → x < most_unknowns → y < most_unknowns
      → Changed d (rules.with_pair (state_of d) c x y) (with_pair c x y d)
  unfolding with_pair state_of
  pair_changed c x y hc hx hy =
      by_set (memo_from c x y) 1 _ (inr (omega arith, omega arith)) (λ i. record { clash = k i; owner = o i; store = m i; memo = pair_of_lem c x y hc hx hy i })
    where
      d' : List ℕ
      d' = set d (memo_from c x y) 1

      k : clash_of d' ≡ clash_of d
      k = clash_same d d' (set_other d (memo_from c x y) 1 clash_at cabinets_at (inl (omega arith)))

      o : owner_of d' ≡ owner_of d
      o = owners_same d d' (set_other d (memo_from c x y) 1 owners_at stores_at (inl (omega arith)))

      m : mark_of d' ≡ mark_of d
      m = stores_same d d' (set_other d (memo_from c x y) 1 stores_at memos_at (inl (omega arith)))

  -- a mark of a store: the store goes out as 32 marks, one is set, and the store goes back
  pub stored_is_set : (c x m : ℕ) → c < most_cabinets → x < most_unknowns → with_store c (set (store_of c d) x m) d ≡ set d (store_from c + x) m
  unfolding with_store store_of
  stored_is_set c x m hc hx = put_set (store_from c) most_unknowns d x m (omega (arith, s.long)) hx

  mark_of_lem : (c x m : ℕ) → c < most_cabinets → x < most_unknowns
      → mark_of (set d (store_from c + x) m) ≡ upd (mark_of d) c (upd (mark_of d c) x (store_mark m))
  unfolding mark_of
  mark_of_lem c x m hc hx =
      upd_is (mark_of d) (mark_of d') c (upd (mark_of d c) x (store_mark m))
      (upd_is (mark_of d c) (mark_of d' c) x (store_mark m) here (λ y h. other c y (λ l. omega arith)))
      (λ z h. fun_ext λ y. other z y (λ l. let a = l.0 in let b = l.1 in omega arith))
    where
      d' : List ℕ
      d' = set d (store_from c + x) m

      here : mark_of d' c x ≡ store_mark m
      here =
          rw (and_true (ltb c most_cabinets) (ltb x most_unknowns) (lt-ltb c most_cabinets hc) (lt-ltb x most_unknowns hx))
          (ap store_mark (get_or-set_same d (store_from c + x) m 0 (omega (arith, s.long))))

      other : (z y : ℕ) → ((z < most_cabinets) × (y < most_unknowns) → store_from z + y ≢ store_from c + x) → mark_of d' z y ≡ mark_of d z y
      other z y f = go (ltb z most_cabinets && ltb y most_unknowns) refl
        where
          go : (b : Bool) → (ltb z most_cabinets && ltb y most_unknowns) ≡ b
              → pick b (store_mark (byte_at d' (store_from z + y))) nothing ≡ pick b (store_mark (byte_at d (store_from z + y))) nothing
          go true e =
              let hz : z < most_cabinets = ltb-true z most_cabinets (fst_true (ltb z most_cabinets) (ltb y most_unknowns) e) in
              let hy : y < most_unknowns = ltb-true y most_unknowns (snd_true (ltb z most_cabinets) (ltb y most_unknowns) e) in
              ap store_mark (get_or-set_other d (store_from c + x) (store_from z + y) m 0 (f (hz, hy)))
          go false e = refl

  pub mark_changed : (c x m : ℕ) → c < most_cabinets → x < most_unknowns
      → Changed d (rules.with_mark (state_of d) c x (store_mark m)) (with_store c (set (store_of c d) x m) d)
  unfolding state_of
  mark_changed c x m hc hx =
      subst (Changed d (rules.with_mark (state_of d) c x (store_mark m))) (sym (stored_is_set c x m hc hx))
      (by_set (store_from c + x) m _ (inr (omega arith, omega arith)) (λ i. record { clash = k i; owner = o i; store = mark_of_lem c x m hc hx i; memo = p i }))
    where
      d' : List ℕ
      d' = set d (store_from c + x) m

      k : clash_of d' ≡ clash_of d
      k = clash_same d d' (set_other d (store_from c + x) m clash_at cabinets_at (inl (omega arith)))

      o : owner_of d' ≡ owner_of d
      o = owners_same d d' (set_other d (store_from c + x) m owners_at stores_at (inl (omega arith)))

      p : pair_of d' ≡ pair_of d
      p = memos_same d d' (set_other d (store_from c + x) m memos_at pending_at (inr (omega arith)))

  -- the clash
  pub clash_twice : (c : ℕ) → (lo hi : ℕ) → cabinets_at ≤ lo → Same lo hi d (with_clash c d)
  unfolding with_clash
  clash_twice c lo hi l i a b =
      set_other (set d clash_at 1) clash_cabinet_at c lo hi (inr (omega arith)) i a b ∙ set_other d clash_at 1 lo hi (inr (omega arith)) i a b

  pub clash_long : (c : ℕ) → length (with_clash c d) ≡ length d
  unfolding with_clash
  clash_long c = length-set (set d clash_at 1) clash_cabinet_at c ∙ length-set d clash_at 1

  pub clash_byte : (c : ℕ) → byte_at (with_clash c d) clash_at ≡ 1
  unfolding with_clash
  clash_byte c =
      get_or-set_other (set d clash_at 1) clash_cabinet_at clash_at c 0 (λ e. let z : ⊥ = omega arith in z)
      ∙ get_or-set_same d clash_at 1 0 (omega (arith, s.long))

  clash_is : (c : ℕ) → clash_of (with_clash c d) ≡ some c
  unfolding with_clash
  clash_is c =
      let b : byte_at (set (set d clash_at 1) clash_cabinet_at c) clash_cabinet_at ≡ c =
      get_or-set_same (set d clash_at 1) clash_cabinet_at c 0 (omega (arith, s.long, length-set d clash_at 1)) in
      rw (clash_byte c, b)

  pub clash_changed : (c : ℕ) → Changed d (rules.with_clash (state_of d) c) (with_clash c d)
  unfolding state_of
  clash_changed c =
      record {
        shaped = kept_shaped d d' s long sizes items;
        table = kept_table d d' s long sizes items;
        run = kept_run d d' s long sizes items _ (λ i. record { clash = clash_is c i; owner = o i; store = m i; memo = p i });
      }
    where
      d' : List ℕ
      d' = with_clash c d

      long : length d' ≡ run_bytes
      long = clash_long c ∙ s.long

      sizes : Same cabinets_at owners_at d d'
      sizes = clash_twice c cabinets_at owners_at (omega arith)

      items : Same pending_at run_bytes d d'
      items = clash_twice c pending_at run_bytes (omega arith)

      o : owner_of d' ≡ owner_of d
      o = owners_same d d' (clash_twice c owners_at stores_at (omega arith))

      m : mark_of d' ≡ mark_of d
      m = stores_same d d' (clash_twice c stores_at memos_at (omega arith))

      p : pair_of d' ≡ pair_of d
      p = memos_same d d' (clash_twice c memos_at pending_at (omega arith))
