-- Each field of a run reads its own region: where a region's bytes are as they were, so is the field.
use mathlib.Core.Path.{◌≡◌, refl, subst, ap, ap₂, fun_ext}
use mathlib.Core.Bool.{Bool, true, false, ◌&&◌}
use mathlib.Core.List.{List}
use mathlib.Core.Option.{none, some}
use Prim.Native.Nat.{ℕ, ◌+◌, ◌≤◌, ◌<◌}
use native.Mathlib.Nat.{add-zero}
use native.Mathlib.Omega.{arith}
use borrow.Author.Tests.{ltb-true}
use lib.Dec.{ltb, eqb}
use lib.ListN.{length}
use Rattle.base.specs.Choice.{pick}
use Rattle.base.specs.Regions.{get}
use Rattle.base.proofs.Tests.{fst_true, snd_true}
use Rattle.base.proofs.Froms.{from_same}
use Rattle.base.proofs.Regions.{get_same}
use Rattle.paper.specs.Sizes.{most_cabinets, most_unknowns, most_records, most_parts, room}
use Rattle.paper.specs.Runs.{nothing}
use Rattle.layout.specs.Offsets.{symbol_bytes, item_bytes, clash_at, clash_cabinet_at, cabinets_at, unknowns_at, records_at, statements_at, count_at, table_at, owners_at, stores_at, memos_at, pending_at, run_bytes, record_from, store_from, memo_from, item_from}
use Rattle.layout.specs.Fields.{byte_at, value_of, clash_of, count_of, symbol_of, part_count_of, part_of, parts_from, record_of, records_from, owner_mark, store_mark, owner_of, mark_of, pair_of, item_at, items_from, table_of}

-- the bytes from lo up to hi are as they were
abbrev pub Same : ℕ → ℕ → List ℕ → List ℕ → Type 0
Same lo hi d d' = (i : ℕ) → lo ≤ i → i < hi → byte_at d' i ≡ byte_at d i

-- what the fields' places rest on: the length, and that R, the part counts and the pending count are in their ranges
pub record Shaped (d : List ℕ) : Type 0 where
  pub long : length d ≡ run_bytes
  pub records : byte_at d records_at ≤ most_records
  pub parts : (i : ℕ) → i < most_records → part_count_of d i ≤ most_parts
  pub count : count_of d ≤ room

module _ (d d' : List ℕ) where
  pub clash_same : Same clash_at cabinets_at d d' → clash_of d' ≡ clash_of d
  clash_same h =
      ap₂ (λ (a b : ℕ). pick (eqb a 0) none (some b)) (h clash_at (omega arith) (omega arith)) (h clash_cabinet_at (omega arith) (omega arith))

  pub count_same : Same count_at table_at d d' → count_of d' ≡ count_of d
  unfolding count_of
  count_same h = omega (arith, h count_at (omega arith) (omega arith), h (count_at + 1) (omega arith) (omega arith))

  pub owners_same : Same owners_at stores_at d d' → owner_of d' ≡ owner_of d
  unfolding owner_of
  owners_same h = fun_ext λ x. go x (ltb x most_unknowns) refl
    where
      go : (x : ℕ) (b : Bool) → ltb x most_unknowns ≡ b
          → pick b (owner_mark (byte_at d' (owners_at + x))) none ≡ pick b (owner_mark (byte_at d (owners_at + x))) none
      go x true e = ap owner_mark (h (owners_at + x) (omega arith) (omega (arith, ltb-true x most_unknowns e)))
      go x false e = refl

  pub stores_same : Same stores_at memos_at d d' → mark_of d' ≡ mark_of d
  unfolding mark_of
  stores_same h = fun_ext λ c. fun_ext λ x. go c x (ltb c most_cabinets && ltb x most_unknowns) refl
    where
      go : (c x : ℕ) (b : Bool) → (ltb c most_cabinets && ltb x most_unknowns) ≡ b
          → pick b (store_mark (byte_at d' (store_from c + x))) nothing ≡ pick b (store_mark (byte_at d (store_from c + x))) nothing
      go c x true e =
          let hc : c < most_cabinets = ltb-true c most_cabinets (fst_true (ltb c most_cabinets) (ltb x most_unknowns) e) in
          let hx : x < most_unknowns = ltb-true x most_unknowns (snd_true (ltb c most_cabinets) (ltb x most_unknowns) e) in
          ap store_mark (h (store_from c + x) (omega arith) (omega arith))
      go c x false e = refl

  pub memos_same : Same memos_at pending_at d d' → pair_of d' ≡ pair_of d
  unfolding pair_of
  memos_same h = fun_ext λ c. fun_ext λ x. fun_ext λ y. go c x y (ltb c most_cabinets && (ltb x most_unknowns && ltb y most_unknowns)) refl
    where
      go : (c x y : ℕ) (b : Bool) → (ltb c most_cabinets && (ltb x most_unknowns && ltb y most_unknowns)) ≡ b
          → pick b (eqb (byte_at d' (memo_from c x y)) 1) false ≡ pick b (eqb (byte_at d (memo_from c x y)) 1) false
      go c x y true e =
          let e' = snd_true (ltb c most_cabinets) (ltb x most_unknowns && ltb y most_unknowns) e in
          let hc : c < most_cabinets = ltb-true c most_cabinets (fst_true (ltb c most_cabinets) (ltb x most_unknowns && ltb y most_unknowns) e) in
          let hx : x < most_unknowns = ltb-true x most_unknowns (fst_true (ltb x most_unknowns) (ltb y most_unknowns) e') in
          let hy : y < most_unknowns = ltb-true y most_unknowns (snd_true (ltb x most_unknowns) (ltb y most_unknowns) e') in
          ap (λ (n : ℕ). eqb n 1) (h (memo_from c x y) (omega arith) (omega arith))
      go c x y false e = refl

  -- an item whose four bytes are those at another place
  pub item_same : (p q : ℕ) → ((k : ℕ) → k < item_bytes → byte_at d' (item_from p + k) ≡ byte_at d (item_from q + k)) → item_at d' p ≡ item_at d q
  unfolding item_at
  item_same p q h =
      let a : byte_at d' (item_from p) ≡ byte_at d (item_from q) =
      subst (λ (m : ℕ). byte_at d' m ≡ byte_at d (item_from q)) (add-zero (item_from p)) (subst (λ (m : ℕ). byte_at d' (item_from p + 0) ≡ byte_at d m) (add-zero (item_from q)) (h 0 (omega arith))) in
      rw (a, h 1 (omega arith), h 2 (omega arith), h 3 (omega arith))

  pub items_same : (n p : ℕ) → Same (item_from p) (item_from (p + n)) d d' → items_from d' n p ≡ items_from d n p
  items_same n p h =
      from_same (item_at d) (item_at d') n p (λ q a b. item_same q q (λ k l. h (item_from q + k) (omega arith) (omega arith)))

  module _ (s : Shaped d) (long : length d' ≡ run_bytes) where
    record_same : (i : ℕ) → i < most_records → Same table_at owners_at d d' → record_of d' i ≡ record_of d i
    unfolding record_of symbol_of
    record_same i hi h =
        let l = s.long in
        let e : get (record_from i) symbol_bytes d' ≡ get (record_from i) symbol_bytes d =
        get_same (record_from i) symbol_bytes d d' (omega arith) (omega arith) (λ j a b. h j (omega arith) (omega arith)) in
        let c : part_count_of d' i ≡ part_count_of d i = h (record_from i + symbol_bytes) (omega arith) (omega arith) in
        let ps : parts_from d' i (part_count_of d' i) 0 ≡ parts_from d i (part_count_of d i) 0 =
        rw c (from_same (part_of d i) (part_of d' i) (part_count_of d i) 0 (λ k a b. h (record_from i + symbol_bytes + 1 + k) (omega arith) (omega (arith, s.parts i hi)))) in
        ap₂ (λ (n : ℕ) (l : List ℕ). record { symbol = n; parts = l }) (ap value_of e) ps

    pub table_same : Same cabinets_at statements_at d d' → Same table_at owners_at d d' → table_of d' ≡ table_of d
    unfolding table_of
    table_same h k = λ i. record { cabinets = a i; unknowns = b i; records = rs i }
      where
        a : byte_at d' cabinets_at ≡ byte_at d cabinets_at
        a = h cabinets_at (omega arith) (omega arith)

        b : byte_at d' unknowns_at ≡ byte_at d unknowns_at
        b = h unknowns_at (omega arith) (omega arith)

        rs : records_from d' (byte_at d' records_at) 0 ≡ records_from d (byte_at d records_at) 0
        rs = rw (h records_at (omega arith) (omega arith)) (from_same (record_of d) (record_of d') (byte_at d records_at) 0 (λ i a b. record_same i (omega (arith, s.records)) k))

    pub shape_same : count_of d' ≤ room → Same cabinets_at statements_at d d' → Same table_at owners_at d d' → Shaped d'
    shape_same c h k =
        record {
          long = long;
          records = omega (arith, s.records, h records_at (omega arith) (omega arith));
          parts = λ i l. omega (arith, s.parts i l, k (record_from i + symbol_bytes) (omega arith) (omega arith));
          count = c;
        }
