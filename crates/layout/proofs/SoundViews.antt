-- Bytes are sound exactly when their view is a sound run and the bytes of no meaning are as said.
use mathlib.Core.Path.{◌≡◌, refl, subst, ap}
use mathlib.Core.Logic.{◌⊎◌, inl, inr, ⊎_elim}
use mathlib.Core.Bool.{Bool, true, false, ◌&&◌, ◌||◌}
use mathlib.Core.List.{List, [], ◌∷◌}
use mathlib.Core.Option.{none, some}
use Prim.Native.Nat.{ℕ, suc, ◌+◌, ◌-◌, ◌/◌, ◌%◌, ◌^◌, ◌≤◌, ◌<◌}
use native.Mathlib.Nat.{pow-suc}
use native.Mathlib.Omega.{arith}
use borrow.Author.Tests.{ltb-true, ltb-false, leb-true, eqb-true, eqb-false, lt-ltb, le-ltb, le-leb, eq-eqb}
use lib.Dec.{ltb, leb, eqb}
use lib.ListN.{length}
use Rattle.base.specs.Choice.{pick, all_below}
use Rattle.base.specs.Lists.{Bytes}
use Rattle.base.specs.Regions.{get}
use Rattle.base.proofs.Tests.{fst_true, snd_true, and_true, not_both}
use Rattle.base.proofs.Froms.{from_length, from_all, all_from}
use Rattle.base.proofs.Ranges.{below_each, each_below}
use Rattle.base.proofs.Regions.{length_get}
use Rattle.base.proofs.Bytes.{get_bytes}
use Rattle.paper.specs.Sizes.{most_cabinets, most_unknowns, most_records, most_statements, most_parts, room, number_limit}
use Rattle.paper.specs.Tables.{Table, RecordOk, TableOk, entries}
use Rattle.paper.specs.Runs.{nothing, initiated, entry, Lesser, ItemOk, OwnerOk, MarkOk, MemoOk, ClashOk, Sound}
use Rattle.paper.specs.declared.Item.TheVariants.{Statement as statement, Ask as ask, News as news}
use Rattle.layout.specs.Offsets.{symbol_bytes, record_bytes, item_bytes, clash_at, clash_cabinet_at, cabinets_at, unknowns_at, records_at, statements_at, owners_at, pending_at, run_bytes, record_from, store_from, memo_from, item_from}
use Rattle.layout.specs.Fields.{byte_at, value_of, clash_of, count_of, symbol_of, part_count_of, part_of, record_of, owner_mark, store_mark, owner_of, mark_of, pair_of, item_of_bytes, item_at, table_of, state_of, run_of}
use Rattle.layout.specs.Soundness.{all_are, zeros_at, lesser, clash_ok, sizes_ok, parts_ok, record_ok, records_ok, owner_ok, owners_ok, mark_ok, store_ok, stores_ok, pair_ok, memo_row_ok, memo_ok, memos_ok, item_ok, place_ok, items_ok, regions_ok, sound_bytes}
use Rattle.layout.proofs.Frames.{Shaped}
use Rattle.layout.proofs.Canonical.{Canonical}

or_cases : (a b : Bool) → (a || b) ≡ true → (a ≡ true) ⊎ (b ≡ true)
or_cases true b e = inl refl
or_cases false b e = inr e

or_one : (a b : Bool) → a ≡ true → (a || b) ≡ true
or_one a b e = rw e

or_two : (a b : Bool) → b ≡ true → (a || b) ≡ true
or_two true b e = refl
or_two false b e = e

picked : (b : Bool) (x y : Bool) → b ≡ true → pick b x y ≡ true → x ≡ true
picked b x y e h = rw e at h

passed : (b : Bool) (x y : Bool) → b ≡ false → pick b x y ≡ true → y ≡ true
passed b x y e h = rw e at h

-- a conjunction taken apart
both : (a b : Bool) → (a && b) ≡ true → (a ≡ true) × (b ≡ true)
both a b e = (fst_true a b e, snd_true a b e)

three : (a b c : Bool) → (a && (b && c)) ≡ true → (a ≡ true) × (b ≡ true) × (c ≡ true)
three a b c h = let x = both a (b && c) h in let y = both b c x.1 in (x.0, y.0, y.1)

six : (a b c d e f : Bool) → (a && (b && (c && (d && (e && f))))) ≡ true
    → (a ≡ true) × (b ≡ true) × (c ≡ true) × (d ≡ true) × (e ≡ true) × (f ≡ true)
six a b c d e f h =
    let x = three a b (c && (d && (e && f))) h in
    let y = three c d (e && f) x.2 in
    let z = both e f y.2 in
    (x.0, x.1, y.0, y.1, z.0, z.1)

-- so many bytes say less than 256 to that power
value_below : (l : List ℕ) → Bytes l → value_of l < 256 ^ length l
value_below [] h = omega arith
value_below (b ∷ l) h = rw pow-suc (omega (arith, h 0, value_below l (λ i. h (suc i))))

-- what the tests say, taken apart
pub record Tested (d : List ℕ) : Type 0 where
  pub sizes : sizes_ok (byte_at d cabinets_at) (byte_at d unknowns_at) (byte_at d records_at) (byte_at d statements_at) (count_of d) ≡ true
  pub clash : clash_ok (byte_at d cabinets_at) (byte_at d clash_at) (byte_at d clash_cabinet_at) ≡ true
  pub records : records_ok (byte_at d unknowns_at) (byte_at d records_at) d ≡ true
  pub owners : owners_ok (byte_at d unknowns_at) (byte_at d records_at) d ≡ true
  pub stores : stores_ok (byte_at d cabinets_at) (byte_at d unknowns_at) (byte_at d records_at) d ≡ true
  pub memos : memos_ok (byte_at d cabinets_at) (byte_at d unknowns_at) d ≡ true
  pub items : items_ok (byte_at d cabinets_at) (byte_at d unknowns_at) (byte_at d records_at) (count_of d) d ≡ true

-- the sizes in their ranges
pub record InRange (d : List ℕ) : Type 0 where
  pub one : 1 ≤ byte_at d cabinets_at
  pub cabinets : byte_at d cabinets_at ≤ most_cabinets
  pub unknowns : byte_at d unknowns_at ≤ most_unknowns
  pub records : byte_at d records_at ≤ most_records
  pub statements : byte_at d statements_at ≤ most_statements
  pub count : count_of d ≤ room

module _ (d : List ℕ) where
  pub tested : sound_bytes d ≡ true → Tested d
  unfolding sound_bytes regions_ok
  tested h =
      let a =
      both (sizes_ok (byte_at d cabinets_at) (byte_at d unknowns_at) (byte_at d records_at) (byte_at d statements_at) (count_of d))
      (regions_ok (byte_at d cabinets_at) (byte_at d unknowns_at) (byte_at d records_at) (count_of d) d) h in
      let b =
      six (clash_ok (byte_at d cabinets_at) (byte_at d clash_at) (byte_at d clash_cabinet_at)) (records_ok (byte_at d unknowns_at) (byte_at d records_at) d)
      (owners_ok (byte_at d unknowns_at) (byte_at d records_at) d) (stores_ok (byte_at d cabinets_at) (byte_at d unknowns_at) (byte_at d records_at) d)
      (memos_ok (byte_at d cabinets_at) (byte_at d unknowns_at) d) (items_ok (byte_at d cabinets_at) (byte_at d unknowns_at) (byte_at d records_at) (count_of d) d) a.1 in
      record { sizes = a.0; clash = b.0; records = b.1; owners = b.2; stores = b.3; memos = b.4; items = b.5 }

  pub all_tested : Tested d → sound_bytes d ≡ true
  unfolding sound_bytes regions_ok
  all_tested t = rw (t.sizes, t.clash, t.records, t.owners, t.stores, t.memos, t.items)

  pub in_range : Tested d → InRange d
  unfolding sizes_ok
  in_range t =
      let s : ℕ = byte_at d cabinets_at in
      let v : ℕ = byte_at d unknowns_at in
      let r : ℕ = byte_at d records_at in
      let e : ℕ = byte_at d statements_at in
      let a = both (leb 1 s && leb s most_cabinets) (leb v most_unknowns && (leb r most_records && (leb e most_statements && leb (count_of d) room))) t.sizes in
      let b = both (leb 1 s) (leb s most_cabinets) a.0 in
      let c = three (leb v most_unknowns) (leb r most_records) (leb e most_statements && leb (count_of d) room) a.1 in
      let f = both (leb e most_statements) (leb (count_of d) room) c.2 in
      record {
        one = leb-true 1 s b.0;
        cabinets = leb-true s most_cabinets b.1;
        unknowns = leb-true v most_unknowns c.0;
        records = leb-true r most_records c.1;
        statements = leb-true e most_statements f.0;
        count = leb-true (count_of d) room f.1;
      }

  range_in : InRange d → sizes_ok (byte_at d cabinets_at) (byte_at d unknowns_at) (byte_at d records_at) (byte_at d statements_at) (count_of d) ≡ true
  unfolding sizes_ok
  range_in w =
      rw (
        le-leb 1 (byte_at d cabinets_at) w.one,
        le-leb (byte_at d cabinets_at) most_cabinets w.cabinets,
        le-leb (byte_at d unknowns_at) most_unknowns w.unknowns,
        le-leb (byte_at d records_at) most_records w.records,
        le-leb (byte_at d statements_at) most_statements w.statements,
        le-leb (count_of d) room w.count,
      )

-- the table
module _ (d : List ℕ) where
  abbrev t : Table
  t = table_of d

  pub entries_are : entries t ≡ byte_at d unknowns_at + byte_at d records_at
  unfolding table_of
  entries_are = ap (λ (n : ℕ). byte_at d unknowns_at + n) (from_length (record_of d) (byte_at d records_at) 0)

  -- the test of a lesser entry and the paper's
  lesser_is : (u x : ℕ) → lesser (byte_at d unknowns_at) (byte_at d records_at) u x ≡ true → Lesser t u x
  unfolding lesser table_of
  lesser_is u x h = go (both (ltb x v) (pick (ltb u v) (ltb u x) (ltb u (v + r))) h) (ltb u v) refl
    where
      v : ℕ
      v = byte_at d unknowns_at

      r : ℕ
      r = byte_at d records_at

      go : (ltb x v ≡ true) × (pick (ltb u v) (ltb u x) (ltb u (v + r)) ≡ true) → (b : Bool) → ltb u v ≡ b → Lesser t u x
      go p true e =
          let l : ltb u x ≡ true = picked (ltb u v) (ltb u x) (ltb u (v + r)) e p.1 in
          record {
            is = and_true (ltb x v) (leb v u || ltb u x) p.0 (or_two (leb v u) (ltb u x) l);
            entry = omega (arith, ltb-true u v e, entries_are);
          }
      go p false e =
          let l : ltb u (v + r) ≡ true = passed (ltb u v) (ltb u x) (ltb u (v + r)) e p.1 in
          record {
            is = and_true (ltb x v) (leb v u || ltb u x) p.0 (or_one (leb v u) (ltb u x) (le-leb v u (ltb-false u v e)));
            entry = omega (arith, ltb-true u (v + r) l, entries_are);
          }

  is_lesser : (u x : ℕ) → Lesser t u x → lesser (byte_at d unknowns_at) (byte_at d records_at) u x ≡ true
  unfolding lesser table_of
  is_lesser u x w = go (both (ltb x v) (leb v u || ltb u x) w.is) (ltb u v) refl
    where
      v : ℕ
      v = byte_at d unknowns_at

      r : ℕ
      r = byte_at d records_at

      go : (ltb x v ≡ true) × ((leb v u || ltb u x) ≡ true) → (b : Bool) → ltb u v ≡ b → (ltb x v && pick (ltb u v) (ltb u x) (ltb u (v + r))) ≡ true
      go p true e =
          rw (p.0, e) (⊎_elim (λ (l : leb v u ≡ true). absurd (let z : ⊥ = omega (arith, leb-true v u l, ltb-true u v e) in z)) (λ l. l) (or_cases (leb v u) (ltb u x) p.1))
      go p false e = rw (p.0, e) (lt-ltb u (v + r) (omega (arith, w.entry, entries_are)))

-- a test that goes by cases
chosen : (b x y : Bool) → pick b x y ≡ true → ((b ≡ true) × (x ≡ true)) ⊎ ((b ≡ false) × (y ≡ true))
chosen true x y h = inl (refl, h)
chosen false x y h = inr (refl, h)

-- from the tests to the paper
module _ (d : List ℕ) (long : length d ≡ run_bytes) (w : Tested d) where
  abbrev range : InRange d
  range = in_range d w

  record_test : (i : ℕ) → i < most_records → record_ok (byte_at d unknowns_at) (byte_at d records_at) d i ≡ true
  unfolding records_ok
  record_test i h = below_each (record_ok (byte_at d unknowns_at) (byte_at d records_at) d) most_records w.records i h

  -- a record below R has its parts in range; one from R on is 0
  used : (i : ℕ) → i < byte_at d records_at → parts_ok (byte_at d unknowns_at) i d ≡ true
  unfolding record_ok
  used i h =
      picked (ltb i (byte_at d records_at)) (parts_ok (byte_at d unknowns_at) i d) (zeros_at record_bytes (record_from i) d) (lt-ltb i (byte_at d records_at) h)
      (record_test i (omega (arith, range.records)))

  spare : (i k : ℕ) → byte_at d records_at ≤ i → i < most_records → k < record_bytes → byte_at d (record_from i + k) ≡ 0
  unfolding record_ok all_are
  spare i k h l m =
      eqb-true (byte_at d (record_from i + k)) 0
      (below_each (λ j. eqb (byte_at d (record_from i + j)) 0) record_bytes
      (passed (ltb i (byte_at d records_at)) (parts_ok (byte_at d unknowns_at) i d) (zeros_at record_bytes (record_from i) d) (le-ltb i (byte_at d records_at) h) (record_test i l))
      k m)

  pub part_count : (i : ℕ) → i < byte_at d records_at → part_count_of d i ≤ most_parts
  unfolding parts_ok
  part_count i h = leb-true (part_count_of d i) most_parts (fst_true _ (all_below most_parts (λ k. pick (ltb k (part_count_of d i)) (ltb (part_of d i k) (byte_at d unknowns_at)) (eqb (part_of d i k) 0))) (used i h))

  part_test : (i : ℕ) → i < byte_at d records_at → (k : ℕ) → k < most_parts
      → pick (ltb k (part_count_of d i)) (ltb (part_of d i k) (byte_at d unknowns_at)) (eqb (part_of d i k) 0) ≡ true
  unfolding parts_ok
  part_test i h k l =
      below_each (λ k. pick (ltb k (part_count_of d i)) (ltb (part_of d i k) (byte_at d unknowns_at)) (eqb (part_of d i k) 0)) most_parts
      (snd_true (leb (part_count_of d i) most_parts) _ (used i h)) k l

  -- a part is an unknown
  pub part_low : (i : ℕ) → i < byte_at d records_at → (k : ℕ) → k < part_count_of d i → part_of d i k < byte_at d unknowns_at
  part_low i h k l =
      ltb-true (part_of d i k) (byte_at d unknowns_at)
      (picked (ltb k (part_count_of d i)) (ltb (part_of d i k) (byte_at d unknowns_at)) (eqb (part_of d i k) 0) (lt-ltb k (part_count_of d i) l)
      (part_test i h k (omega (arith, part_count i h))))

  pub shaped : Shaped d
  shaped = record { long = long; records = range.records; parts = parts; count = range.count }
    where
      parts : (i : ℕ) → i < most_records → part_count_of d i ≤ most_parts
      parts i h = go (ltb i (byte_at d records_at)) refl
        where
          go : (b : Bool) → ltb i (byte_at d records_at) ≡ b → part_count_of d i ≤ most_parts
          go true e = part_count i (ltb-true i (byte_at d records_at) e)
          go false e = omega (arith, spare i symbol_bytes (ltb-false i (byte_at d records_at) e) h (omega arith))

  symbol_below : Bytes d → (i : ℕ) → i < most_records → symbol_of d i < number_limit
  unfolding symbol_of
  symbol_below b i h =
      let at : ℕ = record_from i in
      let fits : at + symbol_bytes ≤ length d = omega (arith, long) in
      let l : length (get at symbol_bytes d) ≡ symbol_bytes = length_get at symbol_bytes d fits in
      let e : value_of (get at symbol_bytes d) < 256 ^ length (get at symbol_bytes d) = value_below (get at symbol_bytes d) (get_bytes at symbol_bytes d b) in
      rw l at e

  pub table_ok : Bytes d → TableOk (table_of d)
  unfolding table_of record_of
  table_ok b =
      record {
        one = range.one;
        cabinets = range.cabinets;
        unknowns = range.unknowns;
        count = omega (arith, from_length (record_of d) (byte_at d records_at) 0, range.records);
        records = from_all (RecordOk (byte_at d unknowns_at)) (record_of d) (byte_at d records_at) 0 (λ i a l. one i (omega arith));
      }
    where
      one : (i : ℕ) → i < byte_at d records_at → RecordOk (byte_at d unknowns_at) (record_of d i)
      one i h =
          record {
            symbol = symbol_below b i (omega (arith, range.records));
            count = omega (arith, from_length (part_of d i) (part_count_of d i) 0, part_count i h);
            parts = from_all (λ p. p < byte_at d unknowns_at) (part_of d i) (part_count_of d i) 0 (λ k a l. part_low i h k (omega arith));
          }

  owner_test : (x : ℕ) → x < most_unknowns
      → (eqb (byte_at d (owners_at + x)) 255 || lesser (byte_at d unknowns_at) (byte_at d records_at) (byte_at d (owners_at + x)) x) ≡ true
  unfolding owners_ok owner_ok
  owner_test x h = below_each (owner_ok (byte_at d unknowns_at) (byte_at d records_at) d) most_unknowns w.owners x h

  pub owner_ok_lem : (x : ℕ) → OwnerOk (table_of d) x (owner_of d x)
  unfolding owner_of
  owner_ok_lem x = go (ltb x most_unknowns) refl
    where
      mark : (m : ℕ) → (eqb m 255 || lesser (byte_at d unknowns_at) (byte_at d records_at) m x) ≡ true → (b : Bool) → eqb m 255 ≡ b → OwnerOk (table_of d) x (pick b none (some m))
      mark m h true e = tt
      mark m h false e = ⊎_elim (λ f. absurd (not_both (eqb m 255) f e)) (λ f. lesser_is d m x f) (or_cases (eqb m 255) _ h)

      go : (b : Bool) → ltb x most_unknowns ≡ b → OwnerOk (table_of d) x (pick b (owner_mark (byte_at d (owners_at + x))) none)
      go true e = mark (byte_at d (owners_at + x)) (owner_test x (ltb-true x most_unknowns e)) (eqb (byte_at d (owners_at + x)) 255) refl
      go false e = tt

  store_test : (c x : ℕ) → c < most_cabinets → x < most_unknowns
      → pick (ltb c (byte_at d cabinets_at)) (mark_ok (byte_at d unknowns_at) (byte_at d records_at) x (byte_at d (store_from c + x))) (eqb (byte_at d (store_from c + x)) 255) ≡ true
  unfolding stores_ok store_ok
  store_test c x hc hx =
      below_each
      (λ x. pick (ltb c (byte_at d cabinets_at)) (mark_ok (byte_at d unknowns_at) (byte_at d records_at) x (byte_at d (store_from c + x))) (eqb (byte_at d (store_from c + x)) 255))
      most_unknowns (below_each (store_ok (byte_at d cabinets_at) (byte_at d unknowns_at) (byte_at d records_at) d) most_cabinets w.stores c hc) x hx

  mark_ok_lem : (c x m : ℕ) → c < byte_at d cabinets_at → mark_ok (byte_at d unknowns_at) (byte_at d records_at) x m ≡ true → MarkOk (table_of d) c x (store_mark m)
  unfolding mark_ok table_of
  mark_ok_lem c x m hc h = go (eqb m 255) refl (eqb m 254) refl
    where
      less : eqb m 255 ≡ false → eqb m 254 ≡ false → Lesser (table_of d) m x
      less e f =
          ⊎_elim (λ g. absurd (not_both (eqb m 255) g e))
          (λ g. ⊎_elim (λ k. absurd (not_both (eqb m 254) (fst_true (eqb m 254) (ltb x (byte_at d unknowns_at)) k) f)) (λ k. lesser_is d m x k)
          (or_cases (eqb m 254 && ltb x (byte_at d unknowns_at)) (lesser (byte_at d unknowns_at) (byte_at d records_at) m x) g))
          (or_cases (eqb m 255) ((eqb m 254 && ltb x (byte_at d unknowns_at)) || lesser (byte_at d unknowns_at) (byte_at d records_at) m x) h)

      unknown : eqb m 255 ≡ false → eqb m 254 ≡ true → x < byte_at d unknowns_at
      unknown e f =
          ⊎_elim (λ g. absurd (not_both (eqb m 255) g e))
          (λ g. ⊎_elim (λ k. ltb-true x (byte_at d unknowns_at) (snd_true (eqb m 254) (ltb x (byte_at d unknowns_at)) k))
          (λ k. let l = lesser_is d m x k in absurd (let z : ⊥ = omega (arith, eqb-true m 254 f, l.entry, entries_are d, range.unknowns, range.records) in z))
          (or_cases (eqb m 254 && ltb x (byte_at d unknowns_at)) (lesser (byte_at d unknowns_at) (byte_at d records_at) m x) g))
          (or_cases (eqb m 255) ((eqb m 254 && ltb x (byte_at d unknowns_at)) || lesser (byte_at d unknowns_at) (byte_at d records_at) m x) h)

      go : (p : Bool) → eqb m 255 ≡ p → (q : Bool) → eqb m 254 ≡ q → MarkOk (table_of d) c x (pick p nothing (pick q initiated (entry m)))
      go true e q f = tt
      go false e true f = (hc, unknown e f)
      go false e false f = (hc, less e f)

  store_ok_lem : (c x : ℕ) → MarkOk (table_of d) c x (mark_of d c x)
  unfolding mark_of
  store_ok_lem c x = go (ltb c most_cabinets && ltb x most_unknowns) refl
    where
      mine : (hc : c < most_cabinets) → x < most_unknowns → MarkOk (table_of d) c x (store_mark (byte_at d (store_from c + x)))
      mine hc hx =
          ⊎_elim (λ p. mark_ok_lem c x (byte_at d (store_from c + x)) (ltb-true c (byte_at d cabinets_at) p.0) p.1)
          (λ p. rw p.1 tt)
          (chosen (ltb c (byte_at d cabinets_at)) _ (eqb (byte_at d (store_from c + x)) 255) (store_test c x hc hx))

      go : (b : Bool) → (ltb c most_cabinets && ltb x most_unknowns) ≡ b → MarkOk (table_of d) c x (pick b (store_mark (byte_at d (store_from c + x))) nothing)
      go true e =
          mine (ltb-true c most_cabinets (fst_true (ltb c most_cabinets) (ltb x most_unknowns) e)) (ltb-true x most_unknowns (snd_true (ltb c most_cabinets) (ltb x most_unknowns) e))
      go false e = tt

  pair_test : (c x y : ℕ) → c < most_cabinets → x < most_unknowns → y < most_unknowns
      → pair_ok (byte_at d cabinets_at) (byte_at d unknowns_at) c x y (byte_at d (memo_from c x y)) ≡ true
  unfolding memos_ok memo_ok memo_row_ok
  pair_test c x y hc hx hy =
      below_each (λ y. pair_ok (byte_at d cabinets_at) (byte_at d unknowns_at) c x y (byte_at d (memo_from c x y))) most_unknowns
      (below_each (memo_row_ok (byte_at d cabinets_at) (byte_at d unknowns_at) d c) most_unknowns
      (below_each (memo_ok (byte_at d cabinets_at) (byte_at d unknowns_at) d) most_cabinets w.memos c hc) x hx)
      y hy

  -- a memo byte is 0, or 1 in order
  pair_cases : (c x y : ℕ) → c < most_cabinets → x < most_unknowns → y < most_unknowns
      → (byte_at d (memo_from c x y) ≡ 0) ⊎ ((byte_at d (memo_from c x y) ≡ 1) × (c < byte_at d cabinets_at) × (x < byte_at d unknowns_at) × (y < x))
  unfolding pair_ok
  pair_cases c x y hc hx hy =
      ⊎_elim (λ e. inl (eqb-true (byte_at d (memo_from c x y)) 0 e))
      (λ e.
      let a = both (eqb (byte_at d (memo_from c x y)) 1) (ltb c (byte_at d cabinets_at) && (ltb x (byte_at d unknowns_at) && ltb y x)) e in
      let b = three (ltb c (byte_at d cabinets_at)) (ltb x (byte_at d unknowns_at)) (ltb y x) a.1 in
      inr (eqb-true (byte_at d (memo_from c x y)) 1 a.0, ltb-true c (byte_at d cabinets_at) b.0, ltb-true x (byte_at d unknowns_at) b.1, ltb-true y x b.2))
      (or_cases (eqb (byte_at d (memo_from c x y)) 0) (eqb (byte_at d (memo_from c x y)) 1 && (ltb c (byte_at d cabinets_at) && (ltb x (byte_at d unknowns_at) && ltb y x))) (pair_test c x y hc hx hy))

  memo_ok_lem : (c x y : ℕ) → MemoOk (table_of d) c x y (pair_of d c x y)
  unfolding pair_of table_of
  memo_ok_lem c x y = go (ltb c most_cabinets && (ltb x most_unknowns && ltb y most_unknowns)) refl
    where
      go : (b : Bool) → (ltb c most_cabinets && (ltb x most_unknowns && ltb y most_unknowns)) ≡ b → MemoOk (table_of d) c x y (pick b (eqb (byte_at d (memo_from c x y)) 1) false)
      go true e =
          let a = three (ltb c most_cabinets) (ltb x most_unknowns) (ltb y most_unknowns) e in
          ⊎_elim (λ f. rw f tt) (λ f. rw f.0 (f.1, f.2, f.3))
          (pair_cases c x y (ltb-true c most_cabinets a.0) (ltb-true x most_unknowns a.1) (ltb-true y most_unknowns a.2))
      go false e = tt

  place_test : (p : ℕ) → p < room → place_ok (byte_at d cabinets_at) (byte_at d unknowns_at) (byte_at d records_at) (count_of d) d p ≡ true
  unfolding items_ok
  place_test p h = below_each (place_ok (byte_at d cabinets_at) (byte_at d unknowns_at) (byte_at d records_at) (count_of d) d) room w.items p h

  item_test : (p : ℕ) → p < count_of d
      → item_ok (byte_at d cabinets_at) (byte_at d unknowns_at) (byte_at d records_at) (byte_at d (item_from p)) (byte_at d (item_from p + 1)) (byte_at d (item_from p + 2)) (byte_at d (item_from p + 3)) ≡ true
  unfolding place_ok
  item_test p h =
      picked (ltb p (count_of d)) _ (zeros_at item_bytes (item_from p) d) (lt-ltb p (count_of d) h) (place_test p (omega (arith, range.count)))

  item_free : (p k : ℕ) → count_of d ≤ p → p < room → k < item_bytes → byte_at d (item_from p + k) ≡ 0
  unfolding place_ok all_are
  item_free p k h l m =
      eqb-true (byte_at d (item_from p + k)) 0
      (below_each (λ j. eqb (byte_at d (item_from p + j)) 0) item_bytes
      (passed (ltb p (count_of d)) _ (zeros_at item_bytes (item_from p) d) (le-ltb p (count_of d) h) (place_test p l)) k m)

  -- an item of four bytes that pass is sound, and its kind is 1, 2 or 3
  four : (k c a b : ℕ) → item_ok (byte_at d cabinets_at) (byte_at d unknowns_at) (byte_at d records_at) k c a b ≡ true
      → ItemOk (table_of d) (item_of_bytes k c a b) × (1 ≤ k) × (k ≤ 3)
  unfolding item_ok table_of
  four k c a b h =
      let v : ℕ = byte_at d unknowns_at in
      let r : ℕ = byte_at d records_at in
      let x = both (ltb c (byte_at d cabinets_at)) (pick (eqb k 1) (ltb a (v + r) && ltb b (v + r)) ((eqb k 2 || eqb k 3) && lesser v r b a)) h in
      go (ltb-true c (byte_at d cabinets_at) x.0) (chosen (eqb k 1) (ltb a (v + r) && ltb b (v + r)) ((eqb k 2 || eqb k 3) && lesser v r b a) x.1)
    where
      v : ℕ
      v = byte_at d unknowns_at

      r : ℕ
      r = byte_at d records_at

      other : c < byte_at d cabinets_at → eqb k 1 ≡ false → ((eqb k 2 || eqb k 3) ≡ true) × (lesser v r b a ≡ true) → (q : Bool) → eqb k 2 ≡ q
          → ItemOk (table_of d) (pick (eqb k 1) (statement c a b) (pick (eqb k 2) (ask c a b) (news c a b))) × (1 ≤ k) × (k ≤ 3)
      other hc e f true g = rw (e, g) ((hc, lesser_is d b a f.1), omega (arith, eqb-true k 2 g), omega (arith, eqb-true k 2 g))
      other hc e f false g =
          let k3 : k ≡ 3 = ⊎_elim (λ z. absurd (not_both (eqb k 2) z g)) (λ z. eqb-true k 3 z) (or_cases (eqb k 2) (eqb k 3) f.0) in
          rw (e, g) ((hc, lesser_is d b a f.1), omega arith, omega arith)

      go : c < byte_at d cabinets_at
          → ((eqb k 1 ≡ true) × ((ltb a (v + r) && ltb b (v + r)) ≡ true)) ⊎ ((eqb k 1 ≡ false) × (((eqb k 2 || eqb k 3) && lesser v r b a) ≡ true))
          → ItemOk (table_of d) (item_of_bytes k c a b) × (1 ≤ k) × (k ≤ 3)
      go hc (inl f) =
          let g = both (ltb a (v + r)) (ltb b (v + r)) f.1 in
          let k1 : k ≡ 1 = eqb-true k 1 f.0 in
          rw f.0 ((hc, omega (arith, ltb-true a (v + r) g.0, entries_are d), omega (arith, ltb-true b (v + r) g.1, entries_are d)), omega arith, omega arith)
      go hc (inr f) = other hc f.0 (both (eqb k 2 || eqb k 3) (lesser v r b a) f.1) (eqb k 2) refl

  clash_ok_lem : ClashOk (table_of d) (clash_of d) × (byte_at d clash_at ≤ 1) × (byte_at d clash_at ≡ 0 → byte_at d clash_cabinet_at ≡ 0)
  unfolding table_of clash_ok
  clash_ok_lem = go (chosen (eqb a 0) (eqb c 0) (eqb a 1 && ltb c (byte_at d cabinets_at)) w.clash)
    where
      a : ℕ
      a = byte_at d clash_at

      c : ℕ
      c = byte_at d clash_cabinet_at

      go : ((eqb a 0 ≡ true) × (eqb c 0 ≡ true)) ⊎ ((eqb a 0 ≡ false) × ((eqb a 1 && ltb c (byte_at d cabinets_at)) ≡ true))
          → ClashOk (table_of d) (pick (eqb a 0) none (some c)) × (a ≤ 1) × (a ≡ 0 → c ≡ 0)
      go (inl f) = let z : a ≡ 0 = eqb-true a 0 f.0 in rw f.0 (tt, omega arith, λ e. eqb-true c 0 f.1)
      go (inr f) =
          let g = both (eqb a 1) (ltb c (byte_at d cabinets_at)) f.1 in
          let z : a ≡ 1 = eqb-true a 1 g.0 in
          rw f.0 (ltb-true c (byte_at d cabinets_at) g.1, omega arith, λ e. absurd (let y : ⊥ = omega arith in y))

  -- The view of sound bytes is a sound run.
  pub view_sound : Bytes d → Sound (table_of d) (run_of d)
  unfolding run_of state_of
  view_sound b =
      record {
        table = table_ok b;
        statements = range.statements;
        state = record { clash = clash_ok_lem.0; owner = owner_ok_lem; store = store_ok_lem; memo = memo_ok_lem };
        items = from_all (ItemOk (table_of d)) (item_at d) (count_of d) 0 (λ p a l. item p (omega arith));
        fits = omega (arith, from_length (item_at d) (count_of d) 0, range.count);
      }
    where
      item : (p : ℕ) → p < count_of d → ItemOk (table_of d) (item_at d p)
      item p h = (four (byte_at d (item_from p)) (byte_at d (item_from p + 1)) (byte_at d (item_from p + 2)) (byte_at d (item_from p + 3)) (item_test p h)).0

  -- and the bytes of no meaning are as said
  pub canonical : Canonical d
  canonical =
      record {
        flag = clash_ok_lem.1;
        quiet = clash_ok_lem.2;
        records = spare;
        parts = λ i k h l m.
            eqb-true (part_of d i k) 0
            (passed (ltb k (part_count_of d i)) (ltb (part_of d i k) (byte_at d unknowns_at)) (eqb (part_of d i k) 0) (le-ltb k (part_count_of d i) l) (part_test i h k m));
        memos = λ c x y hc hx hy. ⊎_elim (λ (e : byte_at d (memo_from c x y) ≡ 0). at_most e) (λ e. one e.0) (pair_cases c x y hc hx hy);
        kinds = λ p h.
            let z = four (byte_at d (item_from p)) (byte_at d (item_from p + 1)) (byte_at d (item_from p + 2)) (byte_at d (item_from p + 3)) (item_test p h) in
            (z.1, z.2);
        items = free;
      }
    where
      at_most : {n : ℕ} → n ≡ 0 → n ≤ 1
      at_most e = omega arith

      one : {n : ℕ} → n ≡ 1 → n ≤ 1
      one e = omega arith

      free : (i : ℕ) → item_from (count_of d) ≤ i → i < run_bytes → byte_at d i ≡ 0
      free i h l =
          let p : ℕ = (i - pending_at) / item_bytes in
          let k : ℕ = (i - pending_at) % item_bytes in
          let e : item_from p + k ≡ i = omega arith in
          subst (λ (m : ℕ). byte_at d m ≡ 0) e (item_free p k (omega arith) (omega arith) (omega arith))

-- from the paper to the tests
module _ (d : List ℕ) (s : Shaped d) (k : Sound (table_of d) (run_of d)) (z : Canonical d) where
  ranges : InRange d
  unfolding table_of run_of
  ranges =
      record {
        one = k.table.one;
        cabinets = k.table.cabinets;
        unknowns = k.table.unknowns;
        records = s.records;
        statements = k.statements;
        count = s.count;
      }

  clash_back : clash_ok (byte_at d cabinets_at) (byte_at d clash_at) (byte_at d clash_cabinet_at) ≡ true
  unfolding clash_ok table_of run_of state_of
  clash_back = go (eqb (byte_at d clash_at) 0) refl k.state.clash
    where
      go : (b : Bool) → eqb (byte_at d clash_at) 0 ≡ b → ClashOk (table_of d) (pick b none (some (byte_at d clash_cabinet_at)))
          → pick b (eqb (byte_at d clash_cabinet_at) 0) (eqb (byte_at d clash_at) 1 && ltb (byte_at d clash_cabinet_at) (byte_at d cabinets_at)) ≡ true
      go true e h = eq-eqb (byte_at d clash_cabinet_at) 0 (z.quiet (eqb-true (byte_at d clash_at) 0 e))
      go false e h =
          let ne : byte_at d clash_at ≡ 0 → ⊥ = eqb-false (byte_at d clash_at) 0 e in
          and_true (eqb (byte_at d clash_at) 1) (ltb (byte_at d clash_cabinet_at) (byte_at d cabinets_at)) (eq-eqb (byte_at d clash_at) 1 (omega (arith, z.flag)))
          (lt-ltb (byte_at d clash_cabinet_at) (byte_at d cabinets_at) h)

  zeros_back : (n at : ℕ) → ((j : ℕ) → j < n → byte_at d (at + j) ≡ 0) → zeros_at n at d ≡ true
  unfolding all_are
  zeros_back n at h = each_below (λ i. eqb (byte_at d (at + i)) 0) n (λ i l. eq-eqb (byte_at d (at + i)) 0 (h i l))

  parts_back : (i : ℕ) → i < byte_at d records_at → parts_ok (byte_at d unknowns_at) i d ≡ true
  unfolding parts_ok table_of record_of
  parts_back i h =
      let q : RecordOk (byte_at d unknowns_at) (record_of d i) =
      all_from (RecordOk (byte_at d unknowns_at)) (record_of d) (byte_at d records_at) 0 k.table.records i (omega arith) (omega arith) in
      and_true (leb (part_count_of d i) most_parts) _ (le-leb (part_count_of d i) most_parts (s.parts i (omega (arith, s.records))))
      (each_below (λ j. pick (ltb j (part_count_of d i)) (ltb (part_of d i j) (byte_at d unknowns_at)) (eqb (part_of d i j) 0)) most_parts
      (λ j l. one q j l (ltb j (part_count_of d i)) refl))
    where
      one : RecordOk (byte_at d unknowns_at) (record_of d i) → (j : ℕ) → j < most_parts → (b : Bool) → ltb j (part_count_of d i) ≡ b
          → pick b (ltb (part_of d i j) (byte_at d unknowns_at)) (eqb (part_of d i j) 0) ≡ true
      one q j l true e =
          lt-ltb (part_of d i j) (byte_at d unknowns_at)
          (all_from (λ p. p < byte_at d unknowns_at) (part_of d i) (part_count_of d i) 0 q.parts j (omega arith) (omega (arith, ltb-true j (part_count_of d i) e)))
      one q j l false e = eq-eqb (part_of d i j) 0 (z.parts i j h (ltb-false j (part_count_of d i) e) l)

  records_back : records_ok (byte_at d unknowns_at) (byte_at d records_at) d ≡ true
  unfolding records_ok record_ok
  records_back = each_below (record_ok (byte_at d unknowns_at) (byte_at d records_at) d) most_records (λ i l. one i l (ltb i (byte_at d records_at)) refl)
    where
      one : (i : ℕ) → i < most_records → (b : Bool) → ltb i (byte_at d records_at) ≡ b
          → pick b (parts_ok (byte_at d unknowns_at) i d) (zeros_at record_bytes (record_from i) d) ≡ true
      one i l true e = parts_back i (ltb-true i (byte_at d records_at) e)
      one i l false e = zeros_back record_bytes (record_from i) (λ j m. z.records i j (ltb-false i (byte_at d records_at) e) l m)

  owners_back : owners_ok (byte_at d unknowns_at) (byte_at d records_at) d ≡ true
  unfolding owners_ok owner_ok run_of state_of owner_of
  owners_back = each_below (owner_ok (byte_at d unknowns_at) (byte_at d records_at) d) most_unknowns (λ x l. one x (eqb (byte_at d (owners_at + x)) 255) refl (rw (lt-ltb x most_unknowns l) at (k.state.owner x)))
    where
      one : (x : ℕ) (b : Bool) → eqb (byte_at d (owners_at + x)) 255 ≡ b → OwnerOk (table_of d) x (pick (eqb (byte_at d (owners_at + x)) 255) none (some (byte_at d (owners_at + x))))
          → (eqb (byte_at d (owners_at + x)) 255 || lesser (byte_at d unknowns_at) (byte_at d records_at) (byte_at d (owners_at + x)) x) ≡ true
      one x true e h = or_one (eqb (byte_at d (owners_at + x)) 255) _ e
      one x false e h = or_two (eqb (byte_at d (owners_at + x)) 255) _ (is_lesser d (byte_at d (owners_at + x)) x (rw e at h))

  mark_back : (c x m : ℕ) → MarkOk (table_of d) c x (store_mark m) → (b : Bool) → ltb c (byte_at d cabinets_at) ≡ b
      → pick b (mark_ok (byte_at d unknowns_at) (byte_at d records_at) x m) (eqb m 255) ≡ true
  unfolding mark_ok table_of
  mark_back c x m h = go (eqb m 255) refl (eqb m 254) refl h
    where
      rest : Bool
      rest = (eqb m 254 && ltb x (byte_at d unknowns_at)) || lesser (byte_at d unknowns_at) (byte_at d records_at) m x

      away : c < byte_at d cabinets_at → (b : Bool) → ltb c (byte_at d cabinets_at) ≡ b → rest ≡ true → pick b (eqb m 255 || rest) (eqb m 255) ≡ true
      away hc true e f = or_two (eqb m 255) rest f
      away hc false e f = absurd (let y : ⊥ = omega (arith, ltb-false c (byte_at d cabinets_at) e) in y)

      go : (p : Bool) → eqb m 255 ≡ p → (q : Bool) → eqb m 254 ≡ q → MarkOk (table_of d) c x (pick p nothing (pick q initiated (entry m))) → (b : Bool)
          → ltb c (byte_at d cabinets_at) ≡ b → pick b (eqb m 255 || rest) (eqb m 255) ≡ true
      go true e q f w true g = or_one (eqb m 255) rest e
      go true e q f w false g = e
      go false e true f w b g =
          away w.0 b g
          (or_one (eqb m 254 && ltb x (byte_at d unknowns_at)) _ (and_true (eqb m 254) (ltb x (byte_at d unknowns_at)) f (lt-ltb x (byte_at d unknowns_at) w.1)))
      go false e false f w b g = away w.0 b g (or_two (eqb m 254 && ltb x (byte_at d unknowns_at)) _ (is_lesser d m x w.1))

  stores_back : stores_ok (byte_at d cabinets_at) (byte_at d unknowns_at) (byte_at d records_at) d ≡ true
  unfolding stores_ok store_ok run_of state_of mark_of
  stores_back =
      each_below (store_ok (byte_at d cabinets_at) (byte_at d unknowns_at) (byte_at d records_at) d) most_cabinets
      (λ c hc.
      each_below
      (λ x. pick (ltb c (byte_at d cabinets_at)) (mark_ok (byte_at d unknowns_at) (byte_at d records_at) x (byte_at d (store_from c + x))) (eqb (byte_at d (store_from c + x)) 255))
      most_unknowns
      (λ x hx.
      mark_back c x (byte_at d (store_from c + x)) (rw (and_true (ltb c most_cabinets) (ltb x most_unknowns) (lt-ltb c most_cabinets hc) (lt-ltb x most_unknowns hx)) at (k.state.store c x))
      (ltb c (byte_at d cabinets_at)) refl))

  pair_back : (c x y b : ℕ) → b ≤ 1 → MemoOk (table_of d) c x y (eqb b 1) → pair_ok (byte_at d cabinets_at) (byte_at d unknowns_at) c x y b ≡ true
  unfolding pair_ok table_of
  pair_back c x y b h w = go (eqb b 1) refl w
    where
      rest : Bool
      rest = eqb b 1 && (ltb c (byte_at d cabinets_at) && (ltb x (byte_at d unknowns_at) && ltb y x))

      go : (q : Bool) → eqb b 1 ≡ q → MemoOk (table_of d) c x y q → (eqb b 0 || rest) ≡ true
      go true e m =
          or_two (eqb b 0) rest
          (rw (e, lt-ltb c (byte_at d cabinets_at) m.0, lt-ltb x (byte_at d unknowns_at) m.1, lt-ltb y x m.2))
      go false e m = let ne : b ≡ 1 → ⊥ = eqb-false b 1 e in or_one (eqb b 0) rest (eq-eqb b 0 (omega arith))

  memos_back : memos_ok (byte_at d cabinets_at) (byte_at d unknowns_at) d ≡ true
  unfolding memos_ok memo_ok memo_row_ok run_of state_of pair_of
  memos_back =
      each_below (memo_ok (byte_at d cabinets_at) (byte_at d unknowns_at) d) most_cabinets
      (λ c hc.
      each_below (memo_row_ok (byte_at d cabinets_at) (byte_at d unknowns_at) d c) most_unknowns
      (λ x hx.
      each_below (λ y. pair_ok (byte_at d cabinets_at) (byte_at d unknowns_at) c x y (byte_at d (memo_from c x y))) most_unknowns
      (λ y hy.
      pair_back c x y (byte_at d (memo_from c x y)) (z.memos c x y hc hx hy)
      (rw (and_true (ltb c most_cabinets) (ltb x most_unknowns && ltb y most_unknowns) (lt-ltb c most_cabinets hc)
      (and_true (ltb x most_unknowns) (ltb y most_unknowns) (lt-ltb x most_unknowns hx) (lt-ltb y most_unknowns hy))) at (k.state.memo c x y)))))

  four_back : (n c a b : ℕ) → 1 ≤ n → n ≤ 3 → ItemOk (table_of d) (item_of_bytes n c a b)
      → item_ok (byte_at d cabinets_at) (byte_at d unknowns_at) (byte_at d records_at) n c a b ≡ true
  unfolding item_ok table_of
  four_back n c a b h l w = go (eqb n 1) refl (eqb n 2) refl w
    where
      t : ℕ
      t = byte_at d unknowns_at + byte_at d records_at

      less : Bool
      less = lesser (byte_at d unknowns_at) (byte_at d records_at) b a

      go : (p : Bool) → eqb n 1 ≡ p → (q : Bool) → eqb n 2 ≡ q → ItemOk (table_of d) (pick p (statement c a b) (pick q (ask c a b) (news c a b)))
          → (ltb c (byte_at d cabinets_at) && pick (eqb n 1) (ltb a t && ltb b t) ((eqb n 2 || eqb n 3) && less)) ≡ true
      go true e q f i =
          rw (e, lt-ltb c (byte_at d cabinets_at) i.0, lt-ltb a t (omega (arith, i.1, entries_are d)), lt-ltb b t (omega (arith, i.2, entries_are d)))
      go false e true f i = rw (e, f, lt-ltb c (byte_at d cabinets_at) i.0, is_lesser d b a i.1)
      go false e false f i =
          let n1 : n ≡ 1 → ⊥ = eqb-false n 1 e in
          let n2 : n ≡ 2 → ⊥ = eqb-false n 2 f in
          rw (e, f, eq-eqb n 3 (omega arith), lt-ltb c (byte_at d cabinets_at) i.0, is_lesser d b a i.1)

  items_back : items_ok (byte_at d cabinets_at) (byte_at d unknowns_at) (byte_at d records_at) (count_of d) d ≡ true
  unfolding items_ok place_ok run_of item_at
  items_back =
      each_below (place_ok (byte_at d cabinets_at) (byte_at d unknowns_at) (byte_at d records_at) (count_of d) d) room (λ p l. one p l (ltb p (count_of d)) refl)
    where
      one : (p : ℕ) → p < room → (b : Bool) → ltb p (count_of d) ≡ b
          → pick b
          (item_ok (byte_at d cabinets_at) (byte_at d unknowns_at) (byte_at d records_at) (byte_at d (item_from p)) (byte_at d (item_from p + 1)) (byte_at d (item_from p + 2)) (byte_at d (item_from p + 3)))
          (zeros_at item_bytes (item_from p) d)
          ≡ true
      one p l true e =
          let h : p < count_of d = ltb-true p (count_of d) e in
          four_back (byte_at d (item_from p)) (byte_at d (item_from p + 1)) (byte_at d (item_from p + 2)) (byte_at d (item_from p + 3)) (z.kinds p h).0 (z.kinds p h).1
          (all_from (ItemOk (table_of d)) (item_at d) (count_of d) 0 k.items p (omega arith) (omega arith))
      one p l false e =
          zeros_back item_bytes (item_from p) (λ j m. z.items (item_from p + j) (omega (arith, ltb-false p (count_of d) e)) (omega arith))

  -- Bytes whose view is sound, with the bytes of no meaning as said, are sound.
  pub bytes_sound : sound_bytes d ≡ true
  bytes_sound =
      all_tested d
      (record {
        sizes = range_in d ranges;
        clash = clash_back;
        records = records_back;
        owners = owners_back;
        stores = stores_back;
        memos = memos_back;
        items = items_back;
      })
