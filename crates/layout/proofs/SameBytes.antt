-- Two runs' bytes that are sound and have one view are the same bytes: each byte is in the view, or of no meaning and as said.
use mathlib.Core.Path.{◌≡◌, refl, sym, ap, ◌∙◌}
use mathlib.Core.Logic.{◌⊎◌, inl, inr}
use mathlib.Core.Bool.{Bool, true, false, ◌&&◌}
use mathlib.Core.List.{List, [], ◌∷◌}
use mathlib.Core.Option.{Option, none, some}
use Prim.Native.Nat.{ℕ, suc, ◌+◌, ◌*◌, ◌/◌, ◌%◌, ◌≤◌, ◌<◌}
use native.Mathlib.Omega.{arith}
use borrow.Author.Tests.{eqb-true, eqb-false, lt-ltb}
use lib.Dec.{ltb, eqb}
use lib.ListN.{length, get_or}
use lib.Seq.{ext_get_or}
use Rattle.base.specs.Choice.{pick}
use Rattle.base.specs.Lists.{Bytes}
use Rattle.base.specs.Regions.{get}
use Rattle.base.proofs.Tests.{and_true}
use Rattle.base.proofs.Froms.{same_count, same_from}
use Rattle.base.proofs.Ranges.{within_joined, within_next, within_none, within_each, within_rows}
use Rattle.base.proofs.Regions.{lt_or_le, length_get, get_at}
use Rattle.base.proofs.Bytes.{get_bytes}
use Rattle.paper.specs.Sizes.{most_cabinets, most_unknowns, most_records, most_parts}
use Rattle.paper.specs.Tables.{Record, Table}
use Rattle.paper.specs.Runs.{Mark, nothing, initiated, entry, Run}
use Rattle.paper.specs.declared.Item.TheVariants.{Statement as statement, Ask as ask, News as news}
use Rattle.layout.specs.Offsets.{symbol_bytes, record_bytes, item_bytes, clash_at, clash_cabinet_at, cabinets_at, unknowns_at, records_at, statements_at, count_at, table_at, owners_at, stores_at, memos_at, memo_bytes, pending_at, run_bytes, record_from, store_from, memo_from, item_from}
use Rattle.layout.specs.Fields.{byte_at, value_of, bytes_of, clash_of, count_of, symbol_of, part_count_of, part_of, parts_from, record_of, owner_mark, store_mark, owner_of, mark_of, pair_of, item_of_bytes, item_at, table_of, state_of, run_of}
use Rattle.layout.specs.Soundness.{sound_bytes}
use Rattle.layout.specs.Changes.{bytes_of_item}
use Rattle.layout.proofs.Frames.{Same, Shaped}
use Rattle.layout.proofs.Canonical.{Canonical}
use Rattle.layout.proofs.SoundViews.{tested, shaped, canonical}

-- bytes from their value
value_back : (l : List ℕ) → Bytes l → bytes_of (length l) (value_of l) ≡ l
value_back [] h = refl
value_back (b ∷ l) h =
    let k : b < 256 = h 0 in
    let p : (b + 256 * value_of l) % 256 ≡ b = omega arith in
    let q : (b + 256 * value_of l) / 256 ≡ value_of l = omega arith in
    rw (p, q, value_back l (λ i. h (suc i)))

-- bytes 0 and 1 from the clash
abbrev clash_bytes : Option ℕ → ℕ × ℕ
clash_bytes none = (0, 0)
clash_bytes (some c) = (1, c)

clash_back : (a c : ℕ) → a ≤ 1 → (a ≡ 0 → c ≡ 0) → clash_bytes (pick (eqb a 0) none (some c)) ≡ (a, c)
clash_back a c h k = go (eqb a 0) refl
  where
    go : (b : Bool) → eqb a 0 ≡ b → clash_bytes (pick b none (some c)) ≡ (a, c)
    go true e = let p : a ≡ 0 = eqb-true a 0 e in rw (p, k p)
    go false e = let n : a ≡ 0 → ⊥ = eqb-false a 0 e in let p : a ≡ 1 = omega arith in rw p

-- a mark's byte, a memo's byte and an item's bytes from what they mean
abbrev owner_byte : Option ℕ → ℕ
owner_byte none = 255
owner_byte (some m) = m

owner_back : (m : ℕ) → owner_byte (owner_mark m) ≡ m
owner_back m = go (eqb m 255) refl
  where
    go : (b : Bool) → eqb m 255 ≡ b → owner_byte (pick b none (some m)) ≡ m
    go true e = sym (eqb-true m 255 e)
    go false e = refl

abbrev store_byte : Mark → ℕ
store_byte nothing = 255
store_byte initiated = 254
store_byte (entry m) = m

store_back : (m : ℕ) → store_byte (store_mark m) ≡ m
store_back m = go (eqb m 255) refl (eqb m 254) refl
  where
    go : (b : Bool) → eqb m 255 ≡ b → (c : Bool) → eqb m 254 ≡ c → store_byte (pick b nothing (pick c initiated (entry m))) ≡ m
    go true e c f = sym (eqb-true m 255 e)
    go false e true f = sym (eqb-true m 254 f)
    go false e false f = refl

pair_back : (m : ℕ) → m ≤ 1 → pick (eqb m 1) 1 0 ≡ m
pair_back m h = go (eqb m 1) refl
  where
    go : (b : Bool) → eqb m 1 ≡ b → pick b 1 0 ≡ m
    go true e = sym (eqb-true m 1 e)
    go false e = let n : m ≡ 1 → ⊥ = eqb-false m 1 e in omega arith

item_back : (k c a b : ℕ) → 1 ≤ k → k ≤ 3 → bytes_of_item (item_of_bytes k c a b) ≡ k ∷ c ∷ a ∷ b ∷ []
item_back k c a b h l = go (eqb k 1) refl (eqb k 2) refl
  where
    go : (p : Bool) → eqb k 1 ≡ p → (q : Bool) → eqb k 2 ≡ q
        → bytes_of_item (pick p (statement c a b) (pick q (ask c a b) (news c a b))) ≡ k ∷ c ∷ a ∷ b ∷ []
    go true e q f = rw (eqb-true k 1 e)
    go false e true f = rw (eqb-true k 2 f)
    go false e false f =
        let n : k ≡ 1 → ⊥ = eqb-false k 1 e in
        let m : k ≡ 2 → ⊥ = eqb-false k 2 f in
        let p : k ≡ 3 = omega arith in
        rw p

-- a record's symbol shows its bytes
symbol_back : (d : List ℕ) → length d ≡ run_bytes → Bytes d → (i : ℕ) → i < most_records → bytes_of symbol_bytes (symbol_of d i) ≡ get (record_from i) symbol_bytes d
unfolding symbol_of
symbol_back d long b i h =
    let fits : record_from i + symbol_bytes ≤ length d = omega arith in
    let l : length (get (record_from i) symbol_bytes d) ≡ symbol_bytes = length_get (record_from i) symbol_bytes d fits in
    rw l at (value_back (get (record_from i) symbol_bytes d) (get_bytes (record_from i) symbol_bytes d b))

-- two runs' bytes with one view, region by region
module _ (d e : List ℕ) (sd : Shaped d) (se : Shaped e) (bd : Bytes d) (be : Bytes e) (zd : Canonical d) (ze : Canonical e) (tables : table_of d ≡ table_of e) (runs : run_of d ≡ run_of e) where
  -- one byte in both
  abbrev Alike : ℕ → Type 0
  Alike i = byte_at d i ≡ byte_at e i

  -- 0 to 7: the clash, S, V, R, E and the pending count
  clash_bytes_lem : Alike clash_at × Alike clash_cabinet_at
  unfolding run_of state_of
  clash_bytes_lem =
      let c : clash_of d ≡ clash_of e = ap (λ (r : Run). r.state.clash) runs in
      let p : ◌≡◌ {A = ℕ × ℕ} (byte_at d clash_at, byte_at d clash_cabinet_at) (byte_at e clash_at, byte_at e clash_cabinet_at) =
      sym (clash_back (byte_at d clash_at) (byte_at d clash_cabinet_at) zd.flag zd.quiet) ∙ ap clash_bytes c
      ∙ clash_back (byte_at e clash_at) (byte_at e clash_cabinet_at) ze.flag ze.quiet in
      (ap (λ (x : ℕ × ℕ). x.0) p, ap (λ (x : ℕ × ℕ). x.1) p)

  item_counts : count_of d ≡ count_of e
  unfolding run_of
  item_counts = same_count (item_at d) (item_at e) (count_of d) (count_of e) 0 (ap (λ (r : Run). r.pending) runs)

  record_counts : byte_at d records_at ≡ byte_at e records_at
  unfolding table_of
  record_counts = same_count (record_of d) (record_of e) (byte_at d records_at) (byte_at e records_at) 0 (ap (λ (t : Table). t.records) tables)

  head_bytes : Same clash_at table_at e d
  unfolding table_of run_of count_of
  head_bytes =
      let n : count_of d ≡ count_of e = item_counts in
      let l : Alike count_at = omega (arith, bd count_at, be count_at) in
      within_next Alike clash_at clash_cabinet_at table_at (omega arith) clash_bytes_lem.0
      (within_next Alike clash_cabinet_at cabinets_at table_at (omega arith) clash_bytes_lem.1
      (within_next Alike cabinets_at unknowns_at table_at (omega arith) (ap (λ (t : Table). t.cabinets) tables)
      (within_next Alike unknowns_at records_at table_at (omega arith) (ap (λ (t : Table). t.unknowns) tables)
      (within_next Alike records_at statements_at table_at (omega arith) record_counts
      (within_next Alike statements_at count_at table_at (omega arith) (ap (λ (r : Run). r.statements) runs)
      (within_next Alike count_at (count_at + 1) table_at (omega arith) l (within_next Alike (count_at + 1) table_at table_at (omega arith) (omega arith) (within_none Alike table_at))))))))

  -- 8: a record below R, then all
  module _ (i : ℕ) (h : i < byte_at d records_at) where
    record_same : record_of d i ≡ record_of e i
    unfolding table_of
    record_same =
        same_from (record_of d) (record_of e) (byte_at d records_at) (byte_at e records_at) 0 (ap (λ (t : Table). t.records) tables) i (omega arith) (omega arith)

    symbol_bytes_lem : Same (record_from i) (record_from i + symbol_bytes) e d
    unfolding record_of
    symbol_bytes_lem =
        let l : i < most_records = omega (arith, sd.records) in
        let ld : length d ≡ run_bytes = sd.long in
        let le : length e ≡ run_bytes = se.long in
        let p : get (record_from i) symbol_bytes d ≡ get (record_from i) symbol_bytes e =
        sym (symbol_back d ld bd i l) ∙ ap (λ (q : Record). bytes_of symbol_bytes q.symbol) record_same ∙ symbol_back e le be i l in
        within_each Alike (record_from i) symbol_bytes λ k m.
        sym (get_at (record_from i) symbol_bytes d (omega arith) k m) ∙ ap (λ (g : List ℕ). get_or g k 0) p
        ∙ get_at (record_from i) symbol_bytes e (omega arith) k m

    parts_same : parts_from d i (part_count_of d i) 0 ≡ parts_from e i (part_count_of e i) 0
    unfolding record_of
    parts_same = ap (λ (q : Record). q.parts) record_same

    part_counts : part_count_of d i ≡ part_count_of e i
    part_counts = same_count (part_of d i) (part_of e i) (part_count_of d i) (part_count_of e i) 0 parts_same

    part_bytes : (k : ℕ) → k < most_parts → part_of d i k ≡ part_of e i k
    part_bytes k m = go (lt_or_le k (part_count_of d i))
      where
        go : (k < part_count_of d i) ⊎ (part_count_of d i ≤ k) → part_of d i k ≡ part_of e i k
        go (inl l) = same_from (part_of d i) (part_of e i) (part_count_of d i) (part_count_of e i) 0 parts_same k (omega arith) (omega arith)
        go (inr l) = zd.parts i k h l m ∙ sym (ze.parts i k (omega (arith, record_counts)) (omega (arith, part_counts)) m)

    used_bytes : Same (record_from i) (record_from i + record_bytes) e d
    used_bytes =
        within_joined Alike (record_from i) (record_from i + symbol_bytes) (record_from i + record_bytes) symbol_bytes_lem
        (within_next Alike (record_from i + symbol_bytes) (record_from i + symbol_bytes + 1) (record_from i + record_bytes) (omega arith) part_counts
        (λ j l m. within_each Alike (record_from i + symbol_bytes + 1) most_parts part_bytes j l (omega arith)))

  record_bytes_lem : Same table_at owners_at e d
  record_bytes_lem = within_rows Alike table_at record_bytes most_records λ i h. go i h (lt_or_le i (byte_at d records_at))
    where
      go : (i : ℕ) → i < most_records → (i < byte_at d records_at) ⊎ (byte_at d records_at ≤ i) → Same (record_from i) (record_from i + record_bytes) e d
      go i h (inl l) = used_bytes i l
      go i h (inr l) = within_each Alike (record_from i) record_bytes λ k m. zd.records i k l h m ∙ sym (ze.records i k (omega (arith, record_counts)) h m)

  -- 584: owner marks
  owner_bytes : Same owners_at stores_at e d
  unfolding run_of state_of owner_of
  owner_bytes =
      within_each Alike owners_at most_unknowns λ x h.
      let p : owner_of d x ≡ owner_of e x = ap (λ (r : Run). r.state.owner x) runs in
      sym (owner_back (byte_at d (owners_at + x))) ∙ ap owner_byte (rw (lt-ltb x most_unknowns h) at p) ∙ owner_back (byte_at e (owners_at + x))

  -- 616: stores
  store_bytes : Same stores_at memos_at e d
  unfolding run_of state_of mark_of
  store_bytes =
      within_rows Alike stores_at most_unknowns most_cabinets λ c hc. within_each Alike (store_from c) most_unknowns λ x hx.
      let p : mark_of d c x ≡ mark_of e c x = ap (λ (r : Run). r.state.store c x) runs in
      let q = and_true (ltb c most_cabinets) (ltb x most_unknowns) (lt-ltb c most_cabinets hc) (lt-ltb x most_unknowns hx) in
      sym (store_back (byte_at d (store_from c + x))) ∙ ap store_byte (rw q at p) ∙ store_back (byte_at e (store_from c + x))

  -- 872: memos
  memo_bytes_lem : Same memos_at pending_at e d
  unfolding run_of state_of pair_of
  memo_bytes_lem =
      within_rows Alike memos_at memo_bytes most_cabinets λ c hc. within_rows Alike (memos_at + memo_bytes * c) most_unknowns most_unknowns λ x hx.
      within_each Alike (memos_at + memo_bytes * c + most_unknowns * x) most_unknowns λ y hy.
      let p : pair_of d c x y ≡ pair_of e c x y = ap (λ (r : Run). r.state.memo c x y) runs in
      let q =
      and_true (ltb c most_cabinets) (ltb x most_unknowns && ltb y most_unknowns) (lt-ltb c most_cabinets hc)
      (and_true (ltb x most_unknowns) (ltb y most_unknowns) (lt-ltb x most_unknowns hx) (lt-ltb y most_unknowns hy)) in
      sym (pair_back (byte_at d (memo_from c x y)) (zd.memos c x y hc hx hy)) ∙ ap (λ (b : Bool). pick b 1 0) (rw q at p)
      ∙ pair_back (byte_at e (memo_from c x y)) (ze.memos c x y hc hx hy)

  -- 9,064: a pending item below the count, then all places
  item_bytes_lem : (p : ℕ) → p < count_of d → Same (item_from p) (item_from p + item_bytes) e d
  unfolding run_of item_at
  item_bytes_lem p h =
      let i : item_at d p ≡ item_at e p = same_from (item_at d) (item_at e) (count_of d) (count_of e) 0 (ap (λ (r : Run). r.pending) runs) p (omega arith) (omega arith) in
      let kd = zd.kinds p h in
      let ke = ze.kinds p (omega (arith, item_counts)) in
      let l =
      sym (item_back (byte_at d (item_from p)) (byte_at d (item_from p + 1)) (byte_at d (item_from p + 2)) (byte_at d (item_from p + 3)) kd.0 kd.1) ∙ ap bytes_of_item i
      ∙ item_back (byte_at e (item_from p)) (byte_at e (item_from p + 1)) (byte_at e (item_from p + 2)) (byte_at e (item_from p + 3)) ke.0 ke.1 in
      within_next Alike (item_from p) (item_from p + 1) (item_from p + item_bytes) (omega arith) (cc)
      (within_next Alike (item_from p + 1) (item_from p + 2) (item_from p + item_bytes) (omega arith) (cc)
      (within_next Alike (item_from p + 2) (item_from p + 3) (item_from p + item_bytes) (omega arith) (cc)
      (within_next Alike (item_from p + 3) (item_from p + item_bytes) (item_from p + item_bytes) (omega arith) (cc) (within_none Alike (item_from p + item_bytes)))))

  place_bytes : Same pending_at run_bytes e d
  place_bytes =
      within_joined Alike pending_at (item_from (count_of d)) run_bytes (within_rows Alike pending_at item_bytes (count_of d) item_bytes_lem)
      (λ i l m. zd.items i l m ∙ sym (ze.items i (omega (arith, item_counts)) m))

  -- Bytes in their shape, with those of no meaning as said, are what their view says.
  pub same_view : d ≡ e
  same_view =
      let ld : length d ≡ run_bytes = sd.long in
      ext_get_or 0 d e (ld ∙ sym se.long) λ i l. all i (omega arith) (omega arith)
    where
      all : Same clash_at run_bytes e d
      all =
          within_joined Alike clash_at table_at run_bytes head_bytes
          (within_joined Alike table_at owners_at run_bytes record_bytes_lem
          (within_joined Alike owners_at stores_at run_bytes owner_bytes
          (within_joined Alike stores_at memos_at run_bytes store_bytes (within_joined Alike memos_at pending_at run_bytes memo_bytes_lem place_bytes))))

-- Sound bytes with one view are the same bytes.
pub same_bytes : (d e : List ℕ) → length d ≡ run_bytes → length e ≡ run_bytes → Bytes d → Bytes e → sound_bytes d ≡ true → sound_bytes e ≡ true
    → table_of d ≡ table_of e → run_of d ≡ run_of e → d ≡ e
same_bytes d e ld le bd be hd he tables runs =
    let td = tested d hd in
    let te = tested e he in
    same_view d e (shaped d ld td) (shaped e le te) bd be (canonical d ld td) (canonical e le te) tables runs
