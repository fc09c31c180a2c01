-- Each change of the bytes leaves the bytes of no meaning as they are said to be.
use mathlib.Core.Path.{◌≡◌, sym, subst, ap, ◌∙◌}
use mathlib.Core.Logic.{inl, inr, ⊎_elim}
use mathlib.Core.List.{List, [], ◌∷◌}
use Prim.Native.Nat.{ℕ, suc, ◌+◌, ◌-◌, ◌≤◌, ◌<◌}
use native.Mathlib.Nat.{add-zero}
use native.Mathlib.Decide.{ℕ_discrete}
use native.Mathlib.Omega.{arith}
use lib.ListN.{length, get_or, set}
use lib.Seq.{get_or-set_same, get_or-set_other}
use Rattle.base.specs.Regions.{gone}
use Rattle.base.proofs.Regions.{lt_or_le, put_after, gone_before, gone_in, gone_freed, gone_after}
use Rattle.paper.specs.Sizes.{most_cabinets, most_unknowns, most_records, most_parts, room}
use Rattle.paper.specs.declared.Item.{Item}
use Rattle.paper.specs.declared.Item.TheVariants.{Statement as statement, Ask as ask, News as news}
use Rattle.layout.specs.Offsets.{symbol_bytes, item_bytes, clash_at, clash_cabinet_at, cabinets_at, records_at, count_at, table_at, owners_at, memos_at, pending_at, run_bytes, record_from, store_from, memo_from, item_from}
use Rattle.layout.specs.Fields.{byte_at, count_of, part_count_of, part_of}
use Rattle.layout.specs.Changes.{bytes_of_item, removed_at, appended, appended_all, store_of, with_store, with_owner, with_pair, with_clash}
use Rattle.layout.proofs.Frames.{Same, Shaped, count_same}
use Rattle.layout.proofs.Views.{count_after, removed_low, removed_mid, removed_count, late, closed, fits, ends, appended_low, appended_mid, appended_in, appended_count, appended_shaped, written, written_long, room_left, item_long, set_other, stored_is_set, clash_twice, clash_byte}
use Rattle.layout.proofs.Canonical.{Canonical}

-- a change of the pending items: bytes 0 to 5 and 8 up to the pending items stay
module _ (d d' : List ℕ) (s : Shaped d) (z : Canonical d) (low : Same 0 count_at d d') (mid : Same table_at pending_at d d') where
  beside : ((p : ℕ) → p < count_of d' → (1 ≤ byte_at d' (item_from p)) × (byte_at d' (item_from p) ≤ 3))
      → ((i : ℕ) → item_from (count_of d') ≤ i → i < run_bytes → byte_at d' i ≡ 0) → Canonical d'
  beside kinds items =
      let e0 = low clash_at (omega arith) (omega arith) in
      let e1 = low clash_cabinet_at (omega arith) (omega arith) in
      let er = low records_at (omega arith) (omega arith) in
      record {
        flag = omega (arith, e0, z.flag);
        quiet = λ h. e1 ∙ z.quiet (sym e0 ∙ h);
        records = λ i k h l m. mid (record_from i + k) (omega arith) (omega arith) ∙ z.records i k (omega (arith, er)) l m;
        parts = λ i k h l m. parts er i k h l m;
        memos = λ c x y hc hx hy. omega (arith, mid (memo_from c x y) (omega arith) (omega arith), z.memos c x y hc hx hy);
        kinds = kinds;
        items = items;
      }
    where
      parts : byte_at d' records_at ≡ byte_at d records_at → (i k : ℕ) → i < byte_at d' records_at → part_count_of d' i ≤ k → k < most_parts → part_of d' i k ≡ 0
      parts er i k h l m =
          let hi : i < most_records = omega (arith, er, s.records) in
          mid (record_from i + symbol_bytes + 1 + k) (omega arith) (omega arith)
          ∙ z.parts i k (omega (arith, er)) (omega (arith, mid (record_from i + symbol_bytes) (omega arith) (omega arith))) m

module _ (d : List ℕ) (s : Shaped d) (z : Canonical d) where
  pub removed_canonical : (p : ℕ) → p < count_of d → Canonical (removed_at p d)
  unfolding closed
  removed_canonical p h = beside d (removed_at p d) s z (removed_low d s p h) (removed_mid d s p h) kinds items
    where
      same : (i : ℕ) → pending_at ≤ i → byte_at (removed_at p d) i ≡ byte_at (gone item_bytes (item_from p) (item_from (count_of d)) d) i
      same i a = late d s p h i a

      kinds : (q : ℕ) → q < count_of (removed_at p d) → (1 ≤ byte_at (removed_at p d) (item_from q)) × (byte_at (removed_at p d) (item_from q) ≤ 3)
      kinds q l =
          let c : count_of (removed_at p d) ≡ count_of d - 1 = removed_count d s p h in
          ⊎_elim
          (λ (b : q < p).
          let e = same (item_from q) (omega arith) ∙ gone_before item_bytes (item_from p) (item_from (count_of d)) d (fits d s p h) (ends d s p h) (item_from q) (omega arith) in
          let k = z.kinds q (omega arith) in
          (omega (arith, e, k.0), omega (arith, e, k.1)))
          (λ (b : p ≤ q).
          let e =
          same (item_from q) (omega arith)
          ∙ gone_in item_bytes (item_from p) (item_from (count_of d)) d (fits d s p h) (ends d s p h) (item_from q) (omega arith) (omega arith)
          ∙ ap (byte_at d) (next q) in
          let k = z.kinds (suc q) (omega arith) in
          (omega (arith, e, k.0), omega (arith, e, k.1)))
          (lt_or_le q p)
        where
          next : (n : ℕ) → item_from n + item_bytes ≡ item_from (suc n)
          next n = omega arith

      items : (i : ℕ) → item_from (count_of (removed_at p d)) ≤ i → i < run_bytes → byte_at (removed_at p d) i ≡ 0
      items i a b =
          let c : count_of (removed_at p d) ≡ count_of d - 1 = removed_count d s p h in
          ⊎_elim
          (λ (l : i < item_from (count_of d)).
          same i (omega arith) ∙ gone_freed item_bytes (item_from p) (item_from (count_of d)) d (fits d s p h) (ends d s p h) i (omega arith) l)
          (λ (l : item_from (count_of d) ≤ i).
          same i (omega arith) ∙ gone_after item_bytes (item_from p) (item_from (count_of d)) d (fits d s p h) (ends d s p h) i l ∙ z.items i l b)
          (lt_or_le i (item_from (count_of d)))

  pub appended_canonical : (j : Item) → count_of d < room → Canonical (appended j d)
  unfolding appended written
  appended_canonical j h =
      beside d (appended j d) s z (appended_low d s j h) (λ i a b. appended_mid d s j h i a (omega arith)) kinds items
    where
      count : count_of (appended j d) ≡ count_of d + 1
      count = appended_count d j s.long h

      kind : (k : Item) → (1 ≤ get_or (bytes_of_item k) 0 0) × (get_or (bytes_of_item k) 0 0 ≤ 3)
      kind (statement c a b) = (omega arith, omega arith)
      kind (ask c x u) = (omega arith, omega arith)
      kind (news c x u) = (omega arith, omega arith)

      kinds : (q : ℕ) → q < count_of (appended j d) → (1 ≤ byte_at (appended j d) (item_from q)) × (byte_at (appended j d) (item_from q) ≤ 3)
      kinds q l = go (ℕ_discrete q (count_of d))
        where
          go : Dec (q ≡ count_of d) → (1 ≤ byte_at (appended j d) (item_from q)) × (byte_at (appended j d) (item_from q) ≤ 3)
          go (yes e) =
              subst (λ (n : ℕ). (1 ≤ byte_at (appended j d) (item_from n)) × (byte_at (appended j d) (item_from n) ≤ 3)) (sym e)
              (let f : byte_at (appended j d) (item_from (count_of d)) ≡ get_or (bytes_of_item j) 0 0 =
              subst (λ (m : ℕ). byte_at (appended j d) m ≡ get_or (bytes_of_item j) 0 0) (add-zero (item_from (count_of d))) (appended_in d s j h 0 (omega arith)) in
              (omega (arith, f, (kind j).0), omega (arith, f, (kind j).1)))
          go (no e) =
              let f = appended_mid d s j h (item_from q) (omega arith) (omega (arith, count)) in
              let k = z.kinds q (omega (arith, count)) in
              (omega (arith, f, k.0), omega (arith, f, k.1))

      items : (i : ℕ) → item_from (count_of (appended j d)) ≤ i → i < run_bytes → byte_at (appended j d) i ≡ 0
      items i a b =
          count_after (count_of d + 1) (written d s j h) (omega (arith, written_long d s j h, s.long)) i (omega arith)
          ∙ put_after (item_from (count_of d)) (bytes_of_item j) d (room_left d s j h) i (omega (arith, item_long j, count))
          ∙ z.items i (omega (arith, count)) b

-- items come, in order
pub appended_all_canonical : (js : List Item) (d : List ℕ) → Shaped d → Canonical d → count_of d + length js ≤ room → Canonical (appended_all js d)
appended_all_canonical [] d s z h = z
appended_all_canonical (j ∷ js) d s z h =
    let l : count_of d < room = omega arith in
    appended_all_canonical js (appended j d) (appended_shaped d s j l) (appended_canonical d s z j l) (omega (arith, appended_count d j s.long l))

-- a change between the table and the pending items
module _ (d d' : List ℕ) (s : Shaped d) (z : Canonical d) where
  apart : Same 0 owners_at d d' → Same pending_at run_bytes d d'
      → ((c x y : ℕ) → c < most_cabinets → x < most_unknowns → y < most_unknowns → byte_at d' (memo_from c x y) ≤ 1) → Canonical d'
  apart low high memos =
      let e0 = low clash_at (omega arith) (omega arith) in
      let e1 = low clash_cabinet_at (omega arith) (omega arith) in
      let er = low records_at (omega arith) (omega arith) in
      let ec : count_of d' ≡ count_of d = count_same d d' (λ i a b. low i (omega arith) (omega arith)) in
      record {
        flag = omega (arith, e0, z.flag);
        quiet = λ h. e1 ∙ z.quiet (sym e0 ∙ h);
        records = λ i k h l m. low (record_from i + k) (omega arith) (omega arith) ∙ z.records i k (omega (arith, er)) l m;
        parts = λ i k h l m.
            let hi : i < most_records = omega (arith, er, s.records) in
            low (record_from i + symbol_bytes + 1 + k) (omega arith) (omega arith)
            ∙ z.parts i k (omega (arith, er)) (omega (arith, low (record_from i + symbol_bytes) (omega arith) (omega arith))) m;
        memos = memos;
        kinds = λ p h.
            let e = high (item_from p) (omega arith) (omega (arith, s.count)) in
            let k = z.kinds p (omega arith) in
            (omega (arith, e, k.0), omega (arith, e, k.1));
        items = λ i a b. high i (omega arith) b ∙ z.items i (omega arith) b;
      }

module _ (d : List ℕ) (s : Shaped d) (z : Canonical d) where
  pub owner_canonical : (x u : ℕ) → x < most_unknowns → Canonical (with_owner x u d)
  unfolding with_owner
  owner_canonical x u hx =
      apart d (set d (owners_at + x) u) s z (set_other d (owners_at + x) u 0 owners_at (inl (omega arith))) (set_other d (owners_at + x) u pending_at run_bytes (inr (omega arith)))
      (λ c y w hc hy hw. omega (arith, set_other d (owners_at + x) u memos_at pending_at (inr (omega arith)) (memo_from c y w) (omega arith) (omega arith), z.memos c y w hc hy hw))

  pub mark_canonical : (c x m : ℕ) → c < most_cabinets → x < most_unknowns → Canonical (with_store c (set (store_of c d) x m) d)
  mark_canonical c x m hc hx =
      subst Canonical (sym (stored_is_set d s c x m hc hx))
      (apart d (set d (store_from c + x) m) s z (set_other d (store_from c + x) m 0 owners_at (inl (omega arith))) (set_other d (store_from c + x) m pending_at run_bytes (inr (omega arith)))
      (λ e y w he hy hw. omega (arith, set_other d (store_from c + x) m memos_at pending_at (inr (omega arith)) (memo_from e y w) (omega arith) (omega arith), z.memos e y w he hy hw)))

  pub pair_canonical : (c x y : ℕ) → c < most_cabinets → x < most_unknowns → y < most_unknowns → Canonical (with_pair c x y d)
  unfolding with_pair
  pair_canonical c x y hc hx hy =
      apart d (set d (memo_from c x y) 1) s z (set_other d (memo_from c x y) 1 0 owners_at (inl (omega arith))) (set_other d (memo_from c x y) 1 pending_at run_bytes (inr (omega arith)))
      (λ e p q he hp hq. go e p q he hp hq (ℕ_discrete (memo_from e p q) (memo_from c x y)))
    where
      go : (e p q : ℕ) → e < most_cabinets → p < most_unknowns → q < most_unknowns → Dec (memo_from e p q ≡ memo_from c x y)
          → byte_at (set d (memo_from c x y) 1) (memo_from e p q) ≤ 1
      go e p q he hp hq (yes f) =
          subst (λ (n : ℕ). byte_at (set d (memo_from c x y) 1) n ≤ 1) (sym f) (omega (arith, get_or-set_same d (memo_from c x y) 1 0 (omega (arith, s.long))))
      go e p q he hp hq (no f) = omega (arith, get_or-set_other d (memo_from c x y) (memo_from e p q) 1 0 f, z.memos e p q he hp hq)

  pub clash_canonical : (c : ℕ) → Canonical (with_clash c d)
  clash_canonical c =
      let sizes : Same cabinets_at run_bytes d (with_clash c d) = clash_twice d s c cabinets_at run_bytes (omega arith) in
      let ec : count_of (with_clash c d) ≡ count_of d = count_same d (with_clash c d) (λ i a b. sizes i (omega arith) (omega arith)) in
      let e0 : byte_at (with_clash c d) clash_at ≡ 1 = clash_byte d s c in
      let er = sizes records_at (omega arith) (omega arith) in
      record {
        flag = omega (arith, e0);
        quiet = λ h. absurd (let y : ⊥ = omega (arith, e0) in y);
        records = λ i k h l m. sizes (record_from i + k) (omega arith) (omega arith) ∙ z.records i k (omega (arith, er)) l m;
        parts = λ i k h l m.
            let hi : i < most_records = omega (arith, er, s.records) in
            sizes (record_from i + symbol_bytes + 1 + k) (omega arith) (omega arith)
            ∙ z.parts i k (omega (arith, er)) (omega (arith, sizes (record_from i + symbol_bytes) (omega arith) (omega arith))) m;
        memos = λ e x y he hx hy. omega (arith, sizes (memo_from e x y) (omega arith) (omega arith), z.memos e x y he hx hy);
        kinds = λ p h.
            let e = sizes (item_from p) (omega arith) (omega (arith, s.count)) in
            let k = z.kinds p (omega arith) in
            (omega (arith, e, k.0), omega (arith, e, k.1));
        items = λ i a b. sizes i (omega arith) b ∙ z.items i (omega arith) b;
      }
