-- Laws of a store that is out of the run while a rule is carried out: put back at the end it leaves what the rule leaves with
-- the store in its place.
use mathlib.Core.Path.{◌≡◌, refl, sym, ap, ◌∙◌}
use mathlib.Core.Logic.{◌⊎◌, inl, inr, ⊎_elim}
use mathlib.Core.List.{List, [], ◌∷◌}
use Prim.Native.Nat.{ℕ, ◌+◌, ◌-◌, ◌≤◌, ◌<◌}
use native.Mathlib.Omega.{arith}
use lib.ListN.{length, set, length-set}
use lib.Seq.{get_or-set_other}
use Rattle.base.specs.Regions.{put, gone}
use Rattle.base.proofs.Regions.{length_put, length_get, get_same, put_got, put_put, put_gone}
use Rattle.paper.specs.Sizes.{most_cabinets, most_unknowns, room}
use Rattle.paper.specs.declared.Item.{Item}
use Rattle.layout.specs.Offsets.{item_bytes, clash_at, clash_cabinet_at, count_at, run_bytes, store_from, memo_from, item_from}
use Rattle.layout.specs.Fields.{bytes_of, count_of}
use Rattle.layout.specs.Changes.{with_count, bytes_of_item, removed_at, appended, appended_all, store_of, with_store, with_pair, with_clash}
use Rattle.layout.proofs.Views.{item_long, appended_long, appended_count}
use Rattle.effects.specs.Changes.{Change, nothing, mark, owner, pair, clash, applied, of_store, of_run}
use Rattle.effects.specs.Given.{Fits}
use Rattle.effects.proofs.EffectLaws.{gap_long, removed_long, put_count, set_count, clash_count, as_fitting, removed_room}

-- a store put after items went and came is one put before
module _ (c : ℕ) (ms : List ℕ) (hc : c < most_cabinets) (hm : length ms ≡ most_unknowns) where
  count_stays : (d : List ℕ) → length d ≡ run_bytes → count_of (with_store c ms d) ≡ count_of d
  unfolding with_store
  count_stays d l = put_count (store_from c) ms d (omega arith) (omega arith)

  store_count : (n : ℕ) (d : List ℕ) → length d ≡ run_bytes → with_store c ms (with_count n d) ≡ with_count n (with_store c ms d)
  unfolding with_store with_count
  store_count n d l = sym (put_put count_at (bytes_of 2 n) (store_from c) d (omega arith) ms (omega arith))

  store_closed : (d : List ℕ) (p n : ℕ) → length d ≡ run_bytes → Fits d p n
      → with_store c ms (gone item_bytes (item_from p) (item_from (count_of d)) d) ≡ gone item_bytes (item_from p) (item_from (count_of d)) (with_store c ms d)
  unfolding with_store
  store_closed d p n l f =
      put_gone (store_from c) ms item_bytes (item_from p) (item_from (count_of d)) d (omega arith) (omega (arith, f.place)) (omega (arith, l, f.count))

  store_removed : (d : List ℕ) (p n : ℕ) → length d ≡ run_bytes → Fits d p n → with_store c ms (removed_at p d) ≡ removed_at p (with_store c ms d)
  unfolding removed_at
  store_removed d p n l f =
      store_count (count_of d - 1) (gone item_bytes (item_from p) (item_from (count_of d)) d) (gap_long d p n l f ∙ l)
      ∙ rw (count_stays d l) (ap (with_count (count_of d - 1)) (store_closed d p n l f))

  store_written : (d : List ℕ) (j : Item) → length d ≡ run_bytes → count_of d < room
      → with_store c ms (put (item_from (count_of d)) (bytes_of_item j) d) ≡ put (item_from (count_of d)) (bytes_of_item j) (with_store c ms d)
  unfolding with_store
  store_written d j l g =
      put_put (store_from c) ms (item_from (count_of d)) d (omega arith) (bytes_of_item j) (omega (arith, item_long j))

  store_appended : (d : List ℕ) (j : Item) → length d ≡ run_bytes → count_of d < room → with_store c ms (appended j d) ≡ appended j (with_store c ms d)
  unfolding appended
  store_appended d j l g =
      store_count (count_of d + 1) (put (item_from (count_of d)) (bytes_of_item j) d)
      (length_put (item_from (count_of d)) (bytes_of_item j) d (omega (arith, item_long j)) ∙ l)
      ∙ rw (count_stays d l) (ap (with_count (count_of d + 1)) (store_written d j l g))

  store_all : (js : List Item) (d : List ℕ) → length d ≡ run_bytes → count_of d + length js ≤ room
      → with_store c ms (appended_all js d) ≡ appended_all js (with_store c ms d)
  store_all [] d l r = refl
  store_all (j ∷ js) d l r =
      let g : count_of d < room = omega arith in
      store_all js (appended j d) (appended_long d j l g) (omega (arith, appended_count d j l g)) ∙ ap (appended_all js) (store_appended d j l g)

  store_items : (d : List ℕ) (p : ℕ) (js : List Item) → length d ≡ run_bytes → Fits d p (length js)
      → with_store c ms (appended_all js (removed_at p d)) ≡ appended_all js (removed_at p (with_store c ms d))
  store_items d p js l f =
      store_all js (removed_at p d) (removed_long d p (length js) l f) (removed_room d p (length js) l f (removed_at p d) refl)
      ∙ ap (appended_all js) (store_removed d p (length js) l f)

-- a change that a local rule makes at cabinet c
abbrev pub Local : ℕ → Change → Type 0
Local c nothing = Unit {0}
Local c (mark k x m) = k ≡ c
Local c (owner x u) = ⊥
Local c (pair k x y) = Unit {0}
Local c (clash k) = Unit {0}

-- the store that a rule was given is put back, and all is as the rule's change has it
module _ (c : ℕ) (hc : c < most_cabinets) (d : List ℕ) (l : length d ≡ run_bytes) where
  store_long : length (store_of c d) ≡ most_unknowns
  unfolding store_of
  store_long = length_get (store_from c) most_unknowns d (omega arith)

  pub store_back : with_store c (store_of c d) d ≡ d
  unfolding store_of with_store
  store_back = put_got (store_from c) most_unknowns d (omega arith)

  set_store : (at v : ℕ) → (at < store_from c) ⊎ (store_from c + most_unknowns ≤ at) → store_of c (set d at v) ≡ store_of c d
  unfolding store_of
  set_store at v apart =
      get_same (store_from c) most_unknowns d (set d at v) (omega arith) (omega (arith, length-set d at v))
      (λ j a b. get_or-set_other d at j v 0 (λ e. ⊎_elim (λ h. let z : ⊥ = omega arith in z) (λ h. let z : ⊥ = omega arith in z) apart))

module _ (c : ℕ) (hc : c < most_cabinets) (d : List ℕ) (l : length d ≡ run_bytes) (p : ℕ) (js : List Item) (f : Fits d p (length js)) where
  -- what was changed elsewhere has the store that was taken out
  back_elsewhere : (e : List ℕ) → length e ≡ length d → count_of e ≡ count_of d → store_of c e ≡ store_of c d
      → with_store c (store_of c d) (appended_all js (removed_at p e)) ≡ appended_all js (removed_at p e)
  back_elsewhere e k n q =
      store_items c (store_of c d) hc (store_long c hc d l) e p js (k ∙ l) (as_fitting d e p (length js) n f)
      ∙ ap (λ (b : List ℕ). appended_all js (removed_at p b)) (ap (λ (s : List ℕ). with_store c s e) (sym q) ∙ store_back c hc e (k ∙ l))

  pub put_back : (ch : Change) → Local c ch → with_store c (of_store ch (store_of c d)) (appended_all js (removed_at p (of_run ch d))) ≡ appended_all js (removed_at p (applied ch d))
  unfolding with_pair with_clash
  put_back nothing h = back_elsewhere d refl refl refl
  put_back (mark k x m) h = rw h (store_items c (set (store_of c d) x m) hc (length-set (store_of c d) x m ∙ store_long c hc d l) d p js l f)
  put_back (owner x u) h = absurd h
  put_back (pair k x y) h =
      back_elsewhere (set d (memo_from k x y) 1) (length-set d (memo_from k x y) 1) (set_count d (memo_from k x y) 1 (omega arith))
      (set_store c hc d l (memo_from k x y) 1 (inr (omega arith)))
  put_back (clash k) h =
      let e : List ℕ = set d clash_at 1 in
      let m : length (set d clash_at 1) ≡ length d = length-set d clash_at 1 in
      back_elsewhere (set e clash_cabinet_at k) (length-set e clash_cabinet_at k ∙ m) (clash_count d k)
      (set_store c hc e (m ∙ l) clash_cabinet_at k (inl (omega arith)) ∙ set_store c hc d l clash_at 1 (inl (omega arith)))
