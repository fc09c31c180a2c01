-- The lowest same item: the first that agrees, found by a loop; those of all unknowns; and those of a record's parts.
use mathlib.Core.Path.{◌≡◌, refl, sym, ap, ◌∙◌}
use mathlib.Core.Bool.{Bool, true, false}
use mathlib.Core.List.{List, ◌∷◌, map}
use Prim.Native.Nat.{ℕ, zero, suc, ◌+◌, ◌≤◌, ◌<◌}
use native.Mathlib.Nat.{zero-add}
use native.Mathlib.Numerals.{add-one}
use native.Mathlib.Omega.{arith}
use lib.ListN.{length, get_or, take, set, replicate}
use Rattle.std.specs.Prelude.{Option}
use Rattle.std.specs.List.{range_with_len, find}
use Rattle.std.specs.Option.{option_map, unwrap_or}
use Rattle.std.proofs.lemmas.Iterator.Adapters.{option_map_id}
use Rattle.base.specs.Choice.{first_of}
use Rattle.base.specs.Lists.{list_from}
use Rattle.base.specs.Regions.{put}
use Rattle.base.proofs.Firsts.{first_within}
use Rattle.base.proofs.Froms.{from_length, from_get_d}
use Rattle.base.proofs.Regions.{put_in, push_none, push_more, push_all}
use Rattle.paper.specs.Sizes.{most_unknowns}
use Rattle.paper.specs.Ends.{agree}
use Rattle.paper.specs.Maps.{lowest_of}
use Rattle.layout.specs.Offsets.{map_bytes}
use Rattle.layout.specs.Fields.{part_count_of, part_of, record_of}
use Rattle.layout.specs.Given.{Reads, byte_limit}
use Rattle.agreement.specs.Given.{SoundRun, OneRecord}
use Rattle.agreement.specs.Ends.{ends_of}
use Rattle.agreement.proofs.Ranges.{part_unknown}
use Rattle.maps.specs.Rows.{lowest_items, lows_of}

-- what is found in a range, or else its end, is the first that passes
module _ (f : ℕ → Bool) where
  found_first : (k y : ℕ) → unwrap_or (find f (range_with_len y k)) (y + k) ≡ first_of f k y
  found_first zero y = omega arith
  found_first (suc k) y = go (f y) refl (found_first k (y + 1))
    where
      go : (b : Bool) → f y ≡ b → unwrap_or (find f (range_with_len (y + 1) k)) (y + 1 + k) ≡ first_of f k (y + 1)
          → unwrap_or (find f (range_with_len y (suc k))) (y + suc k) ≡ first_of f (suc k) y
      go true e ih = rw (e, first_of) refl
      go false e ih =
          let s : y + suc k ≡ y + 1 + k = omega arith in
          rw (e, first_of) (ap (λ (m : ℕ). unwrap_or (find f (range_with_len (y + 1) k)) m) s ∙ ih ∙ ap (first_of f k) (add-one y))

-- what is found among the unknowns below x
pub lowest_found : (d : List ℕ) (v x : ℕ) (r : Option ℕ) (p : ℕ) → SoundRun d v → x < v → p ≡ unwrap_or r x
    → option_map (λ (y : ℕ). y) r ≡ find (agree (ends_of d) v x) (range_with_len 0 x) → Reads (lowest_of (ends_of d) v x) byte_limit p
unfolding lowest_of
lowest_found d v x r p g h e w =
    let f : ℕ → Bool = agree (ends_of d) v x in
    let z : x ≡ 0 + x = omega arith in
    let same : p ≡ first_of f x 0 =
    e ∙ ap (λ (o : Option ℕ). unwrap_or o x) (sym (option_map_id r) ∙ w) ∙ ap (λ (m : ℕ). unwrap_or (find f (range_with_len 0 x)) m) z ∙ found_first f x 0
    in
    record { same = same; small = omega (arith, same, (first_within f x 0).1, g.few_unknowns) }

-- what the loop over all unknowns asks, and a lowest same item looked up
module _ (d : List ℕ) (v : ℕ) where
  abbrev items : List ℕ
  items = list_from (lowest_of (ends_of d) v) v 0

  abbrev zeros : List ℕ
  zeros = replicate most_unknowns 0

  pub no_items : zeros ≡ put 0 (take 0 items) zeros
  no_items = push_none 0 0 zeros items

  item_at : (x : ℕ) → x < v → get_or items x 0 ≡ lowest_of (ends_of d) v x
  item_at x h = from_get_d (lowest_of (ends_of d) v) v 0 x 0 h ∙ ap (lowest_of (ends_of d) v) (zero-add x)

  module _ (g : SoundRun d v) where
    fits : 0 + v ≤ length zeros
    fits = omega (arith, g.few_unknowns)

    pub items_more : (x r : ℕ) (l : List ℕ) → l ≡ put 0 (take x items) zeros → x < v → Reads (lowest_of (ends_of d) v x) byte_limit r
        → set l x r ≡ put 0 (take (x + 1) items) zeros
    items_more x r l e h w =
        let q : r ≡ get_or items x 0 = w.same ∙ sym (item_at x h) in
        let z : x ≡ 0 + x = omega arith in
        rw q (ap (λ (k : ℕ). set l k (get_or items x 0)) z ∙ push_more 0 v zeros items x l fits (from_length (lowest_of (ends_of d) v) v 0) h e)

    pub items_all : (x : ℕ) (l : List ℕ) → l ≡ put 0 (take x items) zeros → x ≤ v → v ≤ x → l ≡ lowest_items d v
    unfolding lowest_items
    items_all x l e h k = push_all 0 v zeros items x l (from_length (lowest_of (ends_of d) v) v 0) h k e

    pub looked_up : (ls : List ℕ) (x : ℕ) → ls ≡ lowest_items d v → x < v → get_or ls x 0 ≡ lowest_of (ends_of d) v x
    unfolding lowest_items
    looked_up ls x e h =
        let n : length items ≡ v = from_length (lowest_of (ends_of d) v) v 0 in
        let z : x ≡ 0 + x = omega arith in
        ap (λ (l : List ℕ). get_or l x 0) e
        ∙ ap (λ (k : ℕ). get_or (put 0 items zeros) k 0) z
        ∙ put_in 0 items zeros (omega (arith, fits)) x (omega arith)
        ∙ item_at x h

-- a list made from a function, each element changed
map_from : (f g : ℕ → ℕ) (n i : ℕ) → map f (list_from g n i) ≡ list_from (λ k. f (g k)) n i
map_from f g zero i = refl
map_from f g (suc n) i = ap (λ (l : List ℕ). f (g i) ∷ l) (map_from f g n (suc i))

-- what the loop over the parts of a record asks
module _ (d : List ℕ) (v i n : ℕ) (w : OneRecord d v i n) where
  lows_from : lows_of d v i ≡ list_from (λ k. lowest_of (ends_of d) v (part_of d i k)) n 0
  unfolding lows_of record_of
  lows_from = rw w.count (map_from (lowest_of (ends_of d) v) (part_of d i) (part_count_of d i) 0)

  pub lows_count : length (lows_of d v i) ≡ n
  lows_count = ap length lows_from ∙ from_length (λ k. lowest_of (ends_of d) v (part_of d i k)) n 0

  low_at : (j : ℕ) → j < n → get_or (lows_of d v i) j 0 ≡ lowest_of (ends_of d) v (part_of d i j)
  low_at j h =
      ap (λ (l : List ℕ). get_or l j 0) lows_from
      ∙ from_get_d (λ k. lowest_of (ends_of d) v (part_of d i k)) n 0 j 0 h
      ∙ ap (λ (k : ℕ). lowest_of (ends_of d) v (part_of d i k)) (zero-add j)

-- j of them put
pub no_lows : (d : List ℕ) (v i at : ℕ) (m : List ℕ) → m ≡ put at (take 0 (lows_of d v i)) m
no_lows d v i at m = push_none at 0 m (lows_of d v i)

module _ (d : List ℕ) (v i n : ℕ) (w : OneRecord d v i n) where
  module _ (at j : ℕ) (m l : List ℕ) where
    pub lows_more : (ls : List ℕ) (p : ℕ) → l ≡ put at (take j (lows_of d v i)) m → length m ≡ map_bytes → at + n ≤ map_bytes → j < n → Reads (part_of d i j) byte_limit p
        → ls ≡ lowest_items d v → set l (at + j) (get_or ls p 0) ≡ put at (take (j + 1) (lows_of d v i)) m
    lows_more ls p e t h k rp u =
        let q : get_or ls p 0 ≡ get_or (lows_of d v i) j 0 =
        looked_up d v w.run ls p u (part_unknown d v i n j p w k rp)
        ∙ ap (lowest_of (ends_of d) v) rp.same
        ∙ sym (low_at d v i n w j k)
        in
        rw q (push_more at n m (lows_of d v i) j l (omega arith) (lows_count d v i n w) k e)

    pub lows_all : l ≡ put at (take j (lows_of d v i)) m → j ≤ n → n ≤ j → l ≡ put at (lows_of d v i) m
    lows_all e h k = push_all at n m (lows_of d v i) j l (lows_count d v i n w) h k e
