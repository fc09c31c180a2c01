-- Laws of the rules' effects: how many items there are after each part of one, and the turns of the loops that append.
use mathlib.Core.Path.{◌≡◌, refl, sym, ap, ◌∙◌}
use mathlib.Core.Bool.{Bool, true, false}
use mathlib.Core.Logic.{◌⊎◌, inl, inr}
use mathlib.Core.List.{List, [], ◌∷◌}
use Prim.Native.Nat.{ℕ, zero, suc, ◌+◌, ◌-◌, ◌≤◌, ◌<◌}
use native.Mathlib.Nat.{zero-add}
use native.Mathlib.Numerals.{add-one}
use native.Mathlib.Omega.{arith}
use lib.Dec.{ltb}
use lib.ListN.{length, get_or, set, take, drop}
use lib.Seq.{get_or-set_other, ext_get_or}
use Rattle.base.specs.Choice.{pick}
use Rattle.base.specs.Regions.{put, gone}
use Rattle.base.specs.Lists.{list_from}
use Rattle.base.proofs.Froms.{from_length, from_get_d}
use Rattle.base.proofs.Positions.{drop_at_element}
use Rattle.base.proofs.Regions.{put_before, length_gone}
use Rattle.paper.specs.Sizes.{most_parts, room}
use Rattle.paper.specs.Rules.{part_statements, news_to}
use Rattle.paper.specs.declared.Item.{Item}
use Rattle.paper.specs.declared.Item.TheVariants.{Statement, News}
use Rattle.layout.specs.Offsets.{item_bytes, owners_at, run_bytes, memo_from, item_from}
use Rattle.layout.specs.Fields.{count_of, part_of, parts_from}
use Rattle.layout.specs.Changes.{removed_at, appended, appended_all, with_owner, with_pair, with_clash}
use Rattle.layout.proofs.Views.{length_count, count_is, appended_count}
use Rattle.effects.specs.Changes.{nothing, pair, applied}
use Rattle.effects.specs.Given.{Fits}

-- the length and the count after an item went
module _ (d : List ℕ) (p n : ℕ) (l : length d ≡ run_bytes) (f : Fits d p n) where
  pub gap_long : length (gone item_bytes (item_from p) (item_from (count_of d)) d) ≡ length d
  gap_long = length_gone item_bytes (item_from p) (item_from (count_of d)) d (omega (arith, f.place)) (omega (arith, l, f.count))

  pub removed_long : length (removed_at p d) ≡ run_bytes
  unfolding removed_at
  removed_long =
      length_count (count_of d - 1) (gone item_bytes (item_from p) (item_from (count_of d)) d) (omega (arith, gap_long, l)) ∙ gap_long ∙ l

  removed_count : count_of (removed_at p d) ≡ count_of d - 1
  unfolding removed_at
  removed_count =
      count_is (count_of d - 1) (gone item_bytes (item_from p) (item_from (count_of d)) d) (omega (arith, gap_long, l)) (omega (arith, f.count))

  pub removed_room : (e : List ℕ) → e ≡ removed_at p d → count_of e + n ≤ room
  removed_room e q = omega (arith, ap count_of q, removed_count, f.place, f.enough)

-- one item of n more, of which there were k
module _ (d e : List ℕ) (j : Item) (k n : ℕ) (l : length d ≡ run_bytes) (q : e ≡ appended j d) where
  pub room_less : count_of d + (n - k) ≤ room → k < n → count_of e + (n - (k + 1)) ≤ room
  room_less r h = omega (arith, ap count_of q, appended_count d j l (omega arith))

-- a byte that is set, or a region that is put, elsewhere leaves the count
pub set_count : (d : List ℕ) (at v : ℕ) → 8 ≤ at → count_of (set d at v) ≡ count_of d
unfolding count_of
set_count d at v h =
    omega (arith, get_or-set_other d at 6 v 0 (λ e. let z : ⊥ = omega arith in z), get_or-set_other d at 7 v 0 (λ e. let z : ⊥ = omega arith in z))

pub clash_count : (d : List ℕ) (c : ℕ) → count_of (with_clash c d) ≡ count_of d
unfolding count_of with_clash
clash_count d c =
    omega (
      arith,
      get_or-set_other (set d 0 1) 1 6 c 0 (λ e. let z : ⊥ = omega arith in z),
      get_or-set_other (set d 0 1) 1 7 c 0 (λ e. let z : ⊥ = omega arith in z),
      get_or-set_other d 0 6 1 0 (λ e. let z : ⊥ = omega arith in z),
      get_or-set_other d 0 7 1 0 (λ e. let z : ⊥ = omega arith in z),
    )

pub put_count : (at : ℕ) (vs d : List ℕ) → 8 ≤ at → at + length vs ≤ length d → count_of (put at vs d) ≡ count_of d
unfolding count_of
put_count at vs d h g = omega (arith, put_before at vs d g 6 (omega arith), put_before at vs d g 7 (omega arith))

-- what leaves the count leaves an item at its place
pub as_fitting : (d e : List ℕ) (p n : ℕ) → count_of e ≡ count_of d → Fits d p n → Fits e p n
as_fitting d e p n h f = record { count = omega (arith, f.count); place = omega (arith, f.place); enough = omega (arith, f.enough) }

-- so does a rule's change
module _ (d e : List ℕ) (p n : ℕ) where
  pub pair_fits : (c x u v : ℕ) → e ≡ applied (pick (ltb u v) (pair c x u) nothing) d → Fits d p n → Fits e p n
  unfolding with_pair
  pair_fits c x u v q f = go (ltb u v) q
    where
      go : (b : Bool) → e ≡ applied (pick b (pair c x u) nothing) d → Fits e p n
      go true o = as_fitting d e p n (ap count_of o ∙ set_count d (memo_from c x u) 1 (omega arith)) f
      go false o = as_fitting d e p n (ap count_of o) f

  pub clash_fits : (c : ℕ) → e ≡ with_clash c d → Fits d p n → Fits e p n
  clash_fits c q f = as_fitting d e p n (ap count_of q ∙ clash_count d c) f

  pub owner_fits : (x u : ℕ) → e ≡ with_owner x u d → Fits d p n → Fits e p n
  unfolding with_owner
  owner_fits x u q f = as_fitting d e p n (ap count_of q ∙ set_count d (owners_at + x) u (omega arith)) f

-- items that are appended one after the other: k of them are there
pub items_more : (js : List Item) (j : Item) (k : ℕ) (d₀ d e : List ℕ) → appended_all js d₀ ≡ appended_all (drop k js) d
    → e ≡ appended (get_or js k j) d → k < length js → appended_all js d₀ ≡ appended_all (drop (k + 1) js) e
items_more js j k d₀ d e inv q h = inv ∙ rw (drop_at_element js k j h, q) refl

-- n elements of a list from the k-th on, as they are read
abbrev pub elements_from : List ℕ → ℕ → ℕ → List ℕ
elements_from l n k = list_from (λ i. get_or l i 0) n k

-- all of them, from the first on, are the list
pub all_elements : (l : List ℕ) (n : ℕ) → length l ≡ n → elements_from l n 0 ≡ l
all_elements l n e =
    ext_get_or 0 (elements_from l n 0) l (from_length _ n 0 ∙ sym e)
    (λ k h. from_get_d _ n 0 k 0 (omega (arith, h, from_length (λ i. get_or l i 0) n 0)) ∙ ap (λ i. get_or l i 0) (zero-add k))

-- the statement of the first parts that are left comes next, and there is room for the rest
module _ (c p q : ℕ) (ps qs ps' qs' d e : List ℕ) (left : ps ≡ p ∷ ps') (right : qs ≡ q ∷ qs') (o : e ≡ appended (Statement c p q) d) where
  pub parts_room : length d ≡ run_bytes → count_of d + length ps ≤ room → count_of e + length ps' ≤ room
  parts_room l r = omega (arith, ap length left, room_less d e (Statement c p q) 0 (length ps) l o (omega (arith, r)) (omega (arith, ap length left)))

  pub parts_next : (all : List ℕ) → all ≡ appended_all (part_statements c ps qs) d → all ≡ appended_all (part_statements c ps' qs') e
  parts_next all inv = inv ∙ rw (left, right, o) refl

-- the statements of two records' parts, shown once over their number: where k of n are there, one more comes
module _ (c n : ℕ) (ps qs d₀ : List ℕ) where
  module _ (k : ℕ) (d : List ℕ)
      (inv : appended_all (part_statements c (elements_from ps n 0) (elements_from qs n 0)) d₀ ≡ appended_all (part_statements c (elements_from ps (n - k) k) (elements_from qs (n - k) k)) d) where
    pub parts_more : (e : List ℕ) → e ≡ appended (Statement c (get_or ps k 0) (get_or qs k 0)) d → k < n
        → appended_all (part_statements c (elements_from ps n 0) (elements_from qs n 0)) d₀
        ≡ appended_all (part_statements c (elements_from ps (n - (k + 1)) (k + 1)) (elements_from qs (n - (k + 1)) (k + 1))) e
    parts_more e q h = parts_next _ _ _ _ _ _ _ _ _ (first_left ps) (first_left qs) q _ inv
      where
        first_left : (l : List ℕ) → elements_from l (n - k) k ≡ get_or l k 0 ∷ elements_from l (n - (k + 1)) (k + 1)
        first_left l =
            let a : n - k ≡ suc (n - (k + 1)) = omega arith in
            rw (a, add-one) refl

-- where there are none left of one record, all are there
pub parts_over : (c : ℕ) (ps qs d all : List ℕ) → (length ps ≡ 0) ⊎ (length qs ≡ 0) → all ≡ appended_all (part_statements c ps qs) d → d ≡ all
parts_over c [] qs d all h inv = sym inv
parts_over c (p ∷ ps) [] d all h inv = sym inv
parts_over c (p ∷ ps) (q ∷ qs) d all (inl h) inv = absurd (let z : ⊥ = omega arith in z)
parts_over c (p ∷ ps) (q ∷ qs) d all (inr h) inv = absurd (let z : ⊥ = omega arith in z)

-- the first n part places of a record are its first n parts
take_from : (f : ℕ → ℕ) (n m i : ℕ) → n ≤ m → take n (list_from f m i) ≡ list_from f n i
take_from f zero m i h = refl
take_from f (suc n) zero i h = absurd (let z : ⊥ = omega arith in z)
take_from f (suc n) (suc m) i h = ap (λ (l : List ℕ). f i ∷ l) (take_from f n m (suc i) (omega arith))

module _ (d : List ℕ) (n : ℕ) (few : n ≤ most_parts) (i : ℕ) (ps : List ℕ) (e : ps ≡ parts_from d i most_parts 0) where
  parts_long : length (take n ps) ≡ n
  parts_long = ap (λ (l : List ℕ). length (take n l)) e ∙ ap length (take_from (part_of d i) n most_parts 0 few) ∙ from_length (part_of d i) n 0

  pub parts_fit : (p : ℕ) (d' : List ℕ) → length d ≡ run_bytes → Fits d p n → d' ≡ removed_at p d → count_of d' + length (take n ps) ≤ room
  parts_fit p d' l f q = omega (arith, parts_long, removed_room d p n l f d' q)

pub parts_alike : (d : List ℕ) (n i k : ℕ) (ps qs : List ℕ) → n ≤ most_parts → ps ≡ parts_from d i most_parts 0 → qs ≡ parts_from d k most_parts 0
    → length (take n qs) ≡ length (take n ps)
parts_alike d n i k ps qs h e f = parts_long d n h k qs f ∙ sym (parts_long d n h i ps e)

pub decomposed : (d e e' : List ℕ) (p c i k n : ℕ) (ps qs : List ℕ) → n ≤ most_parts → ps ≡ parts_from d i most_parts 0 → qs ≡ parts_from d k most_parts 0
    → e ≡ removed_at p d → e' ≡ appended_all (part_statements c (take n ps) (take n qs)) e
    → e' ≡ appended_all (part_statements c (parts_from d i n 0) (parts_from d k n 0)) (removed_at p d)
decomposed d e e' p c i k n ps qs h ep eq er ea =
    ea ∙ rw (er, ep, eq, take_from (part_of d i) n most_parts 0 h, take_from (part_of d k) n most_parts 0 h) refl

-- news to s cabinets: c of them have theirs
module _ (s x u : ℕ) (d₀ : List ℕ) where
  module _ (c : ℕ) (d : List ℕ) (inv : appended_all (news_to 0 s x u) d₀ ≡ appended_all (news_to c (s - c) x u) d) where
    pub news_more : (e : List ℕ) → e ≡ appended (News c x u) d → c < s → appended_all (news_to 0 s x u) d₀ ≡ appended_all (news_to (c + 1) (s - (c + 1)) x u) e
    news_more e q h =
        let a : s - c ≡ suc (s - (c + 1)) = omega arith in
        inv ∙ rw (a, q, add-one) refl
