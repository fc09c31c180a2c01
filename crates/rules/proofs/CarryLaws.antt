-- Laws of a statement's rule carried out: what a choice says of its sides, how many products it has, and what each rule leaves.
use mathlib.Core.Path.{◌≡◌, refl, sym, subst, ap, ◌∙◌}
use mathlib.Core.Bool.{Bool, true, false, ◌&&◌}
use mathlib.Core.List.{List, [], ◌∷◌}
use Prim.Native.Nat.{ℕ, zero, suc, ◌+◌, ◌-◌, ◌≤◌, ◌<◌}
use native.Mathlib.Omega.{arith}
use lib.Dec.{ltb, eqb}
use lib.ListN.{length, get_or}
use borrow.Author.Tests.{ltb-false, eqb-true, le-leb}
use Rattle.base.specs.Choice.{pick}
use Rattle.base.proofs.Froms.{from_length}
use Rattle.base.proofs.Tests.{snd_true}
use Rattle.paper.specs.Sizes.{most_cabinets, most_unknowns, most_records, most_parts, room}
use Rattle.paper.specs.Rules.{part_statements, news_to}
use Rattle.paper.specs.declared.Item.{Item}
use Rattle.paper.specs.declared.Item.TheVariants.{Statement, Ask}
use Rattle.layout.specs.Offsets.{run_bytes, unknowns_at, memo_from}
use Rattle.layout.specs.Fields.{byte_at, symbol_of, part_count_of, part_of, parts_from, count_of}
use Rattle.layout.specs.Changes.{store_of, with_store, removed_at, appended_all}
use Rattle.layout.specs.Given.{Reads, byte_limit}
use Rattle.choices.specs.declared.Choice.{Choice}
use Rattle.choices.specs.declared.Choice.TheVariants.{Waits, Interchange, Memo, Dereference, Identify, Conflict, Decompose, Initiate}
use Rattle.choices.specs.Choices.{less_in, choice_by_mark, choice_by_records, choice_of}
use Rattle.choices.specs.Given.{StatementIn}
use Rattle.choices.proofs.ChoiceLaws.{greater_unknown, level_record}
use Rattle.effects.specs.Changes.{Change, nothing, mark, pair, clash, applied, Left, left}
use Rattle.effects.specs.Given.{Fits}
use Rattle.effects.proofs.StoreLaws.{Local, put_back}
use Rattle.rules.specs.Plans.{plan, parts_of, plan_of_choice}
use Rattle.rules.specs.Bytes.{Out, out, performed_bytes}
use Rattle.rules.specs.Given.{product_count, Done, done, refused, done_bytes}

-- what a choice says of the sides a and b
abbrev Sides : List ℕ → ℕ → ℕ → Choice → Type 0
Sides d a b Waits = Unit {0}
Sides d a b Interchange = Unit {0}
Sides d a b Memo = Unit {0}
Sides d a b (Dereference m) = a < byte_at d unknowns_at
Sides d a b Identify = Unit {0}
Sides d a b Conflict = Unit {0}
Sides d a b Decompose =
    (byte_at d unknowns_at ≤ a) × (byte_at d unknowns_at ≤ b) × (part_count_of d (a - byte_at d unknowns_at) ≡ part_count_of d (b - byte_at d unknowns_at))
Sides d a b Initiate = a < byte_at d unknowns_at

module _ (d : List ℕ) (c a b : ℕ) where
  abbrev v : ℕ
  v = byte_at d unknowns_at

  by_mark : a < v → (m : ℕ) → Sides d a b (choice_by_mark v d c a b m)
  by_mark h m = go (eqb m 255) (eqb m 254) (ltb b v && eqb (byte_at d (memo_from c a b)) 1)
    where
      go : (p q r : Bool) → Sides d a b (pick p Initiate (pick q Waits (pick r Memo (Dereference m))))
      go true q r = h
      go false true r = tt
      go false false true = tt
      go false false false = h

  by_records : v ≤ a → v ≤ b → Sides d a b (choice_by_records d (a - v) (b - v))
  by_records h k = go (eqb (symbol_of d (a - v)) (symbol_of d (b - v)) && eqb (part_count_of d (a - v)) (part_count_of d (b - v))) refl
    where
      go : (p : Bool) → (eqb (symbol_of d (a - v)) (symbol_of d (b - v)) && eqb (part_count_of d (a - v)) (part_count_of d (b - v))) ≡ p
          → Sides d a b (pick p Decompose Conflict)
      go true e = (h, k, eqb-true (part_count_of d (a - v)) (part_count_of d (b - v)) (snd_true (eqb (symbol_of d (a - v)) (symbol_of d (b - v))) _ e))
      go false e = tt

  sides : Sides d a b (choice_of v d c a b)
  unfolding choice_of
  sides = go (less_in v a b) refl (less_in v b a) refl (ltb a v) refl
    where
      go : (p : Bool) → p ≡ less_in v a b → (q : Bool) → q ≡ less_in v b a → (r : Bool) → ltb a v ≡ r
          → Sides d a b (pick p Interchange (pick q (choice_by_mark v d c a b (get_or (store_of c d) a 0)) (pick r Identify (choice_by_records d (a - v) (b - v)))))
      go true e q f r g = tt
      go false e true f r g = by_mark (greater_unknown v a b true f refl) (get_or (store_of c d) a 0)
      go false e false f true g = tt
      go false e false f false g = by_records (ltb-false a v g) (level_record v a b false (ltb-false a v g) e refl)

  module _ (q : Choice) (e : q ≡ choice_of v d c a b) where
    told : {r : Choice} → q ≡ r → Sides d a b r
    told f = subst (Sides d a b) (sym e ∙ f) sides

    pub dereference_unknown : (m : ℕ) → q ≡ Dereference m → v ≤ most_unknowns → a < most_unknowns
    dereference_unknown m f h = omega (arith, told f)

    pub initiate_unknown : q ≡ Initiate → v ≤ most_unknowns → a < most_unknowns
    initiate_unknown f h = omega (arith, told f)

    pub decompose_left : q ≡ Decompose → v ≤ a
    decompose_left f = (told f).0

    same_counts : q ≡ Decompose → part_count_of d (a - v) ≡ part_count_of d (b - v)
    same_counts f = (told f).2

    -- with V as read
    pub left_record : (w : ℕ) → Reads v byte_limit w → q ≡ Decompose → w ≤ a
    left_record w r f = omega (arith, r.same, (told f).0)

    pub right_record : (w : ℕ) → Reads v byte_limit w → q ≡ Decompose → w ≤ b
    right_record w r f = omega (arith, r.same, (told f).1)

-- the number of a decomposition's products, as it is read
module _ (d : List ℕ) (a w n : ℕ) (q : Choice) (rw₀ : Reads (byte_at d unknowns_at) byte_limit w) where
  pub decompose_fits : (p : ℕ) → q ≡ Decompose → Reads (part_count_of d (a - w)) byte_limit n → Fits d p (product_count d a q) → Fits d p n
  decompose_fits p f r h =
      let e : product_count d a q ≡ n = rw (f, ← rw₀.same) (sym r.same) in
      subst (Fits d p) e h

pub few_parts : (d : List ℕ) (c a b i n : ℕ) → Reads (part_count_of d i) byte_limit n → StatementIn d c a b → i < most_records → n ≤ most_parts
few_parts d c a b i n r s h = omega (arith, r.same, s.parts i h)

pub initiate_fits : (d : List ℕ) (a p : ℕ) (q : Choice) → q ≡ Initiate → Fits d p (product_count d a q) → Fits d p 2
initiate_fits d a p q f h = rw f at h

-- what a dereference or a decomposition gives back and leaves is what its plan says
abbrev pub numbered : ℕ → Left → Done
numbered k (left ms e) = done k ms e

pub did_dereference : (marks ms d e : List ℕ) (p c a b m : ℕ) (q : Choice) → q ≡ Dereference m
    → left ms e ≡ left marks (appended_all (Statement c m b ∷ []) (removed_at p (applied (pick (ltb b (byte_at d unknowns_at)) (pair c a b) nothing) d)))
    → done 3 ms e ≡ done_bytes marks d p (plan_of_choice d c a b q)
did_dereference marks ms d e p c a b m q f h = rw f (go (ltb b (byte_at d unknowns_at)) h)
  where
    go : (t : Bool) → left ms e ≡ left marks (appended_all (Statement c m b ∷ []) (removed_at p (applied (pick t (pair c a b) nothing) d)))
        → done 3 ms e ≡ done_bytes marks d p (plan 3 (Statement c m b ∷ []) (pick t (pair c a b) nothing))
    go true h = ap (numbered 3) h
    go false h = ap (numbered 3) h

pub did_decompose : (marks ms d e : List ℕ) (p c a b : ℕ) (q : Choice) (w n : ℕ) → q ≡ choice_of (byte_at d unknowns_at) d c a b → q ≡ Decompose → Reads (byte_at d unknowns_at) byte_limit w
    → Reads (part_count_of d (a - w)) byte_limit n
    → left ms e ≡ left marks (appended_all (part_statements c (parts_from d (a - w) n 0) (parts_from d (b - w) n 0)) (removed_at p d))
    → done 6 ms e ≡ done_bytes marks d p (plan_of_choice d c a b q)
did_decompose marks ms d e p c a b q w n k f r s h =
    let x : n ≡ part_count_of d (a - byte_at d unknowns_at) = s.same ∙ rw r.same refl in
    let y : n ≡ part_count_of d (b - byte_at d unknowns_at) = x ∙ same_counts d c a b q k f in
    rw (f, ← x, ← y, ← r.same) (ap (numbered 6) h)

-- a plan has as many products as are counted
part_statements_lem : (c : ℕ) (ps qs : List ℕ) → length ps ≡ length qs → length (part_statements c ps qs) ≡ length ps
part_statements_lem c [] qs h = refl
part_statements_lem c (p ∷ ps) [] h = absurd (let z : ⊥ = omega arith in z)
part_statements_lem c (p ∷ ps) (q ∷ qs) h = ap suc (part_statements_lem c ps qs (let z : length ps ≡ length qs = omega arith in z))

pub decompose_count : (d : List ℕ) (c a b : ℕ) → Decompose ≡ choice_of (byte_at d unknowns_at) d c a b
    → length (part_statements c (parts_of d a) (parts_of d b)) ≡ part_count_of d (a - byte_at d unknowns_at)
decompose_count d c a b e =
    let n : ℕ = part_count_of d (a - byte_at d unknowns_at) in
    let m : ℕ = part_count_of d (b - byte_at d unknowns_at) in
    let x : length (parts_of d a) ≡ part_count_of d (a - byte_at d unknowns_at) = from_length (part_of d (a - byte_at d unknowns_at)) n 0 in
    let y : length (parts_of d b) ≡ part_count_of d (b - byte_at d unknowns_at) = from_length (part_of d (b - byte_at d unknowns_at)) m 0 in
    part_statements_lem c (parts_of d a) (parts_of d b) (x ∙ same_counts d c a b Decompose e refl ∙ sym y) ∙ x

-- with the store put back, what a statement's rule leaves
module _ (d : List ℕ) (p c a b : ℕ) (hc : c < most_cabinets) (l : length d ≡ run_bytes) where
  abbrev saved : Done → Out
  saved (done n ms e) = out 0 n (with_store c ms e)
  saved (refused n e) = out n 0 e

  saved_plan : (k : ℕ) (js : List Item) (ch : Change) → Local c ch → Fits d p (length js)
      → saved (done_bytes (store_of c d) d p (plan k js ch)) ≡ performed_bytes d p (plan k js ch)
  saved_plan k js ch h f = rw (le-leb (count_of d - 1 + length js) room f.enough) (ap (out 0 k) (put_back c hc d l p js f ch h))

  saved_choice : (q : Choice) → q ≡ choice_of (byte_at d unknowns_at) d c a b → Fits d p (product_count d a q)
      → saved (done_bytes (store_of c d) d p (plan_of_choice d c a b q)) ≡ performed_bytes d p (plan_of_choice d c a b q)
  saved_choice Waits e f = refl
  saved_choice Interchange e f = saved_plan 1 (Statement c b a ∷ []) nothing tt f
  saved_choice Memo e f = saved_plan 2 [] nothing tt f
  saved_choice (Dereference m) e f = saved_plan 3 (Statement c m b ∷ []) (pick (ltb b (byte_at d unknowns_at)) (pair c a b) nothing) (local (ltb b (byte_at d unknowns_at))) f
    where
      local : (t : Bool) → Local c (pick t (pair c a b) nothing)
      local true = tt
      local false = tt
  saved_choice Identify e f = saved_plan 4 [] nothing tt f
  saved_choice Conflict e f = saved_plan 5 [] (clash c) tt f
  saved_choice Decompose e f =
      saved_plan 6 (part_statements c (parts_of d a) (parts_of d b)) nothing tt (subst (Fits d p) (sym (decompose_count d c a b e)) f)
  saved_choice Initiate e f = saved_plan 7 (Ask c a b ∷ Statement c a b ∷ []) (mark c a 254) refl f

module _ (d : List ℕ) (p c a b : ℕ) (q : Choice) (marks : List ℕ) (l : length d ≡ run_bytes) (s : StatementIn d c a b) (f : Fits d p (product_count d a q))
    (k : q ≡ choice_of (byte_at d unknowns_at) d c a b) (i : ℕ) (u : i ≡ c) (m : marks ≡ store_of i d) where
  performed : (r : Done) → r ≡ done_bytes marks d p (plan_of_choice d c a b q)
      → saved d p c a b s.cabinet l r ≡ performed_bytes d p (plan_of_choice d c a b (choice_of (byte_at d unknowns_at) d c a b))
  performed r h =
      ap (saved d p c a b s.cabinet l) (h ∙ ap (λ (ms : List ℕ). done_bytes ms d p (plan_of_choice d c a b q)) (m ∙ ap (λ (j : ℕ). store_of j d) u))
      ∙ saved_choice d p c a b s.cabinet l q k f
      ∙ ap (λ (r : Choice). performed_bytes d p (plan_of_choice d c a b r)) k

  pub carried : (n : ℕ) (ms e e' : List ℕ) → done n ms e ≡ done_bytes marks d p (plan_of_choice d c a b q) → (j : ℕ) → j ≡ c → e' ≡ with_store j ms e
      → out 0 n e' ≡ performed_bytes d p (plan_of_choice d c a b (choice_of (byte_at d unknowns_at) d c a b))
  carried n ms e e' h j w g = ap (out 0 n) (g ∙ ap (λ (k : ℕ). with_store k ms e) w) ∙ performed (done n ms e) h

pub news_count : (k c x u : ℕ) → length (news_to c k x u) ≡ k
news_count zero c x u = refl
news_count (suc k) c x u = ap suc (news_count k (suc c) x u)
