-- Laws of one item taken: whether there is room for what comes, and what is left of a news.
use mathlib.Core.Path.{◌≡◌, refl, sym, subst, ap, ◌∙◌}
use mathlib.Core.Bool.{Bool, true, false}
use mathlib.Core.List.{List, []}
use Prim.Native.Nat.{ℕ, ◌+◌, ◌-◌, ◌≤◌, ◌<◌}
use lib.Dec.{leb}
use lib.ListN.{length, set}
use borrow.Author.Tests.{ltb-true, ltb-false, le-leb, lt-leb}
use Rattle.base.proofs.Tests.{not_both}
use Rattle.paper.specs.Sizes.{most_cabinets, room}
use Rattle.paper.specs.Refusals.{no_room}
use Rattle.layout.specs.Offsets.{run_bytes, unknowns_at}
use Rattle.layout.specs.Fields.{byte_at, count_of}
use Rattle.layout.specs.Changes.{removed_at, store_of, with_store}
use Rattle.layout.specs.Given.{Reads, byte_limit}
use Rattle.choices.specs.declared.Choice.{Choice}
use Rattle.choices.specs.declared.Choice.TheVariants.{Waits, Interchange, Memo, Dereference, Identify, Conflict, Decompose, Initiate}
use Rattle.choices.specs.Choices.{choice_of}
use Rattle.effects.specs.Changes.{mark, applied, Left, left}
use Rattle.effects.specs.Given.{Fits}
use Rattle.effects.proofs.StoreLaws.{put_back}
use Rattle.rules.specs.Plans.{plan, plan_of_choice}
use Rattle.rules.specs.Bytes.{out, performed_bytes}
use Rattle.rules.specs.Given.{product_count, full_for}
use Rattle.rules.proofs.CarryLaws.{decompose_count}

-- whether there is room
module _ (d : List ℕ) (p n : ℕ) (t : Bool) (e : t ≡ full_for n d) where
  too_many : t ≡ true → leb (count_of d - 1 + n) room ≡ false
  unfolding full_for
  too_many f = lt-leb (count_of d - 1 + n) room (ltb-true room (count_of d - 1 + n) (sym e ∙ f))

  enough : t ≡ false → count_of d - 1 + n ≤ room
  unfolding full_for
  enough f = ltb-false room (count_of d - 1 + n) (sym e ∙ f)

  pub room_fits : t ≡ false → Fits d p 0 → Fits d p n
  room_fits f h = record { count = h.count; place = h.place; enough = enough f }

none_more : (d : List ℕ) (p : ℕ) → Fits d p 0 → leb (count_of d - 1 + 0) room ≡ true
none_more d p h = le-leb (count_of d - 1 + 0) room h.enough

-- what is performed of a choice that has more products than there is room for; one that waits has none
performed_full : (d : List ℕ) (p c a b : ℕ) (q : Choice) → q ≡ choice_of (byte_at d unknowns_at) d c a b → Fits d p 0
    → leb (count_of d - 1 + product_count d a q) room ≡ false → out no_room 0 d ≡ performed_bytes d p (plan_of_choice d c a b q)
performed_full d p c a b Waits e f h = absurd (let z : ⊥ = not_both _ (none_more d p f) h in z)
performed_full d p c a b Interchange e f h = rw h
performed_full d p c a b Memo e f h = rw h
performed_full d p c a b (Dereference m) e f h = rw h
performed_full d p c a b Identify e f h = rw h
performed_full d p c a b Conflict e f h = rw h
performed_full d p c a b Decompose e f h = rw (decompose_count d c a b e, h)
performed_full d p c a b Initiate e f h = rw h

-- a statement
module _ (d : List ℕ) (p c a b : ℕ) (q : Choice) (e : q ≡ choice_of (byte_at d unknowns_at) d c a b)
    (n : ℕ) (r : Reads (product_count d a q) byte_limit n) (t : Bool) (h : t ≡ full_for n d) (g : Fits d p 0) where
  pub statement_full : t ≡ true → out no_room 0 d ≡ performed_bytes d p (plan_of_choice d c a b (choice_of (byte_at d unknowns_at) d c a b))
  statement_full f = rw (← e) (performed_full d p c a b q e g (rw (← r.same) (too_many d p n t h f)))

  pub statement_fits : t ≡ false → Fits d p (product_count d a q)
  statement_fits f = subst (Fits d p) r.same (room_fits d p n t h f g)

-- a news
pub news_arrived : (d e d' marks ms : List ℕ) (p c x u : ℕ) → length d ≡ run_bytes → Fits d p 0 → c < most_cabinets
    → (i : ℕ) → i ≡ c → marks ≡ store_of i d → left ms e ≡ left (set marks x u) (removed_at p d)
    → (j : ℕ) → j ≡ c → d' ≡ with_store j ms e → out 0 10 d' ≡ performed_bytes d p (plan 10 [] (mark c x u))
news_arrived d e d' marks ms p c x u k h hc i v m l j w g =
    let back : with_store c ms e ≡ removed_at p (applied (mark c x u) d) =
    ap (saved c) l ∙ ap (λ (s : List ℕ). with_store c (set s x u) (removed_at p d)) (m ∙ ap (λ (n : ℕ). store_of n d) v)
    ∙ put_back c hc d k p [] h (mark c x u) refl in
    rw (none_more d p h, g, w, back)
  where
    saved : ℕ → Left → List ℕ
    saved c (left ms e) = with_store c ms e
