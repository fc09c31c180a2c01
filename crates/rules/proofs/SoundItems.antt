-- What the soundness of the run's bytes says of the item at a place: a statement, an ask or a news in its ranges.
use mathlib.Core.Path.{◌≡◌, sym, subst, ◌∙◌}
use mathlib.Core.Bool.{Bool, true, false, ◌&&◌, ◌||◌}
use mathlib.Core.List.{List}
use Prim.Native.Nat.{ℕ, ◌+◌, ◌≤◌, ◌<◌}
use native.Mathlib.Omega.{arith}
use lib.Dec.{ltb, eqb}
use lib.ListN.{length}
use borrow.Author.Tests.{ltb-true, lt-ltb}
use Rattle.base.specs.Choice.{pick}
use Rattle.base.proofs.Ranges.{below_each}
use Rattle.base.proofs.Tests.{fst_true, snd_true}
use Rattle.paper.specs.Sizes.{most_cabinets, most_unknowns, room}
use Rattle.paper.specs.declared.Item.{Item}
use Rattle.paper.specs.declared.Item.TheVariants.{Statement, Ask, News}
use Rattle.layout.specs.Offsets.{cabinets_at, unknowns_at, records_at, run_bytes, item_from}
use Rattle.layout.specs.Fields.{byte_at, count_of, item_of_bytes, item_at}
use Rattle.layout.specs.Soundness.{lesser, item_ok, place_ok, items_ok, sound_bytes}
use Rattle.layout.proofs.SoundViews.{InRange, tested, in_range, shaped}
use Rattle.choices.specs.Given.{StatementIn}
use Rattle.effects.specs.Given.{Fits}

-- an item in its ranges
abbrev ItemIn : List ℕ → Item → Type 0
ItemIn d (Statement c a b) =
    (c < byte_at d cabinets_at) × (a < byte_at d unknowns_at + byte_at d records_at) × (b < byte_at d unknowns_at + byte_at d records_at)
ItemIn d (Ask c x u) = (c < byte_at d cabinets_at) × (x < byte_at d unknowns_at)
ItemIn d (News c x u) = (c < byte_at d cabinets_at) × (x < byte_at d unknowns_at)

module _ (d : List ℕ) (s : sound_bytes d ≡ true) where
  range : InRange d
  range = in_range d (tested d s)

  -- four bytes that pass
  four : (k c a b : ℕ) → item_ok (byte_at d cabinets_at) (byte_at d unknowns_at) (byte_at d records_at) k c a b ≡ true → ItemIn d (item_of_bytes k c a b)
  unfolding item_ok lesser
  four k c a b h =
      go (eqb k 1) (eqb k 2) (ltb-true c (byte_at d cabinets_at) (fst_true (ltb c (byte_at d cabinets_at)) _ h)) (snd_true (ltb c (byte_at d cabinets_at)) _ h)
    where
      v : ℕ
      v = byte_at d unknowns_at

      r : ℕ
      r = byte_at d records_at

      unknown : (t : Bool) → (t && (ltb a v && pick (ltb b v) (ltb b a) (ltb b (v + r)))) ≡ true → a < v
      unknown t e = ltb-true a v (fst_true (ltb a v) _ (snd_true t _ e))

      go : (p q : Bool) → c < byte_at d cabinets_at
          → pick p (ltb a (v + r) && ltb b (v + r)) ((q || eqb k 3) && (ltb a v && pick (ltb b v) (ltb b a) (ltb b (v + r)))) ≡ true
          → ItemIn d (pick p (Statement c a b) (pick q (Ask c a b) (News c a b)))
      go true q hc e = (hc, ltb-true a (v + r) (fst_true (ltb a (v + r)) _ e), ltb-true b (v + r) (snd_true (ltb a (v + r)) _ e))
      go false true hc e = (hc, unknown true e)
      go false false hc e = (hc, unknown (eqb k 3) e)

  item_in : (p : ℕ) → p < count_of d → ItemIn d (item_at d p)
  unfolding items_ok place_ok item_at
  item_in p h =
      four (byte_at d (item_from p)) (byte_at d (item_from p + 1)) (byte_at d (item_from p + 2)) (byte_at d (item_from p + 3))
      (rw (lt-ltb p (count_of d) h) at
      (below_each (place_ok (byte_at d cabinets_at) (byte_at d unknowns_at) (byte_at d records_at) (count_of d) d) room (tested d s).items p
      (omega (arith, range.count))))

-- The item at a place of a sound run: what its rule asks.
module _ (d : List ℕ) (p : ℕ) (s : sound_bytes d ≡ true) (here : p < count_of d) where
  pub sound_place : p < room
  sound_place = omega (arith, here, (range d s).count)

  pub sound_fits : Fits d p 0
  sound_fits = record { count = (range d s).count; place = here; enough = omega (arith, (range d s).count) }

  module _ (j : Item) (e : j ≡ item_at d p) where
    sound_item : {i : Item} → j ≡ i → ItemIn d i
    sound_item f = subst (ItemIn d) (sym e ∙ f) (item_in d s p here)

    pub sound_statement : (c a b : ℕ) → j ≡ Statement c a b → length d ≡ run_bytes → StatementIn d c a b
    sound_statement c a b f l =
        let i = sound_item f in
        record {
          unknowns = (range d s).unknowns;
          records = (range d s).records;
          parts = (shaped d l (tested d s)).parts;
          cabinet = omega (arith, i.0, (range d s).cabinets);
          left = i.1;
          right = i.2;
        }

    pub sound_ask : (c x u : ℕ) → j ≡ Ask c x u → x < most_unknowns
    sound_ask c x u f = omega (arith, (sound_item f).1, (range d s).unknowns)

    pub sound_news : (c x u : ℕ) → j ≡ News c x u → x < most_unknowns
    sound_news c x u f = omega (arith, (sound_item f).1, (range d s).unknowns)

    pub sound_news_cabinet : (c x u : ℕ) → j ≡ News c x u → c < most_cabinets
    sound_news_cabinet c x u f = omega (arith, (sound_item f).0, (range d s).cabinets)

pub sound_cabinets : (d : List ℕ) → sound_bytes d ≡ true → byte_at d cabinets_at ≤ most_cabinets
sound_cabinets d s = (range d s).cabinets
