-- What following a mark gives: an unknown without one is its own end, a record's mark ends the chain, and any other falls.
use mathlib.Core.Path.{◌≡◌, sym, subst, ap, ◌∙◌}
use mathlib.Core.Logic.{⊎_elim}
use mathlib.Core.Bool.{Bool}
use mathlib.Core.List.{List}
use mathlib.Core.Option.{none, some}
use Prim.Native.Nat.{ℕ, ◌+◌, ◌-◌, ◌≤◌, ◌<◌}
use native.Mathlib.Numerals.{add-one}
use native.Mathlib.Omega.{arith}
use borrow.Author.Tests.{lt-ltb, le-ltb, ne_eqb}
use lib.ListN.{get_or, set, replicate, length-set, length-replicate}
use lib.Seq.{get_or-set_same, get_or-set_other}
use Rattle.base.specs.Choice.{pick}
use Rattle.base.proofs.Tests.{last_or}
use Rattle.paper.specs.Sizes.{most_unknowns}
use Rattle.paper.specs.Runs.{Lesser, OwnerOk}
use Rattle.paper.specs.Ends.{at_open, at_record}
use Rattle.paper.proofs.Ranks.{rank_unknown, is_record_lem}
use Rattle.paper.proofs.Chains.{Falls, end_record, end_open, end_owner, owners_fall}
use Rattle.layout.specs.Offsets.{unknowns_at, records_at, owners_at}
use Rattle.layout.specs.Fields.{byte_at, record_of, owner_mark, owner_of, table_of}
use Rattle.layout.specs.Given.{Reads, byte_limit}
use Rattle.layout.proofs.SoundViews.{entries_are, owner_ok_lem}
use Rattle.layout.proofs.ViewedFields.{owner_byte, record_byte}
use Rattle.agreement.specs.Given.{SoundRun}
use Rattle.agreement.specs.Ends.{end_at, EndsAt, AllEnd}
use Rattle.agreement.proofs.Ranges.{tests}

-- an entry as an end
module _ (d : List ℕ) (a : ℕ) where
  pub open_end : a < byte_at d unknowns_at → end_at d a ≡ at_open a
  unfolding end_at
  open_end h = rw (lt-ltb a (byte_at d unknowns_at) h)

  pub record_end : byte_at d unknowns_at ≤ a → end_at d a ≡ at_record (record_of d (a - byte_at d unknowns_at))
  unfolding end_at
  record_end h = rw (le-ltb a (byte_at d unknowns_at) h)

-- an unknown x
module _ (d : List ℕ) (v x : ℕ) (g : SoundRun d v) (hx : x < v) where
  mark_is : owner_of d x ≡ owner_mark (byte_at d (owners_at + x))
  mark_is = owner_byte d x (omega (arith, g.few_unknowns))

  pub no_mark : byte_at d (owners_at + x) ≡ 255 → EndsAt d x x
  unfolding table_of
  no_mark e =
      let h : x < byte_at d unknowns_at = omega (arith, g.unknowns) in
      let n : owner_of d x ≡ none = mark_is ∙ ap owner_mark e in
      record { entry = omega arith; is = end_open (table_of d) (owner_of d) x h n ∙ sym (open_end d x h) }

  -- its mark m
  module _ (m : ℕ) (r : Reads (byte_at d (owners_at + x)) 255 m) where
    owned : owner_of d x ≡ some m
    owned =
        mark_is
        ∙ ap owner_mark (sym r.same)
        ∙ ap (λ (b : Bool). pick b none (some m)) (ne_eqb m 255 (λ e. let z : ⊥ = omega (arith, r.small) in z))

    fall : Falls (table_of d) (owner_of d)
    fall = owners_fall (table_of d) (owner_of d) (owner_ok_lem d g.long (tests d v g))

    mark_entry : m < byte_at d unknowns_at + byte_at d records_at
    mark_entry =
        let lesser : Lesser (table_of d) m x = subst (OwnerOk (table_of d) x) owned (owner_ok_lem d g.long (tests d v g) x) in
        omega (arith, lesser.entry, entries_are d)

    pub record_mark : v ≤ m → EndsAt d x m
    unfolding table_of
    record_mark h =
        let l : byte_at d unknowns_at ≤ m = omega (arith, g.unknowns) in
        record {
          entry = mark_entry;
          is =
              end_owner (table_of d) (owner_of d) fall x m owned
              ∙ end_record (table_of d) (owner_of d) m (is_record_lem (table_of d) m l)
              ∙ ap at_record (record_byte d m l mark_entry)
              ∙ sym (record_end d m l);
        }

    pub mark_followed : (a : ℕ) → EndsAt d m a → EndsAt d x a
    mark_followed a e = record { entry = e.entry; is = end_owner (table_of d) (owner_of d) fall x m owned ∙ e.is }

    pub mark_falls : m < v → m < x
    unfolding table_of
    mark_falls l =
        let e = g.unknowns in
        omega (arith, fall x m owned, rank_unknown (table_of d) m (omega arith), rank_unknown (table_of d) x (omega arith))

-- the ends of all unknowns, one after the other
pub no_end : (d : List ℕ) → AllEnd d 0 (replicate most_unknowns 0)
no_end d = record { long = length-replicate {A = ℕ} most_unknowns 0; at = λ x h. absurd (let z : ⊥ = omega arith in z) }

pub end_small : (d : List ℕ) (v x a : ℕ) → SoundRun d v → EndsAt d x a → a < byte_limit
end_small d v x a g e = omega (arith, e.entry, g.few_unknowns, g.unknowns, g.few_records)

pub one_more_end : (d : List ℕ) (v x a : ℕ) (es : List ℕ) → AllEnd d x es → SoundRun d v → x < v → EndsAt d x a → AllEnd d (x + 1) (set es x a)
one_more_end d v x a es w g h e =
    record {
      long = length-set es x a ∙ w.long;
      at = λ y l. ⊎_elim (λ (k : x ≡ y). here y k) (λ (k : y < x). there y k) (last_or (rw add-one at l));
    }
  where
    here : (y : ℕ) → x ≡ y → EndsAt d y (get_or (set es x a) y 0)
    here y k = subst (λ (z : ℕ). EndsAt d z (get_or (set es x a) z 0)) k (rw (get_or-set_same es x a 0 (omega (arith, w.long, g.few_unknowns))) e)

    there : (y : ℕ) → y < x → EndsAt d y (get_or (set es x a) y 0)
    there y k = rw (get_or-set_other es x y a 0 (λ q. let z : ⊥ = omega arith in z)) (w.at y k)

pub all_end : (d : List ℕ) (v x : ℕ) (es : List ℕ) → AllEnd d x es → x ≤ v → v ≤ x → AllEnd d v es
all_end d v x es w h k = let e : x ≡ v = omega arith in subst (λ (n : ℕ). AllEnd d n es) e w
