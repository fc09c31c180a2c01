-- Owner marks followed to their end: chains fall, so V marks are enough and an unknown's end is that of its owner's entry.
use mathlib.Core.Path.{◌≡◌, refl, subst}
use mathlib.Core.Bool.{Bool, true, false}
use mathlib.Core.List.{List}
use mathlib.Core.Option.{Option, none, some}
use Prim.Native.Nat.{ℕ, zero, suc, ◌-◌, ◌<◌}
use native.Mathlib.Omega.{arith}
use borrow.Author.Tests.{ltb-false}
use Rattle.base.proofs.Elements.{all_get_d, all_map}
use Rattle.paper.specs.Tables.{Table, TableOk, Record, no_record, is_unknown, is_record, record_at}
use Rattle.paper.specs.Runs.{Statement, OwnerOk}
use Rattle.paper.specs.Alike.{Alike, self, via}
use Rattle.paper.specs.Ends.{End, at_open, at_record, by_entry, followed, end_of}
use Rattle.paper.proofs.Ranks.{rank, rank_le, rank_pos, less_rank, unknown_is, is_unknown_lem, not_unknown, record_is, is_record_lem}
use Rattle.paper.proofs.Depth.{LowEnd}

-- "chains always falling": an owner's entry is less than its unknown
abbrev pub Falls : Table → (ℕ → Option ℕ) → Type 0
Falls t o = (x v : ℕ) → o x ≡ some v → rank t v < rank t x

-- the end of an entry, with how it is alike to the entry
pub data Ended (t : Table) (qs : List Statement) (a : ℕ) : End → Type 0 where
  ended_open : {z : ℕ} → z < t.unknowns → Alike t qs a z → Ended t qs a (at_open z)
  ended_record : {r : ℕ} → is_record t r ≡ true → Alike t qs a r → Ended t qs a (at_record (record_at t r))

module _ (t : Table) (o : ℕ → Option ℕ) where
  -- a record is its own end
  pub end_record : (a : ℕ) → is_record t a ≡ true → end_of t o a ≡ at_record (record_at t a)
  unfolding end_of
  end_record a h = rw (not_unknown t a (record_is t a h))

  -- an unknown without owner mark is its own open end
  pub end_open : (a : ℕ) → a < t.unknowns → o a ≡ none → end_of t o a ≡ at_open a
  unfolding end_of
  end_open a h e = rw (is_unknown_lem t a h, e)

  -- where "marks .. are less than their unknown", chains fall
  pub owners_fall : ((x : ℕ) → OwnerOk t x (o x)) → Falls t o
  owners_fall ok x v e = less_rank t v x (subst (OwnerOk t x) e (ok x)).is

  -- each part of an end record is an unknown
  module _ (ok : TableOk t) where
    followed_low : (n a : ℕ) → LowEnd t.unknowns (followed t o n a)
    followed_low zero a = tt
    followed_low (suc n) a = go (is_unknown t a) (o a) (followed_low n)
      where
        go : (p : Bool) (w : Option ℕ) → ((v : ℕ) → LowEnd t.unknowns (followed t o n v))
            → LowEnd t.unknowns (by_entry p t w a (followed t o n))
        go true none ih = tt
        go true (some v) ih = ih v
        go false w ih =
            all_get_d (λ (q : Record). LowEnd t.unknowns (at_record q)) t.records (a - t.unknowns) no_record tt
            (all_map _ _ (λ q h. h.parts) t.records ok.records)

    pub end_low : (a : ℕ) → LowEnd t.unknowns (end_of t o a)
    unfolding end_of
    end_low a = followed_low (suc t.unknowns) a

  module _ (fall : Falls t o) where
    -- more marks than an entry's rank make no difference
    followed_same : (n m a : ℕ) → rank t a < n → rank t a < m → followed t o n a ≡ followed t o m a
    followed_same zero m a h k = absurd (let y : ⊥ = omega arith in y)
    followed_same (suc n) zero a h k = absurd (let y : ⊥ = omega arith in y)
    followed_same (suc n) (suc m) a h k =
        go (is_unknown t a) (o a) refl (λ v l. followed_same n m v (omega arith) (omega arith))
      where
        go : (p : Bool) (w : Option ℕ) → o a ≡ w → ((v : ℕ) → rank t v < rank t a → followed t o n v ≡ followed t o m v)
            → by_entry p t w a (followed t o n) ≡ by_entry p t w a (followed t o m)
        go true none e ih = refl
        go true (some v) e ih = ih v (fall a v e)
        go false w e ih = refl

    -- an unknown's end is the end of its owner's entry
    pub end_owner : (a v : ℕ) → o a ≡ some v → end_of t o a ≡ end_of t o v
    unfolding end_of
    end_owner a v e =
        let l : rank t v < rank t a = fall a v e in
        rw (is_unknown_lem t a (rank_pos t a (omega arith)), e)
        (followed_same t.unknowns (suc t.unknowns) v (omega (arith, rank_le t a)) (omega (arith, rank_le t v)))

    -- where an unknown is alike to its owner's entry, it is alike to its end
    module _ (qs : List Statement) (own : (x v : ℕ) → o x ≡ some v → Alike t qs x v) where
      on : {a v : ℕ} {x : End} → Alike t qs a v → Ended t qs v x → Ended t qs a x
      on k (ended_open h j) = ended_open h (via k j)
      on k (ended_record h j) = ended_record h (via k j)

      followed_ended : (n a : ℕ) → rank t a < n → Ended t qs a (followed t o n a)
      followed_ended zero a h = absurd (let z : ⊥ = omega arith in z)
      followed_ended (suc n) a h = go (is_unknown t a) refl (o a) refl (λ v k. followed_ended n v (omega arith))
        where
          go : (p : Bool) → is_unknown t a ≡ p → (w : Option ℕ) → o a ≡ w
              → ((v : ℕ) → rank t v < rank t a → Ended t qs v (followed t o n v)) → Ended t qs a (by_entry p t w a (followed t o n))
          go true e none e' ih = ended_open (unknown_is t a e) self
          go true e (some v) e' ih = on (own a v e') (ih v (fall a v e'))
          go false e w e' ih = ended_record (is_record_lem t a (ltb-false a t.unknowns e)) self

      pub ended : (a : ℕ) → Ended t qs a (end_of t o a)
      unfolding end_of
      ended a = followed_ended (suc t.unknowns) a (omega (arith, rank_le t a))
