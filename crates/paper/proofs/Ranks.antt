-- Ranks: 0 for a record, x + 1 for the unknown x. `less` is their order.
use mathlib.Core.Path.{◌≡◌, refl}
use mathlib.Core.Bool.{Bool, true, false, ◌&&◌, ◌||◌}
use Prim.Native.Nat.{ℕ, suc, ◌≤◌, ◌<◌}
use native.Mathlib.Omega.{arith}
use borrow.Author.Tests.{ltb-true, ltb-false, leb-true, leb-false, lt-ltb, le-ltb, le-leb}
use lib.Dec.{ltb, leb}
use Rattle.base.specs.Choice.{pick}
use Rattle.paper.specs.Tables.{Table, is_unknown, is_record, less}

pub rank : Table → ℕ → ℕ
rank t a = pick (is_unknown t a) (suc a) 0

pub rank_unknown : (t : Table) (a : ℕ) → a < t.unknowns → rank t a ≡ suc a
unfolding rank
rank_unknown t a h = rw (lt-ltb a t.unknowns h)

pub rank_record : (t : Table) (a : ℕ) → t.unknowns ≤ a → rank t a ≡ 0
unfolding rank
rank_record t a h = rw (le-ltb a t.unknowns h)

-- an entry is an unknown or a record
pub data Kind (t : Table) (a : ℕ) : Type 0 where
  unknown : a < t.unknowns → rank t a ≡ suc a → Kind t a
  recorded : t.unknowns ≤ a → rank t a ≡ 0 → Kind t a

pub kind : (t : Table) (a : ℕ) → Kind t a
kind t a = go (ltb a t.unknowns) refl
  where
    go : (b : Bool) → ltb a t.unknowns ≡ b → Kind t a
    go true e = let h = ltb-true a t.unknowns e in unknown h (rank_unknown t a h)
    go false e = let h = ltb-false a t.unknowns e in recorded h (rank_record t a h)

pub rank_le : (t : Table) (a : ℕ) → rank t a ≤ t.unknowns
rank_le t a = go (kind t a)
  where
    go : Kind t a → rank t a ≤ t.unknowns
    go (unknown h e) = omega arith
    go (recorded h e) = omega arith

pub rank_pos : (t : Table) (a : ℕ) → 0 < rank t a → a < t.unknowns
rank_pos t a p = go (kind t a)
  where
    go : Kind t a → a < t.unknowns
    go (unknown h e) = h
    go (recorded h e) = absurd (let z : ⊥ = omega arith in z)

-- tests as facts
pub unknown_is : (t : Table) (a : ℕ) → is_unknown t a ≡ true → a < t.unknowns
unknown_is t a e = ltb-true a t.unknowns e

pub is_unknown_lem : (t : Table) (a : ℕ) → a < t.unknowns → is_unknown t a ≡ true
is_unknown_lem t a h = lt-ltb a t.unknowns h

pub not_unknown : (t : Table) (a : ℕ) → t.unknowns ≤ a → is_unknown t a ≡ false
not_unknown t a h = le-ltb a t.unknowns h

pub record_is : (t : Table) (a : ℕ) → is_record t a ≡ true → t.unknowns ≤ a
record_is t a e = leb-true t.unknowns a e

pub is_record_lem : (t : Table) (a : ℕ) → t.unknowns ≤ a → is_record t a ≡ true
is_record_lem t a h = le-leb t.unknowns a h

-- `less` is the order of ranks
pub less_rank : (t : Table) (u x : ℕ) → less t u x ≡ true → rank t u < rank t x
less_rank t u x = go (ltb x t.unknowns) refl (leb t.unknowns u) refl (ltb u x) refl
  where
    go : (p : Bool) → ltb x t.unknowns ≡ p → (q : Bool) → leb t.unknowns u ≡ q → (s : Bool) → ltb u x ≡ s
        → (p && (q || s)) ≡ true → rank t u < rank t x
    go true e true e' s e'' h =
        omega (arith, rank_unknown t x (ltb-true x t.unknowns e), rank_record t u (leb-true t.unknowns u e'))
    go true e false e' true e'' h =
        omega (arith, rank_unknown t x (ltb-true x t.unknowns e), rank_unknown t u (leb-false t.unknowns u e'), ltb-true u x e'')
    go true e false e' false e'' h = absurd (let z : ◌≡◌ {A = ℕ} 0 1 = cc in omega arith)
    go false e q e' s e'' h = absurd (let z : ◌≡◌ {A = ℕ} 0 1 = cc in omega arith)

pub rank_less : (t : Table) (u x : ℕ) → rank t u < rank t x → less t u x ≡ true
rank_less t u x l = go (ltb x t.unknowns) refl (leb t.unknowns u) refl (ltb u x) refl
  where
    go : (p : Bool) → ltb x t.unknowns ≡ p → (q : Bool) → leb t.unknowns u ≡ q → (s : Bool) → ltb u x ≡ s
        → (p && (q || s)) ≡ true
    go true e true e' s e'' = refl
    go true e false e' true e'' = refl
    go true e false e' false e'' =
        absurd (let z : ⊥ = omega (arith, rank_unknown t x (ltb-true x t.unknowns e), rank_unknown t u (leb-false t.unknowns u e'), ltb-false u x e'') in z)
    go false e q e' s e'' = absurd (let z : ⊥ = omega (arith, rank_record t x (ltb-false x t.unknowns e)) in z)

pub not_less_rank : (t : Table) (u x : ℕ) → less t u x ≡ false → rank t x ≤ rank t u
not_less_rank t u x = go (ltb x t.unknowns) refl (leb t.unknowns u) refl (ltb u x) refl
  where
    go : (p : Bool) → ltb x t.unknowns ≡ p → (q : Bool) → leb t.unknowns u ≡ q → (s : Bool) → ltb u x ≡ s
        → (p && (q || s)) ≡ false → rank t x ≤ rank t u
    go true e true e' s e'' h = absurd (let z : ◌≡◌ {A = ℕ} 0 1 = cc in omega arith)
    go true e false e' true e'' h = absurd (let z : ◌≡◌ {A = ℕ} 0 1 = cc in omega arith)
    go true e false e' false e'' h =
        omega (arith, rank_unknown t x (ltb-true x t.unknowns e), rank_unknown t u (leb-false t.unknowns u e'), ltb-false u x e'')
    go false e q e' s e'' h = omega (arith, rank_record t x (ltb-false x t.unknowns e))
