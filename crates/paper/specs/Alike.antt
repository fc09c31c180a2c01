-- What the statements alone say: alike, clash, agreement to a depth, same item.
use Rattle.std.specs.Prelude.{◌≡◌, ◌⊎◌, true, false, List, ℕ, zero, suc}
use Rattle.base.specs.Lists.{Member, Zip, AllZip}
use Rattle.paper.specs.Tables.{Table, is_record, record_at, same_head}
use Rattle.paper.specs.Runs.{Statement}

-- a = b is one of the statements
pub data Stated (qs : List Statement) : ℕ → ℕ → Type 0 where
  stated : {q : Statement} → Member q qs → Stated qs q.left q.right

-- "alike is the least equivalence on entries that holds for each statement and, for two alike records with the same symbol
-- and part count, for their parts in turn"
pub data Alike (t : Table) (qs : List Statement) : ℕ → ℕ → Type 0 where
  given : {a b : ℕ} → Stated qs a b → Alike t qs a b
  self : {a : ℕ} → Alike t qs a a
  back : {a b : ℕ} → Alike t qs a b → Alike t qs b a
  via : {a b c : ℕ} → Alike t qs a b → Alike t qs b c → Alike t qs a c
  part : {a b p q : ℕ} → is_record t a ≡ true → is_record t b ≡ true → Alike t qs a b
      → same_head (record_at t a) (record_at t b) ≡ true → Zip (record_at t a).parts (record_at t b).parts p q
      → Alike t qs p q

-- "The statements clash exactly when two alike records differ in symbol or count." A number beyond the entries is no record of the
-- table, but in an accepted file no statement and no part names it: it is alike to itself alone, so it changes nothing here nor below.
pub record Clash (t : Table) (qs : List Statement) : Type 0 where
  pub one : ℕ
  pub two : ℕ
  pub one_record : is_record t one ≡ true
  pub two_record : is_record t two ≡ true
  pub alike : Alike t qs one two
  pub differ : same_head (record_at t one) (record_at t two) ≡ false

-- "they are alike with no record alike to them"
pub record BothOpen (t : Table) (qs : List Statement) (x y : ℕ) : Type 0 where
  pub alike : Alike t qs x y
  pub bare : (a : ℕ) → is_record t a ≡ true → Alike t qs x a → ⊥

-- "each has a record alike to it and these share symbol and count and their parts agree pairwise"
pub record BothRecords (t : Table) (qs : List Statement) (R : ℕ → ℕ → Type 0) (x y : ℕ) : Type 0 where
  pub one : ℕ
  pub two : ℕ
  pub one_record : is_record t one ≡ true
  pub two_record : is_record t two ≡ true
  pub one_alike : Alike t qs x one
  pub two_alike : Alike t qs y two
  pub head : same_head (record_at t one) (record_at t two) ≡ true
  pub parts : AllZip R (record_at t one).parts (record_at t two).parts

-- "two unknowns agree to depth 0 always; to depth d+1 when .."
abbrev pub Agree : Table → List Statement → ℕ → ℕ → ℕ → Type 0
Agree t qs zero x y = Unit {0}
Agree t qs (suc d) x y = BothOpen t qs x y ⊎ BothRecords t qs (λ p q. Agree t qs d p q) x y

-- "Two unknowns are the same item when they agree to depth V."
abbrev pub SameItem : Table → List Statement → ℕ → ℕ → Type 0
SameItem t qs x y = Agree t qs t.unknowns x y
