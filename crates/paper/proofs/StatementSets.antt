-- What the statements alone say is the same for the same items and records and the same set of statements: cabinet, order,
-- repeats and left or right are no matter.
use mathlib.Core.Path.{sym, subst₂}
use mathlib.Core.Logic.{inl, inr}
use mathlib.Core.List.{List}
use Prim.Native.Nat.{ℕ, zero, suc}
use Rattle.base.proofs.Pairs.{allzip_map}
use Rattle.paper.specs.Tables.{Table, Record, record_at}
use Rattle.paper.specs.Runs.{Statement}
use Rattle.paper.specs.Alike.{Alike, given, self, back, via, part, Clash, Agree}
use Rattle.paper.specs.Maps.{Look, open_look, record_look, Row, IsLowest, IsLook, IsRow}
use Rattle.paper.specs.SameStatements.{SameItems, Said, SameSet}

pub same_back : {qs qs' : List Statement} → SameSet qs qs' → SameSet qs' qs
same_back same a b = ((same a b).1, (same a b).0)

pub items_back : (t t' : Table) → SameItems t t' → SameItems t' t
items_back t t' e = (sym e.0, sym e.1)

-- a table with other cabinets
abbrev with : Table → ℕ → Table
with t c = record { cabinets = c; unknowns = t.unknowns; records = t.records }

said_alike : (t : Table) (qs : List Statement) (a b : ℕ) → Said qs a b → Alike t qs a b
said_alike t qs a b (inl s) = given s
said_alike t qs a b (inr s) = back (given s)

alike_in : (t : Table) (c c' : ℕ) {qs qs' : List Statement} → SameSet qs qs' → {a b : ℕ} → Alike (with t c) qs a b
    → Alike (with t c') qs' a b
alike_in t c c' {qs' = qs'} same (given {a} {b} s) = said_alike (with t c') qs' a b ((same a b).0 (inl s))
alike_in t c c' same self = self
alike_in t c c' same (back h) = back (alike_in t c c' same h)
alike_in t c c' same (via h k) = via (alike_in t c c' same h) (alike_in t c c' same k)
alike_in t c c' same (part ha hb h k z) = part ha hb (alike_in t c c' same h) k z

module _ (t : Table) (c c' : ℕ) {qs qs' : List Statement} (same : SameSet qs qs') where
  there : {a b : ℕ} → Alike (with t c) qs a b → Alike (with t c') qs' a b
  there = alike_in t c c' same

  here : {a b : ℕ} → Alike (with t c') qs' a b → Alike (with t c) qs a b
  here = alike_in t c' c (same_back same)

  clash_in : Clash (with t c) qs → Clash (with t c') qs'
  clash_in h =
      record {
        one = h.one;
        two = h.two;
        one_record = h.one_record;
        two_record = h.two_record;
        alike = there h.alike;
        differ = h.differ;
      }

  agree_in : (d x y : ℕ) → Agree (with t c) qs d x y → Agree (with t c') qs' d x y
  agree_in zero x y h = tt
  agree_in (suc d) x y (inl h) = inl (record { alike = there h.alike; bare = λ a r k. h.bare a r (here k) })
  agree_in (suc d) x y (inr h) =
      inr
      (record {
        one = h.one;
        two = h.two;
        one_record = h.one_record;
        two_record = h.two_record;
        one_alike = there h.one_alike;
        two_alike = there h.two_alike;
        head = h.head;
        parts = allzip_map (Agree (with t c) qs d) (Agree (with t c') qs' d) (agree_in d) (record_at t h.one).parts
            (record_at t h.two).parts h.parts;
      })

module _ (t : Table) (c c' : ℕ) {qs qs' : List Statement} (same : SameSet qs qs') where
  lowest_in : (x m : ℕ) → IsLowest (with t c) qs x m → IsLowest (with t c') qs' x m
  lowest_in x m h =
      record {
        same = agree_in t c c' same t.unknowns x m h.same;
        least = λ y l k. h.least y l (agree_in t c' c (same_back same) t.unknowns x y k);
      }

  look_in : (x : ℕ) (k : Look) → IsLook (with t c) qs x k → IsLook (with t c') qs' x k
  look_in x open_look h = λ a r k. h a r (here t c c' same k)
  look_in x (record_look n ms) h =
      record {
        one = h.one;
        one_record = h.one_record;
        alike = there t c c' same h.alike;
        symbols = h.symbols;
        parts = allzip_map (IsLowest (with t c) qs) (IsLowest (with t c') qs') lowest_in (record_at t h.one).parts ms h.parts;
      }

  row_in : (x : ℕ) (w : Row) → IsRow (with t c) qs x w → IsRow (with t c') qs' x w
  row_in x w h = record { lowest = lowest_in x w.lowest h.lowest; look = look_in x w.look h.look }

-- from a table to one with the same items
onto : (P : Table → Type 0) (t t' : Table) → SameItems t t' → P (with t t'.cabinets) → P t'
onto P t t' e =
    subst₂ (λ (v : ℕ) (rs : List Record). P (record { cabinets = t'.cabinets; unknowns = v; records = rs })) e.0 e.1

-- "the same numbered items and records, and the same set of statements once cabinet, order, repeats and left or right are
-- forgotten": two files that differ in nothing else
module _ (t t' : Table) (qs qs' : List Statement) (items : SameItems t t') (same : SameSet qs qs') where
  -- entries are alike in both
  pub same_alike : {a b : ℕ} → Alike t qs a b → Alike t' qs' a b
  same_alike {a} {b} h = onto (λ u. Alike u qs' a b) t t' items (alike_in t t.cabinets t'.cabinets same h)

  -- the statements of both clash
  pub same_clash : Clash t qs → Clash t' qs'
  same_clash h = onto (λ u. Clash u qs') t t' items (clash_in t t.cabinets t'.cabinets same h)

  -- unknowns agree to a depth in both
  pub same_agreement : (d x y : ℕ) → Agree t qs d x y → Agree t' qs' d x y
  same_agreement d x y h = onto (λ u. Agree u qs' d x y) t t' items (agree_in t t.cabinets t'.cabinets same d x y h)

  -- an unknown has the same row in both maps
  pub same_row : (x : ℕ) (w : Row) → IsRow t qs x w → IsRow t' qs' x w
  same_row x w h = onto (λ u. IsRow u qs' x w) t t' items (row_in t t.cabinets t'.cabinets same x w h)
