-- On a run: owner marks followed to their end, agreement over the ends, and agreement with a table of met pairs.
use Rattle.std.specs.Prelude.{◌≡◌, Bool, true, false, ◌&&◌, List, [], ◌∷◌, ℕ, zero, suc, max, min, eqb}
use Rattle.std.proofs.Math.Option.{Option, none, some}
use Rattle.base.specs.Choice.{upd}
use Rattle.base.specs.Lists.{pairwise}
use Rattle.paper.specs.Tables.{Table, Record, is_unknown, record_at, same_head}

-- where owner marks lead: an open unknown, or a record
pub data End : Type 0 where
  at_open : ℕ → End
  at_record : Record → End

-- an unknown a, by its owner mark
abbrev pub by_owner : Option ℕ → ℕ → (ℕ → End) → End
by_owner none a f = at_open a
by_owner (some v) a f = f v

-- an entry a, by whether it is an unknown
abbrev pub by_entry : Bool → Table → Option ℕ → ℕ → (ℕ → End) → End
by_entry true t o a f = by_owner o a f
by_entry false t o a f = at_record (record_at t a)

-- from an entry on, at most so many entries looked at; one that is reached with none left counts as open
abbrev pub followed : Table → (ℕ → Option ℕ) → ℕ → ℕ → End
followed t o zero a = at_open a
followed t o (suc n) a = by_entry (is_unknown t a) t (o a) a (λ v. followed t o n v)

-- "owner marks followed to their end, chains always falling": at most V unknowns and a record
unfoldable pub end_of : Table → (ℕ → Option ℕ) → ℕ → End
end_of t o a = followed t o (suc t.unknowns) a

-- "the same open end, or end records compared as above"
abbrev pub same_ends : (ℕ → ℕ → Bool) → End → End → Bool
same_ends f (at_open z) (at_open w) = eqb z w
same_ends f (at_open z) (at_record q) = false
same_ends f (at_record p) (at_open w) = false
same_ends f (at_record p) (at_record q) = same_head p q && pairwise f p.parts q.parts

-- agreement to a depth over ends
abbrev pub agree : (ℕ → End) → ℕ → ℕ → ℕ → Bool
agree e zero x y = true
agree e (suc d) x y = same_ends (λ p q. agree e d p q) (e x) (e y)

-- the table of met pairs, a pair kept greater first
abbrev pub is_met : (ℕ → ℕ → Bool) → ℕ → ℕ → Bool
is_met m x y = m (max x y) (min x y)

-- the table with the pair x, y met
abbrev pub meeting : (ℕ → ℕ → Bool) → ℕ → ℕ → ℕ → ℕ → Bool
meeting m x y = upd m (max x y) (upd (m (max x y)) (min x y) true)

-- "agreement of two unknowns asks agreement of their part lists, and that of a part list asks for its unknowns ..; a pair
-- already met in answering one question is not compared again and no depth is counted": the answer, and the table after
mutual
  pub data Unknowns (e : ℕ → End) : ℕ → ℕ → (ℕ → ℕ → Bool) → Bool → (ℕ → ℕ → Bool) → Type 0 where
    same : {x : ℕ} {m : ℕ → ℕ → Bool} → Unknowns e x x m true m
    already : {x y : ℕ} {m : ℕ → ℕ → Bool} → is_met m x y ≡ true → Unknowns e x y m true m
    opens : {x y z w : ℕ} {m : ℕ → ℕ → Bool} → (x ≡ y → ⊥) → is_met m x y ≡ false → e x ≡ at_open z → e y ≡ at_open w
        → Unknowns e x y m (eqb z w) (meeting m x y)
    left_open : {x y z : ℕ} {q : Record} {m : ℕ → ℕ → Bool} → (x ≡ y → ⊥) → is_met m x y ≡ false → e x ≡ at_open z
        → e y ≡ at_record q → Unknowns e x y m false (meeting m x y)
    right_open : {x y w : ℕ} {p : Record} {m : ℕ → ℕ → Bool} → (x ≡ y → ⊥) → is_met m x y ≡ false → e x ≡ at_record p
        → e y ≡ at_open w → Unknowns e x y m false (meeting m x y)
    differ : {x y : ℕ} {p q : Record} {m : ℕ → ℕ → Bool} → (x ≡ y → ⊥) → is_met m x y ≡ false → e x ≡ at_record p
        → e y ≡ at_record q → same_head p q ≡ false → Unknowns e x y m false (meeting m x y)
    records : {x y : ℕ} {p q : Record} {m m' : ℕ → ℕ → Bool} {b : Bool} → (x ≡ y → ⊥) → is_met m x y ≡ false
        → e x ≡ at_record p → e y ≡ at_record q → same_head p q ≡ true
        → Parts e p.parts q.parts (meeting m x y) b m' → Unknowns e x y m b m'

  pub data Parts (e : ℕ → End) : List ℕ → List ℕ → (ℕ → ℕ → Bool) → Bool → (ℕ → ℕ → Bool) → Type 0 where
    over : {m : ℕ → ℕ → Bool} → Parts e [] [] m true m
    apart : {p q : ℕ} {ps qs : List ℕ} {m m' : ℕ → ℕ → Bool} → Unknowns e p q m false m'
        → Parts e (p ∷ ps) (q ∷ qs) m false m'
    on : {p q : ℕ} {ps qs : List ℕ} {m m' m'' : ℕ → ℕ → Bool} {b : Bool} → Unknowns e p q m true m' → Parts e ps qs m' b m''
        → Parts e (p ∷ ps) (q ∷ qs) m b m''
