-- Document 01's ring file: unknowns 0 and 1 are the same item, though no chain of statements and parts makes them alike.
use mathlib.Core.Path.{◌≡◌, refl, sym, ◌∙◌}
use mathlib.Core.Logic.{inr}
use mathlib.Core.Bool.{Bool, true, false}
use mathlib.Core.List.{List, [], ◌∷◌}
use Prim.Native.Nat.{ℕ, zero, suc, ◌-◌}
use native.Mathlib.Omega.{arith}
use Rattle.base.specs.Lists.{All, here, there}
use Rattle.base.proofs.Elements.{all_member}
use Rattle.base.proofs.Pairs.{zip_left, zip_right}
use Rattle.paper.specs.Tables.{Table, is_record, record_at}
use Rattle.paper.specs.Runs.{Statement}
use Rattle.paper.specs.Numbers.{got}
use Rattle.paper.specs.Files.{read_file}
use Rattle.paper.specs.Alike.{Stated, stated, Alike, given, self, back, via, part, Agree, SameItem}
use Rattle.paper.specs.Vectors.{ring_file}

abbrev ring_table : Table
ring_table =
    record { cabinets = 1; unknowns = 2; records = record { symbol = 7; parts = 0 ∷ [] } ∷ record { symbol = 7; parts = 1 ∷ [] } ∷ [] }

abbrev ring : List Statement
ring = record { cabinet = 0; left = 0; right = 2 } ∷ record { cabinet = 0; left = 1; right = 3 } ∷ []

-- the bytes of the ring file say so
pub ring_is_read : read_file ring_file ≡ got (record { table = ring_table; statements = ring }) 16
unfolding read_file
ring_is_read = refl

ring_agrees : (d : ℕ) → Agree ring_table ring d 0 1
ring_agrees zero = tt
ring_agrees (suc d) =
    inr
    (record {
      one = 2;
      two = 3;
      one_record = refl;
      two_record = refl;
      one_alike = given (stated here);
      two_alike = given (stated (there here));
      head = refl;
      parts = (ring_agrees d, tt);
    })

-- "unknowns 0 and 1 agree though never equated"
pub ring_same_item : SameItem ring_table ring 0 1
ring_same_item = ring_agrees 2

-- 0 and record 2 stand on one side, 1 and record 3 on the other
side : ℕ → Bool
side zero = true
side (suc zero) = false
side (suc (suc zero)) = true
side (suc (suc (suc a))) = false

parts_side : (a : ℕ) → is_record ring_table a ≡ true → All (λ p. side p ≡ side a) (record_at ring_table a).parts
unfolding side
parts_side zero h = absurd (let z : ◌≡◌ {A = ℕ} 0 1 = cc in omega arith)
parts_side (suc zero) h = absurd (let z : ◌≡◌ {A = ℕ} 0 1 = cc in omega arith)
parts_side (suc (suc zero)) h = (refl, tt)
parts_side (suc (suc (suc zero))) h = (refl, tt)
parts_side (suc (suc (suc (suc a)))) h =
    let e : suc (suc (suc (suc a))) - 2 ≡ suc (suc a) = omega arith in
    rw e tt

stated_side : {a b : ℕ} → Stated ring a b → side a ≡ side b
unfolding side
stated_side (stated m) = all_member (λ (q : Statement). side q.left ≡ side q.right) (refl, (refl, tt)) m

alike_side : {a b : ℕ} → Alike ring_table ring a b → side a ≡ side b
alike_side (given h) = stated_side h
alike_side self = refl
alike_side (back h) = sym (alike_side h)
alike_side (via h k) = alike_side h ∙ alike_side k
alike_side (part {a} {b} ha hb h k z) =
    zip_left (λ p. side p ≡ side a) (parts_side a ha) z ∙ alike_side h ∙ sym (zip_right (λ p. side p ≡ side b) (parts_side b hb) z)

-- "Same item taken as alike" is a wrong road: the ring's unknowns are not alike
pub ring_not_alike : Alike ring_table ring 0 1 → ⊥
unfolding side
ring_not_alike h = let e : true ≡ false = alike_side h in let z : ◌≡◌ {A = ℕ} 0 1 = cc in omega arith
