-- From the statements alone, depth V − 2 is too little: 0 open, 1 = f(0), 2 = f(1).
use mathlib.Core.Path.{◌≡◌, refl, subst}
use mathlib.Core.List.{List, [], ◌∷◌}
use mathlib.Core.Option.{Option, none, some}
use Prim.Native.Nat.{ℕ, zero, suc, ◌-◌, ◌<◌}
use native.Mathlib.Omega.{arith}
use lib.Dec.{T, lit<, lit≤}
use Rattle.base.specs.Lists.{here, there}
use Rattle.base.proofs.Elements.{all_member}
use Rattle.paper.specs.Tables.{Table}
use Rattle.paper.specs.Runs.{Statement}
use Rattle.paper.specs.Alike.{Stated, stated, Alike, given, Agree, SameItem}
use Rattle.paper.specs.Ends.{agree, end_of}
use Rattle.paper.proofs.Ranks.{rank, rank_unknown, rank_record}
use Rattle.paper.proofs.Depth.{same_end_agrees}
use Rattle.paper.proofs.MapOfStatements.{Solved, agreement_is_the_statements}

abbrev table : Table
table =
    record { cabinets = 1; unknowns = 3; records = record { symbol = 7; parts = 0 ∷ [] } ∷ record { symbol = 7; parts = 1 ∷ [] } ∷ [] }

abbrev statements : List Statement
statements = record { cabinet = 0; left = 1; right = 3 } ∷ record { cabinet = 0; left = 2; right = 4 } ∷ []

abbrev owners : ℕ → Option ℕ
owners zero = none
owners (suc zero) = some 3
owners (suc (suc zero)) = some 4
owners (suc (suc (suc x))) = none

-- an owner mark is of a statement and a record
owned : (P : ℕ → ℕ → Type 0) → P 1 3 → P 2 4 → (x v : ℕ) → owners x ≡ some v → P x v
owned P h k zero v e = absurd (let z : ◌≡◌ {A = ℕ} 0 1 = cc in omega arith)
owned P h k (suc zero) v e = let d : 3 ≡ v = cc in subst (P 1) d h
owned P h k (suc (suc zero)) v e = let d : 4 ≡ v = cc in subst (P 2) d k
owned P h k (suc (suc (suc x))) v e = absurd (let z : ◌≡◌ {A = ℕ} 0 1 = cc in omega arith)

said : (P : ℕ → ℕ → Type 0) → P 1 3 → P 2 4 → (a b : ℕ) → Stated statements a b → P a b
said P h k a b (stated m) = all_member (λ (q : Statement). P q.left q.right) (h, (k, tt)) m

solved : Solved table statements owners
unfolding end_of
solved =
    record {
      fall = owned (λ x v. rank table v < rank table x)
          (omega (arith, rank_unknown table 1 (lit< tt), rank_record table 3 (lit≤ tt)))
          (omega (arith, rank_unknown table 2 (lit< tt), rank_record table 4 (lit≤ tt)));
      own = owned (Alike table statements) (given (stated here)) (given (stated (there here)));
      stated = said (λ a b. (d : ℕ) → T (agree (end_of table owners) d a b)) (λ d. same_end_agrees (end_of table owners) d 1 3 refl)
          (λ d. same_end_agrees (end_of table owners) d 2 4 refl);
    }

-- 1 and 2 agree to depth V − 2
pub agree_to_depth_V_less_2 : Agree table statements (table.unknowns - 2) 1 2
unfolding end_of
agree_to_depth_V_less_2 = (agreement_is_the_statements table statements owners solved 1 1 2).0 tt

-- and are not the same item
pub not_the_same_item : SameItem table statements 1 2 → ⊥
unfolding end_of
not_the_same_item h = (agreement_is_the_statements table statements owners solved 3 1 2).1 h
