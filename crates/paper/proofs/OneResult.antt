-- At its end a run from an accepted file has clashed, exactly when its statements clash, or its map is the statements' own;
-- so two files that say the same end alike, whatever the order of the steps.
use mathlib.Core.Path.{◌≡◌, refl, subst, ap, ap₂, ◌∙◌}
use mathlib.Core.Logic.{inl, inr, ⊎_elim, ◌↔◌}
use mathlib.Core.List.{List, [], ◌∷◌}
use Prim.Native.Nat.{ℕ, zero, suc}
use native.Mathlib.Omega.{arith}
use lib.Dec.{T}
use Rattle.paper.specs.Tables.{Table}
use Rattle.paper.specs.Runs.{Statement, Run}
use Rattle.paper.specs.Reached.{FileOk, Reached, Clashed, Finished, Over}
use Rattle.paper.specs.Alike.{Clash, Agree}
use Rattle.paper.specs.Ends.{agree, end_of}
use Rattle.paper.specs.Maps.{Row, IsRow, map_row, rows_from, map_rows}
use Rattle.paper.specs.SameStatements.{SameItems, SameSet, OneResult, both_clash, same_map}
use Rattle.paper.specs.declared.Item.{Item}
use Rattle.paper.proofs.Soundness.{reached_sound}
use Rattle.paper.proofs.Chains.{owners_fall}
use Rattle.paper.proofs.Settled.{Settled, settled_agree}
use Rattle.paper.proofs.History.{Pends, pends, History, Kept, whole, broken, reached_history}
use Rattle.paper.proofs.MapOfStatements as of_statements
use Rattle.paper.proofs.MapOfStatements.{Solved}
use Rattle.paper.proofs.StatementSets.{same_back, items_back, same_clash, same_row}

nothing_pends : {a b : ℕ} → Pends [] a b → ⊥
nothing_pends (pends h) = elim h [ ]

module _ (t : Table) (qs : List Statement) (ok : FileOk t qs) where
  -- A clashed reached run: the statements clash.
  pub clashed_statements_clash : {n : ℕ} {r : Run} → Reached t qs n r → Clashed r → Clash t qs
  clashed_statements_clash {r = r} h e = go (reached_history t qs ok h)
    where
      go : Kept t qs r.state r.pending → Clash t qs
      go (whole d v) = absurd (let w = e.1 in let z : ◌≡◌ {A = ℕ} 0 1 = cc in omega arith)
      go (broken d k) = k

  module _ (n : ℕ) (r : Run) (h : Reached t qs n r) (f : Finished r) where
    history : History t qs r.state r.pending
    history = go (reached_history t qs ok h)
      where
        go : Kept t qs r.state r.pending → History t qs r.state r.pending
        go (whole d v) = v
        go (broken d k) = absurd (let w = f.unclashed in let z : ◌≡◌ {A = ℕ} 0 1 = cc in omega arith)

    all_settled : (a b : ℕ) → history.H a b → Settled t r.state.owner history.H a b
    all_settled a b k =
        ⊎_elim (λ (w : Pends r.pending a b). absurd (nothing_pends (subst (λ (l : List Item). Pends l a b) f.empty w))) (λ d. d)
        (history.each a b k)

    -- an unclashed end settles the statements
    pub solved : Solved t qs r.state.owner
    solved =
        let fall = owners_fall t r.state.owner (reached_sound t qs ok h).state.owner in
        record {
          fall = fall;
          own = history.owners;
          stated = λ a b k d. settled_agree t r.state.owner fall history.H all_settled d a b (history.all_stated a b k);
        }

    -- At an unclashed end agreement over owner marks, at every depth, is agreement from the statements.
    pub agreement_is_the_statements : (d x y : ℕ) → T (agree (end_of t r.state.owner) d x y) ↔ Agree t qs d x y
    agreement_is_the_statements = of_statements.agreement_is_the_statements t qs r.state.owner solved

    -- Each row of the run's map is the statements' row, and no other row is.
    pub map_is_the_statements : (x : ℕ) (w : Row) → IsRow t qs x w ↔ (w ≡ map_row t r x)
    unfolding map_row
    map_is_the_statements = of_statements.rows_are_the_statements t qs r.state.owner solved

    -- The statements of an unclashed end do not clash.
    pub finished_no_clash : Clash t qs → ⊥
    finished_no_clash = of_statements.no_clash t qs r.state.owner solved

  -- A run that is over has clashed exactly when its statements clash.
  pub clashes_exactly : {n : ℕ} {r : Run} → Reached t qs n r → Over r → Clashed r ↔ Clash t qs
  clashes_exactly {n} {r} h o = (
    clashed_statements_clash h,
    λ c. ⊎_elim (λ k. k) (λ (f : Finished r). absurd (finished_no_clash n r h f c)) o,
  )

rows_same : (t t' : Table) (r r' : Run) → ((x : ℕ) → map_row t r x ≡ map_row t' r' x) → (k x : ℕ) → rows_from t r k x ≡ rows_from t' r' k x
rows_same t t' r r' h zero x = refl
rows_same t t' r r' h (suc k) x = ap₂ (λ (w : Row) (l : List Row). w ∷ l) (h x) (rows_same t t' r r' h k (suc x))

-- Demand 3: "Take two accepted files with the same numbered items and records, and the same set of statements once cabinet,
-- order, repeats and left or right are forgotten. Carry each on by any accepted steps until it clashes or nothing is pending."
module _ (t t' : Table) (qs qs' : List Statement) (ok : FileOk t qs) (ok' : FileOk t' qs') (items : SameItems t t') (said : SameSet qs qs')
    {n n' : ℕ} {r r' : Run} (h : Reached t qs n r) (h' : Reached t' qs' n' r') where
  finished_alike : Finished r → Finished r' → map_rows t r ≡ map_rows t' r'
  unfolding map_rows
  finished_alike f f' =
      rows_same t t' r r'
      (λ x. (map_is_the_statements t' qs' ok' n' r' h' f' x (map_row t r x)).0
      (same_row t t' qs qs' items said x (map_row t r x) ((map_is_the_statements t qs ok n r h f x (map_row t r x)).1 refl)))
      t.unknowns 0
      ∙ ap (λ (k : ℕ). rows_from t' r' k 0) items.0

  -- "Both clash, exactly when the statements cannot all hold, or both give the same map"
  pub one_result : Over r → Over r' → OneResult t t' qs r r'
  one_result (inl c) o' =
      let k = clashed_statements_clash t qs ok h c in
      both_clash c ((clashes_exactly t' qs' ok' h' o').1 (same_clash t t' qs qs' items said k)) k
  one_result (inr f) (inl c') =
      absurd (finished_no_clash t qs ok n r h f (same_clash t' t qs' qs (items_back t t' items) (same_back said) (clashed_statements_clash t' qs' ok' h' c')))
  one_result (inr f) (inr f') = same_map f f' (finished_no_clash t qs ok n r h f) (finished_alike f f')
