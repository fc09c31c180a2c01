-- Agreement in any sound run, also one made by hand: depth V is every depth, and met pairs give the answer of depth V.
use mathlib.Core.Path.{◌≡◌}
use mathlib.Core.Bool.{Bool, false}
use Prim.Native.Nat.{ℕ, ◌<◌}
use lib.Dec.{T}
use Rattle.paper.specs.Tables.{Table}
use Rattle.paper.specs.Runs.{Run, Sound}
use Rattle.paper.specs.Ends.{end_of, agree, Unknowns}
use Rattle.paper.proofs.Depth.{depth_V_is_every_depth}
use Rattle.paper.proofs.MetPairs.{met_pairs_answer_depth_V}
use Rattle.paper.proofs.MetPairsEnd.{met_pairs_answer}
use Rattle.paper.proofs.Chains.{end_low}

module _ (t : Table) (r : Run) (s : Sound t r) where
  -- over "owner marks followed to their end .., also in a run made by hand", what agrees to depth V agrees to every depth
  pub run_depth_V_is_every_depth : (x y : ℕ) → x < t.unknowns → y < t.unknowns
      → T (agree (end_of t r.state.owner) t.unknowns x y) → (d : ℕ) → T (agree (end_of t r.state.owner) d x y)
  run_depth_V_is_every_depth = depth_V_is_every_depth (end_of t r.state.owner) t.unknowns (λ x h. end_low t r.state.owner s.table x)

  -- every question about two unknowns has an answer with met pairs
  pub run_met_pairs_answer : (x y : ℕ) → x < t.unknowns → y < t.unknowns
      → (b : Bool) × (m : ℕ → ℕ → Bool) × Unknowns (end_of t r.state.owner) x y (λ p q. false) b m
  run_met_pairs_answer = met_pairs_answer (end_of t r.state.owner) t.unknowns (λ x h. end_low t r.state.owner s.table x)

  -- "the answer is still that of depth V"
  pub run_met_pairs_answer_depth_V : {x y : ℕ} {b : Bool} {m : ℕ → ℕ → Bool} → Unknowns (end_of t r.state.owner) x y (λ p q. false) b m
      → x < t.unknowns → y < t.unknowns → b ≡ agree (end_of t r.state.owner) t.unknowns x y
  run_met_pairs_answer_depth_V = met_pairs_answer_depth_V (end_of t r.state.owner) t.unknowns (λ x h. end_low t r.state.owner s.table x)
