-- A run whose marks are all 255 and whose memo bytes are all 0 views as a state in which nothing is known.
use Prim.Native.Nat.{ℕ, ◌+◌, ◌≤◌, ◌<◌}
use mathlib.Core.Path.{◌≡◌, refl, fun_ext}
use mathlib.Core.Bool.{false}
use mathlib.Core.List.{List}
use mathlib.Core.Option.{none}
use Rattle.std.proofs.Common.{arith}
use Rattle.std.proofs.lemmas.Bool.Decides.{nat_tests}
use Rattle.paper.specs.Runs.{nothing, Statement, initial}
use Rattle.layout.specs.Offsets.{clash_at, owners_at, memos_at, pending_at, store_from, memo_from}
use Rattle.layout.specs.Fields.{byte_at, clash_of, owner_of, mark_of, pair_of, state_of}

module _ (d : List ℕ) (running : byte_at d clash_at ≡ 0) (marks : (i : ℕ) → owners_at ≤ i → i < memos_at → byte_at d i ≡ 255)
    (memos : (i : ℕ) → memos_at ≤ i → i < pending_at → byte_at d i ≡ 0) where
  owners_bare : owner_of d ≡ (λ x. none)
  unfolding owner_of
  owners_bare = fun_ext λ x. let h = marks (owners_at + x) (omega arith) in grind (arith, nat_tests)

  stores_bare : mark_of d ≡ (λ c x. nothing)
  unfolding mark_of
  stores_bare = fun_ext λ c. fun_ext λ x. let h = marks (store_from c + x) (omega arith) in grind (arith, nat_tests)

  memos_bare : pair_of d ≡ (λ c x y. false)
  unfolding pair_of
  memos_bare = fun_ext λ c. fun_ext λ x. fun_ext λ y. let h = memos (memo_from c x y) (omega arith) in grind (arith, nat_tests)

  unclashed : clash_of d ≡ none
  unclashed = rw running refl

  pub bare_state : (qs : List Statement) → state_of d ≡ (initial qs).state
  unfolding state_of initial
  bare_state qs = λ i. record { clash = unclashed i; owner = owners_bare i; store = stores_bare i; memo = memos_bare i }
