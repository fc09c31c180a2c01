-- What a rule changes besides the pending items: as a value, at the run's bytes, and as a local rule makes it of its store.
use Rattle.std.specs.Prelude.{List, ℕ, set}
use Rattle.layout.specs.Changes.{store_of, with_store, with_owner, with_pair, with_clash}

-- the one thing that a rule changes besides the pending items
pub data Change : Type 0 where
  nothing : Change
  mark : ℕ → ℕ → ℕ → Change
  owner : ℕ → ℕ → Change
  pair : ℕ → ℕ → ℕ → Change
  clash : ℕ → Change

abbrev pub applied : Change → List ℕ → List ℕ
applied nothing d = d
applied (mark c x m) d = with_store c (set (store_of c d) x m) d
applied (owner x u) d = with_owner x u d
applied (pair c x y) d = with_pair c x y d
applied (clash c) d = with_clash c d

-- the same with the store as a value: what becomes of it, and what of the run while the store is out
abbrev pub of_store : Change → List ℕ → List ℕ
of_store nothing marks = marks
of_store (mark c x m) marks = set marks x m
of_store (owner x u) marks = marks
of_store (pair c x y) marks = marks
of_store (clash c) marks = marks

abbrev pub of_run : Change → List ℕ → List ℕ
of_run nothing d = d
of_run (mark c x m) d = d
of_run (owner x u) d = with_owner x u d
of_run (pair c x y) d = with_pair c x y d
of_run (clash c) d = with_clash c d

-- the marks that a local rule gives back, and the bytes that it leaves
pub data Left : Type 0 where
  left : List ℕ → List ℕ → Left
