-- Regions of a long list of bytes: what stands there, what is put there, and a gap that is closed.
use Rattle.std.specs.Prelude.{List, ◌++◌, ℕ, ◌+◌, ◌-◌, length, take, drop, replicate}

-- the bytes vs from `at` on, all else as it was
unfoldable pub put : ℕ → List ℕ → List ℕ → List ℕ
put at vs d = take at d ++ vs ++ drop (at + length vs) d

-- the n bytes from `at` on
unfoldable pub get : ℕ → ℕ → List ℕ → List ℕ
get at n d = take n (drop at d)

-- the bytes from at + w up to i + w moved down by w
unfoldable pub shifted : ℕ → ℕ → ℕ → List ℕ → List ℕ
shifted w at i d = put at (get (at + w) (i - at) d) d

-- the w bytes at `at` are gone: those up to e move down, and the w that are free become 0
unfoldable pub gone : ℕ → ℕ → ℕ → List ℕ → List ℕ
gone w at e d = put (e - w) (replicate w 0) (shifted w at (e - w) d)
