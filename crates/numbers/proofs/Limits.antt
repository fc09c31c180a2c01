-- Below which number so many groups stay.
use Prim.Native.Nat.{ℕ, zero, suc, ◌*◌, ◌≤◌, ◌<◌}
use native.Mathlib.Omega.{arith}

-- below this is a number of k groups and one more that is at most `top`
unfoldable pub limit : ℕ → ℕ → ℕ
limit zero top = suc top
limit (suc k) top = 128 * limit k top

pub limit_some : (k top : ℕ) → 0 < limit k top
unfolding limit
limit_some zero top = omega arith
limit_some (suc k) top = let h = limit_some k top in omega arith

pub limit_up : (top i j : ℕ) → i ≤ j → limit i top ≤ limit j top
unfolding limit
limit_up top zero zero h = omega arith
limit_up top zero (suc j) h = let l = limit_up top zero j (omega arith) in omega arith
limit_up top (suc i) zero h = absurd (omega arith)
limit_up top (suc i) (suc j) h = let l = limit_up top i j (omega arith) in omega arith
