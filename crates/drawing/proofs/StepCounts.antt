-- Laws of numbers that fit: document 01's step count from three bytes.
use Rattle.std.proofs.Common.{◌≡◌, ℕ, ◌+◌, ◌-◌, ◌*◌, ◌^◌, ◌<◌, ◌≤◌, refl, mul-le-mul, arith}
use Rattle.paper.specs.Counts.{pairs_of, most_steps}

module _ (v : ℕ) (hv : v < 256) where
  square_small : v * (v - 1) ≤ 65025
  square_small = mul-le-mul {n₁ = v} {m₁ = v - 1} {n₂ = 255} {m₂ = 255} (omega arith) (omega arith)

  pub square_fits : (w : ℕ) → w ≡ v - 1 → v * w < 2 ^ 64
  square_fits w e = rw e (omega (arith, square_small))

  module _ (s e p : ℕ) (hs : s < 256) (he : e < 256) (hp : p ≡ pairs_of v) where
    pairs_small : p ≤ 32512
    pairs_small = omega (arith, square_small, hp)

    held_small : 4 * s * p ≤ 33162240
    held_small = mul-le-mul {n₁ = 4 * s} {m₁ = p} {n₂ = 1020} {m₂ = 32512} (omega arith) pairs_small

    steps_small : (5 * e + 4 * s * p) * (4 * v + 2) ≤ 33893112330
    steps_small =
        mul-le-mul {n₁ = 5 * e + 4 * s * p} {m₁ = 4 * v + 2} {n₂ = 33163515} {m₂ = 1022} (omega (arith, held_small)) (omega arith)

    news_small : 3 * v * s ≤ 195075
    news_small = mul-le-mul {n₁ = 3 * v} {m₁ = s} {n₂ = 765} {m₂ = 255} (omega arith) (omega arith)

    pub held_fits : 4 * s * p < 2 ^ 64
    held_fits = omega (arith, held_small)

    pub all_held_fit : 5 * e + 4 * s * p < 2 ^ 64
    all_held_fit = omega (arith, held_small)

    pub steps_fit : (5 * e + 4 * s * p) * (4 * v + 2) < 2 ^ 64
    steps_fit = omega (arith, steps_small)

    pub news_fit : 3 * v * s < 2 ^ 64
    news_fit = omega (arith, news_small)

    pub all_steps_fit : (5 * e + 4 * s * p) * (4 * v + 2) + 3 * v * s < 2 ^ 64
    all_steps_fit = omega (arith, steps_small, news_small)

    pub steps_are : (5 * e + 4 * s * p) * (4 * v + 2) + 3 * v * s ≡ most_steps s v e
    steps_are = rw hp refl
