-- The hash that stands for a buffer: its bytes as the digits of a number to base 257 after a leading 1, by what that number leaves
-- when divided by a prime.
use Rattle.std.specs.Prelude.{List, ℕ, ◌+◌, ◌*◌, ◌%◌, fold}

-- the largest prime below 2^55
abbrev pub prime : ℕ
prime = 36028797018963913

-- a hash with one number more
abbrev pub folded : ℕ → ℕ → ℕ
folded h x = (257 * (h % prime) + x % prime) % prime

-- a hash with bytes more
abbrev pub hash_from : ℕ → List ℕ → ℕ
hash_from h bs = fold folded h bs
