-- What a function that puts bytes into a buffer leaves.
use Rattle.std.specs.Prelude.{List, ◌≡◌, ℕ, ◌+◌, length}
use Rattle.base.specs.Regions.{put}

-- the bytes bs from `at` on, all else as it was, and the position after them
pub record PutFrom (at : ℕ) (bs before after : List ℕ) (next : ℕ) : Type 0 where
  pub past : next ≡ at + length bs
  pub bytes : after ≡ put at bs before
