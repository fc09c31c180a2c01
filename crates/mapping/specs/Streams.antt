-- What the program does to its input and its output, where their bytes are known.
use Rattle.std.specs.Prelude.{◌≡◌, List, ℕ, ◌+◌, ◌≤◌, ◌<◌, length, take}
use Rattle.std.specs.declared.option.Option.{Option}
use Rattle.std.specs.Io.KnownBytes.{Appends, Consumes, IsAtEnd}
use Rattle.paper.specs.Sizes.{longest_file}
use Rattle.paper.specs.Programs.{printed}

-- the first n bytes of the buffer are the next n that the reader had, and fewer than it holds are all that there were
pub record Fills (had left : Option (List ℕ)) (buffer : List ℕ) (n : ℕ) : Type 0 where
  pub few : n ≤ length buffer
  pub bytes : Consumes had left (take n buffer)
  pub whole : n < length buffer → IsAtEnd left

-- what is printed of the bytes that were read is written, and n is its length; more than the longest file's, and so many that a
-- number which starts within its length is read whole, are not looked at
pub record Prints (had left held holds : Option (List ℕ)) (n : ℕ) : Type 0 where
  pub read : List ℕ
  pub most : length read ≤ longest_file + 4
  pub taken : Consumes had left read
  pub whole : length read < longest_file + 4 → IsAtEnd left
  pub written : Appends held holds (printed read)
  pub text : n ≡ length (printed read)
