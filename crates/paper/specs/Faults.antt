-- A file's first fault as a relation: "the first fault in reading order, with the position where the faulty number starts
-- (11: the first byte left over; otherwise 0)".
use Rattle.std.specs.Prelude.{◌≡◌, ◌⊎◌, List, ℕ, ◌≤◌, ◌<◌, length}
use Rattle.paper.specs.Refusals.{bytes_left}
use Rattle.paper.specs.Numbers.{got, fault, number_at}
use Rattle.paper.specs.Files.{Form, next, File, reading, file_form}

-- a form read from a position: the refusal and the position of its first fault
pub data FirstFault {A : Type 0} (s : List ℕ) : Form A → ℕ → ℕ → ℕ → Type 0 where
  -- 1, 2: the file ends in or before the number, or it is "not shortest or too large"
  malformed : {low below k : ℕ} {g : ℕ → Form A} {at j : ℕ} → number_at s at ≡ fault j at
      → FirstFault s (next low below k g) at j at
  -- 3 to 10: the number is "outside its range", which "is tested as soon as it is read"
  outside : {low below k : ℕ} {g : ℕ → Form A} {at n to : ℕ} → number_at s at ≡ got n to → (n < low) ⊎ (below ≤ n)
      → FirstFault s (next low below k g) at k at
  -- the number is in its range, and the fault is in what follows
  later : {low below k : ℕ} {g : ℕ → Form A} {at n to j p : ℕ} → number_at s at ≡ got n to → low ≤ n → n < below
      → FirstFault s (g n) to j p → FirstFault s (next low below k g) at j p

-- the first fault of a file
pub data FileFault (s : List ℕ) : ℕ → ℕ → Type 0 where
  inside : {k p : ℕ} → FirstFault s file_form 0 k p → FileFault s k p
  -- 11: "bytes left after the last statement"
  left_over : {f : File} {p : ℕ} → reading file_form s 0 ≡ got f p → p < length s → FileFault s bytes_left p
