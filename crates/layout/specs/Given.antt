-- What the functions of this crate give back, where a contract says two things of one number; and a store's marks, as the code
-- names them.
use Rattle.std.specs.Prelude.{◌≡◌, ℕ, ◌*◌, ◌<◌}
use Rattle.paper.specs.Runs.{Mark as PaperMark, nothing, initiated, entry}
use Rattle.layout.specs.declared.fields.Mark.{Mark}
use Rattle.layout.specs.declared.fields.Mark.TheVariants.{Nothing, Initiated, Entry}

-- more than a byte, and more than two bytes, can hold
abbrev pub byte_limit : ℕ
byte_limit = 256

abbrev pub count_limit : ℕ
count_limit = byte_limit * byte_limit

-- r is the value that stands in the run, and is below the limit of its bytes
pub record Reads (value limit r : ℕ) : Type 0 where
  pub same : r ≡ value
  pub small : r < limit

-- the paper's mark that a mark of the code is, its byte, and that byte as it was read
abbrev pub mark_of_code : Mark → PaperMark
mark_of_code Nothing = nothing
mark_of_code Initiated = initiated
mark_of_code (Entry u) = entry u

abbrev pub byte_of_mark : Mark → ℕ
byte_of_mark Nothing = 255
byte_of_mark Initiated = 254
byte_of_mark (Entry u) = u

abbrev pub MarkIs : ℕ → Mark → Type 0
MarkIs b Nothing = b ≡ 255
MarkIs b Initiated = b ≡ 254
MarkIs b (Entry u) = Reads b 254 u
