-- What the writer's own methods ask and leave.
use Rattle.std.specs.Prelude.{◌≡◌, List, ℕ, ◌+◌, ◌≤◌, length}
use Rattle.base.specs.Puts.{PutFrom}
use Rattle.statements.specs.declared.writing.Writer.{Writer}

-- room for the bytes bs where the writer stands
pub record HasRoom (w : Writer) (bs : List ℕ) : Type 0 where
  pub fits : w.at + length bs ≤ length w.file.now

-- the bytes bs put where the writer stood, which now stands after them, in the same file
pub record Adds (before : Writer) (bs : List ℕ) (after : Writer) : Type 0 where
  pub same_reference : after.file.ghost_name ≡ before.file.ghost_name
  pub put : PutFrom before.at bs before.file.now after.file.now after.at
