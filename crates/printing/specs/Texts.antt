-- What a text that is written into a buffer gains.
use Rattle.std.specs.Prelude.{List, ◌≡◌, ℕ, ◌+◌, ◌≤◌, length}
use Rattle.base.specs.Puts.{PutFrom}
use Rattle.printing.specs.declared.Text.{Text}

-- the bytes bs fit into the buffer, after the text
pub record HasRoom (t : Text) (bs : List ℕ) : Type 0 where
  pub fits : t.end + length bs ≤ length t.buffer.now

-- u is the text t with the bytes bs after it, in the same buffer
pub record Adds (t : Text) (bs : List ℕ) (u : Text) : Type 0 where
  pub same_reference : u.buffer.ghost_name ≡ t.buffer.ghost_name
  pub put : PutFrom t.end bs t.buffer.now u.buffer.now u.end
