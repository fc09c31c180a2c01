-- `write_text` meets its contract: the text ends within its buffer, so that all of it is written.
use mathlib.Core.Path.{subst}
use Rattle.std.specs.Io.KnownBytes.{Appends}
use Rattle.mapping.proofs.PrintLaws.{text_within, text_taken}
use borrow.Author.Rules.{rules}
use Rattle.mapping.proofs.write_text.Goals as goal

pub slice_bounds-text-end : goal.slice_bounds-text-end
slice_bounds-text-end g c = search (text_within, rules)

pub slice_bounds-write_all-end : goal.slice_bounds-write_all-end
slice_bounds-write_all-end g c = search (text_within, rules)

pub returns-clause-bytes : goal.returns-clause-bytes
returns-clause-bytes g c = subst (Appends _ _) (text_taken _ _ _ _ c.print-end.ensures) c.in_ok-write_all.ensures.bytes
