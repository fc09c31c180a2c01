-- `read_full` meets its contract: what a read gives stands behind what was there.
use mathlib.Core.Path.{sym, subst}
use borrow.Author.Rules.{rules}
use Rattle.std.specs.Io.KnownBytes.{Consumes}
use Rattle.std.proofs.KnownBytes.{Consumes-trans}
use Rattle.mapping.proofs.PrintLaws.{read_behind}
use Rattle.mapping.proofs.input.read_full.Goals as goal

pub loop-done-preserved : goal.loop-done-preserved
loop-done-preserved g c =
    record {
      few = search rules;
      bytes =
          subst (Consumes _ _) (sym (read_behind c.loop-done.done c.in_ok-n.n c.loop-done.buf c.read.new.buf c.loop-done.invariant.few c.in_ok-n.ensures.bound.0))
          (Consumes-trans _ _ _ _ _ c.loop-done.invariant.bytes c.in_ok-n.ensures.bytes.0);
    }
