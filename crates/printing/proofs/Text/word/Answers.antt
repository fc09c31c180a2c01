-- `word` copies the word behind the text.
use mathlib.Core.Path.{refl}
use native.Mathlib.Omega.{arith}
use Rattle.printing.proofs.Texts.{copied}
use Rattle.printing.proofs.Text.word.Goals as goal

pub returns : goal.returns
returns c =
    record {
      same_reference = refl;
      put = record { past = refl; bytes = copied _ _ _ _ _ (omega arith) c.copy_from_slice.ensures.after };
    }
