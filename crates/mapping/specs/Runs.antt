-- What the program knows of the run that it has made of a file, and of what it has printed.
use Rattle.std.specs.Prelude.{◌≡◌, true, List, ℕ, ◌+◌, ◌≤◌, length, Result, Ok, Err}
use Rattle.paper.specs.declared.refused.Fault.{Fault}
use Rattle.paper.specs.Sizes.{longest_file}
use Rattle.paper.specs.Refusals.{refusal_number}
use Rattle.paper.specs.Programs.{printed_refusal, printed_run, printed}
use Rattle.layout.specs.Fields.{table_of, run_of, clash_of}
use Rattle.layout.specs.Soundness.{sound_bytes}
use Rattle.promises.specs.FromFiles.{AtEnd}

-- an accepted file's run has come to its end, and the file prints what that run prints
pub record Ends (s d : List ℕ) : Type 0 where
  pub sound : sound_bytes d ≡ true
  pub over : AtEnd d
  pub text : printed s ≡ printed_run (table_of d) (run_of d) (clash_of d)

-- so of an accepted file; a refused file prints its refusal
abbrev pub Ran : List ℕ → Result (Unit {0}) Fault → List ℕ → Type 0
Ran s (Ok u) d = Ends s d
Ran s (Err e) d = printed s ≡ printed_refusal (refusal_number e.refusal) e.at

-- the length of what is printed of the bytes that were read; more than the longest file's, and so many that a number which starts
-- within its length is read whole, are not looked at
pub record TextOfInput (n : ℕ) : Type 0 where
  pub read : List ℕ
  pub most : length read ≤ longest_file + 4
  pub text : n ≡ length (printed read)
