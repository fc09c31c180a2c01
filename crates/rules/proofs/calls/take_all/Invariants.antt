-- `take_all`: after some turns so many places are done, and what the list does from there on the bytes as they are is what it does in
-- all. The bytes stay ready for a step.
use mathlib.Core.Path.{◌≡◌}
use lib.ListN.{drop}
use Rattle.rules.specs.Bytes.{all_taken}
use Rattle.rules.proofs.Bridge.{Ready}
use Rattle.rules.proofs.calls.take_all.Given as goal

abbrev pub invariant-loop-done : goal.invariant-loop-done
invariant-loop-done l = record {
  ready : Ready l.run;
  onward : all_taken l.places 0 l.initial.run ≡ all_taken (drop l.done l.places) l.done l.run;
}
