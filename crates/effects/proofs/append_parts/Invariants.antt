-- `append_parts`: after some turns the statements of so many parts are there, and there is room for the rest.
use Prim.Native.Nat.{◌+◌, ◌-◌, ◌≤◌}
use mathlib.Core.Path.{◌≡◌}
use lib.ListN.{length}
use Rattle.paper.specs.Sizes.{room}
use Rattle.paper.specs.Rules.{part_statements}
use Rattle.layout.specs.Offsets.{run_bytes}
use Rattle.layout.specs.Fields.{count_of}
use Rattle.layout.specs.Changes.{appended_all}
use Rattle.effects.proofs.EffectLaws.{elements_from}
use Rattle.effects.proofs.append_parts.Given as goal

abbrev pub invariant-loop-left : goal.invariant-loop-left
invariant-loop-left l = record {
  long : length l.run ≡ run_bytes;
  left : count_of l.run + (length l.lefts - length l.yielded) ≤ room;
  onward : appended_all (part_statements l.c (elements_from l.lefts (length l.lefts) 0) (elements_from l.rights (length l.lefts) 0)) l.initial.run ≡ appended_all (part_statements l.c (elements_from l.lefts (length l.lefts - length l.yielded) (length l.yielded)) (elements_from l.rights (length l.lefts - length l.yielded) (length l.yielded))) l.run;
}
