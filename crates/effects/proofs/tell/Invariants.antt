-- `tell`: after some turns so many cabinets have their news, and there is room for the rest.
use Prim.Native.Nat.{◌+◌, ◌-◌, ◌≤◌}
use mathlib.Core.Path.{◌≡◌}
use Rattle.paper.specs.Rules.{news_to}
use lib.ListN.{length}
use Rattle.paper.specs.Sizes.{room}
use Rattle.layout.specs.Offsets.{run_bytes}
use Rattle.layout.specs.Fields.{count_of}
use Rattle.layout.specs.Changes.{appended_all}
use Rattle.effects.proofs.tell.Given as goal

abbrev pub invariant-loop-cabinet : goal.invariant-loop-cabinet
invariant-loop-cabinet l = record {
  long : length l.run ≡ run_bytes;
  left : count_of l.run + (l.s - l.cabinet) ≤ room;
  onward : appended_all (news_to 0 l.s l.x l.u) l.initial.run ≡ appended_all (news_to l.cabinet (l.s - l.cabinet) l.x l.u) l.run;
}
