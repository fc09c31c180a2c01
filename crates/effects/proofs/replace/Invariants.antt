-- `replace`: after some turns so many products are there, and there is room for the rest.
use Prim.Native.Nat.{◌+◌, ◌-◌, ◌≤◌}
use mathlib.Core.Path.{◌≡◌}
use lib.ListN.{length, drop}
use Rattle.paper.specs.Sizes.{room}
use Rattle.layout.specs.Offsets.{run_bytes}
use Rattle.layout.specs.Fields.{count_of}
use Rattle.layout.specs.Changes.{appended_all}
use Rattle.effects.proofs.replace.Given as goal

abbrev pub invariant-loop-product : goal.invariant-loop-product
invariant-loop-product l = record {
  long : length l.run ≡ run_bytes;
  left : count_of l.run + (length l.products - l.product-index) ≤ room;
  onward : appended_all l.products l.initial.run ≡ appended_all (drop l.product-index l.products) l.run;
}
