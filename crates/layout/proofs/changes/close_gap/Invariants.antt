-- `close_gap`: i bytes have moved.
use Prim.Native.Nat.{◌+◌}
use lib.ListN.{length}
use mathlib.Core.Path.{◌≡◌}
use Rattle.base.specs.Regions.{shifted}
use Rattle.layout.specs.Offsets.{item_bytes}
use Rattle.layout.proofs.changes.close_gap.Given as goal

abbrev pub invariant-loop-i : goal.invariant-loop-i
invariant-loop-i l = (l.run ≡ shifted item_bytes l.at (l.at + l.i) l.initial.run) × (length l.run ≡ length l.initial.run)
