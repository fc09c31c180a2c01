-- `by_choice` meets its contract: what a rule asks of its sides follows from how it was chosen, and what it gives back and leaves
-- is what its choice's plan says.
use mathlib.Core.Path.{ap}
use Rattle.rules.proofs.CarryLaws.{dereference_unknown, initiate_unknown, initiate_fits, left_record, right_record, few_parts, decompose_fits, numbered, did_dereference, did_decompose}
use Prim.Native.Nat.{◌≤◌}
use native.Mathlib.Omega.{arith}
use borrow.Author.Rules.{rules}
use Rattle.rules.proofs.taking.by_choice.Goals.{in-Interchange, in-Memo, in-Dereference, in-Identify, in-Conflict, in-Decompose, in-Initiate}
use Rattle.rules.proofs.taking.by_choice.Goals as goal

pub dereference-requires : goal.dereference-requires
dereference-requires c = (search rules, search rules, search rules, search dereference_unknown)

pub overflow_sub-i : goal.overflow_sub-i
overflow_sub-i c = let h : c.unknowns-v.result ≤ c.args.s.left = search left_record in omega arith

pub overflow_sub-k : goal.overflow_sub-k
overflow_sub-k c = let h : c.unknowns-v.result ≤ c.args.s.right = search right_record in omega arith

pub decompose-store-requires : goal.decompose-store-requires
decompose-store-requires c =
    let s = c.requires in
    let n = rw c.from.ensures at c.part_count-n.ensures in
    (decompose_fits _ _ _ _ _ c.unknowns-v.ensures _ c.in-Decompose.is n s.1, search rules, search rules, few_parts _ _ _ _ _ _ n s.0 (search rules))

pub initiate-requires : goal.initiate-requires
initiate-requires c = (search initiate_fits, search initiate_unknown)

pub returns : goal.returns
returns c = elim c.match-choice.branch [
  | in-Interchange w ↦ rw (w.rule-is, w.run-is, w.in-Interchange.is) (ap (numbered 1) w.interchange.ensures)
  | in-Memo w ↦ rw (w.rule-is, w.run-is, w.in-Memo.is) (ap (numbered 2) w.memo.ensures)
  | in-Dereference w ↦ rw (w.rule-is, w.run-is) (search did_dereference)
  | in-Identify w ↦ rw (w.rule-is, w.run-is, w.in-Identify.is) (ap (numbered 4) w.identify.ensures)
  | in-Conflict w ↦ rw (w.rule-is, w.run-is, w.in-Conflict.is) (ap (numbered 5) w.conflict.ensures)
  | in-Decompose w ↦
      let n = rw w.from.ensures at w.part_count-n.ensures in
      let e = rw (w.from.ensures, w.from-in-Decompose.ensures) at w.decompose-store.ensures in
      rw (w.rule-is, w.run-is) (search did_decompose)
  | in-Initiate w ↦ rw (w.rule-is, w.run-is, w.in-Initiate.is) (ap (numbered 7) w.initiate.ensures)
]
