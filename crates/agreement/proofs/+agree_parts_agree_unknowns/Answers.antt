-- The two functions meet their contracts: one law for each way out. They end because pairs not yet met fall: from unknowns to
-- parts a pair is met, and from parts to unknowns none is lost.
use mathlib.Core.Path.{◌≡◌}
use borrow.Author.Rules.{rules}
use borrow.Author.Tests.{eq-eqb, ne_eqb}
use native.Mathlib.Omega.{arith}
use Rattle.std.specs.Prelude.{Err}
use Rattle.agreement.proofs.Ranges.{ended_record, part_unknown, part_few}
use Rattle.agreement.proofs.AgreementLaws.{ends_compared, right_ends_open, heads_apart, same_counted, parts_compared, new_pair_falls, none_compared, settled_compared, part_differs, one_more_compared, all_compared}
use Rattle.agreement.proofs.+agree_parts_agree_unknowns.Goals as goal
use Rattle.agreement.proofs.+agree_parts_agree_unknowns.Goals.{agree_parts-then-not-settled+in_ok-next, agree_parts-else-not-settled}

pub agree_parts-loop-j-init : goal.agree_parts-loop-j-init
agree_parts-loop-j-init t c = search none_compared

pub agree_parts-settled-requires : goal.agree_parts-settled-requires
agree_parts-settled-requires t c = (search part_few, search part_few)

pub agree_parts-agree_unknowns-requires : goal.agree_parts-agree_unknowns-requires
agree_parts-agree_unknowns-requires t c = (omega arith, (search part_unknown, search part_unknown, search rules))

pub agree_parts-returns-in_err-next : goal.agree_parts-returns-in_err-next
agree_parts-returns-in_err-next t c =
    let x : c.from_residual.result ≡ Err c.in_err-next.field-0.0 = search rules in
    rw x (search (part_differs, c.in_err-next.ensures))

pub agree_parts-loop-j-preserved : goal.agree_parts-loop-j-preserved
agree_parts-loop-j-preserved t c =
    elim c.if-not-settled.branch [ agree_parts-then-not-settled+in_ok-next w ↦ rw w.next-is (search (one_more_compared, w.in_ok-next.ensures)) | agree_parts-else-not-settled w ↦ rw w.next-is (search settled_compared) ]

pub agree_parts-returns : goal.agree_parts-returns
agree_parts-returns t c = search all_compared

pub agree_unknowns-returns-then-a-b : goal.agree_unknowns-returns-then-a-b
agree_unknowns-returns-then-a-b t c = search (ends_compared, eq-eqb)

pub agree_unknowns-returns-else-a-b : goal.agree_unknowns-returns-else-a-b
agree_unknowns-returns-else-a-b t c = search (ends_compared, ne_eqb)

pub agree_unknowns-returns-then-b-v : goal.agree_unknowns-returns-then-b-v
agree_unknowns-returns-then-b-v t c = search right_ends_open

pub agree_unknowns-returns-then-not-same_head : goal.agree_unknowns-returns-then-not-same_head
agree_unknowns-returns-then-not-same_head t c = search heads_apart

pub agree_unknowns-agree_parts-requires : goal.agree_unknowns-agree_parts-requires
agree_unknowns-agree_parts-requires t c =
    let g = c.args.ends.now.sound in
    let n = c.part_count-n.ensures in
    let s = same_counted _ _ _ _ _ c.same_head.ensures c.if-not-same_head.false n in (
      search new_pair_falls,
      (
        ended_record _ _ _ _ _ g c.end_of-a.ensures c.if-a-v.false n.same,
        ended_record _ _ _ _ _ g c.end_of-b.ensures c.if-b-v.false s,
      ),
    )

pub agree_unknowns-returns : goal.agree_unknowns-returns
agree_unknowns-returns t c = search parts_compared
