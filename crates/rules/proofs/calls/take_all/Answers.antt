-- `take_all`: after some turns so many places are done, and what the list does from there on the bytes as they are is what it does in
-- all. The bytes stay ready for a step.
use mathlib.Core.Path.{refl}
use borrow.Author.Rules.{rules}
use native.Mathlib.Omega.{arith}
use Rattle.rules.proofs.Bridge.{ready_sound}
use Rattle.rules.proofs.CallLaws.{sound_ready, ready_after, list_over, list_more, list_ends}
use Rattle.rules.proofs.calls.take_all.Goals as goal

pub loop-done-init : goal.loop-done-init
loop-done-init c = record { ready = sound_ready _ (search rules) c.requires c.fits-run; onward = refl }

pub take-requires : goal.take-requires
take-requires c = ready_sound _ c.loop-done.invariant.ready

pub returns : goal.returns
returns c = search (list_over, c.loop-done.invariant.onward, c.loop-done.auto.done-end)

pub returns-in-Err : goal.returns-in-Err
returns-in-Err c = list_ends _ _ _ _ c.loop-done.invariant.onward _ (omega arith) _ c.in-Err.ensures

pub loop-done-preserved : goal.loop-done-preserved
loop-done-preserved c = record {
  ready = ready_after _ _ _ _ c.take.ensures c.loop-done.invariant.ready;
  onward = list_more _ _ _ _ c.loop-done.invariant.onward _ (omega arith) _ c.in_default.not-Err c.take.ensures;
}
