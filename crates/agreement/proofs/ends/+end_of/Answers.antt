-- `end_of` meets its contract: one law for each way out. It ends because the unknown's number falls at each mark.
use borrow.Author.Rules.{rules}
use native.Mathlib.Omega.{arith}
use Prim.Native.Nat.{◌<◌}
use Rattle.agreement.proofs.Chains.{no_mark, record_mark, mark_followed, mark_falls}
use Rattle.agreement.proofs.ends.+end_of.Goals as goal

pub returns-in_default : goal.returns-in_default
returns-in_default t c = search (no_mark, c.in_default.ensures)

pub returns-then-v-m : goal.returns-then-v-m
returns-then-v-m t c = search (record_mark, c.in-Some.ensures)

pub end_of-requires : goal.end_of-requires
end_of-requires t c =
    let l : _ < _ = mark_falls _ _ _ c.requires.0 c.requires.1 _ c.in-Some.ensures c.if-v-m.false in
    (omega arith, search rules)

pub returns : goal.returns
returns t c = search (mark_followed, c.in-Some.ensures)
