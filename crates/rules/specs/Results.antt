-- What the code's calls give, as numbers and bytes: a rule or a refusal, and how many places of a list were done.
use Rattle.std.specs.Prelude.{Result, Ok, Err, List, ℕ}
use Rattle.paper.specs.Refusals.{refusal_number}
use Rattle.paper.specs.declared.refused.Refusal.{Refusal}
use Rattle.rules.specs.declared.numbered.Rule.{Rule}
use Rattle.rules.specs.declared.calls.Stopped.{Stopped}
use Rattle.rules.specs.Numbers.{rule_number}
use Rattle.rules.specs.Bytes.{Out, out}

-- an item taken, and the bytes left
abbrev pub taken : Result Rule Refusal → List ℕ → Out
taken (Ok rule) d = out 0 (rule_number rule) d
taken (Err refusal) d = out (refusal_number refusal) 0 d

-- a list of places, and the bytes left
abbrev pub listed : Result ℕ Stopped → List ℕ → Out
listed (Ok done) d = out 0 done d
listed (Err stopped) d = out (refusal_number stopped.refusal) stopped.done d
