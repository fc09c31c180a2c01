-- The numbers of the ten rules, document 01, "The ten rules".
use Rattle.std.specs.Prelude.{ℕ}
use Rattle.rules.specs.declared.numbered.Rule.{Rule}
use Rattle.rules.specs.declared.numbered.Rule.TheVariants.{Interchange, Memo, Dereference, Identify, Conflict, Decompose, Initiate, Win, Lose, Arrive}

abbrev pub rule_number : Rule → ℕ
rule_number Interchange = 1
rule_number Memo = 2
rule_number Dereference = 3
rule_number Identify = 4
rule_number Conflict = 5
rule_number Decompose = 6
rule_number Initiate = 7
rule_number Win = 8
rule_number Lose = 9
rule_number Arrive = 10
