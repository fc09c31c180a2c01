-- How many steps a run takes, how many items it holds, and where the news of a binding are, as document 01 counts them.
use Rattle.std.proofs.Math.Option.{Option, none, some}
use Rattle.std.specs.Prelude.{ℕ, ◌+◌, ◌-◌, ◌*◌, ◌/◌, eqb}
use Rattle.base.specs.Choice.{pick}
use Rattle.paper.specs.Runs.{Mark, nothing, initiated, entry}
use Rattle.paper.specs.declared.Item.{Item}
use Rattle.paper.specs.declared.Item.TheVariants.{Statement as statement, Ask as ask, News as news}

-- "P = V(V−1)/2"
abbrev pub pairs_of : ℕ → ℕ
pairs_of v = v * (v - 1) / 2

-- "no run from an accepted file takes more than (5E + 4SP)(4V + 2) + 3VS steps"
abbrev pub most_steps : ℕ → ℕ → ℕ → ℕ
most_steps s v e = (5 * e + 4 * s * pairs_of v) * (4 * v + 2) + 3 * v * s

-- "nor holds more than 4E + 3SP statements"
abbrev pub most_held : ℕ → ℕ → ℕ → ℕ
most_held s v e = 4 * e + 3 * s * pairs_of v

-- 1 for a statement, 0 for another item
abbrev pub is_statement : Item → ℕ
is_statement (statement c a b) = 1
is_statement (ask c x u) = 0
is_statement (news c x u) = 0

-- "for each unknown with an owner mark, pending news plus cabinets holding that entry come to S": 1 for a news of x
abbrev pub news_of : ℕ → Item → ℕ
news_of x (statement d a b) = 0
news_of x (ask d y u) = 0
news_of x (news d y u) = pick (eqb y x) 1 0

-- 1 for a mark that is an entry
abbrev pub holds : Mark → ℕ
holds nothing = 0
holds initiated = 0
holds (entry v) = 1

-- 1 for an owner mark that is set
abbrev pub told : Option ℕ → ℕ
told none = 0
told (some v) = 1
