-- What an item does, read off the run's bytes: a rule's number, its products, and one change of marks, memo or clash.
use Rattle.std.specs.Prelude.{List, [], ◌∷◌, ℕ, ◌+◌, ◌-◌, ltb, eqb}
use Rattle.base.specs.Choice.{pick}
use Rattle.paper.specs.Rules.{part_statements, news_to}
use Rattle.paper.specs.declared.Item.{Item}
use Rattle.paper.specs.declared.Item.TheVariants.{Statement as statement, Ask as ask, News as news}
use Rattle.layout.specs.Offsets.{cabinets_at, unknowns_at, owners_at}
use Rattle.layout.specs.Fields.{byte_at, part_count_of, parts_from}
use Rattle.choices.specs.declared.Choice.{Choice}
use Rattle.choices.specs.declared.Choice.TheVariants.{Waits, Interchange, Memo, Dereference, Identify, Conflict, Decompose, Initiate}
use Rattle.choices.specs.Choices.{choice_of}
use Rattle.effects.specs.Changes.{Change, nothing, mark, owner, pair, clash}

-- the rule's number, its products and its change; or it waits
pub data Plan : Type 0 where
  wait : Plan
  plan : ℕ → List Item → Change → Plan

-- the parts of entry a, a record
abbrev pub parts_of : List ℕ → ℕ → List ℕ
parts_of d a = parts_from d (a - byte_at d unknowns_at) (part_count_of d (a - byte_at d unknowns_at)) 0

abbrev pub plan_of_choice : List ℕ → ℕ → ℕ → ℕ → Choice → Plan
plan_of_choice d c a b Waits = wait
plan_of_choice d c a b Interchange = plan 1 (statement c b a ∷ []) nothing
plan_of_choice d c a b Memo = plan 2 [] nothing
plan_of_choice d c a b (Dereference v) = plan 3 (statement c v b ∷ []) (pick (ltb b (byte_at d unknowns_at)) (pair c a b) nothing)
plan_of_choice d c a b Identify = plan 4 [] nothing
plan_of_choice d c a b Conflict = plan 5 [] (clash c)
plan_of_choice d c a b Decompose = plan 6 (part_statements c (parts_of d a) (parts_of d b)) nothing
plan_of_choice d c a b Initiate = plan 7 (ask c a b ∷ statement c a b ∷ []) (mark c a 254)

-- ask x u, by the owner mark of x
abbrev pub plan_of_ask : List ℕ → ℕ → ℕ → ℕ → Plan
plan_of_ask d x u o = pick (eqb o 255) (plan 8 (news_to 0 (byte_at d cabinets_at) x u) (owner x u)) (plan 9 [] nothing)

unfoldable pub plan_of : List ℕ → Item → Plan
unfolding choice_of
plan_of d (statement c a b) = plan_of_choice d c a b (choice_of (byte_at d unknowns_at) d c a b)
plan_of d (ask c x u) = plan_of_ask d x u (byte_at d (owners_at + x))
plan_of d (news c x u) = plan 10 [] (mark c x u)
