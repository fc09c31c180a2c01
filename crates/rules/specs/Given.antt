-- What the functions of this crate give back on the way to a step: how many products there are, what carrying out leaves,
-- whether an item waits.
use Rattle.std.specs.Prelude.{Result, Ok, Err, Bool, true, false, List, ℕ, ◌+◌, ◌-◌, ltb}
use Rattle.paper.specs.Sizes.{room}
use Rattle.paper.specs.Refusals.{refusal_number, still_waits}
use Rattle.paper.specs.declared.refused.Refusal.{Refusal}
use Rattle.layout.specs.Offsets.{unknowns_at}
use Rattle.layout.specs.Fields.{byte_at, count_of, part_count_of, item_at}
use Rattle.layout.specs.Changes.{removed_at, appended_all}
use Rattle.choices.specs.declared.Choice.{Choice}
use Rattle.choices.specs.declared.Choice.TheVariants.{Waits, Interchange, Memo, Dereference, Identify, Conflict, Decompose, Initiate}
use Rattle.effects.specs.Changes.{of_store, of_run}
use Rattle.rules.specs.Plans.{Plan, wait, plan, plan_of}
use Rattle.rules.specs.Numbers.{rule_number}
use Rattle.rules.specs.declared.taking.Carried.{Carried}

-- how many products a choice has, for a statement with the left side a
abbrev pub product_count : List ℕ → ℕ → Choice → ℕ
product_count d a Waits = 0
product_count d a Interchange = 1
product_count d a Memo = 0
product_count d a (Dereference v) = 1
product_count d a Identify = 0
product_count d a Conflict = 0
product_count d a Decompose = part_count_of d (a - byte_at d unknowns_at)
product_count d a Initiate = 2

-- there is no room for n products once an item goes
unfoldable pub full_for : ℕ → List ℕ → Bool
full_for n d = ltb room (count_of d - 1 + n)

-- a local rule's number, the store that it gives back, and the bytes that it leaves, where there is room; what waits, 14, leaves
-- all as it is
pub data Done : Type 0 where
  done : ℕ → List ℕ → List ℕ → Done
  refused : ℕ → List ℕ → Done

abbrev pub done_bytes : List ℕ → List ℕ → ℕ → Plan → Done
done_bytes marks d i wait = refused still_waits d
done_bytes marks d i (plan k ps ch) = done k (of_store ch marks) (appended_all ps (removed_at i (of_run ch d)))

-- the same of what the code gives
abbrev pub as_done : Result Carried Refusal → List ℕ → Done
as_done (Ok carried) d = done (rule_number carried.rule) carried.store.marks d
as_done (Err refusal) d = refused (refusal_number refusal) d

-- the item at a place waits
abbrev pub waits_in : Plan → Bool
waits_in wait = true
waits_in (plan k ps ch) = false

unfoldable pub waits_bytes : List ℕ → ℕ → Bool
unfolding plan_of
waits_bytes d i = waits_in (plan_of d (item_at d i))
