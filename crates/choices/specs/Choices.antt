-- Which rule a statement takes, read off the run's bytes: by its sides, the store's mark, the memo, and the records' heads.
use Rattle.std.specs.Prelude.{Bool, ◌&&◌, ◌||◌, List, ℕ, ◌-◌, ltb, leb, eqb, get_or}
use Rattle.base.specs.Choice.{pick}
use Rattle.layout.specs.Offsets.{memo_from}
use Rattle.layout.specs.Fields.{byte_at, symbol_of, part_count_of}
use Rattle.layout.specs.Changes.{store_of}
use Rattle.choices.specs.declared.Choice.{Choice}
use Rattle.choices.specs.declared.Choice.TheVariants.{Waits, Interchange, Memo, Dereference, Identify, Conflict, Decompose, Initiate}

-- u is less than x, with v unknowns
abbrev pub less_in : ℕ → ℕ → ℕ → Bool
less_in v u x = ltb x v && (leb v u || ltb u x)

-- x = u, u less, by the store's mark m for x. The memo is looked up for two unknowns alone: a record's number would read
-- another pair's byte.
abbrev pub choice_by_mark : ℕ → List ℕ → ℕ → ℕ → ℕ → ℕ → Choice
choice_by_mark v d c x u m =
    pick (eqb m 255) Initiate
    (pick (eqb m 254) Waits (pick (ltb u v && eqb (byte_at d (memo_from c x u)) 1) Memo (Dereference m)))

-- two records, by their numbers among the records
abbrev pub choice_by_records : List ℕ → ℕ → ℕ → Choice
choice_by_records d i k =
    pick (eqb (symbol_of d i) (symbol_of d k) && eqb (part_count_of d i) (part_count_of d k)) Decompose Conflict

-- statement a = b at cabinet c, with v unknowns
unfoldable pub choice_of : ℕ → List ℕ → ℕ → ℕ → ℕ → Choice
choice_of v d c a b =
    pick (less_in v a b) Interchange
    (pick (less_in v b a) (choice_by_mark v d c a b (get_or (store_of c d) a 0))
    (pick (ltb a v) Identify (choice_by_records d (a - v) (b - v))))
