-- The run: marks, memos and pending items, and when it is sound. No bytes: those are the crate `layout`'s.
use Rattle.std.specs.Prelude.{◌≡◌, Bool, true, false, List, map, ℕ, ◌≤◌, ◌<◌, length}
use Rattle.std.proofs.Math.Option.{Option, none, some}
use Rattle.base.specs.Lists.{All}
use Rattle.paper.specs.Sizes.{most_statements, room}
use Rattle.paper.specs.Tables.{Table, TableOk, entries, less}
use Rattle.paper.specs.declared.Item.{Item}
use Rattle.paper.specs.declared.Item.TheVariants.{Statement as statement, Ask as ask, News as news}

-- "A mark is 255 for nothing, 254 for initiated (stores only), else an entry."
pub data Mark : Type 0 where
  nothing initiated : Mark
  entry : ℕ → Mark

-- a statement of the file: "cabinet, left, right"
pub record Statement : Type 0 where
  pub cabinet : ℕ
  pub left : ℕ
  pub right : ℕ

-- what the rules read and change: the clash (its cabinet), the owner marks, each cabinet's store and memo
pub record State : Type 0 where
  pub clash : Option ℕ
  pub owner : ℕ → Option ℕ
  pub store : ℕ → ℕ → Mark
  pub memo : ℕ → ℕ → ℕ → Bool

-- with E, the number of statements, and the pending items
pub record Run : Type 0 where
  pub statements : ℕ
  pub state : State
  pub pending : List Item

-- a statement as a pending item
abbrev pub as_item : Statement → Item
as_item q = statement q.cabinet q.left q.right

-- "Loading decides nothing: it leaves a run that is running, with S, V, R, E and the records as read, every mark 255,
-- every memo byte 0, and as pending items exactly the file's statements, cabinet, left and right as read, in file order."
unfoldable pub initial : List Statement → Run
initial qs =
    record {
      statements = length qs;
      state = record { clash = none; owner = λ x. none; store = λ c x. nothing; memo = λ c x y. false };
      pending = map as_item qs;
    }

-- an unknown, and an entry less than it
pub record Lesser (t : Table) (u x : ℕ) : Type 0 where
  pub is : less t u x ≡ true
  pub entry : u < entries t

-- "asks and news have an unknown at left and a lesser entry at right"
abbrev pub ItemOk : Table → Item → Type 0
ItemOk t (statement c a b) = (c < t.cabinets) × (a < entries t) × (b < entries t)
ItemOk t (ask c x u) = (c < t.cabinets) × Lesser t u x
ItemOk t (news c x u) = (c < t.cabinets) × Lesser t u x

-- "marks (other than 254 and 255) are less than their unknown"; unused ones are nothing
abbrev pub OwnerOk : Table → ℕ → Option ℕ → Type 0
OwnerOk t x none = Unit {0}
OwnerOk t x (some u) = Lesser t u x

-- a mark for x in cabinet c's store
abbrev pub MarkOk : Table → ℕ → ℕ → Mark → Type 0
MarkOk t c x nothing = Unit {0}
MarkOk t c x initiated = (c < t.cabinets) × (x < t.unknowns)
MarkOk t c x (entry u) = (c < t.cabinets) × Lesser t u x

-- memo bytes are "1 only for two unknowns in order at a cabinet below S"
abbrev pub MemoOk : Table → ℕ → ℕ → ℕ → Bool → Type 0
MemoOk t c x y false = Unit {0}
MemoOk t c x y true = (c < t.cabinets) × (x < t.unknowns) × (y < x)

-- "Byte 1 is below S if clashed."
abbrev pub ClashOk : Table → Option ℕ → Type 0
ClashOk t none = Unit {0}
ClashOk t (some c) = c < t.cabinets

-- the clash, the marks and the memos
pub record StateOk (t : Table) (σ : State) : Type 0 where
  pub clash : ClashOk t σ.clash
  pub owner : (x : ℕ) → OwnerOk t x (σ.owner x)
  pub store : (c x : ℕ) → MarkOk t c x (σ.store c x)
  pub memo : (c x y : ℕ) → MemoOk t c x y (σ.memo c x y)

-- "A run is sound when all ranges above hold, .."
pub record Sound (t : Table) (r : Run) : Type 0 where
  pub table : TableOk t
  pub statements : r.statements ≤ most_statements
  pub state : StateOk t r.state
  pub items : All (ItemOk t) r.pending
  pub fits : length r.pending ≤ room
