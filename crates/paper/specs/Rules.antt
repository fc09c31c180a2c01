-- The ten rules as a relation, as source document 000 has them in section 5.4: an item is replaced by its products, while a
-- state becomes another. Against source document 001, an initiated mark stands in place of pending equations and Resume, and
-- Interchange has no store condition. MEM and ADD are 001's; `less` is that of section 8.1.1.3 of 000. One departure: a
-- binding may arrive at a cabinet at once.
use Rattle.std.specs.Prelude.{◌≡◌, ◌⊎◌, true, false, List, [], ◌∷◌, ◌++◌, ℕ, zero, suc}
use Rattle.std.proofs.Math.Option.{Option, none, some}
use Rattle.std.proofs.Math.ListN.{get_elem?}
use Rattle.base.specs.Choice.{pick, upd}
use Rattle.base.specs.Lists.{without}
use Rattle.paper.specs.Tables.{Table, is_unknown, is_record, record_at, less, same_head}
use Rattle.paper.specs.Runs.{Mark, nothing, initiated, entry, State, Run}
use Rattle.paper.specs.declared.Item.{Item}
use Rattle.paper.specs.declared.Item.TheVariants.{Statement as statement, Ask as ask, News as news}

-- a state with one thing changed
module _ (σ : State) where
  -- clashed at cabinet c
  abbrev pub with_clash : ℕ → State
  with_clash c = record { clash = some c; owner = σ.owner; store = σ.store; memo = σ.memo }

  -- the owner mark of x
  abbrev pub with_owner : ℕ → Option ℕ → State
  with_owner x o = record { clash = σ.clash; owner = upd σ.owner x o; store = σ.store; memo = σ.memo }

  -- the mark of x in cabinet c's store
  abbrev pub with_mark : ℕ → ℕ → Mark → State
  with_mark c x m =
      record { clash = σ.clash; owner = σ.owner; store = upd σ.store c (upd (σ.store c) x m); memo = σ.memo }

  -- the pair x = y in cabinet c's memo
  abbrev pub with_pair : ℕ → ℕ → ℕ → State
  with_pair c x y =
      record {
        clash = σ.clash;
        owner = σ.owner;
        store = σ.store;
        memo = upd σ.memo c (upd (σ.memo c) x (upd (σ.memo c x) y true));
      }

-- MEM of 001: x = u is in the cabinet's memo, or u = x is
abbrev pub Mem : State → ℕ → ℕ → ℕ → Type 0
Mem σ c x u = (σ.memo c x u ≡ true) ⊎ (σ.memo c u x ≡ true)

-- ADD of 001: x = u joins the cabinet's memo if u is an unknown; nothing does if u is a record
abbrev pub add : Table → State → ℕ → ℕ → ℕ → State
add t σ c x u = pick (is_unknown t u) (with_pair σ c x u) σ

-- one statement per part, first to last
abbrev pub part_statements : ℕ → List ℕ → List ℕ → List Item
part_statements c [] qs = []
part_statements c (p ∷ ps) [] = []
part_statements c (p ∷ ps) (q ∷ qs) = statement c p q ∷ part_statements c ps qs

-- news x u to k cabinets from c on
abbrev pub news_to : ℕ → ℕ → ℕ → ℕ → List Item
news_to c zero x u = []
news_to c (suc k) x u = news c x u ∷ news_to (suc c) k x u

-- rule number, item, state, products, state after
pub data Rule (t : Table) : ℕ → Item → State → List Item → State → Type 0 where
  -- "statement u = x, u less than x": "statement x = u"
  interchange : {c u x : ℕ} {σ : State} → less t u x ≡ true → Rule t 1 (statement c u x) σ (statement c x u ∷ []) σ
  -- "x = u, u less, store has an entry v for x, pair in that cabinet's memo": "none"
  memo : {c x u v : ℕ} {σ : State} → less t u x ≡ true → σ.store c x ≡ entry v → Mem σ c x u
      → Rule t 2 (statement c x u) σ [] σ
  -- "same, pair not in memo": "statement v = u; memo gains the pair if u is an unknown"
  dereference : {c x u v : ℕ} {σ : State} → less t u x ≡ true → σ.store c x ≡ entry v → (Mem σ c x u → ⊥)
      → Rule t 3 (statement c x u) σ (statement c v u ∷ []) (add t σ c x u)
  -- "x = x, an unknown": "none"
  identify : {c x : ℕ} {σ : State} → is_unknown t x ≡ true → Rule t 4 (statement c x x) σ [] σ
  -- "two records, other symbol or part count": "clashed; byte 1 set"
  conflict : {c a b : ℕ} {σ : State} → is_record t a ≡ true → is_record t b ≡ true
      → same_head (record_at t a) (record_at t b) ≡ false → Rule t 5 (statement c a b) σ [] (with_clash σ c)
  -- "two records, same symbol and count": "one statement per part, first to last"
  decompose : {c a b : ℕ} {σ : State} → is_record t a ≡ true → is_record t b ≡ true
      → same_head (record_at t a) (record_at t b) ≡ true
      → Rule t 6 (statement c a b) σ (part_statements c (record_at t a).parts (record_at t b).parts) σ
  -- "x = u, u less, store has 255 for x": "store mark 254; ask x u, then x = u again"
  initiate : {c x u : ℕ} {σ : State} → less t u x ≡ true → σ.store c x ≡ nothing
      → Rule t 7 (statement c x u) σ (ask c x u ∷ statement c x u ∷ []) (with_mark σ c x initiated)
  -- "ask, owner mark 255": "owner mark u; news x u to cabinets 0 to S−1"
  win : {c x u : ℕ} {σ : State} → σ.owner x ≡ none
      → Rule t 8 (ask c x u) σ (news_to 0 t.cabinets x u) (with_owner σ x (some u))
  -- "ask, owner mark set": "none"
  lose : {c x u v : ℕ} {σ : State} → σ.owner x ≡ some v → Rule t 9 (ask c x u) σ [] σ
  -- "news": "store mark becomes u"
  arrive : {c x u : ℕ} {σ : State} → Rule t 10 (news c x u) σ [] (with_mark σ c x (entry u))

-- "With mark 254 a statement x = u, u less, waits."
pub data Waits (t : Table) (σ : State) : Item → Type 0 where
  waiting : {c x u : ℕ} → less t u x ≡ true → σ.store c x ≡ initiated → Waits t σ (statement c x u)

-- the run after a step: items left, products, state
abbrev pub after : Run → List Item → List Item → State → Run
after r l ps σ = record { statements = r.statements; state = σ; pending = l ++ ps }

-- Rule k is carried out at place i. "Its item goes, later ones move up, and products are appended in the order given."
pub record Carried (t : Table) (r : Run) (i k : ℕ) (r' : Run) : Type 0 where
  pub item : Item
  pub place : get_elem? r.pending i ≡ some item
  pub products : List Item
  pub state : State
  pub rule : Rule t k item r.state products state
  pub run : r' ≡ after r (without r.pending i) products state
