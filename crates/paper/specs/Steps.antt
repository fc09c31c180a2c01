-- A step as a function that computes. A statement's step is local by its type: the table, one cabinet's store and memo,
-- and two entries go in. An ask's is one record: owner mark, the asker's store mark, products.
use Rattle.std.specs.Prelude.{Bool, true, false, ◌&&◌, List, [], ◌∷◌, ◌++◌, ℕ, suc, leb, length}
use Rattle.std.proofs.Math.Option.{Option, none, some}
use Rattle.std.proofs.Math.ListN.{get_elem?}
use Rattle.base.specs.Choice.{pick, upd}
use Rattle.base.specs.Lists.{without}
use Rattle.paper.specs.Sizes.{room}
use Rattle.paper.specs.Refusals.{no_such_place, still_waits, has_clashed, no_room}
use Rattle.paper.specs.Tables.{Table, Record, is_unknown, record_at, less, same_head}
use Rattle.paper.specs.Runs.{Mark, nothing, initiated, entry, State, Run}
use Rattle.paper.specs.Rules.{part_statements, news_to, with_owner, with_mark, after}
use Rattle.paper.specs.declared.Item.{Item}
use Rattle.paper.specs.declared.Item.TheVariants.{Statement as statement, Ask as ask, News as news}

-- what a statement's rule does at its cabinet
pub record Local : Type 0 where
  pub rule : ℕ
  pub products : List Item
  pub marks : ℕ → Mark
  pub pairs : ℕ → ℕ → Bool
  pub clashes : Bool

-- a statement waits, or acts
pub data Act : Type 0 where
  waits : Act
  acts : Local → Act

module _ (t : Table) (marks : ℕ → Mark) (pairs : ℕ → ℕ → Bool) (c : ℕ) where
  -- a rule that leaves the store and the memo
  abbrev pub plain : ℕ → List Item → Act
  plain k ps = acts (record { rule = k; products = ps; marks = marks; pairs = pairs; clashes = false })

  -- x = u, u less, by the store's mark for x. "With mark 254 a statement x = u, u less, waits."
  abbrev pub by_mark : ℕ → ℕ → Mark → Act
  by_mark x u nothing =
      acts
      (record {
        rule = 7;
        products = ask c x u ∷ statement c x u ∷ [];
        marks = upd marks x initiated;
        pairs = pairs;
        clashes = false;
      })
  by_mark x u initiated = waits
  by_mark x u (entry v) =
      pick (is_unknown t u && pairs x u) (plain 2 [])
      (acts
      (record {
        rule = 3;
        products = statement c v u ∷ [];
        marks = marks;
        pairs = pick (is_unknown t u) (upd pairs x (upd (pairs x) u true)) pairs;
        clashes = false;
      }))

  -- two records: same symbol and count, or not
  abbrev pub by_records : Record → Record → Act
  by_records p q =
      pick (same_head p q) (plain 6 (part_statements c p.parts q.parts))
      (acts (record { rule = 5; products = []; marks = marks; pairs = pairs; clashes = true }))

  -- statement a = b
  unfoldable pub act : ℕ → ℕ → Act
  act a b =
      pick (less t a b) (plain 1 (statement c b a ∷ []))
      (pick (less t b a) (by_mark a b (marks a))
      (pick (is_unknown t a) (plain 4 []) (by_records (record_at t a) (record_at t b))))

-- what an ask's rule does
pub record Answer : Type 0 where
  pub rule : ℕ
  pub owner : Option ℕ
  -- as it was: neither rule changes it
  pub mark : Mark
  pub products : List Item

-- ask x u, by the owner mark of x and the asker's store mark for it
unfoldable pub answer : Table → ℕ → ℕ → Option ℕ → Mark → Answer
answer t x u none m = record { rule = 8; owner = some u; mark = m; products = news_to 0 t.cabinets x u }
answer t x u (some v) m = record { rule = 9; owner = some v; mark = m; products = [] }

-- a rule's number, the products and the state after; or none, where the item waits
pub data Effect : Type 0 where
  it_waits : Effect
  takes : ℕ → List Item → State → Effect

-- a statement's effect on the state: at its cabinet c alone
abbrev pub local : State → ℕ → Act → Effect
local σ c waits = it_waits
local σ c (acts l) =
    takes l.rule l.products
    (record {
      clash = pick l.clashes (some c) σ.clash;
      owner = σ.owner;
      store = upd σ.store c l.marks;
      memo = upd σ.memo c l.pairs;
    })

-- an ask's effect on the state: on the owner mark of x
abbrev pub answered : State → ℕ → ℕ → Answer → Effect
answered σ c x w = takes w.rule w.products (with_mark (with_owner σ x w.owner) c x w.mark)

-- an item's effect on the state
unfoldable pub effect : Table → State → Item → Effect
unfolding act answer
effect t σ (statement c a b) = local σ c (act t (σ.store c) (σ.memo c) c a b)
effect t σ (ask c x u) = answered σ c x (answer t x u (σ.owner x) (σ.store c x))
effect t σ (news c x u) = takes 10 [] (with_mark σ c x (entry u))

-- a refusal's number; or the rule, "The answer names the rule", and the run after
pub data Outcome : Type 0 where
  refused : ℕ → Outcome
  done : ℕ → Run → Outcome

-- 14, 18
abbrev pub performed : Run → List Item → Effect → Outcome
performed r l it_waits = refused still_waits
performed r l (takes k ps σ) = pick (leb (length (l ++ ps)) room) (done k (after r l ps σ)) (refused no_room)

-- 13
abbrev pub taken : Table → Run → ℕ → Option Item → Outcome
taken t r i none = refused no_such_place
taken t r i (some j) = performed r (without r.pending i) (effect t r.state j)

-- 15
abbrev pub running : Table → Run → ℕ → Option ℕ → Outcome
running t r i (some c) = refused has_clashed
running t r i none = taken t r i (get_elem? r.pending i)

-- "A step names a place in the pending list." Refusals, after 12 and 17: "15, 13, 14, 18".
unfoldable pub step : Table → Run → ℕ → Outcome
unfolding effect
step t r i = running t r i r.state.clash

-- whether it waits
abbrev pub is_waiting : Effect → Bool
is_waiting it_waits = true
is_waiting (takes k ps σ) = false

-- whether an item, if there is one, waits
abbrev pub item_waits : Table → State → Option Item → Bool
item_waits t σ none = false
item_waits t σ (some j) = is_waiting (effect t σ j)

-- whether the item at place i waits
unfoldable pub waits_at : Table → Run → ℕ → Bool
unfolding effect
waits_at t r i = item_waits t r.state (get_elem? r.pending i)

-- "it stops at the first refused place and gives that number and how many were done. Those done stay done."
pub data Listed : Type 0 where
  listed : ℕ → ℕ → Run → Listed

-- "A list of places is carried out": n were done before; the call starts at 0. "An empty list gives 0."
unfoldable pub steps : Table → Run → ℕ → List ℕ → Listed
unfolding step
steps t r n [] = listed 0 n r
steps t r n (i ∷ is) = onward (step t r i) (λ r'. steps t r' (suc n) is)
  where
    onward : Outcome → (Run → Listed) → Listed
    onward (refused k) f = listed k n r
    onward (done k r') f = f r'
