-- An accepted step of bytes leaves bytes; and what is written of a file has only bytes.
use mathlib.Core.Path.{◌≡◌, refl, subst}
use mathlib.Core.Bool.{Bool, true, false, ◌&&◌}
use mathlib.Core.List.{List, [], ◌∷◌, ◌++◌}
use Prim.Native.Nat.{ℕ, zero, suc, ◌+◌, ◌-◌, ◌*◌, ◌/◌, ◌%◌, ◌≤◌, ◌<◌}
use native.Mathlib.Omega.{arith}
use borrow.Author.Tests.{ltb-true}
use lib.Dec.{ltb, leb, eqb}
use lib.ListN.{length, set, get_or}
use Rattle.base.specs.Choice.{pick}
use Rattle.base.specs.Lists.{All, list_from, Bytes}
use Rattle.base.specs.Regions.{get}
use Rattle.base.proofs.Elements.{all_append}
use Rattle.base.proofs.Froms.{from_all}
use Rattle.base.proofs.Bytes.{Byte, byte_each, put_bytes, get_bytes, set_bytes}
use Rattle.paper.specs.Sizes.{number_limit, most_unknowns, room}
use Rattle.paper.specs.Tables.{Table, Record, RecordOk, TableOk}
use Rattle.paper.specs.Runs.{Statement}
use Rattle.paper.specs.Reached.{FileOk, StatementOk}
use Rattle.paper.specs.Numbers.{groups_of, number_bytes}
use Rattle.paper.specs.Files.{File, each, record_bytes, statement_bytes, table_bytes, file_bytes}
use Rattle.paper.specs.Rules.{part_statements, news_to}
use Rattle.paper.specs.declared.Item.{Item}
use Rattle.paper.specs.declared.Item.TheVariants.{Statement as statement, Ask as ask, News as news}
use Rattle.layout.specs.Offsets.{clash_at, clash_cabinet_at, cabinets_at, unknowns_at, owners_at, store_from, memo_from, item_from}
use Rattle.layout.specs.Fields.{byte_at, count_of, symbol_of, part_count_of, part_of, item_at}
use Rattle.layout.specs.Changes.{removed_at, appended_all, store_of, with_store, with_owner, with_pair, with_clash}
use Rattle.layout.proofs.ByteLaws.{four_bytes, ItemBytes, removed_bytes, appended_bytes}
use Rattle.choices.specs.declared.Choice.TheVariants.{Waits, Interchange, Memo, Dereference, Identify, Conflict, Decompose, Initiate}
use Rattle.choices.specs.Choices.{less_in, choice_by_mark, choice_by_records, choice_of}
use Rattle.effects.specs.Changes.{Change, nothing, mark, owner, pair, clash, applied}
use Rattle.rules.specs.Plans.{Plan, wait, plan, parts_of, plan_of_choice, plan_of}
use Rattle.rules.specs.Bytes.{out, performed_bytes, taken_bytes}

-- what a change writes
abbrev SmallChange : Change → Type 0
SmallChange nothing = Unit {0}
SmallChange (mark c x m) = m < 256
SmallChange (owner x u) = u < 256
SmallChange (pair c x y) = Unit {0}
SmallChange (clash c) = c < 256

applied_kept : (ch : Change) (d : List ℕ) → SmallChange ch → Bytes d → Bytes (applied ch d)
unfolding with_store store_of with_owner with_pair with_clash
applied_kept nothing d s a = a
applied_kept (mark c x m) d s a =
    put_bytes (store_from c) (set (get (store_from c) most_unknowns d) x m) d
    (set_bytes (get (store_from c) most_unknowns d) x m s (get_bytes (store_from c) most_unknowns d a)) a
applied_kept (owner x u) d s a = set_bytes d (owners_at + x) u s a
applied_kept (pair c x y) d s a = set_bytes d (memo_from c x y) 1 (omega arith) a
applied_kept (clash c) d s a = set_bytes (set d clash_at 1) clash_cabinet_at c s (set_bytes d clash_at 1 (omega arith) a)

abbrev SmallPlan : Plan → Type 0
SmallPlan wait = Unit {0}
SmallPlan (plan k ps ch) = All ItemBytes ps × SmallChange ch

-- an item read off bytes
item_small : (d : List ℕ) → Bytes d → (p : ℕ) → ItemBytes (item_at d p)
unfolding item_at
item_small d a p =
    go (eqb (byte_at d (item_from p)) 1) (eqb (byte_at d (item_from p)) 2) (a (item_from p + 1)) (a (item_from p + 2)) (a (item_from p + 3))
  where
    go : (x y : Bool) {c l r : ℕ} → c < 256 → l < 256 → r < 256 → ItemBytes (pick x (statement c l r) (pick y (ask c l r) (news c l r)))
    go true y h i j = four_bytes (omega arith) h i j
    go false true h i j = four_bytes (omega arith) h i j
    go false false h i j = four_bytes (omega arith) h i j

parts_small : (d : List ℕ) → Bytes d → (i n k : ℕ) → Bytes (list_from (part_of d i) n k)
parts_small d b i n k = byte_each (list_from (part_of d i) n k) (from_all Byte (part_of d i) n k (λ j l m. b _))

part_statements_small : (c : ℕ) (ps qs : List ℕ) → c < 256 → Bytes ps → Bytes qs → All ItemBytes (part_statements c ps qs)
part_statements_small c [] qs h a b = tt
part_statements_small c (p ∷ ps) [] h a b = tt
part_statements_small c (p ∷ ps) (q ∷ qs) h a b = (four_bytes (omega arith) h (a 0) (b 0), part_statements_small c ps qs h (λ i. a (suc i)) (λ i. b (suc i)))

news_small : (c k x u : ℕ) → c + k ≤ 256 → x < 256 → u < 256 → All ItemBytes (news_to c k x u)
news_small c zero x u h a b = tt
news_small c (suc k) x u h a b = (four_bytes (omega arith) (omega arith) a b, news_small (suc c) k x u (omega arith) a b)

-- what an item does
module _ (d : List ℕ) (s : Bytes d) where
  choice_small : (c a b : ℕ) → c < 256 → a < 256 → b < 256 → (v : ℕ) → SmallPlan (plan_of_choice d c a b (choice_of v d c a b))
  unfolding choice_of store_of
  choice_small c a b hc ha hb v = go (less_in v a b) (less_in v b a) (ltb a v)
    where
      by_mark : (x y z : Bool) {m : ℕ} → m < 256 → SmallPlan (plan_of_choice d c a b (pick x Initiate (pick y Waits (pick z Memo (Dereference m)))))
      by_mark true y z h = ((four_bytes (omega arith) hc ha hb, (four_bytes (omega arith) hc ha hb, tt)), omega arith)
      by_mark false true z h = tt
      by_mark false false true h = (tt, tt)
      by_mark false false false h = ((four_bytes (omega arith) hc h hb, tt), pairs (ltb b (byte_at d unknowns_at)))
        where
          pairs : (x : Bool) → SmallChange (pick x (pair c a b) nothing)
          pairs true = tt
          pairs false = tt

      parts_of_lem : (x : ℕ) → Bytes (parts_of d x)
      parts_of_lem x = parts_small d s (x - byte_at d unknowns_at) (part_count_of d (x - byte_at d unknowns_at)) 0

      by_records : (x : Bool) → SmallPlan (plan_of_choice d c a b (pick x Decompose Conflict))
      by_records true = (part_statements_small c (parts_of d a) (parts_of d b) hc (parts_of_lem a) (parts_of_lem b), tt)
      by_records false = (tt, hc)

      go : (x y z : Bool)
          → SmallPlan (plan_of_choice d c a b (pick x Interchange (pick y (choice_by_mark v d c a b (get_or (get (store_from c) most_unknowns d) a 0)) (pick z Identify (choice_by_records d (a - v) (b - v))))))
      go true y z = ((four_bytes (omega arith) hc hb ha, tt), tt)
      go false true z =
          by_mark (eqb (get_or (get (store_from c) most_unknowns d) a 0) 255) (eqb (get_or (get (store_from c) most_unknowns d) a 0) 254)
          (ltb b v && eqb (byte_at d (memo_from c a b)) 1) (get_bytes (store_from c) most_unknowns d s a)
      go false false true = (tt, tt)
      go false false false =
          by_records (eqb (symbol_of d (a - v)) (symbol_of d (b - v)) && eqb (part_count_of d (a - v)) (part_count_of d (b - v)))

  plan_small : (j : Item) → ItemBytes j → SmallPlan (plan_of d j)
  unfolding plan_of
  plan_small (statement c a b) h = choice_small c a b (h 1) (h 2) (h 3) (byte_at d unknowns_at)
  plan_small (ask c x u) h = go (eqb (byte_at d (owners_at + x)) 255)
    where
      go : (o : Bool) → SmallPlan (pick o (plan 8 (news_to 0 (byte_at d cabinets_at) x u) (owner x u)) (plan 9 [] nothing))
      go true = (news_small 0 (byte_at d cabinets_at) x u (omega (arith, s cabinets_at)) (h 2) (h 3), h 3)
      go false = (tt, tt)
  plan_small (news c x u) h = (tt, h 3)

  performed_kept : (i : ℕ) (p : Plan) → SmallPlan p → (k : ℕ) (e : List ℕ) → performed_bytes d i p ≡ out 0 k e → Bytes e
  performed_kept i wait h k e z = absurd (let w : ◌≡◌ {A = ℕ} 14 0 = cc in omega arith)
  performed_kept i (plan j ps ch) h k e z = go (leb (count_of d - 1 + length ps) room) z
    where
      go : (b : Bool) → pick b (out 0 j (appended_all ps (removed_at i (applied ch d)))) (out 18 0 d) ≡ out 0 k e → Bytes e
      go true w =
          let q : appended_all ps (removed_at i (applied ch d)) ≡ e = cc in
          subst Bytes q (appended_bytes ps (removed_at i (applied ch d)) h.0 (removed_bytes i (applied ch d) (applied_kept ch d h.1 s)))
      go false w = absurd (let v : ◌≡◌ {A = ℕ} 18 0 = cc in omega arith)

  pub taken_kept : (i k : ℕ) (e : List ℕ) → taken_bytes d i ≡ out 0 k e → Bytes e
  unfolding taken_bytes
  taken_kept i k e h = go (eqb (byte_at d clash_at) 0) (ltb i (count_of d)) h
    where
      go : (a b : Bool) → pick a (pick b (performed_bytes d i (plan_of d (item_at d i))) (out 13 0 d)) (out 15 0 d) ≡ out 0 k e → Bytes e
      go true true z = performed_kept i (plan_of d (item_at d i)) (plan_small (item_at d i) (item_small d s i)) k e z
      go true false z = absurd (let v : ◌≡◌ {A = ℕ} 13 0 = cc in omega arith)
      go false b z = absurd (let v : ◌≡◌ {A = ℕ} 15 0 = cc in omega arith)

-- what is written of a file
abbrev groups_limit : ℕ → ℕ
groups_limit zero = 256
groups_limit (suc k) = 128 * groups_limit k

groups_small : (k n : ℕ) → n < groups_limit k → All Byte (groups_of (suc k) n)
groups_small zero n h = (h, tt)
groups_small (suc k) n h = go (ltb n 128) refl (groups_small k (n / 128) (omega arith))
  where
    go : (b : Bool) → ltb n 128 ≡ b → All Byte (groups_of (suc k) (n / 128)) → All Byte (pick b (n ∷ []) ((128 + n % 128) ∷ groups_of (suc k) (n / 128)))
    go true e later = (omega (arith, ltb-true n 128 e), tt)
    go false e later = (omega arith, later)

number_small : (n : ℕ) → n < number_limit → All Byte (number_bytes n)
unfolding number_bytes
number_small n h = groups_small 4 n (omega arith)

each_small : {A : Type 0} (w : A → List ℕ) (P : A → Type 0) → ((a : A) → P a → All Byte (w a)) → (l : List A) → All P l → All Byte (each w l)
each_small w P h [] a = tt
each_small w P h (x ∷ l) a = all_append Byte (w x) (each w l) (h x a.0) (each_small w P h l a.1)

record_small : (v : ℕ) → v ≤ most_unknowns → (q : Record) → RecordOk v q → All Byte (record_bytes q)
unfolding record_bytes
record_small v h q ok =
    all_append Byte (number_bytes q.symbol) (number_bytes (length q.parts) ++ each number_bytes q.parts) (number_small q.symbol ok.symbol)
    (all_append Byte (number_bytes (length q.parts)) (each number_bytes q.parts) (number_small (length q.parts) (omega (arith, ok.count)))
    (each_small number_bytes (λ p. p < v) (λ p l. number_small p (omega arith)) q.parts ok.parts))

statement_small : (t : Table) → TableOk t → (q : Statement) → StatementOk t q → All Byte (statement_bytes q)
unfolding statement_bytes
statement_small t ok q h =
    all_append Byte (number_bytes q.cabinet) (number_bytes q.left ++ number_bytes q.right)
    (number_small q.cabinet (omega (arith, h.cabinet, ok.cabinets)))
    (all_append Byte (number_bytes q.left) (number_bytes q.right) (number_small q.left (omega (arith, h.left, ok.unknowns, ok.count)))
    (number_small q.right (omega (arith, h.right, ok.unknowns, ok.count))))

table_small : (t : Table) → TableOk t → All Byte (table_bytes t)
unfolding table_bytes
table_small t ok =
    all_append Byte (number_bytes t.cabinets) (number_bytes t.unknowns ++ (number_bytes (length t.records) ++ each record_bytes t.records))
    (number_small t.cabinets (omega (arith, ok.cabinets)))
    (all_append Byte (number_bytes t.unknowns) (number_bytes (length t.records) ++ each record_bytes t.records)
    (number_small t.unknowns (omega (arith, ok.unknowns)))
    (all_append Byte (number_bytes (length t.records)) (each record_bytes t.records) (number_small (length t.records) (omega (arith, ok.count)))
    (each_small record_bytes (RecordOk t.unknowns) (record_small t.unknowns ok.unknowns) t.records ok.records)))

pub file_bytes_lem : (f : File) → FileOk f.table f.statements → Bytes (file_bytes f)
unfolding file_bytes
file_bytes_lem f ok =
    byte_each (table_bytes f.table ++ (number_bytes (length f.statements) ++ each statement_bytes f.statements))
    (all_append Byte (table_bytes f.table) (number_bytes (length f.statements) ++ each statement_bytes f.statements) (table_small f.table ok.table)
    (all_append Byte (number_bytes (length f.statements)) (each statement_bytes f.statements)
    (number_small (length f.statements) (omega (arith, ok.count)))
    (each_small statement_bytes (StatementOk f.table) (statement_small f.table ok.table) f.statements ok.statements)))
