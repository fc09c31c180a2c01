-- Laws of writing a run's pieces: what each loop and each way out asks.
use Prim.Native.Nat.{ℕ, ◌+◌, ◌≤◌, ◌<◌}
use mathlib.Core.Path.{◌≡◌, refl, sym, ap, subst, ◌∙◌}
use mathlib.Core.Bool.{true, false}
use mathlib.Core.List.{List, ◌++◌}
use native.Mathlib.Omega.{arith}
use borrow.Author.Tests.{eq-eqb, ne_eqb}
use lib.ListN.{length, length-append}
use Rattle.base.specs.Lists.{list_from}
use Rattle.base.proofs.Froms.{from_length}
use Rattle.paper.specs.Sizes.{most_records, most_parts, number_limit}
use Rattle.paper.specs.Numbers.{number_bytes}
use Rattle.paper.specs.Files.{each, record_bytes, statement_bytes}
use Rattle.paper.specs.declared.Item.{Item}
use Rattle.paper.specs.declared.Item.TheVariants.{Statement as statement}
use Rattle.layout.specs.Given.{Reads, byte_limit}
use Rattle.layout.specs.Soundness.{sound_bytes}
use Rattle.layout.specs.Fields.{byte_at, symbol_of, part_count_of, part_of, parts_from, record_of, item_at}
use Rattle.layout.specs.Offsets.{run_bytes, item_from}
use Rattle.layout.proofs.SoundViews.{tested, shaped}
use Rattle.layout.proofs.Putting.{EachTo, none_put, all_put, one_fits, one_put, put_long, then_put}
use Rattle.statements.specs.declared.writing.Writer.{Writer}
use Rattle.statements.specs.Pieces.{HasRoom, Adds}
use Rattle.statements.specs.Writes.{is_statement, statement_at}
use Rattle.statements.proofs.AsLoaded.{kind_1}

-- an item is a statement exactly when its first byte is 1
module _ (d : List ℕ) (p : ℕ) (x : Item) (e : x ≡ item_at d p) where
  pub statement_here : (c a b : ℕ) → x ≡ statement c a b → true ≡ is_statement d p
  unfolding item_at
  statement_here c a b h = sym (eq-eqb (byte_at d (item_from p)) 1 (kind_1 _ _ _ _ c a b (sym e ∙ h)))

  pub other_here : ((c a b : ℕ) → x ≡ statement c a b → ⊥) → false ≡ is_statement d p
  unfolding item_at
  other_here h =
      sym (ne_eqb (byte_at d (item_from p)) 1 (λ k. h (byte_at d (item_from p + 1)) (byte_at d (item_from p + 2)) (byte_at d (item_from p + 3)) (e ∙ rw k refl)))

-- a byte is a number that can be written
pub byte_number : {v x : ℕ} → Reads v byte_limit x → x < number_limit
byte_number e = omega (arith, e.small)

pub byte_small : (d : List ℕ) → ((i : ℕ) → byte_at d i < byte_limit) → (k x : ℕ) → x ≡ byte_at d k → x < number_limit
byte_small d f k x e = omega (arith, f k)

-- one piece and then another: there is room for each, and both together are written
pub first_room : (us vs : List ℕ) {w : Writer} → HasRoom w (us ++ vs) → HasRoom w us
first_room us vs r = record { fits = omega (arith, length-append us vs, r.fits) }

module _ {us vs : List ℕ} {w : Writer} (r : HasRoom w (us ++ vs)) where
  module _ {w1 : Writer} (g : Adds w us w1) where
    pub then_room : HasRoom w1 vs
    then_room = record { fits = omega (arith, length-append us vs, r.fits, g.put.past, put_long g.put (omega (arith, length-append us vs, r.fits))) }

    pub then_adds : {w2 : Writer} → Adds w1 vs w2 → Adds w (us ++ vs) w2
    then_adds h =
        record { put = then_put g.put h.put (omega (arith, length-append us vs, r.fits)); same_reference = h.same_reference ∙ g.same_reference }

-- f at n numbers, each written as its bytes b: i of them are, since the writer was w₀
module _ {A : Type 0} (b : A → List ℕ) (f : ℕ → A) (n : ℕ) (w₀ : Writer) where
  pub record EachAdds (i : ℕ) (w : Writer) : Type 0 where
    pub each_put : EachTo b f n w₀.at w₀.file.now i w.at w.file.now
    pub same_reference : w.file.ghost_name ≡ w₀.file.ghost_name

  pub none_adds : EachAdds 0 w₀
  none_adds = record { each_put = none_put b f n w₀.at w₀.file.now; same_reference = refl }

  module _ (i : ℕ) (w : Writer) (h : EachAdds i w) where
    pub all_adds : n ≤ i → Adds w₀ (each b (list_from f n 0)) w
    all_adds g = record { put = all_put b f n w₀.at w₀.file.now i w.at w.file.now h.each_put g; same_reference = h.same_reference }

    module _ (g : i < n) (most : HasRoom w₀ (each b (list_from f n 0))) (x : A) (e : x ≡ f i) where
      pub one_room : HasRoom w (b x)
      one_room = record { fits = one_fits b f n w₀.at w₀.file.now i w.at w.file.now h.each_put g most.fits x e }

      pub one_adds : (w' : Writer) → Adds w (b x) w' → EachAdds (i + 1) w'
      one_adds w' q =
          record {
            each_put = one_put b f n w₀.at w₀.file.now i w.at w.file.now h.each_put g most.fits x e w'.file.now w'.at q.put;
            same_reference = q.same_reference ∙ h.same_reference;
          }

-- a record
module _ (d : List ℕ) (i : ℕ) (w : Writer) (most : HasRoom w (record_bytes (record_of d i)))
    (s : ℕ) (es : Reads (symbol_of d i) number_limit s) (c : ℕ) (ec : Reads (part_count_of d i) byte_limit c) where
  abbrev parts : List ℕ
  parts = each number_bytes (parts_from d i c 0)

  record_is : record_bytes (record_of d i) ≡ number_bytes s ++ (number_bytes c ++ parts)
  unfolding record_bytes record_of
  record_is =
      rw (es.same, ec.same)
      (ap (λ (k : ℕ). number_bytes (symbol_of d i) ++ (number_bytes k ++ each number_bytes (parts_from d i (part_count_of d i) 0))) (from_length (part_of d i) (part_count_of d i) 0))

  room_is : HasRoom w (number_bytes s ++ (number_bytes c ++ parts))
  room_is = subst (λ (bs : List ℕ). HasRoom w bs) record_is most

  pub symbol_room : HasRoom w (number_bytes s)
  symbol_room = first_room _ _ room_is

  module _ (w1 : Writer) (g1 : Adds w (number_bytes s) w1) where
    pub count_room : HasRoom w1 (number_bytes c)
    count_room = first_room _ _ (then_room room_is g1)

    module _ (w2 : Writer) (g2 : Adds w1 (number_bytes c) w2) where
      pub parts_room : HasRoom w2 (each number_bytes (parts_from d i c 0))
      parts_room = then_room (then_room room_is g1) g2

      pub record_adds : (w3 : Writer) → Adds w2 (each number_bytes (parts_from d i c 0)) w3 → Adds w (record_bytes (record_of d i)) w3
      record_adds w3 g3 =
          subst (λ (bs : List ℕ). Adds w bs w3) (sym record_is) (then_adds room_is g1 (then_adds (then_room room_is g1) g2 g3))

-- a sound run's records have at most four parts
pub record_parts_few : (d : List ℕ) (n i : ℕ) → i < n → length d ≡ run_bytes → sound_bytes d ≡ true → n ≤ most_records → part_count_of d i ≤ most_parts
record_parts_few d n i g l s k = (shaped d l (tested d s)).parts i (omega arith)

-- a statement
module _ (d : List ℕ) (p : ℕ) (w : Writer) (most : HasRoom w (statement_bytes (statement_at d p)))
    (c : ℕ) (ec : c ≡ byte_at d (item_from p + 1)) where
  sides : List ℕ
  sides = number_bytes (byte_at d (item_from p + 2)) ++ number_bytes (byte_at d (item_from p + 3))

  statement_is : statement_bytes (statement_at d p) ≡ number_bytes c ++ sides
  unfolding statement_bytes sides
  statement_is = rw ec refl

  room_of : HasRoom w (number_bytes c ++ sides)
  room_of = subst (λ (bs : List ℕ). HasRoom w bs) statement_is most

  pub cabinet_room : HasRoom w (number_bytes c)
  cabinet_room = first_room _ _ room_of

  module _ (w1 : Writer) (g1 : Adds w (number_bytes c) w1) (a : ℕ) (ea : a ≡ byte_at d (item_from p + 2)) where
    room_left : HasRoom w1 (number_bytes a ++ number_bytes (byte_at d (item_from p + 3)))
    unfolding sides
    room_left = rw ea (then_room room_of g1)

    pub left_room : HasRoom w1 (number_bytes a)
    left_room = first_room _ _ room_left

    module _ (w2 : Writer) (g2 : Adds w1 (number_bytes a) w2) (b : ℕ) (eb : b ≡ byte_at d (item_from p + 3)) where
      pub right_room : HasRoom w2 (number_bytes b)
      right_room = rw eb (then_room room_left g2)

      pub statement_adds : (w3 : Writer) → Adds w2 (number_bytes b) w3 → Adds w (statement_bytes (statement_at d p)) w3
      unfolding sides
      statement_adds w3 g3 =
          rw statement_is (then_adds room_of g1 (rw (← ea, ← eb) (then_adds (rw (← eb) at room_left) g2 g3)))
