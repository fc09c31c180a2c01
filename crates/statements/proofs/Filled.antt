-- Laws of filling a run from a file that was read: the turns of the two loops, and the ways out.
use Prim.Native.Nat.{ℕ, suc, ◌+◌, ◌≤◌, ◌<◌}
use mathlib.Core.Path.{◌≡◌, refl, sym, ap, subst, ◌∙◌}
use mathlib.Core.List.{List, [], ◌∷◌, map}
use native.Mathlib.Omega.{arith}
use lib.ListN.{length, take, drop, drop_of_length-le}
use lib.Seq.{length-take-le}
use Rattle.std.specs.Prelude.{Result, Ok, IsOk}
use Rattle.paper.specs.Sizes.{most_parts, number_limit, room}
use Rattle.paper.specs.Numbers.{Read, got, fault}
use Rattle.paper.specs.Runs.{Statement, as_item}
use Rattle.paper.specs.Files.{Form, times, record_form, reading}
use Rattle.paper.specs.declared.Item.{Item}
use Rattle.paper.specs.declared.Item.TheVariants.{Statement as statement}
use Rattle.paper.specs.declared.refused.Fault.{Fault}
use Rattle.paper.specs.declared.Found.{Found}
use Rattle.layout.specs.Offsets.{run_bytes}
use Rattle.layout.specs.Fields.{count_of}
use Rattle.layout.specs.Changes.{appended, appended_all, with_record, with_records}
use Rattle.layout.proofs.Views.{appended_count}
use Rattle.reading.specs.declared.RecordRead.{RecordRead}
use Rattle.paper.specs.declared.Statement.{Statement as StatementRead}
use Rattle.reading.specs.Reads.{read_as, next_of, WasRead, list_of, record_of, RecordFound, statement_form_of, statement_of}
use Rattle.reading.proofs.Times.{times_count}
use Rattle.reading.proofs.RecordFinds.{symbol_small}
use Rattle.statements.proofs.Again.{LeftFrom, all_left, not_refused, value_again, left_again}

-- what was read
pub was_read : {A : Type 0} (x : Read (List A)) → WasRead x → x ≡ got (list_of x) (next_of x)
was_read (got l to) h = refl
was_read (fault k p) h = absurd h

-- values read, of which i were put into a run in turn by `more`: what is left to put gives what all give
module _ {A : Type 0} (more : ℕ → List A → List ℕ → List ℕ) (one : ℕ → A → List ℕ → List ℕ)
    (none : (i : ℕ) (d : List ℕ) → more i [] d ≡ d) (first : (i : ℕ) (a : A) (l : List A) (d : List ℕ) → more i (a ∷ l) d ≡ more (suc i) l (one i a d))
    (m : Form A) (n : ℕ) (f : List ℕ) (at : ℕ) (d₀ : List ℕ) where
  abbrev values : List A
  values = list_of (reading (times n m) f at)

  abbrev last : ℕ
  last = next_of (reading (times n m) f at)

  pub record FilledTo (i here : ℕ) (d : List ℕ) : Type 0 where
    pub left : LeftFrom m f n values last i here
    pub kept : more i (drop i values) d ≡ more 0 values d₀

  pub none_filled : WasRead (reading (times n m) f at) → FilledTo 0 at d₀
  none_filled h = record { left = all_left m f n values last at (was_read (reading (times n m) f at) h); kept = refl }

  module _ (i here : ℕ) (d : List ℕ) (h : FilledTo i here d) where
    pub all_filled : WasRead (reading (times n m) f at) → n ≤ i → d ≡ more 0 values d₀
    all_filled r g =
        let c : length values ≡ n = times_count m f n at values last (was_read (reading (times n m) f at) r) in
        let e : drop i values ≡ [] = drop_of_length-le values {i = i} (omega arith) in
        sym (none i d) ∙ ap (λ (l : List A). more i l d) (sym e) ∙ h.kept

    pub one_filled : {B : Type 0} (q : B → A) → i < n → (y : Found B) → got (q y.value) y.next ≡ reading m f here
        → (d' : List ℕ) → d' ≡ one i (q y.value) d → FilledTo (i + 1) y.next d'
    one_filled q g y e d' p =
        let v = value_again m f n values last i here h.left q g y e in
        let s : suc i ≡ i + 1 = omega arith in
        record {
          left = left_again m f n values last i here h.left q g y e;
          kept =
              ap (λ (k : ℕ). more k (drop (i + 1) values) d') (sym s)
              ∙ ap (more (suc i) (drop (i + 1) values)) p
              ∙ sym (first i (q y.value) (drop (i + 1) values) d)
              ∙ ap (λ (l : List A). more i l d) (sym v)
              ∙ h.kept;
        }

-- the records of a table
module _ (v n : ℕ) (f : List ℕ) (at : ℕ) (d₀ : List ℕ) where
  abbrev pub RecordsTo : ℕ → ℕ → List ℕ → Type 0
  RecordsTo i here d = FilledTo with_records with_record (λ i d. refl) (λ i a l d. refl) (record_form v) n f at d₀ i here d

  pub no_record_yet : WasRead (reading (times n (record_form v)) f at) → RecordsTo 0 at d₀
  no_record_yet h = none_filled with_records with_record (λ i d. refl) (λ i a l d. refl) (record_form v) n f at d₀ h

  module _ (i here : ℕ) (d : List ℕ) (h : RecordsTo i here d) where
    pub records_filled : WasRead (reading (times n (record_form v)) f at) → n ≤ i → d ≡ with_records 0 (list_of (reading (times n (record_form v)) f at)) d₀
    records_filled r g = all_filled with_records with_record (λ i d. refl) (λ i a l d. refl) (record_form v) n f at d₀ i here d h r g

    module _ (g : i < n) (x : Result (Found RecordRead) Fault) (e : RecordFound (record_form v) f here x) where
      pub record_again : IsOk x
      record_again = not_refused (record_form v) f n _ _ i here h.left record_of g x e.read

      module _ (y : Found RecordRead) (o : x ≡ Ok y) where
        found : RecordFound (record_form v) f here (Ok y)
        found = subst (RecordFound (record_form v) f here) o e

        pub parts_few : length (take y.value.count y.value.parts) ≤ most_parts
        parts_few =
            omega (arith, length-take-le y.value.count y.value.parts (omega (arith, found.places.few, found.places.long)), found.places.few)

        pub small_symbol : y.value.symbol < number_limit
        small_symbol = symbol_small v f here y found

        pub record_filled : (d' : List ℕ) → d' ≡ with_record i (record { symbol = y.value.symbol; parts = take y.value.count y.value.parts }) d
            → RecordsTo (i + 1) y.next d'
        record_filled d' p = one_filled with_records with_record (λ i d. refl) (λ i a l d. refl) (record_form v) n f at d₀ i here d h record_of g y found.read d' p

-- the statements
abbrev all_appended : ℕ → List Statement → List ℕ → List ℕ
all_appended i l d = appended_all (map as_item l) d

abbrev one_appended : ℕ → Statement → List ℕ → List ℕ
one_appended i a d = appended (as_item a) d

module _ (s k n : ℕ) (f : List ℕ) (at : ℕ) (d₀ : List ℕ) where
  abbrev Statements : ℕ → ℕ → List ℕ → Type 0
  Statements i here d = FilledTo all_appended one_appended (λ i d. refl) (λ i a l d. refl) (statement_form_of s k) n f at d₀ i here d

  pub record StatementsTo (i here : ℕ) (d : List ℕ) : Type 0 where
    pub filled : Statements i here d
    pub long : length d ≡ run_bytes
    pub count : count_of d ≡ count_of d₀ + i

  pub no_statement_yet : length d₀ ≡ run_bytes → WasRead (reading (times n (statement_form_of s k)) f at) → StatementsTo 0 at d₀
  no_statement_yet l h =
      record {
        filled = none_filled all_appended one_appended (λ i d. refl) (λ i a l d. refl) (statement_form_of s k) n f at d₀ h;
        long = l;
        count = omega arith;
      }

  module _ (i here : ℕ) (d : List ℕ) (h : StatementsTo i here d) where
    pub statements_filled : WasRead (reading (times n (statement_form_of s k)) f at) → n ≤ i
        → d ≡ appended_all (map as_item (list_of (reading (times n (statement_form_of s k)) f at))) d₀
    statements_filled r g = all_filled all_appended one_appended (λ i d. refl) (λ i a l d. refl) (statement_form_of s k) n f at d₀ i here d h.filled r g

    module _ (g : i < n) where
      pub room_for_one : count_of d₀ + n ≤ room → count_of d < room
      room_for_one w = omega (arith, h.count)

      module _ (x : Result (Found StatementRead) Fault) (e : read_as statement_of x ≡ reading (statement_form_of s k) f here) where
        pub statement_again : IsOk x
        statement_again = not_refused (statement_form_of s k) f n _ _ i here h.filled.left statement_of g x e

        pub statement_filled : count_of d₀ + n ≤ room → (y : Found StatementRead) → x ≡ Ok y
            → (j : Item) → j ≡ statement y.value.cabinet y.value.left y.value.right
            → (d' : List ℕ) → length d' ≡ run_bytes → d' ≡ appended j d → StatementsTo (i + 1) y.next d'
        statement_filled w y o j z d' l q =
            let p : d' ≡ appended (statement y.value.cabinet y.value.left y.value.right) d = q ∙ ap (λ (k : Item). appended k d) z in
            record {
              filled =
                  one_filled all_appended one_appended (λ i d. refl) (λ i a l d. refl) (statement_form_of s k) n f at d₀ i here d h.filled
                  statement_of g y (rw o at e) d' p;
              long = l;
              count = ap count_of p ∙ appended_count d (statement y.value.cabinet y.value.left y.value.right) h.long (room_for_one w) ∙ omega (arith, h.count);
            }
