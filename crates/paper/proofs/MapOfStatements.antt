-- Where owner marks come from alike entries and the statements hold over them, the map over ends is the statements' own.
use mathlib.Core.Path.{◌≡◌, refl, sym, subst, ap₂, ◌∙◌}
use mathlib.Core.Logic.{inl, inr, ◌↔◌}
use mathlib.Core.Bool.{true}
use mathlib.Core.List.{List, [], ◌∷◌, map}
use mathlib.Core.Option.{Option, some}
use Prim.Native.Nat.{ℕ, zero, suc}
use lib.Dec.{T, eqb→eq}
use Rattle.base.specs.Lists.{AllZip, pairwise}
use Rattle.base.proofs.Tests.{fst_T, snd_T, true_T, T_true, false_T}
use Rattle.base.proofs.Pairs.{pairwise_zip, zip_in, zip_out}
use Rattle.base.proofs.Counting.{Least, least_in, least_T, least_first, least_one}
use Rattle.paper.specs.Tables.{Table, Record, is_record, record_at, same_head}
use Rattle.paper.specs.Runs.{Statement}
use Rattle.paper.specs.Alike.{Stated, Alike, given, self, back, via, part, Clash, Agree}
use Rattle.paper.specs.Ends.{End, at_open, at_record, same_ends, agree, end_of}
use Rattle.paper.specs.Maps.{Look, open_look, record_look, Row, IsLowest, IsLook, IsRow, lowest_of, look_of, row_of}
use Rattle.paper.proofs.SameEnds.{head_symbol, ends_in, ends_head, ends_parts}
use Rattle.paper.proofs.Depth.{agree_refl, agree_sym, agree_tr}
use Rattle.paper.proofs.Chains.{Falls, Ended, ended_open, ended_record, ended, end_record}
use Rattle.paper.proofs.Rows.{lowest_is_least, least_moves}

-- owner marks that settle the statements: chains fall, marks are of alike entries, and each statement holds over ends
pub record Solved (t : Table) (qs : List Statement) (o : ℕ → Option ℕ) : Type 0 where
  pub fall : Falls t o
  pub own : (x v : ℕ) → o x ≡ some v → Alike t qs x v
  pub stated : (a b : ℕ) → Stated qs a b → (d : ℕ) → T (agree (end_of t o) d a b)

module _ (t : Table) (qs : List Statement) (o : ℕ → Option ℕ) where
  abbrev e : ℕ → End
  e = end_of t o

  abbrev v : ℕ
  v = t.unknowns

  -- what agreement says of two records
  of_records : (d a b : ℕ) → is_record t a ≡ true → is_record t b ≡ true → T (agree e (suc d) a b)
      → T (same_ends (agree e d) (at_record (record_at t a)) (at_record (record_at t b)))
  of_records d a b ha hb h = rw (end_record t o a ha, end_record t o b hb) at h

  module _ (s : Solved t qs o) where
    -- alike entries agree over ends at every depth
    pub alike_agree : {a b : ℕ} → Alike t qs a b → (d : ℕ) → T (agree e d a b)
    alike_agree (given {a} {b} h) d = s.stated a b h d
    alike_agree (self {a}) d = agree_refl e d a
    alike_agree (back {a} {b} h) d = agree_sym e d a b (alike_agree h d)
    alike_agree (via {a} {b} {c} h k) d = agree_tr e d a b c (alike_agree h d) (alike_agree k d)
    alike_agree (part {a} {b} ha hb h k z) d =
        pairwise_zip (agree e d) (ends_parts (record_at t a) (record_at t b) (agree e d) (of_records d a b ha hb (alike_agree h (suc d)))) z

    -- the statements do not clash
    pub no_clash : Clash t qs → ⊥
    no_clash c =
        let p : Record = record_at t c.one in
        let q : Record = record_at t c.two in
        false_T (same_head p q) c.differ
        (ends_head p q (agree e 0) (of_records 0 c.one c.two c.one_record c.two_record (alike_agree c.alike 1)))

    -- no record is alike to an unknown with an open end
    bare : {x z : ℕ} → e x ≡ at_open z → (a : ℕ) → is_record t a ≡ true → Alike t qs x a → ⊥
    bare d a h k = rw (d, end_record t o a h) at (alike_agree k 1)

    agree_in : (d x y : ℕ) → Agree t qs d x y → T (agree e d x y)
    agree_in zero x y h = tt
    agree_in (suc d) x y (inl h) = alike_agree h.alike (suc d)
    agree_in (suc d) x y (inr h) =
        let p : Record = record_at t h.one in
        let q : Record = record_at t h.two in
        let k : T (agree e (suc d) h.one h.two) =
        rw (end_record t o h.one h.one_record, end_record t o h.two h.two_record)
        (ends_in p q (agree e d) (true_T (same_head p q) h.head)
        (zip_in (agree e d) (Agree t qs d) (agree_in d) p.parts q.parts h.parts)) in
        agree_tr e (suc d) x h.one y (alike_agree h.one_alike (suc d))
        (agree_tr e (suc d) h.one h.two y k (alike_agree (back h.two_alike) (suc d)))

    agree_out : (d x y : ℕ) → T (agree e d x y) → Agree t qs d x y
    agree_out zero x y h = tt
    agree_out (suc d) x y h =
        go (e x) refl (ended t o s.fall qs s.own x) (e y) (ended t o s.fall qs s.own y) h (agree_out d)
      where
        go : (m : End) → e x ≡ m → Ended t qs x m → (n : End) → Ended t qs y n → T (same_ends (agree e d) m n)
            → ((p q : ℕ) → T (agree e d p q) → Agree t qs d p q) → Agree t qs (suc d) x y
        go m k (ended_open {z = z} hz i) n (ended_open {z = w} hw j) g ih =
            inl (record { alike = via i (back (subst (Alike t qs y) (sym (eqb→eq z w g)) j)); bare = bare k })
        go m k (ended_open hz i) n (ended_record hr j) g ih = absurd g
        go m k (ended_record hr i) n (ended_open hw j) g ih = absurd g
        go m k (ended_record {r = a} ha i) n (ended_record {r = b} hb j) g ih =
            let p : Record = record_at t a in
            let q : Record = record_at t b in
            inr
            (record {
              one = a;
              two = b;
              one_record = ha;
              two_record = hb;
              one_alike = i;
              two_alike = j;
              head = T_true (same_head p q) (ends_head p q (agree e d) g);
              parts = zip_out (agree e d) (Agree t qs d) ih p.parts q.parts (ends_parts p q (agree e d) g);
            })

    -- agreement over owner marks followed to their end is agreement from the statements, to every depth
    pub agreement_is_the_statements : (d x y : ℕ) → T (agree e d x y) ↔ Agree t qs d x y
    agreement_is_the_statements d x y = (agree_out d x y, agree_in d x y)

    lowest_in : (x m : ℕ) → Least (agree e v x) m → IsLowest t qs x m
    lowest_in x m h =
        record {
          same = agree_out v x m (least_T (agree e v x) m h);
          least = λ y b a. least_first (agree e v x) m h y b (agree_in v x y a);
        }

    lowest_out : (x m : ℕ) → IsLowest t qs x m → Least (agree e v x) m
    lowest_out x m h = least_in (agree e v x) m (agree_in v x m h.same) (λ y b a. h.least y b (agree_out v x y a))

    lowest_parts : (ps : List ℕ) → AllZip (IsLowest t qs) ps (map (lowest_of e v) ps)
    lowest_parts [] = tt
    lowest_parts (p ∷ ps) = (lowest_in p (lowest_of e v p) (lowest_is_least e v p), lowest_parts ps)

    -- parts that agree have the same lowest same items
    lowest_parts_only : (ps rs ms : List ℕ) → T (pairwise (agree e v) ps rs) → AllZip (IsLowest t qs) rs ms
        → ms ≡ map (lowest_of e v) ps
    lowest_parts_only [] [] [] h a = refl
    lowest_parts_only [] [] (m ∷ ms) h a = absurd a
    lowest_parts_only [] (r ∷ rs) ms h a = absurd h
    lowest_parts_only (p ∷ ps) [] ms h a = absurd h
    lowest_parts_only (p ∷ ps) (r ∷ rs) [] h a = absurd a
    lowest_parts_only (p ∷ ps) (r ∷ rs) (m ∷ ms) h a =
        let k = fst_T (agree e v p r) (pairwise (agree e v) ps rs) h in
        ap₂ (λ (n : ℕ) (ns : List ℕ). n ∷ ns)
        (least_one (agree e v r) m (lowest_of e v p) (lowest_out r m a.0)
        (least_moves e v p r (lowest_of e v p) k (lowest_is_least e v p)))
        (lowest_parts_only ps rs ms (snd_T (agree e v p r) (pairwise (agree e v) ps rs) h) a.1)

    look_is : (x : ℕ) (z : End) → e x ≡ z → Ended t qs x z → IsLook t qs x (look_of e v z)
    look_is x z d (ended_open h j) = bare d
    look_is x z d (ended_record {r = r} h j) =
        record { one = r; one_record = h; alike = j; symbols = refl; parts = lowest_parts (record_at t r).parts }

    look_only : (x : ℕ) (k : Look) → IsLook t qs x k → (z : End) → e x ≡ z → Ended t qs x z → k ≡ look_of e v z
    look_only x open_look i z d (ended_open h j) = refl
    look_only x open_look i z d (ended_record {r = r} h j) = absurd (i r h j)
    look_only x (record_look n ms) i z d (ended_open h j) = absurd (bare d i.one i.one_record i.alike)
    look_only x (record_look n ms) i z d (ended_record {r = r} h j) =
        let p : Record = record_at t r in
        let q : Record = record_at t i.one in
        let k = of_records v r i.one h i.one_record (alike_agree (via (back j) i.alike) (suc v)) in
        ap₂ record_look (sym i.symbols ∙ sym (head_symbol p q (ends_head p q (agree e v) k)))
        (lowest_parts_only p.parts q.parts ms (ends_parts p q (agree e v) k) i.parts)

    row_is : (x : ℕ) → IsRow t qs x (row_of e v x)
    unfolding row_of
    row_is x =
        record {
          lowest = lowest_in x (lowest_of e v x) (lowest_is_least e v x);
          look = look_is x (e x) refl (ended t o s.fall qs s.own x);
        }

    row_only : (x : ℕ) (w : Row) → IsRow t qs x w → w ≡ row_of e v x
    unfolding row_of
    row_only x w i = λ k. record { lowest = p k; look = q k }
      where
        p : w.lowest ≡ lowest_of e v x
        p = least_one (agree e v x) w.lowest (lowest_of e v x) (lowest_out x w.lowest i.lowest) (lowest_is_least e v x)

        q : w.look ≡ look_of e v (e x)
        q = look_only x w.look i.look (e x) refl (ended t o s.fall qs s.own x)

    -- the rows over owner marks are those that the statements determine, and no others are
    pub rows_are_the_statements : (x : ℕ) (w : Row) → IsRow t qs x w ↔ (w ≡ row_of e v x)
    rows_are_the_statements x w = (row_only x w, λ p. subst (IsRow t qs x) (sym p) (row_is x))
