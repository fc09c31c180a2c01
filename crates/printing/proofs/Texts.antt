-- Laws of a text in a buffer: a word that is copied behind it, two pieces one after the other, and the pieces of a list in turn.
use Prim.Native.Nat.{ℕ, zero, suc, ◌+◌, ◌-◌, ◌<◌, ◌^◌}
use mathlib.Core.Path.{◌≡◌, refl, sym, ap, subst, ◌∙◌}
use mathlib.Core.List.{List, [], ◌∷◌, ◌++◌, append_assoc, append-nil}
use native.Mathlib.Omega.{arith}
use borrow.Rule.Slice.PartMut.{put_mid}
use lib.ListN.{length, length-append, take, drop}
use Rattle.std.proofs.Common.{drop-drop}
use Rattle.std.proofs.lemmas.Fmt.{AppendsLastDigit, decimal_from_appends, length-decimal-le}
use Rattle.std.specs.Fmt.{decimal as std_decimal}
use Rattle.base.specs.Lists.{list_from}
use Rattle.base.specs.Regions.{put}
use Rattle.base.proofs.Froms.{from_last}
use Rattle.paper.specs.Files.{each}
use Rattle.paper.specs.Programs.{digits, decimal}
use Rattle.paper.proofs.StatementParts.{each_append}
use Rattle.layout.proofs.Putting.{put_nothing, put_long, then_put}
use Rattle.printing.specs.declared.Text.{Text}
use Rattle.printing.specs.Texts.{HasRoom, Adds}
use borrow.Author.Tests.{lt-ltb, le-ltb}

-- a word that is copied into the buffer
pub copied : (at n : ℕ) (bs ys d : List ℕ) → n ≡ length bs → ys ≡ bs → put_mid at n d ys ≡ put at bs d
unfolding put
copied at n bs ys d e y = rw (e, y, drop-drop) (sym (append_assoc (take at d) bs (drop (at + length bs) d)))

-- a number of 64 bits has at most twenty digits, and they are those that the library prints
appends : AppendsLastDigit digits
appends = record {
  one = λ k n h. rw (digits, lt-ltb n 10 h) refl;
  more = λ k n h. rw (digits, le-ltb n 10 h) refl;
}

pub decimal_is : (n : ℕ) → n < 2 ^ 64 → decimal n ≡ std_decimal n
unfolding decimal
decimal_is n h = decimal_from_appends digits appends 20 n h (length-decimal-le 20 n (omega arith) (omega arith) h)

-- one piece and then another
pub first_fits : {t : Text} (bs cs : List ℕ) → HasRoom t (bs ++ cs) → HasRoom t bs
first_fits bs cs room = record { fits = omega (arith, room.fits, length-append bs cs) }

module _ {t : Text} {bs cs : List ℕ} (room : HasRoom t (bs ++ cs)) where
  module _ {u : Text} (w : Adds t bs u) where
    pub then_fits : HasRoom u cs
    then_fits =
        record {
          fits = omega (arith, room.fits, length-append bs cs, w.put.past, put_long w.put (omega (arith, room.fits, length-append bs cs)));
        }

    pub then_adds : {v : Text} → Adds u cs v → Adds t (bs ++ cs) v
    then_adds {v} z =
        record {
          same_reference = z.same_reference ∙ w.same_reference;
          put = then_put w.put z.put (omega (arith, room.fits, length-append bs cs));
        }

pub adds_nothing : (t : Text) → Adds t [] t
adds_nothing t =
    record { same_reference = refl; put = record { past = omega arith; bytes = sym (put_nothing t.end t.buffer.now) } }

-- f at n numbers, each as w has it
module _ {A : Type 0} (w : A → List ℕ) (f : ℕ → A) where
  abbrev first : ℕ → List ℕ
  first i = each w (list_from f i 0)

  from_parts : (a b i : ℕ) → list_from f (a + b) i ≡ list_from f a i ++ list_from f b (i + a)
  from_parts zero b i =
      let e : zero + b ≡ b = omega arith in
      let g : i + zero ≡ i = omega arith in
      rw (e, g) refl
  from_parts (suc a) b i =
      let e : suc a + b ≡ suc (a + b) = omega arith in
      let g : i + suc a ≡ suc i + a = omega arith in
      rw (e, g) (ap (λ (l : List A). f i ∷ l) (from_parts a b (suc i)))

  one_more : (i : ℕ) → first (i + 1) ≡ first i ++ w (f i)
  one_more i =
      let e : i + 1 ≡ suc i = omega arith in
      let g : 0 + i ≡ i = omega arith in
      ap first e ∙ ap (each w) (from_last f i 0) ∙ each_append w (list_from f i 0) (f (0 + i) ∷ []) ∙ rw (append-nil, g) refl

  module _ (n i : ℕ) (more : i < n) where
    rest : List ℕ
    rest = each w (list_from f (n - (i + 1)) (0 + (i + 1)))

    parted : first n ≡ (first i ++ w (f i)) ++ rest
    unfolding rest
    parted =
        let e : n ≡ (i + 1) + (n - (i + 1)) = omega arith in
        ap first e ∙ ap (each w) (from_parts (i + 1) (n - (i + 1)) 0) ∙ each_append w (list_from f (i + 1) 0) (list_from f (n - (i + 1)) (0 + (i + 1)))
        ∙ ap (λ (l : List ℕ). l ++ rest) (one_more i)

    next_room : {t : Text} → HasRoom t (first n) → HasRoom t (first i ++ w (f i))
    next_room {t} room = first_fits (first i ++ w (f i)) rest (subst (HasRoom t) parted room)

    -- the next is x
    module _ (x : A) (e : x ≡ f i) {t u : Text} (room : HasRoom t (first n)) (a : Adds t (first i) u) where
      pub next_fits : HasRoom u (w x)
      next_fits = rw e (then_fits (next_room room) a)

      pub next_adds : {v : Text} → Adds u (w x) v → Adds t (first (i + 1)) v
      next_adds {v} b = rw (one_more i) (then_adds (next_room room) a (subst (λ (y : A). Adds u (w y) v) e b))
