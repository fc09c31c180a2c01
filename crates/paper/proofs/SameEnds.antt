-- Laws of two ends compared: heads, parts, and what carries over from one comparison of parts to another.
use mathlib.Core.Path.{◌≡◌, refl, sym, subst, ◌∙◌}
use mathlib.Core.Bool.{Bool}
use Prim.Native.Nat.{ℕ}
use lib.Dec.{T, eqb, eqb→eq, eqb_refl}
use lib.ListN.{length}
use Rattle.base.specs.Lists.{All, pairwise}
use Rattle.base.proofs.Tests.{fst_T, snd_T, and_T, eqb_flip, eqb_tr}
use Rattle.base.proofs.Pairs.{pairwise_refl, pairwise_tr, pairwise_up, pairwise_flip, all_unit}
use Rattle.paper.specs.Tables.{Record, same_head}
use Rattle.paper.specs.Ends.{End, at_open, at_record, same_ends}

-- the same symbol and the same part count
module _ (p q : Record) where
  pub head_in : p.symbol ≡ q.symbol → length p.parts ≡ length q.parts → T (same_head p q)
  head_in d e =
      and_T (eqb p.symbol q.symbol) (eqb (length p.parts) (length q.parts))
      (subst (λ (n : ℕ). T (eqb p.symbol n)) d (eqb_refl p.symbol))
      (subst (λ (n : ℕ). T (eqb (length p.parts) n)) e (eqb_refl (length p.parts)))

  pub head_symbol : T (same_head p q) → p.symbol ≡ q.symbol
  head_symbol h = eqb→eq p.symbol q.symbol (fst_T (eqb p.symbol q.symbol) (eqb (length p.parts) (length q.parts)) h)

  pub head_count : T (same_head p q) → length p.parts ≡ length q.parts
  head_count h =
      eqb→eq (length p.parts) (length q.parts)
      (snd_T (eqb p.symbol q.symbol) (eqb (length p.parts) (length q.parts)) h)

  -- two end records agree by their heads and their parts
  module _ (f : ℕ → ℕ → Bool) where
    pub ends_in : T (same_head p q) → T (pairwise f p.parts q.parts) → T (same_ends f (at_record p) (at_record q))
    ends_in h k = and_T (same_head p q) (pairwise f p.parts q.parts) h k

    pub ends_head : T (same_ends f (at_record p) (at_record q)) → T (same_head p q)
    ends_head h = fst_T (same_head p q) (pairwise f p.parts q.parts) h

    pub ends_parts : T (same_ends f (at_record p) (at_record q)) → T (pairwise f p.parts q.parts)
    ends_parts h = snd_T (same_head p q) (pairwise f p.parts q.parts) h

-- P holds of each part of an end
abbrev pub PartsAll : (ℕ → Type 0) → End → Type 0
PartsAll P (at_open z) = Unit {0}
PartsAll P (at_record q) = All P q.parts

module _ (f g : ℕ → ℕ → Bool) where
  -- from one comparison to another, for parts of which P holds
  pub ends_up : (P : ℕ → Type 0) → ((p q : ℕ) → P p → P q → T (f p q) → T (g p q)) → (x y : End) → PartsAll P x → PartsAll P y
      → T (same_ends f x y) → T (same_ends g x y)
  ends_up P up (at_open z) (at_open w) a b h = h
  ends_up P up (at_open z) (at_record q) a b h = h
  ends_up P up (at_record p) (at_open w) a b h = h
  ends_up P up (at_record p) (at_record q) a b h =
      ends_in p q g (ends_head p q f h) (pairwise_up f g P up p.parts q.parts a b (ends_parts p q f h))

  parts_unit : (x : End) → PartsAll (λ p. Unit {0}) x
  parts_unit (at_open z) = tt
  parts_unit (at_record q) = all_unit q.parts

  pub ends_mono : ((p q : ℕ) → T (f p q) → T (g p q)) → (x y : End) → T (same_ends f x y) → T (same_ends g x y)
  ends_mono up x y = ends_up (λ p. Unit {0}) (λ p q a b. up p q) x y (parts_unit x) (parts_unit y)

  pub ends_flip : ((p q : ℕ) → T (f p q) → T (g q p)) → (x y : End) → T (same_ends f x y) → T (same_ends g y x)
  ends_flip up (at_open z) (at_open w) h = eqb_flip z w h
  ends_flip up (at_open z) (at_record q) h = h
  ends_flip up (at_record p) (at_open w) h = h
  ends_flip up (at_record p) (at_record q) h =
      let k = ends_head p q f h in
      ends_in q p g (head_in q p (sym (head_symbol p q k)) (sym (head_count p q k)))
      (pairwise_flip f g up p.parts q.parts (ends_parts p q f h))

module _ (f : ℕ → ℕ → Bool) where
  pub ends_refl : ((p : ℕ) → T (f p p)) → (x : End) → T (same_ends f x x)
  ends_refl same (at_open z) = eqb_refl z
  ends_refl same (at_record p) = ends_in p p f (head_in p p refl refl) (pairwise_refl f same p.parts)

  pub ends_tr : ((p q r : ℕ) → T (f p q) → T (f q r) → T (f p r)) → (x y z : End) → T (same_ends f x y) → T (same_ends f y z)
      → T (same_ends f x z)
  ends_tr tr (at_open x) (at_open y) (at_open z) h k = eqb_tr x y z h k
  ends_tr tr (at_open x) (at_open y) (at_record r) h k = k
  ends_tr tr (at_open x) (at_record q) z h k = absurd h
  ends_tr tr (at_record p) (at_open y) z h k = absurd h
  ends_tr tr (at_record p) (at_record q) (at_open z) h k = k
  ends_tr tr (at_record p) (at_record q) (at_record r) h k =
      let i = ends_head p q f h in
      let j = ends_head q r f k in
      ends_in p r f (head_in p r (head_symbol p q i ∙ head_symbol q r j) (head_count p q i ∙ head_count q r j))
      (pairwise_tr f tr p.parts q.parts r.parts (ends_parts p q f h) (ends_parts q r f k))
