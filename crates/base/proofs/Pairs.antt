-- Laws of two lists compared place by place.
use mathlib.Core.Path.{◌≡◌, refl, ap}
use mathlib.Core.Bool.{Bool}
use mathlib.Core.List.{List, [], ◌∷◌}
use Prim.Native.Nat.{ℕ, suc}
use native.Mathlib.Omega.{arith}
use lib.Dec.{T}
use lib.ListN.{length}
use Rattle.base.specs.Lists.{All, Zip, z_here, z_there, AllZip, pairwise}
use Rattle.base.proofs.Tests.{fst_T, snd_T, and_T}

-- what holds of each element of a list holds of either side of a pair
pub zip_left : (P : ℕ → Type 0) {ps qs : List ℕ} {p q : ℕ} → All P ps → Zip ps qs p q → P p
zip_left P a z_here = a.0
zip_left P a (z_there z) = zip_left P a.1 z

pub zip_right : (P : ℕ → Type 0) {ps qs : List ℕ} {p q : ℕ} → All P qs → Zip ps qs p q → P q
zip_right P a z_here = a.0
zip_right P a (z_there z) = zip_right P a.1 z

module _ (f : ℕ → ℕ → Bool) where
  pub pairwise_zip : {ps qs : List ℕ} {p q : ℕ} → T (pairwise f ps qs) → Zip ps qs p q → T (f p q)
  pairwise_zip h (z_here {p} {q} {ps} {qs}) = fst_T (f p q) (pairwise f ps qs) h
  pairwise_zip h (z_there {p' = p'} {q' = q'} {ps = ps} {qs = qs} z) = pairwise_zip (snd_T (f p' q') (pairwise f ps qs) h) z

  pub zip_pairwise : (ps qs : List ℕ) → length ps ≡ length qs → ((p q : ℕ) → Zip ps qs p q → T (f p q))
      → T (pairwise f ps qs)
  zip_pairwise [] [] e h = tt
  zip_pairwise [] (q ∷ qs) e h = let z : ⊥ = omega arith in z
  zip_pairwise (p ∷ ps) [] e h = let z : ⊥ = omega arith in z
  zip_pairwise (p ∷ ps) (q ∷ qs) e h =
      and_T (f p q) (pairwise f ps qs) (h p q z_here) (zip_pairwise ps qs (omega arith) (λ a b z. h a b (z_there z)))

  pub pairwise_length : (ps qs : List ℕ) → T (pairwise f ps qs) → length ps ≡ length qs
  pairwise_length [] [] h = refl
  pairwise_length [] (q ∷ qs) h = absurd h
  pairwise_length (p ∷ ps) [] h = absurd h
  pairwise_length (p ∷ ps) (q ∷ qs) h = ap suc (pairwise_length ps qs (snd_T (f p q) (pairwise f ps qs) h))

  pub pairwise_refl : ((p : ℕ) → T (f p p)) → (ps : List ℕ) → T (pairwise f ps ps)
  pairwise_refl same [] = tt
  pairwise_refl same (p ∷ ps) = and_T (f p p) (pairwise f ps ps) (same p) (pairwise_refl same ps)

  pub pairwise_tr : ((p q r : ℕ) → T (f p q) → T (f q r) → T (f p r)) → (ps qs rs : List ℕ) → T (pairwise f ps qs)
      → T (pairwise f qs rs) → T (pairwise f ps rs)
  pairwise_tr tr [] [] rs h k = k
  pairwise_tr tr [] (q ∷ qs) rs h k = absurd h
  pairwise_tr tr (p ∷ ps) [] rs h k = absurd h
  pairwise_tr tr (p ∷ ps) (q ∷ qs) [] h k = k
  pairwise_tr tr (p ∷ ps) (q ∷ qs) (r ∷ rs) h k =
      and_T (f p r) (pairwise f ps rs) (tr p q r (fst_T (f p q) (pairwise f ps qs) h) (fst_T (f q r) (pairwise f qs rs) k))
      (pairwise_tr tr ps qs rs (snd_T (f p q) (pairwise f ps qs) h) (snd_T (f q r) (pairwise f qs rs) k))

-- from one test to another, for elements of which P holds
module _ (f g : ℕ → ℕ → Bool) (P : ℕ → Type 0) (up : (p q : ℕ) → P p → P q → T (f p q) → T (g p q)) where
  pub pairwise_up : (ps qs : List ℕ) → All P ps → All P qs → T (pairwise f ps qs) → T (pairwise g ps qs)
  pairwise_up [] [] a b h = tt
  pairwise_up [] (q ∷ qs) a b h = h
  pairwise_up (p ∷ ps) [] a b h = h
  pairwise_up (p ∷ ps) (q ∷ qs) a b h =
      and_T (g p q) (pairwise g ps qs) (up p q a.0 b.0 (fst_T (f p q) (pairwise f ps qs) h))
      (pairwise_up ps qs a.1 b.1 (snd_T (f p q) (pairwise f ps qs) h))

pub all_unit : (ps : List ℕ) → All (λ p. Unit {0}) ps
all_unit [] = tt
all_unit (p ∷ ps) = (tt, all_unit ps)

pub pairwise_flip : (f g : ℕ → ℕ → Bool) → ((p q : ℕ) → T (f p q) → T (g q p)) → (ps qs : List ℕ) → T (pairwise f ps qs)
    → T (pairwise g qs ps)
pairwise_flip f g up [] [] h = tt
pairwise_flip f g up [] (q ∷ qs) h = h
pairwise_flip f g up (p ∷ ps) [] h = h
pairwise_flip f g up (p ∷ ps) (q ∷ qs) h =
    and_T (g q p) (pairwise g qs ps) (up p q (fst_T (f p q) (pairwise f ps qs) h))
    (pairwise_flip f g up ps qs (snd_T (f p q) (pairwise f ps qs) h))

-- the test and the relation
module _ (f : ℕ → ℕ → Bool) (R : ℕ → ℕ → Type 0) where
  pub zip_in : ((p q : ℕ) → R p q → T (f p q)) → (ps qs : List ℕ) → AllZip R ps qs → T (pairwise f ps qs)
  zip_in h [] [] a = tt
  zip_in h [] (q ∷ qs) a = a
  zip_in h (p ∷ ps) [] a = a
  zip_in h (p ∷ ps) (q ∷ qs) a = and_T (f p q) (pairwise f ps qs) (h p q a.0) (zip_in h ps qs a.1)

  pub zip_out : ((p q : ℕ) → T (f p q) → R p q) → (ps qs : List ℕ) → T (pairwise f ps qs) → AllZip R ps qs
  zip_out h [] [] a = tt
  zip_out h [] (q ∷ qs) a = a
  zip_out h (p ∷ ps) [] a = a
  zip_out h (p ∷ ps) (q ∷ qs) a =
      (h p q (fst_T (f p q) (pairwise f ps qs) a), zip_out h ps qs (snd_T (f p q) (pairwise f ps qs) a))

pub allzip_map : (R S : ℕ → ℕ → Type 0) → ((p q : ℕ) → R p q → S p q) → (ps qs : List ℕ) → AllZip R ps qs → AllZip S ps qs
allzip_map R S f [] [] a = a
allzip_map R S f [] (q ∷ qs) a = a
allzip_map R S f (p ∷ ps) [] a = a
allzip_map R S f (p ∷ ps) (q ∷ qs) a = (f p q a.0, allzip_map R S f ps qs a.1)
