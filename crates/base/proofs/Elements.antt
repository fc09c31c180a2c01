-- Laws of a list's elements: what holds of all, sums, members, and an element taken out.
use mathlib.Core.Path.{◌≡◌, refl, subst, ap}
use mathlib.Core.Logic.{◌⊎◌, inl, inr, ⊎_elim}
use mathlib.Core.List.{List, [], ◌∷◌, ◌++◌, map}
use mathlib.Core.Option.{none, some}
use Prim.Native.Nat.{ℕ, zero, suc, ◌+◌, ◌*◌, ◌≤◌, ◌<◌}
use native.Mathlib.Omega.{arith}
use lib.ListN.{length, get_elem?, get_or, take, drop, set, replicate}
use Rattle.base.specs.Lists.{without, All, total, Member, here, there}

module _ {A : Type 0} where
  pub total_append : (w : A → ℕ) (l m : List A) → total w (l ++ m) ≡ total w l + total w m
  total_append w [] m = omega arith
  total_append w (x ∷ l) m = omega (arith, total_append w l m)

  pub total_without : (w : A → ℕ) (l : List A) (i : ℕ) (j : A) → get_elem? l i ≡ some j → total w (without l i) + w j ≡ total w l
  total_without w [] i j e = absurd (let z : ◌≡◌ {A = ℕ} 0 1 = cc in omega arith)
  total_without w (x ∷ l) zero j e = let e' : x ≡ j = cc in rw e' (omega arith)
  total_without w (x ∷ l) (suc i) j e = omega (arith, total_without w l i j e)

  pub total_le : (w : A → ℕ) (l : List A) (k : ℕ) → ((x : A) → w x ≤ k) → total w l ≤ length l * k
  total_le w [] k h = omega arith
  total_le w (x ∷ l) k h = omega (arith, h x, total_le w l k h)

  pub length_without : (l : List A) (i : ℕ) (j : A) → get_elem? l i ≡ some j → suc (length (without l i)) ≡ length l
  length_without [] i j e = absurd (let z : ◌≡◌ {A = ℕ} 0 1 = cc in omega arith)
  length_without (x ∷ l) zero j e = refl
  length_without (x ∷ l) (suc i) j e = ap suc (length_without l i j e)

  -- a place below the length has an element, and no other has
  pub place_some : (l : List A) (i : ℕ) → i < length l → (j : A) × (get_elem? l i ≡ some j)
  place_some [] i h = absurd (let z : ⊥ = omega arith in z)
  place_some (x ∷ l) zero h = (x, refl)
  place_some (x ∷ l) (suc i) h = place_some l i (omega arith)

  pub some_place : (l : List A) (i : ℕ) (j : A) → get_elem? l i ≡ some j → i < length l
  some_place [] i j e = absurd (let z : ◌≡◌ {A = ℕ} 0 1 = cc in omega arith)
  some_place (x ∷ l) zero j e = omega arith
  some_place (x ∷ l) (suc i) j e = omega (arith, some_place l i j e)

  pub no_place : (l : List A) (i : ℕ) → length l ≤ i → get_elem? l i ≡ none
  no_place [] i h = refl
  no_place (x ∷ l) zero h = absurd (let z : ⊥ = omega arith in z)
  no_place (x ∷ l) (suc i) h = no_place l i (omega arith)

  -- an element, what stands before it and what after
  pub place_split : (l : List A) (i : ℕ) (j : A) → get_elem? l i ≡ some j → l ≡ take i l ++ (j ∷ drop (suc i) l)
  place_split [] i j e = absurd (let z : ◌≡◌ {A = ℕ} 0 1 = cc in omega arith)
  place_split (x ∷ l) zero j e = let e' : x ≡ j = cc in rw e'
  place_split (x ∷ l) (suc i) j e = ap (λ (m : List A). x ∷ m) (place_split l i j e)

  pub all_append : (P : A → Type 0) (l m : List A) → All P l → All P m → All P (l ++ m)
  all_append P [] m a b = b
  all_append P (x ∷ l) m a b = (a.0, all_append P l m a.1 b)

  pub all_right : (P : A → Type 0) (l m : List A) → All P (l ++ m) → All P m
  all_right P [] m a = a
  all_right P (x ∷ l) m a = all_right P l m a.1

  pub all_take : (P : A → Type 0) (l : List A) (n : ℕ) → All P l → All P (take n l)
  all_take P [] zero a = a
  all_take P [] (suc n) a = a
  all_take P (x ∷ l) zero a = tt
  all_take P (x ∷ l) (suc n) a = (a.0, all_take P l n a.1)

  pub all_drop : (P : A → Type 0) (l : List A) (n : ℕ) → All P l → All P (drop n l)
  all_drop P l zero a = a
  all_drop P [] (suc n) a = a
  all_drop P (x ∷ l) (suc n) a = all_drop P l n a.1

  pub all_set : (P : A → Type 0) (l : List A) (i : ℕ) (x : A) → P x → All P l → All P (set l i x)
  all_set P [] i x h a = a
  all_set P (y ∷ l) zero x h a = (h, a.1)
  all_set P (y ∷ l) (suc i) x h a = (a.0, all_set P l i x h a.1)

  pub all_replicate : (P : A → Type 0) (n : ℕ) (x : A) → P x → All P (replicate n x)
  all_replicate P zero x h = tt
  all_replicate P (suc n) x h = (h, all_replicate P n x h)

  pub all_map : (P Q : A → Type 0) → ((x : A) → P x → Q x) → (l : List A) → All P l → All Q l
  all_map P Q f [] a = a
  all_map P Q f (x ∷ l) a = (f x a.0, all_map P Q f l a.1)

  pub all_without : (P : A → Type 0) (l : List A) (i : ℕ) → All P l → All P (without l i)
  all_without P [] i a = a
  all_without P (x ∷ l) zero a = a.1
  all_without P (x ∷ l) (suc i) a = (a.0, all_without P l i a.1)

  pub all_at : (P : A → Type 0) (l : List A) (i : ℕ) (j : A) → get_elem? l i ≡ some j → All P l → P j
  all_at P [] i j e a = absurd (let z : ◌≡◌ {A = ℕ} 0 1 = cc in omega arith)
  all_at P (x ∷ l) zero j e a = let e' : x ≡ j = cc in subst P e' a.0
  all_at P (x ∷ l) (suc i) j e a = all_at P l i j e a.1

  pub all_get_d : (P : A → Type 0) (l : List A) (i : ℕ) (d : A) → P d → All P l → P (get_or l i d)
  all_get_d P [] i d p a = p
  all_get_d P (x ∷ l) zero d p a = a.0
  all_get_d P (x ∷ l) (suc i) d p a = all_get_d P l i d p a.1

  pub all_member : (P : A → Type 0) {j : A} {l : List A} → All P l → Member j l → P j
  all_member P a here = a.0
  all_member P a (there h) = all_member P a.1 h

  pub member_place : {j : A} {l : List A} → Member j l → (i : ℕ) × (get_elem? l i ≡ some j)
  member_place here = (0, refl)
  member_place (there h) = let w = member_place h in (suc w.0, w.1)

  module _ {j : A} where
    pub member_left : {l : List A} (m : List A) → Member j l → Member j (l ++ m)
    member_left m here = here
    member_left m (there h) = there (member_left m h)

    pub member_right : (l : List A) {m : List A} → Member j m → Member j (l ++ m)
    member_right [] h = h
    member_right (k ∷ l) h = there (member_right l h)

    pub member_cons : {k : A} {l : List A} → Member j (k ∷ l) → (j ≡ k) ⊎ Member j l
    member_cons here = inl refl
    member_cons (there h) = inr h

    -- out of its place, and to the front
    pub member_front : (l : List A) (i : ℕ) (k : A) → get_elem? l i ≡ some k → Member j l → Member j (k ∷ without l i)
    member_front [] i k e h = elim h [ ]
    member_front (x ∷ l) zero k e h = let e' : x ≡ k = cc in subst (λ (y : A). Member j (y ∷ l)) e' h
    member_front (x ∷ l) (suc i) k e h =
        ⊎_elim (λ (d : j ≡ x). there (subst (λ (y : A). Member j (y ∷ without l i)) d here))
        (λ (h' : Member j l).
        ⊎_elim (λ (d : j ≡ k). subst (λ (y : A). Member j (y ∷ x ∷ without l i)) d here)
        (λ (h'' : Member j (without l i)). there (there h'')) (member_cons (member_front l i k e h')))
        (member_cons h)

pub member_map : {A B : Type 0} (f : A → B) {a : A} {l : List A} → Member a l → Member (f a) (map f l)
member_map f here = here
member_map f (there h) = there (member_map f h)
