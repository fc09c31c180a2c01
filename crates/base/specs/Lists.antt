-- Lists made from a function, what holds of a list's elements, one by one or in pairs, and sums over lists and over the
-- numbers below n.
use Rattle.std.specs.Prelude.{Bool, true, false, ◌&&◌, List, [], ◌∷◌, ℕ, zero, suc, ◌+◌, ◌<◌, get_or}

module _ {A : Type 0} where
  -- the list without its element at a place
  abbrev pub without : List A → ℕ → List A
  without [] i = []
  without (x ∷ xs) zero = xs
  without (x ∷ xs) (suc i) = x ∷ without xs i

  -- f at n numbers from i on
  abbrev pub list_from : (ℕ → A) → ℕ → ℕ → List A
  list_from f zero i = []
  list_from f (suc n) i = f i ∷ list_from f n (suc i)

  -- P holds of every element
  abbrev pub All : (A → Type 0) → List A → Type 0
  All P [] = Unit {0}
  All P (x ∷ xs) = P x × All P xs

  -- the sum of w over the elements
  abbrev pub total : (A → ℕ) → List A → ℕ
  total w [] = 0
  total w (x ∷ xs) = w x + total w xs

-- every element is a byte, as of any lent slice
abbrev pub Bytes : List ℕ → Type 0
Bytes l = (i : ℕ) → get_or l i 0 < 256

-- an element of a list
pub data Member {A : Type 0} (a : A) : List A → Type 0 where
  here : {l : List A} → Member a (a ∷ l)
  there : {b : A} {l : List A} → Member a l → Member a (b ∷ l)

-- p and q stand at one place of two lists
pub data Zip : List ℕ → List ℕ → ℕ → ℕ → Type 0 where
  z_here : {p q : ℕ} {ps qs : List ℕ} → Zip (p ∷ ps) (q ∷ qs) p q
  z_there : {p q p' q' : ℕ} {ps qs : List ℕ} → Zip ps qs p q → Zip (p' ∷ ps) (q' ∷ qs) p q

-- two lists of one length, R holding at each place
abbrev pub AllZip : (ℕ → ℕ → Type 0) → List ℕ → List ℕ → Type 0
AllZip R [] [] = Unit {0}
AllZip R [] (q ∷ qs) = ⊥
AllZip R (p ∷ ps) [] = ⊥
AllZip R (p ∷ ps) (q ∷ qs) = R p q × AllZip R ps qs

-- the same as a test
abbrev pub pairwise : (ℕ → ℕ → Bool) → List ℕ → List ℕ → Bool
pairwise f [] [] = true
pairwise f [] (q ∷ qs) = false
pairwise f (p ∷ ps) [] = false
pairwise f (p ∷ ps) (q ∷ qs) = f p q && pairwise f ps qs

-- the sum of f over the numbers below n
abbrev pub sum : ℕ → (ℕ → ℕ) → ℕ
sum zero f = 0
sum (suc n) f = f n + sum n f
