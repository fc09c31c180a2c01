-- Laws of a list made from a function: f at n numbers from i on.
use mathlib.Core.Path.{◌≡◌, refl, sym, subst, ap, ap₂, ◌∙◌}
use mathlib.Core.List.{List, [], ◌∷◌, ◌++◌}
use mathlib.Core.Option.{some}
use Prim.Native.Nat.{ℕ, zero, suc, ◌+◌, ◌-◌, ◌≤◌, ◌<◌}
use native.Mathlib.Decide.{ℕ_discrete}
use native.Mathlib.Omega.{arith}
use lib.ListN.{length, get_or, get_elem?}
use Rattle.base.specs.Lists.{without, list_from, All}

module _ {A : Type 0} where
  pub from_length : (f : ℕ → A) (n i : ℕ) → length (list_from f n i) ≡ n
  from_length f zero i = refl
  from_length f (suc n) i = ap suc (from_length f n (suc i))

  pub from_place : (f : ℕ → A) (n i k : ℕ) → k < n → get_elem? (list_from f n i) k ≡ some (f (i + k))
  from_place f zero i k l = absurd (let z : ⊥ = omega arith in z)
  from_place f (suc n) i zero l = ap (λ (m : ℕ). some (f m)) (omega arith)
  from_place f (suc n) i (suc k) l = from_place f n (suc i) k (omega arith) ∙ ap (λ (m : ℕ). some (f m)) (omega arith)

  pub from_get_d : (f : ℕ → A) (n i k : ℕ) (a : A) → k < n → get_or (list_from f n i) k a ≡ f (i + k)
  from_get_d f zero i k a l = absurd (let z : ⊥ = omega arith in z)
  from_get_d f (suc n) i zero a l = ap f (omega arith)
  from_get_d f (suc n) i (suc k) a l = from_get_d f n (suc i) k a (omega arith) ∙ ap f (omega arith)

  pub from_same : (f g : ℕ → A) (n i : ℕ) → ((k : ℕ) → i ≤ k → k < i + n → g k ≡ f k) → list_from g n i ≡ list_from f n i
  from_same f g zero i h = refl
  from_same f g (suc n) i h =
      ap₂ (λ (a : A) (l : List A). a ∷ l) (h i (omega arith) (omega arith)) (from_same f g n (suc i) (λ k a b. h k (omega arith) (omega arith)))

  from_moved : (f g : ℕ → A) (n i : ℕ) → ((k : ℕ) → i ≤ k → k < i + n → g k ≡ f (suc k)) → list_from g n i ≡ list_from f n (suc i)
  from_moved f g zero i h = refl
  from_moved f g (suc n) i h =
      ap₂ (λ (a : A) (l : List A). a ∷ l) (h i (omega arith) (omega arith)) (from_moved f g n (suc i) (λ k a b. h k (omega arith) (omega arith)))

  -- what stands before i + p is as it was, and what stands from there on has moved up
  pub from_without : (f g : ℕ → A) (p n i : ℕ) → p ≤ n → ((k : ℕ) → k < i + p → g k ≡ f k)
      → ((k : ℕ) → i + p ≤ k → k < i + n → g k ≡ f (suc k)) → list_from g n i ≡ without (list_from f (suc n) i) p
  from_without f g zero n i h same moved = from_moved f g n i (λ k a b. moved k (omega arith) b)
  from_without f g (suc p) zero i h same moved = absurd (let z : ⊥ = omega arith in z)
  from_without f g (suc p) (suc n) i h same moved =
      ap₂ (λ (a : A) (l : List A). a ∷ l) (same i (omega arith))
      (from_without f g p n (suc i) (omega arith) (λ k a. same k (omega arith)) (λ k a b. moved k (omega arith) (omega arith)))

  pub from_last : (f : ℕ → A) (n i : ℕ) → list_from f (suc n) i ≡ list_from f n i ++ (f (i + n) ∷ [])
  from_last f zero i = ap (λ (k : ℕ). f k ∷ []) (omega arith)
  from_last f (suc n) i =
      ap (λ (l : List A). f i ∷ l) (from_last f n (suc i) ∙ ap (λ (k : ℕ). list_from f n (suc i) ++ (f k ∷ [])) (omega arith))

  pub from_all : (P : A → Type 0) (f : ℕ → A) (n i : ℕ) → ((k : ℕ) → i ≤ k → k < i + n → P (f k)) → All P (list_from f n i)
  from_all P f zero i h = tt
  from_all P f (suc n) i h = (h i (omega arith) (omega arith), from_all P f n (suc i) (λ k a b. h k (omega arith) (omega arith)))

  pub all_from : (P : A → Type 0) (f : ℕ → A) (n i : ℕ) → All P (list_from f n i) → (k : ℕ) → i ≤ k → k < i + n → P (f k)
  all_from P f zero i a k l m = absurd (let z : ⊥ = omega arith in z)
  all_from P f (suc n) i a k l m = go (ℕ_discrete i k) (λ h. all_from P f n (suc i) a.1 k h (omega arith))
    where
      go : Dec (i ≡ k) → (suc i ≤ k → P (f k)) → P (f k)
      go (yes e) later = subst (λ (j : ℕ). P (f j)) e a.0
      go (no e) later = later (omega arith)

  -- two such lists are the same: so are their lengths and their elements
  module _ (f g : ℕ → A) where
    pub same_count : (n m i : ℕ) → list_from f n i ≡ list_from g m i → n ≡ m
    same_count n m i e = sym (from_length f n i) ∙ ap length e ∙ from_length g m i

    pub same_from : (n m i : ℕ) → list_from f n i ≡ list_from g m i → (k : ℕ) → i ≤ k → k < i + n → f k ≡ g k
    same_from n m i e k l h =
        let c : n ≡ m = same_count n m i e in
        let j : i + (k - i) ≡ k = omega arith in
        let p : some (f (i + (k - i))) ≡ some (g (i + (k - i))) =
        sym (from_place f n i (k - i) (omega arith)) ∙ ap (λ (l : List A). get_elem? l (k - i)) e ∙ from_place g m i (k - i) (omega arith) in
        subst (λ (x : ℕ). f x ≡ g x) j (cc)
