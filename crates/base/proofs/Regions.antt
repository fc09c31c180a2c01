-- Laws of regions: lengths, what stands at each index, what a write to a part of a slice and a loop that moves or copies in leave,
-- and put against get.
use Prim.Native.Nat.{ℕ, suc, ◌+◌, ◌-◌, ◌≤◌, ◌<◌}
use mathlib.Core.Path.{◌≡◌, refl, sym, ap, subst, ◌∙◌}
use mathlib.Core.Logic.{◌⊎◌, inl, inr}
use mathlib.Core.List.{List, ◌++◌}
use borrow.Rule.Slice.PartMut.{put_mid}
use Rattle.std.proofs.lemmas.Slice.{put_mid-paste}
use lib.ListN.{length, get_or, take, drop, set, length-append, length-take, length-drop, length-set, get_or-append, replicate, length-replicate, get_or-replicate}
use lib.Seq.{length-take-le, get_or-take, get_or-drop, get_or-append-add, ext_get_or, get_or-set_same, get_or-set_other, paste, paste-zero, paste-suc, take_all}
use native.Mathlib.Numerals.{add-one}
use native.Mathlib.Nat.{add-sub_of_le, sub_self}
use native.Mathlib.Decide.{dec_lt, ℕ_discrete}
use native.Mathlib.Omega.{arith}
use Rattle.base.specs.Regions.{put, get, shifted, gone}

module _ (at : ℕ) (vs d : List ℕ) (fits : at + length vs ≤ length d) where
  head_length : length (take at d ++ vs) ≡ at + length vs
  head_length = length-append (take at d) vs ∙ ap (λ (k : ℕ). k + length vs) (length-take-le at d (omega arith))

  pub length_put : length (put at vs d) ≡ length d
  unfolding put
  length_put = length-append (take at d ++ vs) (drop (at + length vs) d) ∙ rw (head_length, length-drop (at + length vs) d) (omega arith)

  pub put_before : (j : ℕ) → j < at → get_or (put at vs d) j 0 ≡ get_or d j 0
  unfolding put
  put_before j h =
      let p : length (take at d) ≡ at = length-take-le at d (omega arith) in
      let q : length (take at d ++ vs) ≡ at + length vs = head_length in
      get_or-append (take at d ++ vs) (drop (at + length vs) d) 0 j (omega arith) ∙ get_or-append (take at d) vs 0 j (omega arith) ∙ get_or-take at d j 0 h

  pub put_in : (j : ℕ) → j < length vs → get_or (put at vs d) (at + j) 0 ≡ get_or vs j 0
  unfolding put
  put_in j h =
      let p : length (take at d) ≡ at = length-take-le at d (omega arith) in
      let q : length (take at d ++ vs) ≡ at + length vs = head_length in
      get_or-append (take at d ++ vs) (drop (at + length vs) d) 0 (at + j) (omega arith) ∙ subst (λ (k : ℕ). get_or (take at d ++ vs) (k + j) 0 ≡ get_or vs j 0) p (get_or-append-add (take at d) vs j 0)

  pub put_after : (j : ℕ) → at + length vs ≤ j → get_or (put at vs d) j 0 ≡ get_or d j 0
  unfolding put
  put_after j h =
      let q : length (take at d ++ vs) ≡ at + length vs = head_length in
      let e : length (take at d ++ vs) + (j - (at + length vs)) ≡ j = omega arith in
      subst (λ (k : ℕ). get_or (put at vs d) k 0 ≡ get_or d j 0) e
      (get_or-append-add (take at d ++ vs) (drop (at + length vs) d) (j - (at + length vs)) 0 ∙ get_or-drop (at + length vs) d (j - (at + length vs)) 0 ∙ ap (λ (k : ℕ). get_or d k 0) (add-sub_of_le h))

-- what a write to a part of a slice leaves, n bytes from `at` on: the part became vs
pub part_put : (at n : ℕ) (d part vs : List ℕ) → part ≡ vs → n ≡ length vs → put_mid at n d part ≡ put at vs d
unfolding put
part_put at n d part vs e h = put_mid-paste at n d part vs (length vs) e (sym h) refl ∙ rw (take_all (length vs) vs (omega arith)) refl

-- a test with both its outcomes
pub lt_or_le : (i j : ℕ) → (i < j) ⊎ (j ≤ i)
lt_or_le i j = elim (dec_lt i j) [ yes p ↦ inl p | no n ↦ inr (omega arith) ]

module _ (at n : ℕ) (d : List ℕ) (fits : at + n ≤ length d) where
  pub length_get : length (get at n d) ≡ n
  unfolding get
  length_get = simp (length-take, length-drop) (omega arith)

  pub get_at : (i : ℕ) → i < n → get_or (get at n d) i 0 ≡ get_or d (at + i) 0
  unfolding get
  get_at i h = get_or-take n (drop at d) i 0 h ∙ get_or-drop at d i 0

-- an element of a part of a slice
pub part_at : (at n i : ℕ) (d : List ℕ) → i < n → get_or (take (at + n - at) (drop at d)) i 0 ≡ get_or d (at + i) 0
part_at at n i d h = get_or-take (at + n - at) (drop at d) i 0 (omega arith) ∙ get_or-drop at d i 0

module _ (w at i : ℕ) (d : List ℕ) (low : at ≤ i) (high : i + w ≤ length d) where
  moved_length : length (get (at + w) (i - at) d) ≡ i - at
  moved_length = length_get (at + w) (i - at) d (omega arith)

  pub length_shifted : length (shifted w at i d) ≡ length d
  unfolding shifted
  length_shifted = length_put at (get (at + w) (i - at) d) d (rw moved_length (omega arith))

  shifted_paste : shifted w at i d ≡ paste d at (drop (at + w) d) (i - at)
  unfolding shifted put get
  shifted_paste = rw moved_length refl

  pub shifted_after : (k : ℕ) → i ≤ k → get_or (shifted w at i d) k 0 ≡ get_or d k 0
  unfolding shifted
  shifted_after k h = put_after at (get (at + w) (i - at) d) d (rw moved_length (omega arith)) k (rw moved_length (omega arith))

  pub shifted_before : (k : ℕ) → k < at → get_or (shifted w at i d) k 0 ≡ get_or d k 0
  unfolding shifted
  shifted_before k h = put_before at (get (at + w) (i - at) d) d (rw moved_length (omega arith)) k h

  pub shifted_in : (k : ℕ) → at ≤ k → k < i → get_or (shifted w at i d) k 0 ≡ get_or d (k + w) 0
  unfolding shifted
  shifted_in k h1 h2 =
      let e : at + (k - at) ≡ k = omega arith in
      let f : at + w + (k - at) ≡ k + w = omega arith in
      subst (λ (m : ℕ). get_or (shifted w at i d) m 0 ≡ get_or d (k + w) 0) e
      (put_in at (get (at + w) (i - at) d) d (rw moved_length (omega arith)) (k - at) (rw moved_length (omega arith))
      ∙ get_at (at + w) (i - at) d (omega arith) (k - at) (omega arith) ∙ ap (λ (m : ℕ). get_or d m 0) f)

shift_none : (w at : ℕ) (d : List ℕ) → at + w ≤ length d → d ≡ shifted w at at d
shift_none w at d h = paste-zero d at (drop (at + w) d) ∙ ap (paste d at (drop (at + w) d)) (sym (sub_self at)) ∙ sym (shifted_paste w at at d (omega arith) h)

shift_step : (w at i : ℕ) (d : List ℕ) → at ≤ i → i + w < length d
    → set (shifted w at i d) i (get_or (shifted w at i d) (i + w) 0) ≡ shifted w at (i + 1) d
shift_step w at i d h1 h2 =
    let s : List ℕ = drop (at + w) d in
    let e : at + (i - at) ≡ i = omega arith in
    let f : i + w ≡ at + w + (i - at) = omega arith in
    let n : suc (i - at) ≡ i + 1 - at = omega arith in
    let v : get_or (shifted w at i d) (i + w) 0 ≡ get_or s (i - at) 0 =
    shifted_after w at i d h1 (omega arith) (i + w) (omega arith) ∙ ap (λ (m : ℕ). get_or d m 0) f ∙ sym (get_or-drop (at + w) d (i - at) 0) in
    rw v
    (rw (shifted_paste w at i d h1 (omega arith), shifted_paste w at (i + 1) d (omega arith) (omega arith))
    (subst (λ (m : ℕ). set (paste d at s (i - at)) m (get_or s (i - at) 0) ≡ paste d at s (i + 1 - at)) e
    (paste-suc d at s (i - at) 0 (omega arith) (rw length-drop (omega arith)) ∙ ap (paste d at s) n)))

-- what a loop that closes a gap asks, with premises as they stand in code: i bytes have moved
pub shift_start : (w at : ℕ) (d : List ℕ) → at + w ≤ length d → d ≡ shifted w at (at + 0) d
shift_start w at d h = let z : at ≡ at + 0 = omega arith in subst (λ (m : ℕ). d ≡ shifted w at m d) z (shift_none w at d h)

pub shift_again : (w at i e : ℕ) (d run : List ℕ) → i < e - w - at → e ≤ length d → run ≡ shifted w at (at + i) d
    → set run (at + i) (get_or run (at + w + i) 0) ≡ shifted w at (at + (i + 1)) d
shift_again w at i e d run h1 h2 q =
    let a : at + i + w ≡ at + w + i = omega arith in
    let b : at + i + 1 ≡ at + (i + 1) = omega arith in
    subst (λ (m : ℕ). set run (at + i) (get_or run m 0) ≡ shifted w at (at + (i + 1)) d) a
    (subst (λ (m : ℕ). set run (at + i) (get_or run (at + i + w) 0) ≡ shifted w at m d) b
    (rw q (shift_step w at (at + i) d (omega arith) (omega arith))))

pub gone_made : (w at i e : ℕ) (d run out : List ℕ) → at + w ≤ e → i ≤ e - w - at → e - w - at ≤ i → run ≡ shifted w at (at + i) d
    → out ≡ put (e - w) (replicate w 0) run → out ≡ gone w at e d
unfolding gone
gone_made w at i e d run out h h1 h2 q o =
    let n : at + i ≡ e - w = omega arith in
    o ∙ ap (put (e - w) (replicate w 0)) (q ∙ ap (λ (m : ℕ). shifted w at m d) n)

-- a gap that was closed
module _ (w at e : ℕ) (d : List ℕ) (low : at + w ≤ e) (high : e ≤ length d) where
  shifted_long : length (shifted w at (e - w) d) ≡ length d
  shifted_long = length_shifted w at (e - w) d (omega arith) (omega arith)

  zeros_fit : e - w + length {A = ℕ} (replicate w 0) ≤ length (shifted w at (e - w) d)
  zeros_fit = rw (shifted_long, length-replicate {A = ℕ} w 0) (omega arith)

  pub length_gone : length (gone w at e d) ≡ length d
  unfolding gone
  length_gone = length_put (e - w) (replicate w 0) (shifted w at (e - w) d) zeros_fit ∙ shifted_long

  pub gone_before : (j : ℕ) → j < at → get_or (gone w at e d) j 0 ≡ get_or d j 0
  unfolding gone
  gone_before j h =
      put_before (e - w) (replicate w 0) (shifted w at (e - w) d) zeros_fit j (omega arith) ∙ shifted_before w at (e - w) d (omega arith) (omega arith) j h

  pub gone_in : (j : ℕ) → at ≤ j → j < e - w → get_or (gone w at e d) j 0 ≡ get_or d (j + w) 0
  unfolding gone
  gone_in j h1 h2 =
      put_before (e - w) (replicate w 0) (shifted w at (e - w) d) zeros_fit j h2 ∙ shifted_in w at (e - w) d (omega arith) (omega arith) j h1 h2

  pub gone_freed : (j : ℕ) → e - w ≤ j → j < e → get_or (gone w at e d) j 0 ≡ 0
  unfolding gone
  gone_freed j h1 h2 =
      let n : e - w + (j - (e - w)) ≡ j = omega arith in
      subst (λ (m : ℕ). get_or (put (e - w) (replicate w 0) (shifted w at (e - w) d)) m 0 ≡ 0) n
      (put_in (e - w) (replicate w 0) (shifted w at (e - w) d) zeros_fit (j - (e - w)) (rw (length-replicate {A = ℕ} w 0) (omega arith)) ∙ get_or-replicate w (j - (e - w)) 0 0 (omega arith))

  pub gone_after : (j : ℕ) → e ≤ j → get_or (gone w at e d) j 0 ≡ get_or d j 0
  unfolding gone
  gone_after j h =
      put_after (e - w) (replicate w 0) (shifted w at (e - w) d) zeros_fit j (rw (length-replicate {A = ℕ} w 0) (omega arith))
      ∙ shifted_after w at (e - w) d (omega arith) (omega arith) j (omega arith)

-- a list vs copied in, element by element from the front
module _ (at n : ℕ) (d vs : List ℕ) where
  pub push_none : d ≡ put at (take 0 vs) d
  unfolding put
  push_none = paste-zero d at vs

  pub push_more : (i : ℕ) (l : List ℕ) → at + n ≤ length d → length vs ≡ n → i < n → l ≡ put at (take i vs) d → set l (at + i) (get_or vs i 0) ≡ put at (take (i + 1) vs) d
  unfolding put
  push_more i l h1 h2 h3 e =
      let a : length (take i vs) ≡ i = length-take-le i vs (omega arith) in
      let b : length (take (suc i) vs) ≡ suc i = length-take-le (suc i) vs (omega arith) in
      rw (e, add-one, a, b) (paste-suc d at vs i 0 (omega arith) (omega arith))

  pub push_all : (i : ℕ) (l : List ℕ) → length vs ≡ n → i ≤ n → n ≤ i → l ≡ put at (take i vs) d → l ≡ put at vs d
  push_all i l h1 h2 h3 e = e ∙ rw (take_all i vs (omega arith)) refl

-- a region is determined by its bytes; what was put is got; a region apart from it stays
pub get_same : (at n : ℕ) (d e : List ℕ) → at + n ≤ length d → at + n ≤ length e → ((j : ℕ) → at ≤ j → j < at + n → get_or e j 0 ≡ get_or d j 0) → get at n e ≡ get at n d
get_same at n d e hd he h =
    let a = length_get at n d hd in
    let b = length_get at n e he in
    ext_get_or 0 (get at n e) (get at n d) (b ∙ sym a) λ i l.
    get_at at n e he i (omega arith) ∙ h (at + i) (omega arith) (omega arith) ∙ sym (get_at at n d hd i (omega arith))

-- a region got, changed at one place and put back is that place changed
pub put_set : (at n : ℕ) (d : List ℕ) (x m : ℕ) → at + n ≤ length d → x < n → put at (set (get at n d) x m) d ≡ set d (at + x) m
put_set at n d x m fits l =
    ext_get_or 0 (put at vs d) (set d (at + x) m) (length_put at vs d fits' ∙ sym (length-set d (at + x) m)) (λ i h. at_index i (lt_or_le i at) (lt_or_le i (at + n)))
  where
    vs : List ℕ
    vs = set (get at n d) x m

    got : length (get at n d) ≡ n
    got = length_get at n d fits

    long : length vs ≡ n
    long = length-set (get at n d) x m ∙ got

    fits' : at + length vs ≤ length d
    fits' = omega (arith, long)

    inside : (k : ℕ) → k < n → Dec (k ≡ x) → get_or vs k 0 ≡ get_or (set d (at + x) m) (at + k) 0
    inside k h (yes e) =
        subst (λ (j : ℕ). get_or vs j 0 ≡ get_or (set d (at + x) m) (at + j) 0) (sym e)
        (get_or-set_same (get at n d) x m 0 (omega (arith, got)) ∙ sym (get_or-set_same d (at + x) m 0 (omega arith)))
    inside k h (no e) =
        get_or-set_other (get at n d) x k m 0 e ∙ get_at at n d fits k h ∙ sym (get_or-set_other d (at + x) (at + k) m 0 (λ q. e (omega arith)))

    at_index : (i : ℕ) → (i < at) ⊎ (at ≤ i) → (i < at + n) ⊎ (at + n ≤ i) → get_or (put at vs d) i 0 ≡ get_or (set d (at + x) m) i 0
    at_index i (inl a) b = put_before at vs d fits' i a ∙ sym (get_or-set_other d (at + x) i m 0 (λ q. let z : ⊥ = omega arith in z))
    at_index i (inr a) (inl b) =
        let e : at + (i - at) ≡ i = omega arith in
        subst (λ (j : ℕ). get_or (put at vs d) j 0 ≡ get_or (set d (at + x) m) j 0) e
        (put_in at vs d fits' (i - at) (omega (arith, long)) ∙ inside (i - at) (omega arith) (ℕ_discrete (i - at) x))
    at_index i (inr a) (inr b) =
        put_after at vs d fits' i (omega (arith, long)) ∙ sym (get_or-set_other d (at + x) i m 0 (λ q. let z : ⊥ = omega arith in z))

-- a region that is got and put back is as it was
pub put_got : (at n : ℕ) (d : List ℕ) → at + n ≤ length d → put at (get at n d) d ≡ d
put_got at n d fits = ext_get_or 0 (put at vs d) d (length_put at vs d fits') (λ i h. at_index i (lt_or_le i at) (lt_or_le i (at + n)))
  where
    vs : List ℕ
    vs = get at n d

    long : length vs ≡ n
    long = length_get at n d fits

    fits' : at + length vs ≤ length d
    fits' = omega (arith, long)

    at_index : (i : ℕ) → (i < at) ⊎ (at ≤ i) → (i < at + n) ⊎ (at + n ≤ i) → get_or (put at vs d) i 0 ≡ get_or d i 0
    at_index i (inl a) b = put_before at vs d fits' i a
    at_index i (inr a) (inl b) =
        let e : at + (i - at) ≡ i = omega arith in
        subst (λ (j : ℕ). get_or (put at vs d) j 0 ≡ get_or d j 0) e
        (put_in at vs d fits' (i - at) (omega (arith, long)) ∙ get_at at n d fits (i - at) (omega arith))
    at_index i (inr a) (inr b) = put_after at vs d fits' i (omega (arith, long))

-- two regions apart, the first before the second
module _ (at : ℕ) (vs : List ℕ) (b : ℕ) (d : List ℕ) (apart : at + length vs ≤ b) where
  pub get_put : (n : ℕ) → b + n ≤ length d → get b n (put at vs d) ≡ get b n d
  get_put n fits =
      let l = length_put at vs d (omega arith) in
      get_same b n d (put at vs d) fits (omega arith) (λ j h k. put_after at vs d (omega arith) j (omega arith))

  pub put_put : (ws : List ℕ) → b + length ws ≤ length d → put at vs (put b ws d) ≡ put b ws (put at vs d)
  put_put ws fits =
      ext_get_or 0 (put at vs (put b ws d)) (put b ws (put at vs d)) (outer ∙ lb ∙ sym (inner ∙ la))
      (λ i h. at_index i (lt_or_le i at) (lt_or_le i (at + length vs)) (lt_or_le i b) (lt_or_le i (b + length ws)))
    where
      fa : at + length vs ≤ length d
      fa = omega arith

      la : length (put at vs d) ≡ length d
      la = length_put at vs d fa

      lb : length (put b ws d) ≡ length d
      lb = length_put b ws d fits

      fo : at + length vs ≤ length (put b ws d)
      fo = omega (arith, lb)

      fi : b + length ws ≤ length (put at vs d)
      fi = omega (arith, la)

      outer : length (put at vs (put b ws d)) ≡ length (put b ws d)
      outer = length_put at vs (put b ws d) fo

      inner : length (put b ws (put at vs d)) ≡ length (put at vs d)
      inner = length_put b ws (put at vs d) fi

      P : ℕ → Type 0
      P i = get_or (put at vs (put b ws d)) i 0 ≡ get_or (put b ws (put at vs d)) i 0

      in_first : (k : ℕ) → k < length vs → P (at + k)
      in_first k h = put_in at vs (put b ws d) fo k h ∙ sym (put_before b ws (put at vs d) fi (at + k) (omega arith) ∙ put_in at vs d fa k h)

      in_second : (k : ℕ) → k < length ws → P (b + k)
      in_second k h = put_after at vs (put b ws d) fo (b + k) (omega arith) ∙ put_in b ws d fits k h ∙ sym (put_in b ws (put at vs d) fi k h)

      at_index : (i : ℕ) → (i < at) ⊎ (at ≤ i) → (i < at + length vs) ⊎ (at + length vs ≤ i) → (i < b) ⊎ (b ≤ i) → (i < b + length ws) ⊎ (b + length ws ≤ i) → P i
      at_index i (inl p) q r s =
          put_before at vs (put b ws d) fo i p ∙ put_before b ws d fits i (omega arith) ∙ sym (put_before b ws (put at vs d) fi i (omega arith) ∙ put_before at vs d fa i p)
      at_index i (inr p) (inl q) r s =
          let e : at + (i - at) ≡ i = omega arith in
          subst P e (in_first (i - at) (omega arith))
      at_index i (inr p) (inr q) (inl r) s =
          put_after at vs (put b ws d) fo i q ∙ put_before b ws d fits i r ∙ sym (put_before b ws (put at vs d) fi i r ∙ put_after at vs d fa i q)
      at_index i (inr p) (inr q) (inr r) (inl s) =
          let e : b + (i - b) ≡ i = omega arith in
          subst P e (in_second (i - b) (omega arith))
      at_index i (inr p) (inr q) (inr r) (inr s) =
          put_after at vs (put b ws d) fo i q ∙ put_after b ws d fits i s ∙ sym (put_after b ws (put at vs d) fi i s ∙ put_after at vs d fa i q)

-- a gap that is closed after the region
pub put_gone : (at : ℕ) (vs : List ℕ) (w b e : ℕ) (d : List ℕ) → at + length vs ≤ b → b + w ≤ e → e ≤ length d
    → put at vs (gone w b e d) ≡ gone w b e (put at vs d)
unfolding gone shifted
put_gone at vs w b e d apart low high =
    let m : List ℕ = get (b + w) (e - w - b) d in
    let l : length (get (b + w) (e - w - b) d) ≡ e - w - b = length_get (b + w) (e - w - b) d (omega arith) in
    let x : length (put b m d) ≡ length d = length_put b m d (omega (arith, l)) in
    let z : length {A = ℕ} (replicate w 0) ≡ w = length-replicate {A = ℕ} w 0 in
    put_put at vs (e - w) (put b m d) (omega arith) (replicate w 0) (omega (arith, z, x))
    ∙ ap (put (e - w) (replicate w 0)) (put_put at vs b d apart m (omega (arith, l)) ∙ ap (λ (n : List ℕ). put b n (put at vs d)) (sym (get_put at vs (b + w) d (omega arith) (e - w - b) (omega arith))))
