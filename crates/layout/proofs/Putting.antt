-- Laws of putting bytes into a buffer one piece after the other: two pieces, and the pieces of a list in turn.
use Prim.Native.Nat.{ℕ, suc, ◌+◌, ◌-◌, ◌≤◌, ◌<◌}
use mathlib.Core.Path.{◌≡◌, refl, sym, ap, subst, ◌∙◌}
use mathlib.Core.List.{List, [], ◌++◌, append-nil}
use native.Mathlib.Nat.{sub-zero, add-zero}
use native.Mathlib.Omega.{arith}
use lib.ListN.{length, length-append, take-append-drop}
use Rattle.base.specs.Lists.{list_from}
use Rattle.base.specs.Regions.{put}
use Rattle.base.specs.Puts.{PutFrom}
use Rattle.base.proofs.Regions.{length_put}
use Rattle.paper.specs.Files.{each}
use Rattle.layout.proofs.ChangeLaws.{put_then}

-- nothing put
pub put_nothing : (at : ℕ) (d : List ℕ) → put at [] d ≡ d
unfolding put
put_nothing at d = rw (append-nil, add-zero at) (take-append-drop at d)

-- a piece leaves the buffer's length
pub put_long : {at : ℕ} {bs b a : List ℕ} {next : ℕ} → PutFrom at bs b a next → at + length bs ≤ length b → length a ≡ length b
put_long {at} {bs} {b} w h = ap length w.bytes ∙ length_put at bs b h

-- one piece and then another are both together
pub then_put : {at : ℕ} {us vs d d1 d2 : List ℕ} {p q : ℕ} → PutFrom at us d d1 p → PutFrom p vs d1 d2 q
    → at + length us + length vs ≤ length d → PutFrom at (us ++ vs) d d2 q
then_put {at} {us} {vs} {d} {d1} {d2} {p} {q} u v h =
    record {
      past = omega (arith, u.past, v.past, length-append us vs);
      bytes = v.bytes ∙ rw (u.past, u.bytes) (put_then at us vs d h);
    }

-- f at n numbers, each put by w: i of them are put, up to `here`
module _ {A : Type 0} (w : A → List ℕ) (f : ℕ → A) (n at : ℕ) (d₀ : List ℕ) where
  abbrev left_of : ℕ → List ℕ
  left_of i = each w (list_from f (n - i) i)

  pub record EachTo (i here : ℕ) (d : List ℕ) : Type 0 where
    pub kept : put here (left_of i) d ≡ put at (each w (list_from f n 0)) d₀
    pub past : here + length (left_of i) ≡ at + length (each w (list_from f n 0))
    pub long : length d ≡ length d₀

  pub none_put : EachTo 0 at d₀
  none_put = record { kept = rw sub-zero refl; past = rw sub-zero refl; long = refl }

  module _ (i here : ℕ) (d : List ℕ) (h : EachTo i here d) where
    pub each_long : length d ≡ length d₀
    each_long = h.long

    pub all_put : n ≤ i → PutFrom at (each w (list_from f n 0)) d₀ d here
    all_put g =
        let z : n - i ≡ 0 = omega arith in
        let e : left_of i ≡ [] = rw z refl in
        record {
          past = omega (arith, h.past, ap length e);
          bytes = sym (put_nothing here d) ∙ ap (λ (l : List ℕ). put here l d) (sym e) ∙ h.kept;
        }

    module _ (g : i < n) (most : at + length (each w (list_from f n 0)) ≤ length d₀) where
      one_left : left_of i ≡ w (f i) ++ left_of (i + 1)
      one_left =
          let z : n - i ≡ suc (n - (i + 1)) = omega arith in
          let s : suc i ≡ i + 1 = omega arith in
          ap (λ (k : ℕ). each w (list_from f k i)) z ∙ ap (λ (k : ℕ). w (f i) ++ each w (list_from f (n - (i + 1)) k)) s

      split : length (left_of i) ≡ length (w (f i)) + length (left_of (i + 1))
      split = ap length one_left ∙ length-append (w (f i)) (left_of (i + 1))

      -- the i-th put as x, which f gives or which was read where it stands
      module _ (x : A) (e : x ≡ f i) where
        pub one_fits : here + length (w x) ≤ length d
        one_fits = rw e (omega (arith, h.past, h.long, split))

        pub one_put : (d' : List ℕ) (next : ℕ) → PutFrom here (w x) d d' next → EachTo (i + 1) next d'
        one_put d' next q =
            let p : PutFrom here (w (f i)) d d' next = subst (λ (y : A). PutFrom here (w y) d d' next) e q in
            record {
              kept =
                  ap (λ (k : ℕ). put k (left_of (i + 1)) d') p.past
                  ∙ ap (put (here + length (w (f i))) (left_of (i + 1))) p.bytes
                  ∙ put_then here (w (f i)) (left_of (i + 1)) d (omega (arith, h.past, h.long, split))
                  ∙ ap (λ (l : List ℕ). put here l d) (sym one_left)
                  ∙ h.kept;
              past = omega (arith, p.past, h.past, split);
              long = put_long q one_fits ∙ h.long;
            }
