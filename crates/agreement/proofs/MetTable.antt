-- The table of met pairs in words is the paper's table: read, with a pair put in, and empty.
use mathlib.Core.Path.{◌≡◌, refl, sym, ap, ◌∙◌, fun_ext}
use mathlib.Core.Logic.{⊎_elim}
use mathlib.Core.Bool.{Bool, true, false}
use mathlib.Core.List.{List}
use Prim.Native.Nat.{ℕ, max, min, ◌*◌, ◌%◌, ◌^◌, ◌≤◌, ◌<◌}
use native.Mathlib.Omega.{arith}
use borrow.Author.Tests.{eq-eqb, ne_eqb}
use lib.Dec.{eqb}
use lib.ListN.{length, get_or, set, replicate, get_or-replicate, length-replicate, get_or-eq_default}
use lib.Seq.{get_or-set_same, get_or-set_other}
use mir.Val.{bits}
use Rattle.std.specs.Int.{bit_at, w32}
use Rattle.std.specs.Int.RustNames.{bit_or}
use Rattle.std.proofs.lemmas.Nat.Bits.{bit_at-zero, bit_at_set_same, bit_at_set_other}
use Rattle.base.specs.Choice.{upd}
use Rattle.base.proofs.Tests.{not_both}
use Rattle.base.proofs.Changes.{upd_is}
use Rattle.base.proofs.Regions.{lt_or_le}
use Rattle.paper.specs.Sizes.{most_unknowns}
use Rattle.paper.specs.Ends.{is_met, meeting}
use Rattle.agreement.specs.Met.{met_of, settled_in}

-- whether the pair is to be compared: as found, and what it says if it is
module _ (m : ℕ → ℕ → Bool) (x y : ℕ) where
  pub settled_same : x ≡ y → eqb x y ≡ settled_in m x y
  unfolding settled_in
  settled_same e = rw (eq-eqb x y e)

  pub settled_met : (b : Bool) → b ≡ is_met m x y → (x ≡ y → ⊥) → b ≡ settled_in m x y
  unfolding settled_in
  settled_met b e n = rw (ne_eqb x y n) e

  module _ (f : settled_in m x y ≡ false) where
    pub two_unknowns : x ≡ y → ⊥
    two_unknowns e = not_both (settled_in m x y) (sym (settled_same e) ∙ eq-eqb x y e) f

    pub not_met : is_met m x y ≡ false
    unfolding settled_in
    not_met = rw (ne_eqb x y two_unknowns) at f

-- the pair x, y put in: a bit of a word set
pub pair_met : (ws : List ℕ) (x y : ℕ) → length ws ≡ most_unknowns → x < most_unknowns → y < most_unknowns
    → met_of (set ws (max x y) (bit_or (get_or ws (max x y) 0) (1 * 2 ^ min x y % 2 ^ bits w32))) ≡ meeting (met_of ws) x y
unfolding met_of
pair_met ws x y n hx hy =
    upd_is (met_of ws) (met_of words) (max x y) (upd (met_of ws (max x y)) (min x y) true)
    (upd_is (met_of ws (max x y)) (met_of words (max x y)) (min x y) true
    (rw (here, bit_at_set_same w32 (get_or ws (max x y) 0) (min x y) within) refl)
    (λ k d. rw (here, bit_at_set_other w32 (get_or ws (max x y) 0) (min x y) within k d) refl))
    (λ k d. fun_ext λ q. ap (λ (m : ℕ). eqb (bit_at m q) 1) (get_or-set_other ws (max x y) k word 0 d))
  where
    word : ℕ
    word = bit_or (get_or ws (max x y) 0) (1 * 2 ^ min x y % 2 ^ bits w32)

    words : List ℕ
    words = set ws (max x y) word

    within : min x y < bits w32
    within = omega arith

    here : get_or words (max x y) 0 ≡ word
    here = get_or-set_same ws (max x y) word 0 (omega arith)

-- no word has a bit
pub none_met : (n : ℕ) → met_of (replicate n 0) ≡ (λ p q. false)
unfolding met_of
none_met n = fun_ext λ p. fun_ext λ q. rw (zero_word p, bit_at-zero q) refl
  where
    zero_word : (p : ℕ) → ◌≡◌ {A = ℕ} (get_or (replicate n 0) p 0) 0
    zero_word p =
        ⊎_elim (λ (l : p < n). get_or-replicate n p 0 0 l)
        (λ (l : n ≤ p). get_or-eq_default (replicate n 0) 0 {n = p} (omega (arith, length-replicate {A = ℕ} n 0))) (lt_or_le p n)

pub none_settled : (m : ℕ → ℕ → Bool) (x y : ℕ) → m ≡ (λ p q. false) → (x ≡ y → ⊥) → settled_in m x y ≡ false
unfolding settled_in
none_settled m x y e d = rw (ne_eqb x y d, e) refl
