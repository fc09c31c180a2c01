-- Laws of the calls: what a step leaves, which keeps the bytes ready for the next, and the turns of a list of places.
use Rattle.std.specs.Prelude.{Result, Ok, Err}
use mathlib.Core.Path.{◌≡◌, refl, sym, subst, ◌∙◌}
use mathlib.Core.Bool.{Bool, true}
use mathlib.Core.List.{List}
use Prim.Native.Nat.{ℕ, zero, suc, ◌+◌, ◌≤◌, ◌<◌}
use native.Mathlib.Omega.{arith}
use lib.ListN.{length, get_or, drop, drop_of_length-le}
use borrow.Author.Tests.{eq-eqb}
use Rattle.base.specs.Lists.{Bytes}
use Rattle.base.proofs.Positions.{drop_at_element}
use Rattle.paper.specs.Refusals.{refusal_number}
use Rattle.paper.specs.declared.refused.Refusal.{Refusal}
use Rattle.layout.specs.Offsets.{run_bytes}
use Rattle.layout.specs.Soundness.{sound_bytes}
use Rattle.layout.proofs.SoundViews.{tested, shaped, view_sound, canonical}
use Rattle.rules.specs.Bytes.{Out, out, taken_bytes, step_bytes, onward_bytes, all_taken}
use Rattle.rules.specs.Results.{taken}
use Rattle.rules.specs.Numbers.{rule_number}
use Rattle.rules.specs.declared.numbered.Rule.{Rule}
use Rattle.rules.proofs.Bridge.{Ready, bytes_of, taken_left}

-- a step of sound bytes takes the item
pub step_taken : (d : List ℕ) (p : ℕ) (h : length d ≡ run_bytes) (b : Bool) (e : b ≡ sound_bytes d) (m k : ℕ) (d' : List ℕ)
    → b ≡ true → out m k d' ≡ taken_bytes d p → out m k d' ≡ step_bytes d p
unfolding step_bytes
step_taken d p h b e m k d' f o = rw (eq-eqb (length d) run_bytes h, ← e, f) o

-- sound bytes are ready, and a step leaves them so
pub sound_ready : (d : List ℕ) → length d ≡ run_bytes → sound_bytes d ≡ true → Bytes d → Ready d
sound_ready d l s b =
    let w = tested d s in
    record { shaped = shaped d l w; sound = view_sound d l w b; canonical = canonical d l w }

pub ready_next : (d d' : List ℕ) (p m k : ℕ) → out m k d' ≡ taken_bytes d p → Ready d → Ready d'
ready_next d d' p m k o r = subst (λ (q : Out). Ready (bytes_of d r q)) (sym o) (taken_left d r p).ready

pub ready_after : (d d' : List ℕ) (p : ℕ) (r : Result Rule Refusal) → taken r d' ≡ taken_bytes d p → Ready d → Ready d'
ready_after d d' p (Ok k) o r = ready_next d d' p 0 (rule_number k) o r
ready_after d d' p (Err e) o r = ready_next d d' p (refusal_number e) 0 o r

-- a refusal's number is not 0, which is told of what is done
refused_not_done : (r : Refusal) → refusal_number r ≡ 0 → ⊥
refused_not_done r e = grind arith

-- the list: i places are done
module _ (ps d₀ d : List ℕ) (i : ℕ) (inv : all_taken ps 0 d₀ ≡ all_taken (drop i ps) i d) where
  pub list_over : length ps ≤ i → i ≤ length ps → out 0 (length ps) d ≡ all_taken ps 0 d₀
  unfolding all_taken
  list_over h g =
      let e : length ps ≡ i = omega arith in
      sym (inv ∙ rw (drop_of_length-le ps {i = i} h, e) refl)

  module _ (d' : List ℕ) (h : i < length ps) where
    turn : (o : Out) → o ≡ taken_bytes d (get_or ps i 0) → all_taken ps 0 d₀ ≡ onward_bytes o i (λ n e. all_taken (drop (i + 1) ps) n e)
    unfolding all_taken
    turn o e = inv ∙ rw (drop_at_element ps i 0 h, ← e) refl

    pub list_more : (r : Result Rule Refusal) → ((x : Refusal) → r ≡ Err x → ⊥) → taken r d' ≡ taken_bytes d (get_or ps i 0)
        → all_taken ps 0 d₀ ≡ all_taken (drop (i + 1) ps) (i + 1) d'
    list_more (Ok k) n e = turn (taken (Ok k) d') e
    list_more (Err x) n e = absurd (n x refl)

    pub list_ends : (r : Refusal) → taken (Err r) d' ≡ taken_bytes d (get_or ps i 0) → out (refusal_number r) i d' ≡ all_taken ps 0 d₀
    list_ends r e = sym (turn (taken (Err r) d') e ∙ go (refusal_number r) (refused_not_done r))
      where
        go : (l : ℕ) → (l ≡ 0 → ⊥) → onward_bytes (out l 0 d') i (λ n e. all_taken (drop (i + 1) ps) n e) ≡ out l i d'
        go zero z = absurd (z refl)
        go (suc l) z = refl
