-- Laws of the run that the program makes: a turn of its loop for each way out, with the bytes ready for the next step.
use Rattle.std.proofs.Common.{◌≡◌, ℕ, zero, suc, ◌+◌, ◌-◌, ◌<◌, ◌≤◌, Bool, true, false, eqb, ltb, leb, List, length, sym, refl, ap, ◌∙◌, subst, true≢false, le_of_lt, mod-lt, arith}
use borrow.Author.Tests.{eqb-false}
use Rattle.std.specs.Prelude.{Result, Ok, Err}
use Rattle.std.specs.Result.{is_err}
use Rattle.base.specs.Choice.{pick}
use Rattle.base.specs.Lists.{Bytes}
use Rattle.paper.specs.Sizes.{room}
use Rattle.paper.specs.Refusals.{no_such_place, has_clashed, no_room, refusal_number}
use Rattle.paper.specs.declared.refused.Refusal.{Refusal}
use Rattle.paper.specs.Counts.{most_steps}
use Rattle.paper.specs.Programs.{first_state, next_state, drawn_place}
use Rattle.layout.specs.Offsets.{run_bytes, clash_at, cabinets_at, unknowns_at, statements_at}
use Rattle.layout.specs.Fields.{byte_at, count_of, item_at}
use Rattle.layout.specs.Changes.{removed_at, appended_all}
use Rattle.layout.specs.Soundness.{sound_bytes}
use Rattle.effects.specs.Changes.{applied}
use Rattle.rules.specs.declared.numbered.Rule.{Rule}
use Rattle.rules.specs.Results.{taken}
use Rattle.rules.specs.Plans.{Plan, wait, plan, plan_of}
use Rattle.rules.specs.Bytes.{Out, out, performed_bytes, taken_bytes}
use Rattle.rules.proofs.Bridge.{Ready, ready_sound}
use Rattle.rules.proofs.CallLaws.{sound_ready, ready_after}
use Rattle.drawing.specs.Draws.{ready_from, taken_place, ended_bytes, after_taken, drawn_from, drawn_bytes}

-- a place that is refused leaves the bytes
abbrev Kept : List ℕ → Out → Type 0
Kept d (out zero k e) = d ≡ d
Kept d (out (suc n) k e) = e ≡ d

refused_kept : (d : List ℕ) (i : ℕ) → Kept d (taken_bytes d i)
unfolding taken_bytes
refused_kept d i = go (eqb (byte_at d clash_at) 0) (ltb i (count_of d))
  where
    performed : (p : Plan) → Kept d (performed_bytes d i p)
    performed wait = refl
    performed (plan k ps ch) = fits (leb (count_of d - 1 + length ps) room)
      where
        fits : (b : Bool) → Kept d (pick b (out 0 k (appended_all ps (removed_at i (applied ch d)))) (out no_room 0 d))
        fits true = refl
        fits false = refl

    go : (b p : Bool) → Kept d (pick b (pick p (performed_bytes d i (plan_of d (item_at d i))) (out no_such_place 0 d)) (out has_clashed 0 d))
    go true true = performed (plan_of d (item_at d i))
    go true false = refl
    go false p = refl

-- the place that is taken, of n pending ones
module _ (d : List ℕ) (n x i : ℕ) (ei : i ≡ drawn_place x n) (en : n ≡ count_of d) where
  pub drawn_within : 0 < count_of d → i ≤ count_of d
  unfolding drawn_place
  drawn_within pos =
      let l : 0 < n = omega arith in
      subst (λ (a : ℕ). i ≤ a) en (subst (λ (a : ℕ). a ≤ n) (sym ei) (le_of_lt (mod-lt _ l)))

  pub place_taken : (p : ℕ) → p ≡ ready_from d i → p ≡ taken_place d x
  unfolding taken_place
  place_taken p ep = rw (ep, ei, en) refl

-- the bytes d after some of the steps from d₀, with k steps left and the generator in state x
pub record Running (d₀ : List ℕ) (k x : ℕ) (d : List ℕ) : Type 0 where
  pub ready : Ready d
  pub same : drawn_from k x d ≡ drawn_bytes d₀

pub draw_start : (d : List ℕ) (n : ℕ) → n ≡ most_steps (byte_at d cabinets_at) (byte_at d unknowns_at) (byte_at d statements_at)
    → length d ≡ run_bytes → sound_bytes d ≡ true → Bytes d → Running d (n - 0) first_state d
unfolding drawn_bytes
draw_start d n p l w y =
    let s : n - 0 ≡ most_steps (byte_at d cabinets_at) (byte_at d unknowns_at) (byte_at d statements_at) = omega arith in
    record { ready = sound_ready d l w y; same = ap (λ (k : ℕ). drawn_from k first_state d) s }

-- what a turn makes of d with k steps left after it, by what is taken
abbrev by_taken : ℕ → ℕ → List ℕ → Out → List ℕ
by_taken k x d o = after_taken o d (λ e. drawn_from k (next_state x) e)

turned : (k x : ℕ) (d : List ℕ) → drawn_from (suc k) x d ≡ pick (ended_bytes d) d (by_taken k x d (taken_bytes d (taken_place d (next_state x))))
unfolding drawn_from ended_bytes
turned k x d = go (eqb (byte_at d clash_at) 0) (eqb (count_of d) 0) (by_taken k x d (taken_bytes d (taken_place d (next_state x))))
  where
    go : (b c : Bool) (e : List ℕ) → pick b (pick c d e) d ≡ pick (pick b c true) d e
    go true c e = refl
    go false c e = refl

module _ (d : List ℕ) (b : Bool) (eb : b ≡ ended_bytes d) where
  -- a run that has not ended has an item to take
  pub some_pending : b ≡ false → 0 < count_of d
  unfolding ended_bytes
  some_pending f = go (eqb (byte_at d clash_at) 0) (sym eb ∙ f)
    where
      go : (c : Bool) → pick c (eqb (count_of d) 0) true ≡ false → 0 < count_of d
      go true e = let n : count_of d ≡ 0 → ⊥ = eqb-false (count_of d) 0 e in omega arith
      go false e = absurd (true≢false e)

  module _ (d₀ : List ℕ) (n i x : ℕ) (h : Running d₀ (n - i) x d) (g : i < n) where
    one_more : suc (n - (i + 1)) ≡ n - i
    one_more = omega arith

    turn : pick b d (by_taken (n - (i + 1)) x d (taken_bytes d (taken_place d (next_state x)))) ≡ drawn_bytes d₀
    turn =
        ap (λ (c : Bool). pick c d (by_taken (n - (i + 1)) x d (taken_bytes d (taken_place d (next_state x))))) eb
        ∙ sym (turned (n - (i + 1)) x d)
        ∙ ap (λ (k : ℕ). drawn_from k x d) one_more
        ∙ h.same

    pub draw_ended : b ≡ true → d ≡ drawn_bytes d₀
    draw_ended t = ap (λ (c : Bool). pick c d (by_taken (n - (i + 1)) x d (taken_bytes d (taken_place d (next_state x))))) (sym t) ∙ turn

    module _ (f : b ≡ false) (x' p : ℕ) (ex : x' ≡ next_state x) (ep : p ≡ taken_place d x') (r : Result Rule Refusal) (d' : List ℕ)
        (o : taken r d' ≡ taken_bytes d p) where
      onward : by_taken (n - (i + 1)) x d (taken r d') ≡ drawn_bytes d₀
      onward =
          ap (by_taken (n - (i + 1)) x d) (o ∙ ap (taken_bytes d) (ep ∙ ap (taken_place d) ex))
          ∙ ap (λ (c : Bool). pick c d (by_taken (n - (i + 1)) x d (taken_bytes d (taken_place d (next_state x))))) (sym f)
          ∙ turn

      pub draw_refused : (q : Bool) → q ≡ is_err r → q ≡ true → d' ≡ drawn_bytes d₀
      draw_refused q e w = go r (sym e ∙ w) (subst (Kept d) (sym o) (refused_kept d p)) onward
        where
          refused : (l : ℕ) → (l ≡ 0 → ⊥) → Kept d (out l 0 d') → by_taken (n - (i + 1)) x d (out l 0 d') ≡ drawn_bytes d₀ → d' ≡ drawn_bytes d₀
          refused zero z q t = absurd (z refl)
          refused (suc l) z q t = q ∙ t

          go : (r : Result Rule Refusal) → is_err r ≡ true → Kept d (taken r d') → by_taken (n - (i + 1)) x d (taken r d') ≡ drawn_bytes d₀ → d' ≡ drawn_bytes d₀
          go (Ok k) w q t = absurd (true≢false (sym w))
          go (Err e) w q t = refused (refusal_number e) (λ (z : refusal_number e ≡ 0). grind arith) q t

      pub draw_more : (q : Bool) → q ≡ is_err r → q ≡ false → Running d₀ (n - (i + 1)) x' d'
      draw_more q e w =
          record {
            ready = ready_after d d' p r o h.ready;
            same = ap (λ (a : ℕ). drawn_from (n - (i + 1)) a d') ex ∙ go r (sym e ∙ w) onward;
          }
        where
          go : (r : Result Rule Refusal) → is_err r ≡ false → by_taken (n - (i + 1)) x d (taken r d') ≡ drawn_bytes d₀ → drawn_from (n - (i + 1)) (next_state x) d' ≡ drawn_bytes d₀
          go (Ok k) w t = t
          go (Err e) w t = absurd (true≢false w)

module _ (d₀ : List ℕ) (n i x : ℕ) (d : List ℕ) (h : Running d₀ (n - i) x d) where
  pub running_sound : sound_bytes d ≡ true
  running_sound = ready_sound d h.ready

  pub draw_over : n ≤ i → d ≡ drawn_bytes d₀
  unfolding drawn_from
  draw_over z =
      let e : n - i ≡ 0 = omega arith in
      ap (λ (k : ℕ). drawn_from k x d) (sym e) ∙ h.same
