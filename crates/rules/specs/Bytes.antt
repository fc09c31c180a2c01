-- A step and a list of steps as what they reply and leave: number, rule or steps done, and the run's bytes.
use Rattle.std.specs.Prelude.{List, [], ◌∷◌, ℕ, zero, suc, ◌+◌, ◌-◌, ltb, leb, eqb, length}
use Rattle.base.specs.Choice.{pick}
use Rattle.paper.specs.Sizes.{room}
use Rattle.paper.specs.Refusals.{wrong_length, no_such_place, still_waits, has_clashed, not_sound, no_room}
use Rattle.layout.specs.Offsets.{clash_at, run_bytes}
use Rattle.layout.specs.Fields.{byte_at, count_of, item_at}
use Rattle.layout.specs.Soundness.{sound_bytes}
use Rattle.layout.specs.Changes.{removed_at, appended_all}
use Rattle.effects.specs.Changes.{applied}
use Rattle.rules.specs.Plans.{Plan, wait, plan, plan_of}

-- number (0 for done, else the refusal), rule or steps done, and the bytes left
pub data Out : Type 0 where
  out : ℕ → ℕ → List ℕ → Out

-- 14, 18; "A refused call leaves every lent byte"
abbrev pub performed_bytes : List ℕ → ℕ → Plan → Out
performed_bytes d i wait = out still_waits 0 d
performed_bytes d i (plan k ps ch) =
    pick (leb (count_of d - 1 + length ps) room) (out 0 k (appended_all ps (removed_at i (applied ch d)))) (out no_room 0 d)

-- after 12 and 17: "15, 13, 14, 18"
unfoldable pub taken_bytes : List ℕ → ℕ → Out
unfolding plan_of
taken_bytes d i =
    pick (eqb (byte_at d clash_at) 0)
    (pick (ltb i (count_of d)) (performed_bytes d i (plan_of d (item_at d i))) (out no_such_place 0 d))
    (out has_clashed 0 d)

-- "Step: 12, 17, 15, 13, 14, 18."
unfoldable pub step_bytes : List ℕ → ℕ → Out
step_bytes d i = pick (eqb (length d) run_bytes) (pick (sound_bytes d) (taken_bytes d i) (out not_sound 0 d)) (out wrong_length 0 d)

-- "it stops at the first refused place and gives that number and how many were done. Those done stay done."
abbrev pub onward_bytes : Out → ℕ → (ℕ → List ℕ → Out) → Out
onward_bytes (out zero k d) n f = f (n + 1) d
onward_bytes (out (suc m) k d) n f = out (suc m) n d

unfoldable pub all_taken : List ℕ → ℕ → List ℕ → Out
unfolding taken_bytes
all_taken [] n d = out 0 n d
all_taken (i ∷ is) n d = onward_bytes (taken_bytes d i) n (λ m e. all_taken is m e)

-- "A list of places is carried out after 12 and 17"
unfoldable pub steps_bytes : List ℕ → List ℕ → Out
steps_bytes d is = pick (eqb (length d) run_bytes) (pick (sound_bytes d) (all_taken is 0 d) (out not_sound 0 d)) (out wrong_length 0 d)
