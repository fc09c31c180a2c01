-- Bytes reached from a file view as runs reached in the paper, and stay sound; a list of steps is the paper's.
use mathlib.Core.Path.{◌≡◌, refl, sym, subst, ap, ap₂, ◌∙◌}
use mathlib.Core.Bool.{Bool, true, false}
use mathlib.Core.List.{List, [], ◌∷◌}
use Prim.Native.Nat.{ℕ, zero, suc, ◌+◌, ◌-◌}
use native.Mathlib.Numerals.{add-one}
use native.Mathlib.Omega.{arith}
use borrow.Author.Tests.{eqb-true, eq-eqb}
use lib.Dec.{eqb, ltb, leb}
use lib.ListN.{length, take}
use Rattle.base.specs.Choice.{pick}
use Rattle.paper.specs.Sizes.{room}
use Rattle.paper.specs.Refusals.{no_room, no_such_place, has_clashed}
use Rattle.paper.specs.Tables.{Table}
use Rattle.paper.specs.Runs.{Sound}
use Rattle.paper.specs.Steps.{refused, done, step, Listed, listed, steps}
use Rattle.paper.specs.Numbers.{got}
use Rattle.paper.specs.Files.{File, read_file}
use Rattle.paper.specs.Reached as paper
use Rattle.paper.specs.Reached.{FileOk, Reached}
use Rattle.paper.proofs.Soundness.{loaded_sound}
use Rattle.paper.proofs.RoundTrip.{read_written}
use Rattle.layout.specs.Offsets.{clash_at, run_bytes}
use Rattle.layout.specs.Fields.{byte_at, count_of, item_at, table_of, run_of}
use Rattle.layout.specs.Soundness.{sound_bytes}
use Rattle.layout.proofs.SoundViews.{tested, shaped, view_sound, canonical}
use Rattle.statements.specs.Loads.{loaded_bytes}
use Rattle.statements.specs.Writes.{answer, loaded_read, load_bytes}
use Rattle.statements.proofs.Loaded.{loaded_as}
use Rattle.layout.specs.Changes.{removed_at, appended_all}
use Rattle.effects.specs.Changes.{applied}
use Rattle.rules.specs.Plans.{Plan, wait, plan, plan_of}
use Rattle.rules.specs.Bytes.{Out, out, performed_bytes, taken_bytes, step_bytes, onward_bytes, all_taken, steps_bytes}
use Rattle.rules.proofs.Bridge.{Ready, ready_sound, outcome_of, bridge, Left, bytes_of, taken_left}
use Rattle.promises.specs.FromFiles.{Bytes, Accepted, FromFile, loaded, stepped, Along, none_left, one_more, ListEnds, all_done, stops}

-- sound bytes are ready for a step
pub ready_of : (d : List ℕ) → length d ≡ run_bytes → sound_bytes d ≡ true → Bytes d → Ready d
ready_of d l s b =
    record { shaped = shaped d l (tested d s); sound = view_sound d l (tested d s) b; canonical = canonical d l (tested d s) }

-- a step that is accepted has the right length and sound bytes, and is a taken place
pub record Taken (d : List ℕ) (i k : ℕ) (e : List ℕ) : Type 0 where
  pub long : length d ≡ run_bytes
  pub sound : sound_bytes d ≡ true
  pub is : taken_bytes d i ≡ out 0 k e

pub step_taken : (d : List ℕ) (i k : ℕ) (e : List ℕ) → step_bytes d i ≡ out 0 k e → Taken d i k e
unfolding step_bytes
step_taken d i k e h = go (eqb (length d) run_bytes) refl (sound_bytes d) refl h
  where
    go : (a : Bool) → eqb (length d) run_bytes ≡ a → (b : Bool) → sound_bytes d ≡ b → pick a (pick b (taken_bytes d i) (out 17 0 d)) (out 12 0 d) ≡ out 0 k e → Taken d i k e
    go true x true y z = record { long = eqb-true (length d) run_bytes x; sound = y; is = z }
    go true x false y z = absurd (let w : ◌≡◌ {A = ℕ} 17 0 = cc in omega arith)
    go false x b y z = absurd (let w : ◌≡◌ {A = ℕ} 12 0 = cc in omega arith)

pub taken_step : (d : List ℕ) → Ready d → (i : ℕ) → step_bytes d i ≡ taken_bytes d i
unfolding step_bytes
taken_step d r i = rw (eq-eqb (length d) run_bytes r.shaped.long, ready_sound d r)

-- what bytes reached from an accepted file are
pub record Viewed (f : File) (n : ℕ) (d : List ℕ) : Type 0 where
  pub ready : Ready d
  pub table : table_of d ≡ f.table
  pub reached : Reached f.table f.statements n (run_of d)

pub file_ok : (s : List ℕ) (f : File) → Accepted s f → FileOk f.table f.statements
file_ok s f a = (read_written s a.bytes f a.end a.read).ok

pub loaded_is : (s before d : List ℕ) (f : File) (at : ℕ) → read_file s ≡ got f at → load_bytes s before ≡ answer 0 0 d → d ≡ loaded_bytes f
unfolding load_bytes
loaded_is s before d f at r h = go (eqb (length before) run_bytes) h
  where
    go : (a : Bool) → pick a (loaded_read before (read_file s)) (answer 12 0 before) ≡ answer 0 0 d → d ≡ loaded_bytes f
    go true z = let w : answer 0 0 (loaded_bytes f) ≡ answer 0 0 d = rw r at z in cc
    go false z = absurd (let w : ◌≡◌ {A = ℕ} 12 0 = cc in omega arith)

pub viewed : (s : List ℕ) (f : File) → Accepted s f → {n : ℕ} {d : List ℕ} → FromFile s n d → Viewed f n d
viewed s f a (loaded before {d = d} h) =
    let ok = file_ok s f a in
    let w = loaded_as f ok in
    subst (λ (e : List ℕ). Viewed f 0 e) (sym (loaded_is s before d f a.end a.read h))
    (record {
      ready =
          record {
            shaped = w.shape;
            sound = subst (λ (u : Table). Sound u (run_of (loaded_bytes f))) (sym w.table) (subst (Sound f.table) (sym w.run) (loaded_sound f.table f.statements ok));
            canonical = w.canonical;
          };
      table = w.table;
      reached = subst (Reached f.table f.statements 0) (sym w.run) paper.loaded;
    })
viewed s f a (stepped {d = d} h i k {e = e} z) =
    let v = viewed s f a h in
    let t = (step_taken d i k e z).is in
    let l = subst (λ (o : Out). Left d v.ready (bytes_of d v.ready o)) t (taken_left d v.ready i) in
    let b : step (table_of d) (run_of d) i ≡ done k (run_of e) = sym (bridge d v.ready i) ∙ ap outcome_of t in
    record {
      ready = l.ready;
      table = l.table ∙ v.table;
      reached = paper.stepped v.reached i k (subst (λ (u : Table). step u (run_of d) i ≡ done k (run_of e)) v.table b);
    }

-- a refused place names no rule and leaves the bytes
pub taken_refused : (d : List ℕ) (i m k : ℕ) (e : List ℕ) → taken_bytes d i ≡ out (suc m) k e → (k ≡ 0) × (e ≡ d)
unfolding taken_bytes
taken_refused d i m k e h = go (eqb (byte_at d clash_at) 0) (ltb i (count_of d)) (plan_of d (item_at d i)) h
  where
    performed : (p : Plan) → performed_bytes d i p ≡ out (suc m) k e → (k ≡ 0) × (e ≡ d)
    performed wait z = (cc, cc)
    performed (plan j ps ch) z = fits (leb (count_of d - 1 + length ps) room) z
      where
        fits : (b : Bool) → pick b (out 0 j (appended_all ps (removed_at i (applied ch d)))) (out no_room 0 d) ≡ out (suc m) k e → (k ≡ 0) × (e ≡ d)
        fits true z = absurd (let w : ◌≡◌ {A = ℕ} 0 (suc m) = cc in omega arith)
        fits false z = (cc, cc)

    go : (a b : Bool) (p : Plan) → pick a (pick b (performed_bytes d i p) (out no_such_place 0 d)) (out has_clashed 0 d) ≡ out (suc m) k e → (k ≡ 0) × (e ≡ d)
    go true true p z = performed p z
    go true false p z = (cc, cc)
    go false b p z = (cc, cc)

-- a list of places on ready bytes is the paper's list
abbrev pub listed_of : Out → Listed
listed_of (out k n d) = listed k n (run_of d)

pub all_taken_same : (is : List ℕ) (n : ℕ) (d : List ℕ) → Ready d → listed_of (all_taken is n d) ≡ steps (table_of d) (run_of d) n is
unfolding all_taken steps
all_taken_same [] n d r = refl
all_taken_same (i ∷ is) n d r = go (taken_bytes d i) refl (taken_left d r i) (λ e h. all_taken_same is (n + 1) e h)
  where
    go : (o : Out) → taken_bytes d i ≡ o → Left d r (bytes_of d r (taken_bytes d i))
        → ((e : List ℕ) → Ready e → listed_of (all_taken is (n + 1) e) ≡ steps (table_of e) (run_of e) (n + 1) is)
        → listed_of (onward_bytes o n (λ m e. all_taken is m e)) ≡ steps (table_of d) (run_of d) n (i ∷ is)
    go (out zero k e) z l ih =
        let l' : Left d r e = subst (λ (o : Out). Left d r (bytes_of d r o)) z l in
        let b : step (table_of d) (run_of d) i ≡ done k (run_of e) = sym (bridge d r i) ∙ ap outcome_of z in
        ih e l'.ready ∙ ap₂ (λ (u : Table) (m : ℕ). steps u (run_of e) m is) l'.table (add-one n) ∙ sym (rw b)
    go (out (suc m) k e) z l ih =
        let b : step (table_of d) (run_of d) i ≡ refused (suc m) = sym (bridge d r i) ∙ ap outcome_of z in
        ap (λ (u : List ℕ). listed (suc m) n (run_of u)) (taken_refused d i m k e z).1 ∙ sym (rw b)

-- a list of places on ready bytes is its steps, one after the other
record Listing (d is : List ℕ) (m k n : ℕ) (e : List ℕ) : Type 0 where
  many : ℕ
  count : n ≡ m + many
  along : Along d (take many is) e
  ends : ListEnds is e k many

one_later : {i k n : ℕ} {is e : List ℕ} → ListEnds is e k n → ListEnds (i ∷ is) e k (suc n)
one_later all_done = all_done
one_later (stops j p q) = stops j p q

all_taken_along : (is : List ℕ) (m : ℕ) (d : List ℕ) → Ready d → (k n : ℕ) (e : List ℕ) → all_taken is m d ≡ out k n e → Listing d is m k n e
unfolding all_taken
all_taken_along [] m d r k n e h =
    let a : 0 ≡ k = cc in
    let b : m ≡ n = cc in
    let c : d ≡ e = cc in
    record {
      many = 0;
      count = omega arith;
      along = subst (λ (u : List ℕ). Along d [] u) c none_left;
      ends = subst (λ (j : ℕ). ListEnds [] e j 0) a all_done;
    }
all_taken_along (i ∷ is) m d r k n e h = go (taken_bytes d i) refl (taken_left d r i) h (λ u y z. all_taken_along is (m + 1) u y k n e z)
  where
    go : (o : Out) → taken_bytes d i ≡ o → Left d r (bytes_of d r (taken_bytes d i)) → onward_bytes o m (λ j u. all_taken is j u) ≡ out k n e
        → ((u : List ℕ) → Ready u → all_taken is (m + 1) u ≡ out k n e → Listing u is (m + 1) k n e) → Listing d (i ∷ is) m k n e
    go (out zero j u) t l z ih =
        let l' : Left d r u = subst (λ (o : Out). Left d r (bytes_of d r o)) t l in
        let w = ih u l'.ready z in
        record {
          many = suc w.many;
          count = omega (arith, w.count);
          along = one_more i j (taken_step d r i ∙ t) w.along;
          ends = one_later w.ends;
        }
    go (out (suc q) j u) t l z ih =
        let x = taken_refused d i q j u t in
        let y : step_bytes d i ≡ out (suc q) 0 d = taken_step d r i ∙ t ∙ ap₂ (λ (a : ℕ) (v : List ℕ). out (suc q) a v) x.0 x.1 in
        let a : suc q ≡ k = cc in
        let b : m ≡ n = cc in
        let c : d ≡ e = sym x.1 ∙ (let v : u ≡ e = cc in v) in
        record {
          many = 0;
          count = omega arith;
          along = subst (λ (v : List ℕ). Along d [] v) c none_left;
          ends = subst (λ (f : ℕ). ListEnds (i ∷ is) e f 0) a (subst (λ (v : List ℕ). ListEnds (i ∷ is) v (suc q) 0) c (stops i refl y));
        }

pub list_is_steps : (d : List ℕ) → Bytes d → length d ≡ run_bytes → sound_bytes d ≡ true → (is : List ℕ) (k n : ℕ) (e : List ℕ)
    → steps_bytes d is ≡ out k n e → Along d (take n is) e × ListEnds is e k n
unfolding steps_bytes
list_is_steps d b l s is k n e h =
    let z : all_taken is 0 d ≡ out k n e = rw (eq-eqb (length d) run_bytes l, s) at h in
    let w = all_taken_along is 0 d (ready_of d l s b) k n e z in
    let c : w.many ≡ n = omega (arith, w.count) in
    subst (λ (j : ℕ). Along d (take j is) e × ListEnds is e k j) c (w.along, w.ends)

-- a list of places carries a run from a file on by as many steps as it does
all_taken_from : (s is : List ℕ) (m c : ℕ) (d : List ℕ) → Ready d → FromFile s (m + c) d → (k n : ℕ) (e : List ℕ) → all_taken is c d ≡ out k n e
    → FromFile s (m + n) e
unfolding all_taken
all_taken_from s [] m c d r h k n e z =
    let a : c ≡ n = cc in
    let b : d ≡ e = cc in
    subst (λ (j : ℕ). FromFile s (m + j) e) a (subst (FromFile s (m + c)) b h)
all_taken_from s (i ∷ is) m c d r h k n e z =
    go (taken_bytes d i) refl (taken_left d r i) z (λ u y g w. all_taken_from s is m (c + 1) u y g k n e w)
  where
    go : (o : Out) → taken_bytes d i ≡ o → Left d r (bytes_of d r (taken_bytes d i)) → onward_bytes o c (λ j u. all_taken is j u) ≡ out k n e
        → ((u : List ℕ) → Ready u → FromFile s (m + (c + 1)) u → all_taken is (c + 1) u ≡ out k n e → FromFile s (m + n) e) → FromFile s (m + n) e
    go (out zero j u) t l w ih =
        let l' : Left d r u = subst (λ (o : Out). Left d r (bytes_of d r o)) t l in
        let a : suc (m + c) ≡ m + (c + 1) = omega arith in
        ih u l'.ready (subst (λ (q : ℕ). FromFile s q u) a (stepped h i j (taken_step d r i ∙ t))) w
    go (out (suc q) j u) t l w ih =
        let a : c ≡ n = cc in
        let b : d ≡ e = sym (taken_refused d i q j u t).1 ∙ (let v : u ≡ e = cc in v) in
        subst (λ (y : ℕ). FromFile s (m + y) e) a (subst (FromFile s (m + c)) b h)

pub list_from_file : (s : List ℕ) (f : File) → Accepted s f → (m : ℕ) (d : List ℕ) → FromFile s m d → (is : List ℕ) (k n : ℕ) (e : List ℕ)
    → steps_bytes d is ≡ out k n e → FromFile s (m + n) e
unfolding steps_bytes
list_from_file s f a m d h is k n e z =
    let r = (viewed s f a h).ready in
    let w : all_taken is 0 d ≡ out k n e = rw (eq-eqb (length d) run_bytes r.shaped.long, ready_sound d r) at z in
    let b : m ≡ m + 0 = omega arith in
    all_taken_from s is m 0 d r (subst (λ (j : ℕ). FromFile s j d) b h) k n e w
