-- Demand 1: every reply is the paper's, in its stated order, and a refused call leaves every lent byte.
use mathlib.Core.Path.{◌≡◌, refl, sym, ap, ◌∙◌}
use mathlib.Core.Logic.{◌⊎◌, inl, inr}
use mathlib.Core.Bool.{Bool, true, false, ◌&&◌}
use mathlib.Core.List.{List, [], ◌∷◌}
use mathlib.Core.Option.{none, some}
use Prim.Native.Nat.{ℕ, zero, suc, ◌+◌, ◌-◌, ◌≤◌}
use native.Mathlib.Nat.{sub-zero}
use native.Mathlib.Omega.{arith}
use borrow.Author.Tests.{eqb-true, ne_eqb}
use lib.Dec.{eqb}
use lib.ListN.{length, take}
use Rattle.base.specs.Choice.{pick}
use Rattle.base.proofs.Tests.{fst_true}
use Rattle.paper.specs.Sizes.{longest_file}
use Rattle.paper.specs.Steps.{Outcome, step, Listed, steps}
use Rattle.paper.specs.Numbers.{Read, got, fault}
use Rattle.paper.specs.Files.{File, read_file, file_bytes, padded_file, Span}
use Rattle.paper.specs.Replies.{Reply, reply, checked, load_reply, step_reply, list_reply, map_number, map_reply, write_reply}
use Rattle.layout.specs.Offsets.{clash_at, clash_cabinet_at, run_bytes, map_bytes}
use Rattle.layout.specs.Fields.{byte_at, count_of, items_from, table_of, state_of, run_of}
use Rattle.layout.specs.Soundness.{sound_bytes}
use Rattle.layout.specs.MapRows.{map_of}
use Rattle.statements.specs.Writes.{Answer, answer, as_loaded, file_of, written_bytes, loaded_read, load_bytes}
use Rattle.rules.specs.Bytes.{Out, out, taken_bytes, step_bytes, onward_bytes, all_taken, steps_bytes}
use Rattle.rules.proofs.Bridge.{Ready, outcome_of, bridge}
use Rattle.maps.specs.Bytes.{Mapped, mapped, drawn_map, map_bytes_of}
use Rattle.promises.specs.FromFiles.{Bytes}
use Rattle.promises.specs.Demands.{reply_of_answer, reply_of_out, reply_of_map, OneAnswer, OneOut, OneMapped, OneSpan, Demand1}
use Rattle.promises.proofs.Reaching.{ready_of, listed_of, all_taken_same, taken_refused}

-- by the length and soundness of the run
by_checks : (d : List ℕ) (n : Out) (a : Reply) → (length d ≡ run_bytes → sound_bytes d ≡ true → reply_of_out n ≡ a)
    → reply_of_out (pick (eqb (length d) run_bytes) (pick (sound_bytes d) n (out 17 0 d)) (out 12 0 d)) ≡ checked (eqb (length d) run_bytes) (sound_bytes d) a
by_checks d n a h = go (eqb (length d) run_bytes) refl (sound_bytes d) refl
  where
    go : (x : Bool) → eqb (length d) run_bytes ≡ x → (y : Bool) → sound_bytes d ≡ y → reply_of_out (pick x (pick y n (out 17 0 d)) (out 12 0 d)) ≡ checked x y a
    go true e true f = h (eqb-true (length d) run_bytes e) f
    go true e false f = refl
    go false e y f = refl

-- a place's reply is the paper's
taken_reply : (o : Out) (p : Outcome) → outcome_of o ≡ p → ((m k : ℕ) (e : List ℕ) → o ≡ out (suc m) k e → k ≡ 0) → reply_of_out o ≡ step_reply p
taken_reply (out zero k d) p e z = ap step_reply e
taken_reply (out (suc m) k d) p e z = ap (reply (suc m)) (z m k d refl) ∙ ap step_reply e

list_reply_lem : (o : Out) (l : Listed) → listed_of o ≡ l → reply_of_out o ≡ list_reply l
list_reply_lem (out k n d) l e = ap list_reply e

-- a list stopped at a place
stopped : (is : List ℕ) (m : ℕ) (d : List ℕ) (k n : ℕ) (e : List ℕ) → all_taken is m d ≡ out (suc k) n e → (m ≤ n) × (all_taken (take (n - m) is) m d ≡ out 0 n e)
unfolding all_taken
stopped [] m d k n e h = absurd (let z : ◌≡◌ {A = ℕ} 0 (suc k) = cc in omega arith)
stopped (i ∷ is) m d k n e h = go (taken_bytes d i) refl h (λ u z. stopped is (m + 1) u k n e z)
  where
    none_left : (l : List ℕ) → n ≡ m → d ≡ e → all_taken (take (n - m) l) m d ≡ out 0 n e
    none_left l p q =
        let z : n - m ≡ 0 = omega arith in
        ap (λ (j : ℕ). all_taken (take j l) m d) z ∙ ap₂' p q
      where
        ap₂' : n ≡ m → d ≡ e → all_taken (take 0 l) m d ≡ out 0 n e
        ap₂' p q = cc

    go : (o : Out) → taken_bytes d i ≡ o → onward_bytes o m (λ j u. all_taken is j u) ≡ out (suc k) n e
        → ((u : List ℕ) → all_taken is (m + 1) u ≡ out (suc k) n e → (m + 1 ≤ n) × (all_taken (take (n - (m + 1)) is) (m + 1) u ≡ out 0 n e))
        → (m ≤ n) × (all_taken (take (n - m) (i ∷ is)) m d ≡ out 0 n e)
    go (out zero j u) t z ih =
        let w = ih u z in
        let s : n - m ≡ suc (n - (m + 1)) = omega (arith, w.0) in
        (omega (arith, w.0), ap (λ (c : ℕ). all_taken (take c (i ∷ is)) m d) s ∙ rw t w.1)
    go (out (suc j) r u) t z ih =
        let p : n ≡ m = cc in
        let q : d ≡ e = sym (taken_refused d i j r u t).1 ∙ (let y : u ≡ e = cc in y) in
        (omega arith, none_left (i ∷ is) p q)

zero_suc : {m : ℕ} {A : Type 0} → 0 ≡ suc m → A
zero_suc e = absurd (let z : ⊥ = omega arith in z)

-- loading
load_reply_lem : (s d : List ℕ) → reply_of_answer (load_bytes s d) ≡ load_reply (eqb (length d) run_bytes) (read_file s)
unfolding load_bytes
load_reply_lem s d = go (eqb (length d) run_bytes) (read_file s)
  where
    go : (b : Bool) (g : Read File) → reply_of_answer (pick b (loaded_read d g) (answer 12 0 d)) ≡ load_reply b g
    go true (got f at) = refl
    go true (fault k p) = refl
    go false g = refl

load_left : (s d e : List ℕ) (k p : ℕ) → load_bytes s d ≡ answer (suc k) p e → e ≡ d
unfolding load_bytes
load_left s d e k p h = go (eqb (length d) run_bytes) (read_file s) h
  where
    go : (b : Bool) (g : Read File) → pick b (loaded_read d g) (answer 12 0 d) ≡ answer (suc k) p e → e ≡ d
    go true (got f at) z = zero_suc (let w : 0 ≡ suc k = cc in w)
    go true (fault j q) z = cc
    go false g z = cc

-- a step
step_reply_lem : (d : List ℕ) → Bytes d → (i : ℕ)
    → reply_of_out (step_bytes d i) ≡ checked (eqb (length d) run_bytes) (sound_bytes d) (step_reply (step (table_of d) (run_of d) i))
unfolding step_bytes
step_reply_lem d b i =
    by_checks d (taken_bytes d i) (step_reply (step (table_of d) (run_of d) i))
    (λ l s. taken_reply (taken_bytes d i) (step (table_of d) (run_of d) i) (bridge d (ready_of d l s b) i) (λ m k e z. (taken_refused d i m k e z).0))

step_left : (d e : List ℕ) (i k p : ℕ) → step_bytes d i ≡ out (suc k) p e → e ≡ d
unfolding step_bytes
step_left d e i k p h = go (eqb (length d) run_bytes) (sound_bytes d) h
  where
    go : (x y : Bool) → pick x (pick y (taken_bytes d i) (out 17 0 d)) (out 12 0 d) ≡ out (suc k) p e → e ≡ d
    go true true z = (taken_refused d i k p e z).1
    go true false z = cc
    go false y z = cc

-- a list of steps
steps_reply : (d : List ℕ) → Bytes d → (is : List ℕ)
    → reply_of_out (steps_bytes d is) ≡ checked (eqb (length d) run_bytes) (sound_bytes d) (list_reply (steps (table_of d) (run_of d) 0 is))
unfolding steps_bytes
steps_reply d b is =
    by_checks d (all_taken is 0 d) (list_reply (steps (table_of d) (run_of d) 0 is))
    (λ l s. list_reply_lem (all_taken is 0 d) (steps (table_of d) (run_of d) 0 is) (all_taken_same is 0 d (ready_of d l s b)))

steps_left : (d e is : List ℕ) (k n : ℕ) → steps_bytes d is ≡ out (suc k) n e → ((n ≡ 0) × (e ≡ d)) ⊎ (steps_bytes d (take n is) ≡ out 0 n e)
unfolding steps_bytes
steps_left d e is k n h = go (eqb (length d) run_bytes) refl (sound_bytes d) refl h
  where
    go : (x : Bool) → eqb (length d) run_bytes ≡ x → (y : Bool) → sound_bytes d ≡ y
        → pick x (pick y (all_taken is 0 d) (out 17 0 d)) (out 12 0 d) ≡ out (suc k) n e → ((n ≡ 0) × (e ≡ d)) ⊎ (steps_bytes d (take n is) ≡ out 0 n e)
    go true a true b z =
        inr (rw (a, b) (ap (λ (j : ℕ). all_taken (take j is) 0 d) (sym (sub-zero n)) ∙ (stopped is 0 d k n e z).1))
    go true a false b z = inl (cc, cc)
    go false a y b z = inl (cc, cc)

-- a map
drawn_reply : (d m : List ℕ) → Ready d → reply_of_map (drawn_map d m) ≡ map_reply (run_of d)
unfolding drawn_map run_of state_of
drawn_reply d m r = go (eqb (byte_at d clash_at) 0) (count_of d)
  where
    go : (b : Bool) (n : ℕ)
        → reply_of_map (pick b (pick (eqb n 0) (mapped 0 (map_of (table_of d) (run_of d))) (mapped 16 m)) (mapped 15 m))
        ≡ reply (map_number (pick b none (some (byte_at d clash_cabinet_at))) (items_from d n 0)) 0
    go true zero = refl
    go true (suc n) = rw (ne_eqb (suc n) 0 (λ e. let z : ⊥ = omega arith in z))
    go false n = refl

map_reply_lem : (d m : List ℕ) → Bytes d
    → reply_of_map (map_bytes_of d m) ≡ checked (eqb (length d) run_bytes && eqb (length m) map_bytes) (sound_bytes d) (map_reply (run_of d))
unfolding map_bytes_of
map_reply_lem d m b = go (eqb (length d) run_bytes && eqb (length m) map_bytes) refl (sound_bytes d) refl
  where
    go : (x : Bool) → (eqb (length d) run_bytes && eqb (length m) map_bytes) ≡ x → (y : Bool) → sound_bytes d ≡ y
        → reply_of_map (pick x (pick y (drawn_map d m) (mapped 17 m)) (mapped 12 m)) ≡ checked x y (map_reply (run_of d))
    go true e true f = drawn_reply d m (ready_of d (eqb-true (length d) run_bytes (fst_true (eqb (length d) run_bytes) (eqb (length m) map_bytes) e)) f b)
    go true e false f = refl
    go false e y f = refl

map_left : (d m e : List ℕ) (k : ℕ) → map_bytes_of d m ≡ mapped (suc k) e → e ≡ m
unfolding map_bytes_of drawn_map
map_left d m e k h = go (eqb (length d) run_bytes && eqb (length m) map_bytes) (sound_bytes d) (eqb (byte_at d clash_at) 0) (eqb (count_of d) 0) h
  where
    go : (x y a c : Bool)
        → pick x (pick y (pick a (pick c (mapped 0 (map_of (table_of d) (run_of d))) (mapped 16 m)) (mapped 15 m)) (mapped 17 m)) (mapped 12 m) ≡ mapped (suc k) e → e ≡ m
    go true true true true z = zero_suc (let w : 0 ≡ suc k = cc in w)
    go true true true false z = cc
    go true true false c z = cc
    go true false a c z = cc
    go false y a c z = cc

-- writing
write_reply_lem : (d m : List ℕ)
    → reply_of_answer (written_bytes d m)
    ≡ checked (eqb (length d) run_bytes && eqb (length m) longest_file) (sound_bytes d) (write_reply (as_loaded d) (length (file_bytes (file_of d))))
unfolding written_bytes
write_reply_lem d m = go (eqb (length d) run_bytes && eqb (length m) longest_file) (sound_bytes d) (as_loaded d)
  where
    go : (x y z : Bool)
        → reply_of_answer
        (pick x (pick y (pick z (answer 0 (length (file_bytes (file_of d))) (padded_file (file_of d))) (answer 19 0 m)) (answer 17 0 m)) (answer 12 0 m))
        ≡ checked x y (write_reply z (length (file_bytes (file_of d))))
    go true true true = refl
    go true true false = refl
    go true false z = refl
    go false y z = refl

write_left : (d m e : List ℕ) (k p : ℕ) → written_bytes d m ≡ answer (suc k) p e → e ≡ m
unfolding written_bytes
write_left d m e k p h = go (eqb (length d) run_bytes && eqb (length m) longest_file) (sound_bytes d) (as_loaded d) h
  where
    go : (x y z : Bool)
        → pick x (pick y (pick z (answer 0 (length (file_bytes (file_of d))) (padded_file (file_of d))) (answer 19 0 m)) (answer 17 0 m)) (answer 12 0 m)
        ≡ answer (suc k) p e → e ≡ m
    go true true true w = zero_suc (let v : 0 ≡ suc k = cc in v)
    go true true false w = cc
    go true false z w = cc
    go false y z w = cc

-- equal answers have equal parts
one_answer : {v : Answer} → OneAnswer v
one_answer k p k' p' e e' x y = let z : answer k p e ≡ answer k' p' e' = x ∙ sym y in (cc, cc, cc)

one_out : {v : Out} → OneOut v
one_out k p k' p' e e' x y = let z : out k p e ≡ out k' p' e' = x ∙ sym y in (cc, cc, cc)

one_mapped : {v : Mapped} → OneMapped v
one_mapped k k' m m' x y = let z : mapped k m ≡ mapped k' m' = x ∙ sym y in (cc, cc)

one_span : {v : Span} → OneSpan v
one_span a b x y = (ap (λ (s : Span). s.start) (x ∙ sym y), ap (λ (s : Span). s.size) (x ∙ sym y))

pub demand_1 : Demand1
demand_1 =
    record {
      one_load = λ s d. one_answer;
      one_statement = λ s n. one_span;
      one_step = λ d i. one_out;
      one_list = λ d is. one_out;
      one_map = λ d m. one_mapped;
      one_write = λ d m. one_answer;
      loading = load_reply_lem;
      stepping = step_reply_lem;
      listing = steps_reply;
      mapping = map_reply_lem;
      writing = write_reply_lem;
      load_leaves = load_left;
      step_leaves = step_left;
      list_leaves = steps_left;
      map_leaves = map_left;
      write_leaves = write_left;
    }
