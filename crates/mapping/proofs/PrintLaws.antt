-- Laws of the map program: one for each way out of `print`, and what its callees ask.
use Rattle.std.proofs.Common.{Result, Ok, Err, take_all, drop_at, length-take-le}
use Rattle.std.proofs.lemmas.Slice.{take-put_mid_below}
use lib.Seq.{take-add, take-append-le}
use mathlib.Core.Path.{◌≡◌, refl, sym, ap, subst, ◌∙◌}
use mathlib.Core.Logic.{inl, inr}
use mathlib.Core.Bool.{Bool, true, false, not}
use lib.Dec.{eqb}
use mathlib.Core.List.{List, ◌++◌}
use mathlib.Core.Option.{none, some}
use Prim.Native.Nat.{ℕ, ◌+◌, ◌-◌, ◌≤◌, ◌<◌}
use native.Mathlib.Omega.{arith}
use borrow.Author.Tests.{eq-eqb, eqb-true}
use lib.ListN.{length, take, drop, length-append}
use borrow.Rule.Slice.PartMut.{put_mid, post_of}
use mir.Syntax.{w8}
use mir.Val.{Fits}
use Rattle.std.specs.Prelude.{IsOk}
use Rattle.base.specs.Puts.{PutFrom}
use Rattle.base.specs.Regions.{put}
use Rattle.paper.specs.Sizes.{most_unknowns}
use Rattle.paper.specs.Tables.{Table, TableOk}
use Rattle.paper.specs.Numbers.{Read, got, fault}
use Rattle.paper.specs.Files.{File, read_file}
use Rattle.paper.specs.Reached.{FileOk}
use Rattle.paper.specs.Programs.{printed_clash, printed_refusal, printed_run, printed_read, printed}
use Rattle.layout.specs.Offsets.{clash_at, clash_cabinet_at, unknowns_at, run_bytes, map_bytes}
use Rattle.layout.specs.Given.{Reads, byte_limit}
use Rattle.layout.specs.Fields.{byte_at, clash_of, count_of, table_of, run_of}
use Rattle.layout.specs.Soundness.{sound_bytes}
use Rattle.layout.specs.MapRows.{map_of}
use Rattle.layout.proofs.SoundViews.{tested, in_range, view_sound}
use Rattle.statements.specs.Loads.{loaded_bytes}
use Rattle.statements.specs.Writes.{Answer, answer, load_answer, loaded_read, load_bytes}
use Rattle.statements.proofs.Loaded.{loaded_bytes_sound}
use Rattle.rules.proofs.Bridge.{ready_sound}
use Rattle.maps.specs.Bytes.{mapped, told, drawn_map, map_bytes_of}
use Rattle.drawing.specs.Draws.{drawn_bytes}
use Rattle.printing.specs.Prints.{map_printed}
use Rattle.printing.proofs.MapText.{map_printed_lem}
use Rattle.promises.specs.FromFiles.{Accepted, AtEnd}
use Rattle.promises.specs.Sentences.{ProgramEnds}
use Rattle.promises.proofs.Reaching.{Viewed, viewed, file_ok}
use Rattle.promises.proofs.Sentences.{sentences}
use Rattle.paper.specs.Refusals.{refusal_number}
use Rattle.paper.specs.declared.refused.Refusal.{Refusal}
use Rattle.paper.specs.declared.refused.Fault.{Fault}
use Rattle.mapping.specs.Runs.{Ends, Ran}
use Rattle.paper.proofs.NotZero.{refusal_not_zero}

-- no refusal has the number of a call that is done
not_done : (r : Refusal) → refusal_number r ≡ 0 → ⊥
not_done r = λ (z : refusal_number r ≡ 0). grind arith

-- what loading an accepted file leaves
record Loading (s d : List ℕ) : Type 0 where
  file : File
  last : ℕ
  read : read_file s ≡ got file last
  left : d ≡ loaded_bytes file

module _ (s d0 : List ℕ) (long : length d0 ≡ run_bytes) (d1 : List ℕ) where
  by_reading : (a : Answer) → a ≡ load_bytes s d0 → a ≡ loaded_read d0 (read_file s)
  unfolding load_bytes
  by_reading a e = e ∙ rw (eq-eqb (length d0) run_bytes long) refl

  pub ran_refused : (e : Fault) → load_answer (Err e) d1 ≡ load_bytes s d0 → Ran s (Err e) d1
  unfolding printed
  ran_refused e w = go (read_file s) refl (by_reading (load_answer (Err e) d1) w)
    where
      go : (x : Read File) → read_file s ≡ x → load_answer (Err e) d1 ≡ loaded_read d0 x → printed s ≡ printed_refusal (refusal_number e.refusal) e.at
      go (got f to) r g = let z : refusal_number e.refusal ≡ 0 = cc in absurd (not_done e.refusal z)
      go (fault j q) r g =
          let a : j ≡ refusal_number e.refusal = cc in
          let b : q ≡ e.at = cc in
          ap printed_read r ∙ ap (λ (i : ℕ). printed_refusal i q) a ∙ ap (printed_refusal (refusal_number e.refusal)) b

  module _ (w : load_answer (Ok tt) d1 ≡ load_bytes s d0) where
    loading : Loading s d1
    loading = go (read_file s) refl (by_reading (load_answer (Ok tt) d1) w)
      where
        go : (x : Read File) → read_file s ≡ x → answer 0 0 d1 ≡ loaded_read d0 x → Loading s d1
        go (got f to) r g = record { file = f; last = to; read = r; left = cc }
        go (fault j q) r g = let a : 0 ≡ j = cc in absurd (let y : ⊥ = omega (arith, refusal_not_zero s j q r) in y)

    module _ (bytes : (i : ℕ) → Fits w8 (byte_at s i)) where
      accepted : Accepted s loading.file
      accepted = record { bytes = λ i. omega (arith, bytes i); end = loading.last; read = loading.read }

      ok : FileOk loading.file.table loading.file.statements
      ok = file_ok s loading.file accepted

      pub loaded_sound : sound_bytes d1 ≡ true
      loaded_sound = ap sound_bytes loading.left ∙ loaded_bytes_sound loading.file ok

      module _ (d2 : List ℕ) (e2 : d2 ≡ drawn_bytes d1) where
        drawn_is : d2 ≡ drawn_bytes (loaded_bytes loading.file)
        drawn_is = e2 ∙ ap drawn_bytes loading.left

        ends : ProgramEnds s loading.file
        ends = sentences.program_ends s loading.file accepted

        view : Viewed loading.file ends.steps (drawn_bytes (loaded_bytes loading.file))
        view = viewed s loading.file accepted ends.carried

        pub drawn_sound : sound_bytes d2 ≡ true
        drawn_sound = ap sound_bytes drawn_is ∙ ready_sound (drawn_bytes (loaded_bytes loading.file)) view.ready

        text_is : printed s ≡ printed_run loading.file.table (run_of d2) (clash_of d2)
        text_is =
            sentences.program_prints s loading.file accepted
            ∙ ap (λ (d : List ℕ). printed_run loading.file.table (run_of d) (clash_of d)) (sym drawn_is)

        table_is : table_of d2 ≡ loading.file.table
        table_is = ap table_of drawn_is ∙ view.table

        pub ran_to_its_end : Ends s d2
        ran_to_its_end =
            record {
              sound = drawn_sound;
              over = subst AtEnd (sym drawn_is) ends.over;
              text = text_is ∙ ap (λ (t : Table). printed_run t (run_of d2) (clash_of d2)) (sym table_is);
            }

clashes : (b : Bool) → not b ≡ true → b ≡ false
clashes true e = absurd (let y : ⊥ = cc in y)
clashes false e = refl

runs : (b : Bool) → not b ≡ false → b ≡ true
runs true e = refl
runs false e = absurd (let y : ⊥ = cc in y)

-- a run at its end
module _ (d : List ℕ) (long : length d ≡ run_bytes) (sound : sound_bytes d ≡ true) (over : AtEnd d)
    (c : Bool) (ec : c ≡ not (eqb (byte_at d clash_at) 0)) where
  pub clash_printed : c ≡ true → (o o' : List ℕ) (n : ℕ) → PutFrom 0 printed_clash o o' n → PutFrom 0 (printed_run (table_of d) (run_of d) (clash_of d)) o o' n
  clash_printed h o o' n w =
      let f : clash_of d ≡ some (byte_at d clash_cabinet_at) = rw (clashes (eqb (byte_at d clash_at) 0) (sym ec ∙ h)) refl in
      subst (λ (l : List ℕ). PutFrom 0 l o o' n) (sym (ap (printed_run (table_of d) (run_of d)) f)) w

  pub unknowns_few : (v : ℕ) → Reads (byte_at d unknowns_at) byte_limit v → v ≤ most_unknowns
  unknowns_few v ev = omega (arith, ev.same, (in_range d (tested d sound)).unknowns)

  module _ (zc : c ≡ false) where
    running : byte_at d clash_at ≡ 0
    running = eqb-true (byte_at d clash_at) 0 (runs (eqb (byte_at d clash_at) 0) (sym ec ∙ zc))

    nothing_pending : count_of d ≡ 0
    nothing_pending = go over
      where
        go : AtEnd d → count_of d ≡ 0
        go (inl h) = absurd (let y : ⊥ = omega (arith, running, h) in y)
        go (inr h) = h.empty

    module _ (m0 : List ℕ) (lm : length m0 ≡ map_bytes) (r : Result (Unit {0}) Refusal) (m1 : List ℕ) (em : told r m1 ≡ map_bytes_of d m0) where
      made : told r m1 ≡ mapped 0 (map_of (table_of d) (run_of d))
      unfolding map_bytes_of drawn_map
      made =
          em ∙ rw (eq-eqb (length d) run_bytes long, eq-eqb (length m0) map_bytes lm, sound, eq-eqb (byte_at d clash_at) 0 running, eq-eqb (count_of d) 0 nothing_pending) refl

      pub map_accepted : IsOk r
      map_accepted = go r made
        where
          go : (r' : Result (Unit {0}) Refusal) → told r' m1 ≡ mapped 0 (map_of (table_of d) (run_of d)) → IsOk r'
          go (Ok u) e = refl
          go (Err e') e = let z : refusal_number e' ≡ 0 = cc in absurd (not_done e' z)

      its_bytes : (r' : Result (Unit {0}) Refusal) (m : List ℕ) → told r' m1 ≡ mapped 0 m → m1 ≡ m
      its_bytes (Ok u) m e = cc
      its_bytes (Err e') m e = cc

      map_is : m1 ≡ map_of (table_of d) (run_of d)
      map_is = its_bytes r (map_of (table_of d) (run_of d)) made

      pub items_printed : (v : ℕ) → Reads (byte_at d unknowns_at) byte_limit v → ((i : ℕ) → byte_at d i < 256) → (o o' : List ℕ) (n : ℕ) → PutFrom 0 (map_printed m1 v) o o' n
          → PutFrom 0 (printed_run (table_of d) (run_of d) (clash_of d)) o o' n
      unfolding table_of
      items_printed v ev b o o' n w =
          let f : clash_of d ≡ none = rw (eq-eqb (byte_at d clash_at) 0 running) refl in
          let k : TableOk (table_of d) = (view_sound d long (tested d sound) (λ i. omega (arith, b i))).table in
          subst (λ (l : List ℕ). PutFrom 0 l o o' n) (sym (ap (printed_run (table_of d) (run_of d)) f))
          (map_printed_lem (table_of d) (run_of d) k map_is ev.same w)

-- a text that was put from 0 on is the first bytes of its buffer
module _ (bs d e : List ℕ) (n : ℕ) (w : PutFrom 0 bs d e n) where
  put_first : e ≡ bs ++ drop (length bs) d
  unfolding put
  put_first = w.bytes ∙ (let z : 0 + length bs ≡ length bs = omega arith in rw z refl)

  pub text_within : n ≤ length e
  text_within = omega (arith, w.past, ap length put_first, length-append bs (drop (length bs) d))

  pub text_taken : take n e ≡ bs
  text_taken =
      ap (take n) put_first
      ∙ take-append-le n bs (drop (length bs) d) (omega (arith, w.past))
      ∙ take_all n bs (omega (arith, w.past))

-- a read behind the bytes that are there: n of the bytes that it left follow them
pub read_behind : (at n : ℕ) (xs ys : List ℕ) → at ≤ length xs → n ≤ length ys
    → take (at + n) (put_mid at (length xs - at) xs ys) ≡ take at xs ++ take n ys
read_behind at n xs ys h g =
    let w : List ℕ = put_mid at (length xs - at) xs ys in
    let rest : List ℕ = post_of at (length xs - at) xs in
    take-add at n w
    ∙ ap (λ (l : List ℕ). l ++ take n (drop at w)) (take-put_mid_below at (length xs - at) xs ys at (omega arith) h)
    ∙ ap (λ (l : List ℕ). take at xs ++ take n l) (drop_at (take at xs) (ys ++ rest) at (length-take-le at xs h))
    ∙ ap (λ (l : List ℕ). take at xs ++ l) (take-append-le n ys rest g)
