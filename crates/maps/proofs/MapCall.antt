-- What a map call replies and leaves: one law for each refusal, in their order, and one for a map that is drawn.
use mathlib.Core.Path.{◌≡◌, refl, sym, ap, ◌∙◌}
use mathlib.Core.Bool.{Bool, true, false, not}
use mathlib.Core.List.{List}
use Prim.Native.Nat.{ℕ}
use borrow.Author.Tests.{eq-eqb, ne_eqb, not-true, not-false}
use lib.Dec.{eqb}
use lib.ListN.{length}
use Rattle.std.specs.Array.{IsWholeChunk}
use Rattle.paper.specs.Refusals.{wrong_length, has_clashed, items_pending, not_sound}
use Rattle.layout.specs.Offsets.{clash_at, run_bytes, map_bytes}
use Rattle.layout.specs.Fields.{byte_at, count_of, table_of, run_of}
use Rattle.layout.specs.Given.{Reads, count_limit}
use Rattle.layout.specs.Soundness.{sound_bytes}
use Rattle.layout.specs.MapRows.{map_of}
use Rattle.maps.specs.Bytes.{mapped, drawn_map, map_bytes_of}

module _ (d m : List ℕ) where
  pub run_length_refused : (length d ≡ run_bytes → ⊥) → mapped wrong_length m ≡ map_bytes_of d m
  unfolding map_bytes_of
  run_length_refused n = rw (ne_eqb (length d) run_bytes n)

  -- the run as an array, and the map
  module _ (d' : List ℕ) (w : IsWholeChunk d d' run_bytes) where
    pub map_length_refused : (length m ≡ map_bytes → ⊥) → mapped wrong_length m ≡ map_bytes_of d m
    unfolding map_bytes_of
    map_length_refused n = rw (eq-eqb (length d) run_bytes w.long, ne_eqb (length m) map_bytes n)

    module _ (m' : List ℕ) (u : IsWholeChunk m m' map_bytes) (b : Bool) (e : b ≡ sound_bytes d') where
      tested : b ≡ sound_bytes d
      tested = e ∙ ap sound_bytes w.same

      pub unsound_refused : b ≡ false → mapped not_sound m' ≡ map_bytes_of d m
      unfolding map_bytes_of
      unsound_refused t = rw (u.same, eq-eqb (length d) run_bytes w.long, eq-eqb (length m) map_bytes u.long, ← tested, t)

      module _ (t : b ≡ true) (c : Bool) (r : c ≡ not (eqb (byte_at d' clash_at) 0)) where
        drawn_map_lem : map_bytes_of d m ≡ drawn_map d' m'
        unfolding map_bytes_of
        drawn_map_lem = rw (w.same, u.same, eq-eqb (length d) run_bytes w.long, eq-eqb (length m) map_bytes u.long, ← tested, t) refl

        pub clash_refused : c ≡ true → mapped has_clashed m' ≡ map_bytes_of d m
        unfolding drawn_map
        clash_refused n = sym (drawn_map_lem ∙ rw (not-true (eqb (byte_at d' clash_at) 0) (sym r ∙ n)) refl)

        module _ (z : c ≡ false) (p : ℕ) (q : Reads (count_of d') count_limit p) where
          running : eqb (byte_at d' clash_at) 0 ≡ true
          running = not-false (eqb (byte_at d' clash_at) 0) (sym r ∙ z)

          pub pending_refused : (p ≡ 0 → ⊥) → mapped items_pending m' ≡ map_bytes_of d m
          unfolding drawn_map
          pending_refused n = sym (drawn_map_lem ∙ rw (running, ← q.same, ne_eqb p 0 n) refl)

          pub map_made : (l : List ℕ) → p ≡ 0 → l ≡ map_of (table_of d') (run_of d') → mapped 0 l ≡ map_bytes_of d m
          unfolding drawn_map
          map_made l n e' = ap (mapped 0) e' ∙ sym (drawn_map_lem ∙ rw (running, ← q.same, eq-eqb p 0 n) refl)
