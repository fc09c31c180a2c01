-- Laws of the call that writes: the table, the file, and one law for each way out.
use Prim.Native.Nat.{ℕ, ◌-◌, ◌≤◌}
use mathlib.Core.Path.{◌≡◌, refl, sym, ap, subst, ◌∙◌}
use mathlib.Core.Bool.{true}
use mathlib.Core.List.{List, [], ◌++◌, append-nil}
use Rattle.std.proofs.Common.{arith}
use native.Mathlib.Nat.{zero-add}
use lib.ListN.{length, replicate, take, drop, length-drop, drop_of_length-le}
use lib.Seq.{take_at}
use borrow.Rule.Slice.PartMut.{put_mid}
use Rattle.base.specs.Lists.{list_from, Bytes}
use Rattle.base.specs.Regions.{put}
use Rattle.base.proofs.Froms.{from_length}
use Rattle.paper.specs.Sizes.{most_records, room, longest_file}
use Rattle.paper.specs.Numbers.{number_bytes}
use Rattle.paper.specs.Files.{each, record_bytes, statement_bytes, table_bytes, file_bytes, padded_file}
use Rattle.paper.proofs.RoundTrip.{written_no_longer}
use Rattle.layout.specs.Offsets.{cabinets_at, unknowns_at, records_at, statements_at, run_bytes}
use Rattle.layout.specs.Given.{Reads, byte_limit}
use Rattle.layout.specs.Fields.{byte_at, record_of, records_from, table_of}
use Rattle.layout.specs.Soundness.{sound_bytes}
use Rattle.layout.proofs.SoundViews.{tested, in_range}
use Rattle.layout.proofs.Putting.{put_long}
use Rattle.statements.specs.declared.writing.Writer.{Writer}
use Rattle.statements.specs.Pieces.{HasRoom, Adds}
use Rattle.statements.specs.Writes.{as_loaded, statement_at, file_of}
use Rattle.statements.proofs.WritePieces.{first_room, then_room, then_adds}
use Rattle.statements.proofs.BothWays.{own_file_ok}

-- the table
module _ (d : List ℕ) (w : Writer) (most : HasRoom w (table_bytes (table_of d)))
    (s : ℕ) (es : Reads (byte_at d cabinets_at) byte_limit s) (v : ℕ) (ev : Reads (byte_at d unknowns_at) byte_limit v)
    (r : ℕ) (er : Reads (byte_at d records_at) byte_limit r) where
  abbrev records : List ℕ
  records = each record_bytes (records_from d r 0)

  table_is : table_bytes (table_of d) ≡ number_bytes s ++ (number_bytes v ++ (number_bytes r ++ records))
  unfolding table_bytes table_of
  table_is =
      rw (es.same, ev.same, er.same)
      (ap (λ (k : ℕ). number_bytes (byte_at d cabinets_at) ++ (number_bytes (byte_at d unknowns_at) ++ (number_bytes k ++ each record_bytes (records_from d (byte_at d records_at) 0))))
      (from_length (record_of d) (byte_at d records_at) 0))

  room_is : HasRoom w (number_bytes s ++ (number_bytes v ++ (number_bytes r ++ records)))
  room_is = subst (λ (bs : List ℕ). HasRoom w bs) table_is most

  pub s_room : HasRoom w (number_bytes s)
  s_room = first_room _ _ room_is

  pub records_few : length d ≡ run_bytes → sound_bytes d ≡ true → r ≤ most_records
  records_few l h = omega (arith, er.same, (in_range d (tested d h)).records)

  module _ (w1 : Writer) (g1 : Adds w (number_bytes s) w1) where
    pub v_room : HasRoom w1 (number_bytes v)
    v_room = first_room _ _ (then_room room_is g1)

    module _ (w2 : Writer) (g2 : Adds w1 (number_bytes v) w2) where
      pub r_room : HasRoom w2 (number_bytes r)
      r_room = first_room _ _ (then_room (then_room room_is g1) g2)

      module _ (w3 : Writer) (g3 : Adds w2 (number_bytes r) w3) where
        pub records_room : HasRoom w3 (each record_bytes (records_from d r 0))
        records_room = then_room (then_room (then_room room_is g1) g2) g3

        pub table_adds : (w4 : Writer) → Adds w3 (each record_bytes (records_from d r 0)) w4 → Adds w (table_bytes (table_of d)) w4
        table_adds w4 g4 =
            subst (λ (bs : List ℕ). Adds w bs w4) (sym table_is)
            (then_adds room_is g1 (then_adds (then_room room_is g1) g2 (then_adds (then_room (then_room room_is g1) g2) g3 g4)))

-- the file
module _ (d : List ℕ) (w : Writer) (most : HasRoom w (file_bytes (file_of d))) (e : ℕ) (ee : Reads (byte_at d statements_at) byte_limit e) where
  abbrev statements : List ℕ
  statements = each statement_bytes (list_from (statement_at d) e 0)

  file_is : file_bytes (file_of d) ≡ table_bytes (table_of d) ++ (number_bytes e ++ statements)
  unfolding file_bytes file_of
  file_is =
      rw ee.same
      (ap (λ (k : ℕ). table_bytes (table_of d) ++ (number_bytes k ++ each statement_bytes (list_from (statement_at d) (byte_at d statements_at) 0)))
      (from_length (statement_at d) (byte_at d statements_at) 0))

  file_room : HasRoom w (table_bytes (table_of d) ++ (number_bytes e ++ statements))
  file_room = subst (λ (bs : List ℕ). HasRoom w bs) file_is most

  pub table_room : HasRoom w (table_bytes (table_of d))
  table_room = first_room _ _ file_room

  pub e_few : e ≤ room
  e_few = omega (arith, ee.small)

  module _ (w1 : Writer) (g1 : Adds w (table_bytes (table_of d)) w1) where
    pub e_room : HasRoom w1 (number_bytes e)
    e_room = first_room _ _ (then_room file_room g1)

    module _ (w2 : Writer) (g2 : Adds w1 (number_bytes e) w2) where
      pub statements_room : HasRoom w2 (each statement_bytes (list_from (statement_at d) e 0))
      statements_room = then_room (then_room file_room g1) g2

      pub file_adds : (w3 : Writer) → Adds w2 (each statement_bytes (list_from (statement_at d) e 0)) w3 → Adds w (file_bytes (file_of d)) w3
      file_adds w3 g3 =
          subst (λ (bs : List ℕ). Adds w bs w3) (sym file_is) (then_adds file_room g1 (then_adds (then_room file_room g1) g2 g3))

-- the file of a run that is as loaded is no longer than the longest
module _ (d : List ℕ) (l : length d ≡ run_bytes) (b : Bytes d) (s : sound_bytes d ≡ true) (a : as_loaded d ≡ true) where
  pub file_short : length (file_bytes (file_of d)) ≤ longest_file
  file_short = written_no_longer (file_of d) (own_file_ok d l b s a)

  module _ (w : Writer) (k : length w.file.now ≡ longest_file) (z : w.at ≡ 0) where
    pub file_has_room : HasRoom w (file_bytes (file_of d))
    file_has_room = record { fits = omega (arith, file_short, k, z) }

    module _ (w1 : Writer) (g : Adds w (file_bytes (file_of d)) w1) where
      pub end_is : w1.at ≡ length (file_bytes (file_of d))
      end_is = omega (arith, g.put.past, z)

      pub end_fits : w1.at ≤ longest_file
      end_fits = omega (arith, file_short, end_is)

      -- and zeros after it
      pub padded_put : (y : List ℕ) → y ≡ replicate (longest_file - w1.at) 0
          → put_mid w1.at (longest_file - w1.at) w1.file.now y ≡ padded_file (file_of d)
      unfolding padded_file put
      padded_put y e =
          let bs = file_bytes (file_of d) in
          let u : w1.file.now ≡ bs ++ drop (length bs) w.file.now = g.put.bytes ∙ rw (z, zero-add) refl in
          let t : take w1.at w1.file.now ≡ bs = rw (u, end_is) (take_at bs (drop (length bs) w.file.now) (length bs) refl) in
          let n : length w1.file.now ≡ longest_file = put_long g.put (omega (arith, file_short, k, z)) ∙ k in
          let f : drop (longest_file - w1.at) (drop w1.at w1.file.now) ≡ [] =
          drop_of_length-le (drop w1.at w1.file.now) {i = longest_file - w1.at} (omega (arith, length-drop w1.at w1.file.now, n)) in
          rw (t, f, e, end_is, append-nil) refl
