-- Laws of a record: one for each way out of `read_parts`, and the turns of the loop over its parts; and a symbol's limit.
use Prim.Native.Nat.{ℕ, suc, ◌+◌, ◌-◌, ◌≤◌, ◌<◌}
use mathlib.Core.Path.{◌≡◌, refl, sym, ap, ◌∙◌}
use mathlib.Core.List.{List, [], ◌∷◌, append-nil}
use native.Mathlib.Numerals.{add-one}
use native.Mathlib.Nat.{sub-zero}
use native.Mathlib.Omega.{arith}
use lib.ListN.{length, take, drop, set, replicate, length-set}
use lib.Seq.{take-suc-set, drop-set-lt, drop-drop}
use mir.Syntax.{w8}
use mir.Val.{Fits}
use Rattle.numbers.proofs.Reading.{ranged_next, ranged_below}
use Rattle.paper.specs.Sizes.{most_unknowns, most_parts, number_limit}
use Rattle.paper.specs.Refusals.{refusal_number, bad_number, too_many_parts, part_not_unknown}
use Rattle.paper.specs.Numbers.{got, fault, ranged_at}
use Rattle.paper.specs.Tables.{Record}
use Rattle.paper.specs.Files.{Form, end, ◌>>=◌, number, times, record_form, reading}
use Rattle.paper.proofs.Forms.{and_then, reading_bind}
use Rattle.reading.specs.declared.RecordRead.{RecordRead}
use Rattle.reading.specs.Reads.{parts_form, record_of, RecordFound}
use Rattle.std.specs.Prelude.{Ok, Err}
use Rattle.paper.specs.declared.refused.Fault.{Fault}
use Rattle.paper.specs.declared.Found.{Found}
use Rattle.reading.proofs.Onward.{got_value, number_got, bind_got}
use Rattle.reading.proofs.Times.{after, after_after, after_none, first_read, first_refused}

-- a part
abbrev part : ℕ → Form ℕ
part v = number 0 v part_not_unknown

-- what follows a record's symbol
abbrev after_symbol : ℕ → ℕ → Form Record
after_symbol v symbol = number 0 (suc most_parts) too_many_parts >>= parts_form v symbol

-- i of the parts are read, up to `here`; part places from i on are 0
pub record PartsSoFar (v count : ℕ) (f : List ℕ) (at : ℕ) (parts : List ℕ) (i here : ℕ) : Type 0 where
  pub most : i ≤ count
  pub long : length parts ≡ most_parts
  pub read : reading (times count (part v)) f at ≡ after (take i parts) (reading (times (count - i) (part v)) f here)
  pub rest : drop i parts ≡ replicate (most_parts - i) 0

module _ (v count : ℕ) (f : List ℕ) (at : ℕ) where
  -- a record is read where its parts are
  made_of_parts : (symbol : ℕ)
      → reading (parts_form v symbol count) f at
      ≡ and_then (reading (times count (part v)) f at) (λ l to. got (record { symbol = symbol; parts = l }) to)
  made_of_parts symbol = reading_bind (times count (part v)) (λ l. end (record { symbol = symbol; parts = l })) f at

  pub no_part_yet : PartsSoFar v count f at (0 ∷ 0 ∷ 0 ∷ 0 ∷ []) 0 at
  no_part_yet =
      record {
        most = omega arith;
        long = refl;
        read = rw sub-zero (sym (after_none (reading (times count (part v)) f at)));
        rest = refl;
      }

  module _ (few : count ≤ most_parts) (parts : List ℕ) (i here : ℕ) (h : PartsSoFar v count f at parts i here) where
    -- all parts are read
    pub parts_read : (symbol : ℕ) → count ≤ i
        → RecordFound (parts_form v symbol count) f at
        (Ok (record { value = record { symbol = symbol; count = count; parts = parts }; next = here }))
    parts_read symbol l =
        let e : i ≡ count = omega (arith, h.most) in
        let z : count - i ≡ 0 = omega arith in
        let d : reading (times count (part v)) f at ≡ got (take count parts) here =
        h.read ∙ rw (z, e) (ap (λ (k : List ℕ). got k here) (append-nil (take count parts))) in
        record { read = sym (made_of_parts symbol ∙ rw d refl); places = record { few = few; long = h.long; rest = rw e at h.rest } }

    module _ (l : i < count) where
      one_left : count - i ≡ suc (count - (i + 1))
      one_left = omega arith

      place_left : most_parts - i ≡ suc (most_parts - (i + 1))
      place_left = omega arith

      pub part_refused : (symbol : ℕ) (e : Fault) → fault (refusal_number e.refusal) e.at ≡ ranged_at 0 v part_not_unknown f here
          → RecordFound (parts_form v symbol count) f at (Err e)
      part_refused symbol e r =
          let a : reading (times count (part v)) f at ≡ fault (refusal_number e.refusal) e.at =
          h.read ∙ rw (one_left, first_refused (part v) f (count - (i + 1)) here (refusal_number e.refusal) e.at (rw (← r) refl)) refl in
          record { read = sym (made_of_parts symbol ∙ rw a refl); places = tt }

      module _ (n to : ℕ) (r : got n to ≡ ranged_at 0 v part_not_unknown f here) where
        pub part_read : PartsSoFar v count f at (set parts i n) (i + 1) to
        part_read =
            record {
              most = omega arith;
              long = length-set parts i n ∙ h.long;
              read =
                  h.read ∙ rw (one_left, first_read (part v) f (count - (i + 1)) here n to (rw (← r) refl))
                  (after_after (take i parts) (n ∷ []) (reading (times (count - (i + 1)) (part v)) f to)
                  ∙ rw (add-one, take-suc-set parts i n (omega (arith, h.long))) refl);
              rest =
                  drop-set-lt (i + 1) parts i n (omega arith) ∙ sym (drop-drop 1 i parts)
                  ∙ ap (drop 1) h.rest ∙ rw (place_left) refl;
            }

        -- and a part that was read is a byte
        pub part_fits : v ≤ most_unknowns → Fits w8 n
        part_fits w = omega (arith, ranged_below 0 v part_not_unknown f here n to r)

-- a record's symbol, where its read was not refused
symbol_read : (v : ℕ) (f : List ℕ) (at : ℕ) (q : Record) (to : ℕ) → reading (record_form v) f at ≡ got q to → q.symbol < number_limit
symbol_read v f at q to e =
    let x = number_got f 0 number_limit bad_number (after_symbol v) at q to e in
    let y = number_got f 0 (suc most_parts) too_many_parts (parts_form v x.value) x.between q to x.second in
    let z = bind_got (times y.value (part v)) (λ l. end (record { symbol = x.value; parts = l })) f y.between q to y.second in
    let s : x.value ≡ q.symbol = ap (λ (k : Record). k.symbol) (got_value z.second) in
    omega (arith, (ranged_next 0 number_limit bad_number f at x.value x.between x.first).3)

pub symbol_small : (v : ℕ) (f : List ℕ) (at : ℕ) (y : Found RecordRead) → RecordFound (record_form v) f at (Ok y)
    → y.value.symbol < number_limit
symbol_small v f at y h = symbol_read v f at (record_of y.value) y.next (sym h.read)
