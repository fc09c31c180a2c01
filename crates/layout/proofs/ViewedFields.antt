-- Fields of the paper's table and state, read off the bytes.
use mathlib.Core.Path.{◌≡◌, sym, ap, ◌∙◌}
use mathlib.Core.Bool.{false, ◌&&◌}
use mathlib.Core.List.{List}
use Prim.Native.Nat.{ℕ, ◌+◌, ◌-◌, ◌≤◌, ◌<◌}
use native.Mathlib.Nat.{zero-add}
use native.Mathlib.Omega.{arith}
use borrow.Author.Tests.{lt-ltb, eq-eqb, ne_eqb}
use lib.Dec.{eqb}
use Rattle.base.proofs.Froms.{from_length, from_get_d}
use Rattle.paper.specs.Sizes.{most_unknowns, number_limit}
use Rattle.paper.specs.Tables.{no_record, record_at, same_head}
use Rattle.layout.specs.Offsets.{unknowns_at, records_at, owners_at}
use Rattle.layout.specs.Fields.{byte_at, symbol_of, part_count_of, part_of, record_of, owner_mark, owner_of, table_of}
use Rattle.layout.specs.Given.{Reads, byte_limit}

module _ (d : List ℕ) where
  pub owner_byte : (x : ℕ) → x < most_unknowns → owner_of d x ≡ owner_mark (byte_at d (owners_at + x))
  unfolding owner_of
  owner_byte x h = rw (lt-ltb x most_unknowns h)

  pub record_byte : (a : ℕ) → byte_at d unknowns_at ≤ a → a < byte_at d unknowns_at + byte_at d records_at
      → record_at (table_of d) a ≡ record_of d (a - byte_at d unknowns_at)
  unfolding table_of
  record_byte a h l =
      from_get_d (record_of d) (byte_at d records_at) 0 (a - byte_at d unknowns_at) no_record (omega arith)
      ∙ ap (record_of d) (zero-add (a - byte_at d unknowns_at))

  pub head_byte : (i k : ℕ) → same_head (record_of d i) (record_of d k) ≡ (eqb (symbol_of d i) (symbol_of d k) && eqb (part_count_of d i) (part_count_of d k))
  unfolding record_of
  head_byte i k = rw (from_length (part_of d i) (part_count_of d i) 0, from_length (part_of d k) (part_count_of d k) 0)

-- two records' heads, as read
module _ (d : List ℕ) (i k s t : ℕ) (hs : Reads (symbol_of d i) number_limit s) (ht : Reads (symbol_of d k) number_limit t) where
  pub heads_differ : (s ≡ t → ⊥) → false ≡ same_head (record_of d i) (record_of d k)
  heads_differ n = sym (head_byte d i k ∙ rw (← hs.same, ← ht.same, ne_eqb s t n))

  pub heads_counted : (m n : ℕ) → Reads (part_count_of d i) byte_limit m → Reads (part_count_of d k) byte_limit n → s ≡ t
      → eqb m n ≡ same_head (record_of d i) (record_of d k)
  heads_counted m n hm hn e = sym (head_byte d i k ∙ rw (← hs.same, ← ht.same, ← hm.same, ← hn.same, eq-eqb s t e))
