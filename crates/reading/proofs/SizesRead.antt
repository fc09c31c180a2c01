-- The limits that the sizes keep to.
use Prim.Native.Nat.{ℕ, suc, ◌≤◌}
use mathlib.Core.Path.{◌≡◌}
use mathlib.Core.List.{List}
use native.Mathlib.Omega.{arith}
use Rattle.numbers.proofs.Reading.{ranged_next}
use Rattle.paper.specs.Sizes.{most_cabinets, most_unknowns, most_records}
use Rattle.paper.specs.Refusals.{bad_cabinets, bad_unknowns, bad_records}
use Rattle.paper.specs.Numbers.{got}
use Rattle.paper.specs.Files.{Form, end, ◌>>=◌, number, reading}
use Rattle.reading.specs.Reads.{Heading, sizes_form}
use Rattle.reading.proofs.Onward.{number_got}

-- "Cabinets S: 1 to 8. V: 0 to 32. R: 0 to 64."
pub record HeadingOk (h : Heading) : Type 0 where
  pub some : 1 ≤ h.cabinets
  pub cabinets : h.cabinets ≤ most_cabinets
  pub unknowns : h.unknowns ≤ most_unknowns
  pub count : h.count ≤ most_records

-- what follows R, V and S
abbrev heading_of : ℕ → ℕ → ℕ → Form Heading
heading_of s v r = end (record { cabinets = s; unknowns = v; count = r })

abbrev after_unknowns : ℕ → ℕ → Form Heading
after_unknowns s v = number 0 (suc most_records) bad_records >>= heading_of s v

abbrev after_cabinets : ℕ → Form Heading
after_cabinets s = number 0 (suc most_unknowns) bad_unknowns >>= after_unknowns s

pub heading_ok : (f : List ℕ) (h : Heading) (to : ℕ) → reading sizes_form f 0 ≡ got h to → HeadingOk h
heading_ok f h to e =
    let x = number_got f 1 (suc most_cabinets) bad_cabinets after_cabinets 0 h to e in
    let y = number_got f 0 (suc most_unknowns) bad_unknowns (after_unknowns x.value) x.between h to x.second in
    let z = number_got f 0 (suc most_records) bad_records (heading_of x.value y.value) y.between h to y.second in
    let a = ranged_next 1 (suc most_cabinets) bad_cabinets f 0 x.value x.between x.first in
    let b = ranged_next 0 (suc most_unknowns) bad_unknowns f x.between y.value y.between y.first in
    let c = ranged_next 0 (suc most_records) bad_records f y.between z.value z.between z.first in
    let d : ◌≡◌ {A = Heading} (record { cabinets = x.value; unknowns = y.value; count = z.value }) h = cc z.second in
    rw (← d) (record { some = a.2; cabinets = omega (arith, a.3); unknowns = omega (arith, b.3); count = omega (arith, c.3) })
