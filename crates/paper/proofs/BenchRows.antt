-- Rows by name, that tell document 01's map from near ones: 0 open, 1 = f(0), 2 = f(1), where depth V − 2 is too little; and
-- two open unknowns.
use mathlib.Core.Path.{◌≡◌, refl}
use mathlib.Core.Bool.{true, false}
use mathlib.Core.List.{[], ◌∷◌, map}
use Prim.Native.Nat.{ℕ, zero, suc, ◌-◌}
use Rattle.paper.specs.Ends.{End, at_open, at_record, agree}
use Rattle.paper.specs.Maps.{Look, open_look, record_look, Row, lowest_of, row_of}

abbrev chain : ℕ → End
chain zero = at_open 0
chain (suc n) = at_record (record { symbol = 7; parts = n ∷ [] })

abbrev row : ℕ → Look → Row
row m k = record { lowest = m; look = k }

-- 1 and 2 agree to depth V − 2, and not to depth V
pub depth_V_less_2_is_too_little : (agree chain (3 - 2) 1 2 ≡ true) × (agree chain 3 1 2 ≡ false)
depth_V_less_2_is_too_little = (refl, refl)

-- so the map tells them apart
pub rows_of_chain : map (row_of chain 3) (0 ∷ 1 ∷ 2 ∷ [])
    ≡ row 0 open_look ∷ row 1 (record_look 7 (0 ∷ [])) ∷ row 2 (record_look 7 (1 ∷ [])) ∷ []
unfolding row_of lowest_of
rows_of_chain = refl

-- an open unknown is the same item as no other
pub rows_of_open_unknowns : map (row_of at_open 2) (0 ∷ 1 ∷ []) ≡ row 0 open_look ∷ row 1 open_look ∷ []
unfolding row_of lowest_of
rows_of_open_unknowns = refl
