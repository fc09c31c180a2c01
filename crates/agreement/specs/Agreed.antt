-- What the two functions of agreement give: the table after, as Ok where there is agreement and as Err where there is none, by the
-- paper's relations.
use Rattle.std.specs.Prelude.{Bool, true, false, List, ℕ, Result, MatchResult}
use Rattle.paper.specs.Ends.{End, Unknowns, Parts}
use Rattle.agreement.specs.declared.met.Met.{Met}
use Rattle.agreement.specs.Met.{met_of}

-- whether x and y, asked with the table m, agree, and which table comes after
abbrev pub UnknownsAgree : (ℕ → End) → ℕ → ℕ → (ℕ → ℕ → Bool) → Result Met Met → Type 0
UnknownsAgree e x y m r = MatchResult r (λ after. Unknowns e x y m true (met_of after.words)) (λ after. Unknowns e x y m false (met_of after.words))

-- whether the parts ps and qs, asked with the table m, agree pairwise, and which table comes after
abbrev pub PartsAgree : (ℕ → End) → List ℕ → List ℕ → (ℕ → ℕ → Bool) → Result Met Met → Type 0
PartsAgree e ps qs m r = MatchResult r (λ after. Parts e ps qs m true (met_of after.words)) (λ after. Parts e ps qs m false (met_of after.words))
