-- What a read gives; and numbers of a statement file, once over the number of groups and the largest last group.
use Rattle.std.specs.Prelude.{◌&&◌, List, [], ◌∷◌, ℕ, zero, suc, ◌+◌, ◌*◌, ◌/◌, ◌%◌, ltb, leb, length, get_or}
use Rattle.base.specs.Choice.{pick}
use Rattle.paper.specs.Sizes.{most_groups, top_group}
use Rattle.paper.specs.Refusals.{file_ends, bad_number}

-- what was read and the next position; or the refusal and "the position where the faulty number starts"
pub data Read (A : Type 0) : Type 0 where
  got : A → ℕ → Read A
  fault : ℕ → ℕ → Read A

-- the largest group that may end a number with k groups more allowed after it
abbrev pub largest : ℕ → ℕ → ℕ
largest zero top = top
largest (suc k) top = 127

-- "lowest first": a group in front of what follows
abbrev pub above : ℕ → Read ℕ → Read ℕ
above d (got n next) = got (d + 128 * n) next
above d (fault k p) = fault k p

-- a number's groups, at most so many, from `at` on; the number starts at `from`. Of each, "the top bit says that another
-- follows". "It must be in shortest form": the ending group is at least `least`. The last that may come is at most `top`.
unfoldable pub groups_from : ℕ → ℕ → ℕ → List ℕ → ℕ → ℕ → Read ℕ
groups_from zero top least s from at = fault bad_number from
groups_from (suc k) top least s from at =
    pick (ltb at (length s))
    (pick (ltb (get_or s at 0) 128)
    (pick (leb least (get_or s at 0) && leb (get_or s at 0) (largest k top)) (got (get_or s at 0) (at + 1)) (fault bad_number from))
    (above (get_or s at 0 % 128) (groups_from k top 1 s from (at + 1))))
    (fault file_ends from)

-- "A number is 1 to 5 groups of seven bits .. at most 4,294,967,295. A fifth byte above 15 is refused at once."
unfoldable pub number_at : List ℕ → ℕ → Read ℕ
unfolding groups_from
number_at s at = groups_from most_groups top_group 0 s at at

-- a number read at `at`: refusal k there unless it is at least `low` and below `below`
abbrev pub within : ℕ → ℕ → ℕ → ℕ → Read ℕ → Read ℕ
within low below k at (got n next) = pick (leb low n && ltb n below) (got n next) (fault k at)
within low below k at (fault j p) = fault j p

-- "Each number's range is tested as soon as it is read."
unfoldable pub ranged_at : ℕ → ℕ → ℕ → List ℕ → ℕ → Read ℕ
unfolding number_at
ranged_at low below k s at = within low below k at (number_at s at)

-- a number written in at most that many groups
abbrev pub groups_of : ℕ → ℕ → List ℕ
groups_of zero n = []
groups_of (suc zero) n = n ∷ []
groups_of (suc (suc k)) n = pick (ltb n 128) (n ∷ []) ((128 + n % 128) ∷ groups_of (suc k) (n / 128))

-- a number's bytes, in shortest form
unfoldable pub number_bytes : ℕ → List ℕ
number_bytes n = groups_of most_groups n
