-- The definitions give what document 01's bench sheet says, line by line, and what our own two lists say.
use mathlib.Core.Path.{◌≡◌, refl}
use mathlib.Core.List.{map}
use Rattle.paper.specs.Vectors.{answer_of, bench_sheet, own_sheet, reply_sheet}

-- "proved of the definitions, as a single statement over one list"
pub bench_sheet_lem : map (λ v. answer_of v.question) bench_sheet ≡ map (λ v. v.answer) bench_sheet
unfolding answer_of bench_sheet
bench_sheet_lem = refl

-- our own vectors
pub own_sheet_lem : map (λ v. answer_of v.question) own_sheet ≡ map (λ v. v.answer) own_sheet
unfolding answer_of own_sheet
own_sheet_lem = refl

-- the replies
pub reply_sheet_lem : map (λ v. answer_of v.question) reply_sheet ≡ map (λ v. v.answer) reply_sheet
unfolding answer_of reply_sheet
reply_sheet_lem = refl
