-- `map` meets its contract: one law for each refusal, and one for the map that is drawn.
use Rattle.maps.proofs.MapCall.{run_length_refused, map_length_refused, unsound_refused, clash_refused, pending_refused, map_made}
use Rattle.maps.proofs.map.Goals as goal

pub returns-in_default : goal.returns-in_default
returns-in_default c = search (run_length_refused, c.in_default.ensures.cases)

pub returns-in_default-as_mut_array : goal.returns-in_default-as_mut_array
returns-in_default-as_mut_array c = search (map_length_refused, c.in-Some.ensures.cases, c.in_default-as_mut_array.ensures.cases)

pub returns-then-not-sound : goal.returns-then-not-sound
returns-then-not-sound c = search (unsound_refused, c.in-Some.ensures.cases, c.in-Some-as_mut_array.ensures.cases)

pub returns-then-has_clashed : goal.returns-then-has_clashed
returns-then-has_clashed c = search (clash_refused, c.in-Some.ensures.cases, c.in-Some-as_mut_array.ensures.cases)

pub returns-then-count-ne0 : goal.returns-then-count-ne0
returns-then-count-ne0 c = search (pending_refused, c.in-Some.ensures.cases, c.in-Some-as_mut_array.ensures.cases)

pub returns : goal.returns
returns c = search (map_made, c.in-Some.ensures.cases, c.in-Some-as_mut_array.ensures.cases)
