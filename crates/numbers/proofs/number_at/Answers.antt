-- `number_at` meets its contract: the groups before `here` are read, a law for each way out.
use Rattle.numbers.proofs.Reading.{byte_there, none_read, all_read, cut_short, longer_than_need, over_the_limit, number_ends, product_fits, sum_fits, group_product_fits, group_sum_fits, scale_fits, one_more}
use Rattle.numbers.proofs.number_at.Goals as goal
use Rattle.numbers.proofs.number_at.Goals.{then-group-least-via-then-group-least, then-group-least-via-else-group-least+then-largest_end-group}

pub loop-more-init : goal.loop-more-init
loop-more-init c = search none_read

pub returns-in_default : goal.returns-in_default
returns-in_default c =
    let h = c.in_default.ensures.lookup.3 in
    rw (c.at.ensures.refusal, c.at.ensures.position) (search cut_short)

pub returns-then-group-least : goal.returns-then-group-least
returns-then-group-least c =
    let q = byte_there _ _ _ _ c.in-Some.ensures.lookup.0 c.in-Some.ensures.lookup.1 c.from-group.ensures in
    elim c.then-group-least.branch [
      | then-group-least-via-then-group-least w ↦ rw (c.at-then-group-least.ensures.refusal, c.at-then-group-least.ensures.position) (search longer_than_need)
      | then-group-least-via-else-group-least+then-largest_end-group w ↦ rw (c.at-then-group-least.ensures.refusal, c.at-then-group-least.ensures.position) (search over_the_limit)
    ]

pub overflow_mul-result : goal.overflow_mul-result
overflow_mul-result c = search product_fits

pub overflow_add-result : goal.overflow_add-result
overflow_add-result c = search sum_fits

pub returns-then-group-lt128 : goal.returns-then-group-lt128
returns-then-group-lt128 c =
    let q = byte_there _ _ _ _ c.in-Some.ensures.lookup.0 c.in-Some.ensures.lookup.1 c.from-group.ensures in
    search number_ends

pub overflow_mul-value : goal.overflow_mul-value
overflow_mul-value c = search group_product_fits

pub overflow_add-value : goal.overflow_add-value
overflow_add-value c = search group_sum_fits

pub overflow_mul-scale : goal.overflow_mul-scale
overflow_mul-scale c = search scale_fits

pub loop-more-preserved : goal.loop-more-preserved
loop-more-preserved c =
    let q = byte_there _ _ _ _ c.in-Some.ensures.lookup.0 c.in-Some.ensures.lookup.1 c.from-group.ensures in
    search one_more

pub returns : goal.returns
returns c = rw (c.at-2.ensures.refusal, c.at-2.ensures.position) (search all_read)
