-- `write_record` meets its contract: the kind, the head and the parts, each right after the other.
use native.Mathlib.Omega.{arith}
use Rattle.agreement.proofs.Ranges.{counted_record}
use Rattle.maps.proofs.Drawing.{record_put}
use Rattle.maps.proofs.rows.write_record.Goals as goal

pub write_lows-requires : goal.write_lows-requires
write_lows-requires c =
    let counted = counted_record _ _ _ _ c.args.items.now.ends.sound c.requires.0 c.part_count-n.ensures.same in
    (counted, omega (arith, counted.few))

pub returns : goal.returns
returns c = search record_put
