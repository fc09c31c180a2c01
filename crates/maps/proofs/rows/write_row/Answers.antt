-- `write_row` meets its contract: an open row is its first byte, and a record's row is that and the record's bytes.
use Rattle.maps.proofs.Drawing.{open_drawn, record_drawn}
use Rattle.maps.proofs.rows.write_row.Goals as goal

pub returns-then-a-v : goal.returns-then-a-v
returns-then-a-v c = search open_drawn

pub returns : goal.returns
returns c = search record_drawn
