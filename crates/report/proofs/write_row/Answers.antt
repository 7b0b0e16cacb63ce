-- `write_row`: four fields, one behind another.
use Rattle.report.specs.Report.{row_text}
use Rattle.report.specs.Stored.{stored_more}
use Rattle.report.proofs.write_row.Goals as goal

pub returns : goal.returns
unfolding row_text
returns c =
    let fields =
    stored_more c.write_number-a.ensures
    (stored_more c.write_address-b.ensures (stored_more c.write_number-c.ensures c.write_number.ensures)) in
    rw (c.from.ensures, c.from-2.ensures, c.routine-row.ensures) at fields
