-- What stands before the last digit is written first.
use Rattle.std.proofs.Common.{◌<◌, arith}
use Rattle.report.specs.ReportLaws.{decimal_more}
use Rattle.report.specs.Stored.{stored_more}
use Rattle.report.proofs.+write_decimal.Goals as goal

pub returns : goal.returns
returns t c =
    let p : 0 < c.args.k = omega arith in
    rw (decimal_more c.args.k c.args.x p c.if-x-lt10.false) (stored_more c.write_decimal-last.ensures c.write_byte-2.ensures)
