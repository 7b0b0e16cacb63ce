-- `write_number`: the digits, and the character behind them.
use Rattle.report.specs.Report.{number_text}
use Rattle.report.specs.Stored.{stored_more}
use Rattle.report.proofs.write_number.Goals as goal

pub returns : goal.returns
unfolding number_text
returns c = stored_more c.write_decimal-last.ensures c.write_byte.ensures
