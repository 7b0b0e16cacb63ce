-- `write_refused`: the word, the number and the address, one behind another.
use Rattle.report.specs.Report.{refused_text}
use Rattle.report.specs.Stored.{stored_more}
use Rattle.report.proofs.write_refused.Goals as goal

pub returns : goal.returns
unfolding refused_text
returns c =
    stored_more c.write_word-a.ensures (stored_more (rw c.from.ensures at c.write_number-b.ensures) c.write_address.ensures)
