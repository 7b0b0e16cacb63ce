-- `write_accepted`: before turn n the rows of the routines below n stand behind the word.
use Rattle.std.proofs.Common.{◌-◌}
use Rattle.entries.specs.Fields.{said_by}
use Rattle.report.specs.Report.{rows_text}
use Rattle.report.specs.Stored.{Stored}
use Rattle.report.proofs.write_accepted.Given as goal

abbrev pub invariant-loop-n : goal.invariant-loop-n
invariant-loop-n l = Stored (rows_text (said_by l.cert) (l.n - 1)) l.initial.at l.at l.initial.out l.out
