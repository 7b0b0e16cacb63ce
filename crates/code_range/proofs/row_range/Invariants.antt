-- The loop's range, widened by the bytes that are left, is the range widened by the whole row.
use Rattle.std.proofs.Common.{◌≡◌, drop}
use Rattle.safety.specs.CodeRange.{widened}
use Rattle.certificate.specs.Summaries.{range}
use Rattle.code_range.proofs.row_range.Given as goal

abbrev pub invariant-loop-b : goal.invariant-loop-b
invariant-loop-b l = widened (range l.least l.greatest) (drop l.b-index l.row) ≡ widened l.fn.q l.fn.row
