-- One more row is stored; behind the last turn all rows are.
use Rattle.std.proofs.Common.{◌≡◌, ◌+◌, ◌-◌, arith}
use Rattle.report.specs.Report.{accepted_text}
use Rattle.report.specs.ReportLaws.{rows_text_more}
use Rattle.report.specs.Stored.{stored_more}
use Rattle.report.proofs.write_accepted.Goals as goal

pub loop-n-preserved : goal.loop-n-preserved
loop-n-preserved c =
    let n = c.loop-n.n in
    let e : n + 1 - 1 ≡ n - 1 + 1 = omega arith in
    let f : n - 1 + 1 ≡ n = omega arith in
    rw (e, rows_text_more, f) (stored_more c.loop-n.invariant c.write_routine-at.ensures)

pub returns : goal.returns
unfolding accepted_text
returns c = let e : c.loop-n.n ≡ 64 = omega arith in
    stored_more c.write_word-at.ensures (rw e at c.loop-n.invariant)
