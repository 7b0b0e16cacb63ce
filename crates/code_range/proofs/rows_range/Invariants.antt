-- The loop's range, widened by the rows that are left, is that of all rows.
use Rattle.std.proofs.Common.{◌-◌, ◌≡◌, ◌+◌, ◌*◌, ◌≤◌}
use Rattle.safety.specs.CodeRange.{widened, no_byte, rows_from}
use Rattle.code_range.proofs.rows_range.Given as goal

abbrev pub invariant-loop : goal.invariant-loop
invariant-loop l =
    (l.at ≡ l.t + l.counter * 256)
    × (widened l.q (rows_from l.image (l.k - l.counter) l.at l.n) ≡ widened no_byte (rows_from l.image l.k l.t l.n))
