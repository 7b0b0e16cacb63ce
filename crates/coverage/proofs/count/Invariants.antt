-- `count`: the marks of the words so far.
-- Assumes nothing.
use Rattle.std.proofs.Common.{◌*◌, ◌≡◌}
use Rattle.base.specs.Choice.{from, count}
use Rattle.coverage.specs.Map.{marked}
use Rattle.coverage.proofs.count.Given as goal

abbrev pub invariant-loop-i : goal.invariant-loop-i
invariant-loop-i l = l.n ≡ count (marked l.map) (from (64 * l.i) 0)
