-- Every number passed passes the test.
use Rattle.std.proofs.Common.{ℕ, ◌<◌, ◌≤◌, true}
use Rattle.claims.proofs.all_between.Given as goal

abbrev pub invariant-loop-v : goal.invariant-loop-v
invariant-loop-v g l = (k : ℕ) → l.low ≤ k → k < l.v → goal.F-post g l.passes k true
