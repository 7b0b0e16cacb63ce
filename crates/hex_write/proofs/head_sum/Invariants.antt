-- `head_sum`: after j turns the sum is that of the first j bytes.
-- Assumes nothing.
use Rattle.std.proofs.Common.{◌≡◌}
use Rattle.hex_write.specs.ImageText.{head_sum}
use Rattle.hex_write.proofs.head_sum.Given as goal

abbrev pub invariant-loop-j : goal.invariant-loop-j
invariant-loop-j l = l.sum ≡ head_sum l.image l.k l.j
