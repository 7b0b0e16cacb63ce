-- `write_lines`: after k turns the first k records stand at the front.
-- Assumes nothing.
use Rattle.std.proofs.Common.{◌≡◌, ◌*◌, ◌++◌, drop}
use Rattle.hex_write.specs.ImageText.{records}
use Rattle.hex_write.proofs.write_lines.Given as goal

abbrev pub invariant-loop-k : goal.invariant-loop-k
invariant-loop-k l = l.out ≡ records l.image l.k ++ drop (l.k * 44) l.initial.out
