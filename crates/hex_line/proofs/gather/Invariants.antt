-- `gather`: after i turns the sum is that of the first i pairs modulo 256, and they are kept.
-- Assumes nothing.
use Rattle.std.proofs.Common.{◌≡◌, ◌%◌}
use Rattle.hex_line.specs.Sum.{total_of}
use Rattle.hex_line.specs.Pairs.{Kept}
use Rattle.hex_line.proofs.gather.Given as goal

abbrev pub invariant-loop-i : goal.invariant-loop-i
invariant-loop-i l = (l.sum ≡ total_of l.body l.i % 256) × Kept l.body l.i l.pairs
