-- `mark`: an address that the map has a bit for has it set in its word; another leaves the map.
-- Assumes nothing.
use Rattle.std.proofs.Common.{◌%◌, arith, lt-ltb, le-ltb}
use Rattle.coverage.specs.Map.{with_mark}
use Rattle.coverage.specs.BitLaws.{shifted_one}
use Rattle.coverage.proofs.mark.Goals as goal

pub returns-then-word-map : goal.returns-then-word-map
unfolding with_mark
returns-then-word-map c = rw (lt-ltb _ _ c.if-word-map.true, shifted_one (c.args.a.0 % 64) (omega arith))

pub returns-else-word-map : goal.returns-else-word-map
unfolding with_mark
returns-else-word-map c = rw (le-ltb _ _ c.if-word-map.false)
