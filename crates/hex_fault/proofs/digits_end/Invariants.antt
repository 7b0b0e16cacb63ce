-- `digits_end`: what is left of the digits is that of the position reached.
-- Assumes nothing.
use Rattle.std.proofs.Common.{◌≡◌, ◌+◌, drop}
use Rattle.hex_fault.specs.Finding.{digits_from}
use Rattle.hex_fault.proofs.digits_end.Given as goal

abbrev pub invariant-loop-i : goal.invariant-loop-i
invariant-loop-i l = 1 + digits_from (drop 1 l.body) ≡ l.i + digits_from (drop l.i l.body)
