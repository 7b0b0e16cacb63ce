-- `write_record`: after j turns the colon and the digits of the first j bytes stand at the front.
-- Assumes nothing.
use Rattle.std.proofs.Common.{◌≡◌, ◌+◌, ◌*◌, ◌∷◌, ◌++◌, drop}
use Rattle.hex_write.specs.ImageText.{digits}
use Rattle.hex_write.proofs.write_record.Given as goal

abbrev pub invariant-loop-j : goal.invariant-loop-j
invariant-loop-j l = l.out ≡ (58 ∷ digits l.image l.k l.j) ++ drop (l.j * 2 + 1) l.initial.out
