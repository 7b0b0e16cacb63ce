-- `make_upper`: after i turns the first i characters are upper-case.
-- Assumes nothing.
use Rattle.std.proofs.Common.{◌≡◌, ◌++◌, take, drop, map}
use Rattle.hex_upper.specs.Upper.{upper_of}
use Rattle.hex_upper.proofs.make_upper.Given as goal

abbrev pub invariant-loop-c : goal.invariant-loop-c
invariant-loop-c l = l.text ≡ map upper_of (take l.c-index l.initial.text) ++ drop l.c-index l.initial.text
