-- After each turn some edits were made.
use Rattle.test_support.specs.Edits.{Edited}
use Rattle.test_support.proofs.read_edits.Given as goal

abbrev pub invariant-loop : goal.invariant-loop
invariant-loop g l = Edited l.initial.bytes l.bytes
