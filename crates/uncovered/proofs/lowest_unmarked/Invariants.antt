-- `lowest_unmarked`: every start in the words passed is marked; the first word with a clear bit has the lowest unmarked start.
use Rattle.std.proofs.Common.{◌≡◌, ◌*◌, length}
use Rattle.base.specs.Lengths.{is_certificate_length}
use Rattle.uncovered.proofs.Words.{MarkedBelow}
use Rattle.std.proofs.Common.{true}
use Rattle.uncovered.proofs.lowest_unmarked.Given as goal

abbrev pub invariant-loop-word : goal.invariant-loop-word
invariant-loop-word l = (is_certificate_length (length l.cert) ≡ true) × MarkedBelow l.cert l.map (64 * l.word)
