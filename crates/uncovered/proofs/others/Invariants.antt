-- `others`: below `k` the bits are those of the addresses, from `k` on they are clear.
use Rattle.std.proofs.Common.{not, ℕ, ◌+◌, ◌*◌}
use Rattle.certificate.specs.Layout.{certificate_of}
use Rattle.uncovered.specs.Lowest.{is_start}
use Rattle.uncovered.proofs.Words.{Upto}
use Rattle.std.proofs.Common.{List, Bool}
use Rattle.uncovered.proofs.others.Given as goal

-- bit k: no instruction starts at address k of the word
abbrev other : List ℕ → ℕ → ℕ → Bool
other cert word k = not (is_start (certificate_of cert) (64 * word + k))

abbrev pub invariant-loop-k : goal.invariant-loop-k
invariant-loop-k l = Upto (other l.cert l.word) l.k l.bits
