-- The scan goes on while no rule is broken, and stops at the first address where one is.
use Rattle.std.proofs.Common.{◌-◌, ◌≡◌}
use Rattle.entries.specs.Fields.{said_by}
use Rattle.safety.specs.Verdicts.{scan}
use Rattle.checker.proofs.first_refusal.Given as goal

abbrev pub invariant-loop-a : goal.invariant-loop-a
invariant-loop-a l = scan l.rom (said_by l.cert) l.image l.rom 0 ≡ scan l.rom (said_by l.cert) l.image (l.rom - l.a) l.a
