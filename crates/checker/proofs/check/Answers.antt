-- The verdict for the part's ROM; with it come its exactness and demand 3.
use Rattle.std.proofs.Common.{ℕ, ◌∙◌, ap, arith}
use Rattle.safety.specs.Verdicts.{verdict_of}
use Rattle.checker.proofs.Laws.{verdict}
use Rattle.checker.proofs.check.Goals as goal

pub returns : goal.returns
returns c =
    let g = c.args in
    let image = g.image.now in
    let cert = g.cert.now in
    let h = verdict g.profile image cert _ (λ n. omega (arith, c.type_inv.image n)) (λ n. omega (arith, c.type_inv.cert n))
    (c.verdict_for.ensures ∙ ap (λ (r : ℕ). verdict_of r image cert) c.rom_length.ensures) in
    record { verdict = h.0; exact = h.1.0; safe = h.1.1 }
