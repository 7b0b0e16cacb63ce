-- Request 03: image P where an interrupt entry takes cycles. The service is IRET, 10 cycles.
-- Assumes nothing.
use Rattle.std.specs.Prelude.{◌≡◌, refl, List, [], ◌∷◌, ℕ, ◌≤◌}
use Rattle.std.proofs.Common.{arith}
use Rattle.base.specs.Addresses.{rom_addr}
use Rattle.base.specs.Lengths.{greatest_entry_cost}
use Rattle.certificate.specs.declared.Verdict.TheVariants.{Accepted, Refused}
use Rattle.certificate.specs.Layout.{certificate_from}
use Rattle.safety.specs.Verdicts.{verdict_of}
use Rattle.safety.proofs.EntryCost.{cost_above_63}
use Rattle.logger_cases.specs.Gathered.{bytes_length}
use Rattle.logger_cases.specs.Computed.{certificate_tables}
use Rattle.logger_cases.specs.Program.{rom, image_with, entry, cell, row, certificate_for, entry_length, cell_length_lem, row_length}
use Rattle.logger_cases.specs.Cases.{image_length_lem, on_tables}
use Rattle.logger_cases.specs.Opened.{opened}

-- from E480H on: floor, top and the cycles of an entry
abbrev ends : ℕ → List ℕ
ends cost = 0xA0 ∷ 0xC0 ∷ cost ∷ []

-- the certificate with the cycles of an entry and the service's bound
abbrev pub costed : ℕ → ℕ → List ℕ
costed cost bound = certificate_for bound 364 (ends cost)

-- 20 cycles and IRET's 10
pub costed_accepted : verdict_of rom (image_with 0x7B) (costed 20 30) ≡ Accepted
unfolding opened
costed_accepted = (on_tables 0x7B 30 364 (ends 20) refl Accepted "accepted\n1 0100 2 0\n2 0140 0 30\n3 0120 0 364\n" tt refl refl).0

-- a bound one too small
pub costed_refused : verdict_of rom (image_with 0x7B) (costed 20 29) ≡ Refused 27 (rom_addr 0x140)
unfolding opened
costed_refused = (on_tables 0x7B 29 364 (ends 20) refl (Refused 27 (rom_addr 0x140)) "refused 27 0140\n" tt refl refl).0

-- the most that an entry may take
pub greatest_accepted : verdict_of rom (image_with 0x7B) (costed 63 73) ≡ Accepted
unfolding opened
greatest_accepted = (on_tables 0x7B 73 364 (ends 63) refl Accepted "accepted\n1 0100 2 0\n2 0140 0 73\n3 0120 0 364\n" tt refl refl).0

-- one more is refused
pub above_refused : verdict_of rom (image_with 0x7B) (costed 64 74) ≡ Refused 20 (rom_addr 0)
unfolding certificate_for certificate_from
above_refused =
    let rows = row_length 74 364 in
    let e = certificate_tables entry cell (row 74 364) (ends 64) entry_length cell_length_lem rows in
    cost_above_63 rom (image_with 0x7B) (costed 64 74) (image_length_lem 0x7B) (rw (bytes_length entry cell (row 74 364) (ends 64) entry_length cell_length_lem rows))
    (λ h. let z : 64 ≤ greatest_entry_cost = rw e at h in omega (arith, z))
