-- Demand 3 over the bytes of an image and a certificate.
-- Assumes nothing.
use Rattle.std.specs.Prelude.{◌≡◌, List, ℕ, ◌≤◌, ◌<◌, get_or}
use Rattle.base.specs.Cells.{Bytes}
use Rattle.base.specs.Lengths.{largest_rom}
use Rattle.base.specs.Parts.{Part}
use Rattle.certificate.specs.declared.Verdict.TheVariants.{Accepted}
use Rattle.certificate.specs.Layout.{certificate_from, certificate_of}
use Rattle.safety.specs.Verdicts.{rules_at, verdict_of}
use Rattle.safety.specs.Statement.{Demand3}
use Rattle.safety.proofs.OwnRules.{accepts}
use Rattle.safety.proofs.Accepted.{accepted_lengths}
use Rattle.safety.proofs.ByteLaws.{part_bytes}
use Rattle.safety.proofs.Edge.{certificate_facts}
use Rattle.safety.proofs.Sound.{demand_met}

compare_byte : (b : List ℕ) → Bytes b → (a : ℕ) → (certificate_of b).compare_number a < 256
unfolding certificate_of certificate_from
compare_byte b h a = part_bytes b h 0 14 largest_rom a 13

-- the theorem: an accepted image and certificate meet demand 3 on the part of whose ROM the verdict speaks
pub demand3 : (P : Part) → P.rom ≤ largest_rom → (image cert : List ℕ) → ((i : ℕ) → get_or image i 0 < 256) → ((i : ℕ) → get_or cert i 0 < 256)
    → verdict_of P.rom image cert ≡ Accepted → Demand3 P (certificate_of cert) image
demand3 P fits image cert image_bytes cert_bytes h =
    let p = accepted_lengths rules_at P.rom image cert h in
    let C = certificate_of cert in
    let ok = accepts P.rom C image p.1 in
    demand_met P C image fits ok (certificate_facts P.rom C image ok (compare_byte cert cert_bytes)) p.0.0 image_bytes
