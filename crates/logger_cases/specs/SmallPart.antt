-- Request 04: image P on the 2K part, with the certificate that it has on the 4K part.
-- Assumes nothing.
use Rattle.std.specs.Prelude.{◌≡◌, refl, List, ℕ, length}
use Rattle.base.specs.declared.Profile.TheVariants.{Rom2K}
use Rattle.base.specs.Parts.{part_of}
use Rattle.certificate.specs.declared.Verdict.TheVariants.{Accepted}
use Rattle.safety.specs.Verdicts.{rules_at, verdict_of}
use Rattle.logger_cases.specs.Computed.{verdict_tables}
use Rattle.logger_cases.specs.Program.{image_for, entry, cell, row, certificate_for, ends, certificate_with, entry_length, cell_length_lem, row_length}
use Rattle.logger_cases.specs.Cases.{code_end, none_behind}
use Rattle.logger_cases.specs.Opened.{opened}

abbrev small_rom : ℕ
small_rom = (part_of Rom2K).rom

abbrev pub small_image : List ℕ
small_image = image_for small_rom 0x7B

pub small_image_length : length small_image ≡ small_rom
unfolding image_for
small_image_length = refl

pub small_accepted : verdict_of small_rom small_image (certificate_with 364 0xA0) ≡ Accepted
unfolding opened certificate_for
small_accepted =
    verdict_tables entry cell (row 10 364) (ends 0xA0) entry_length cell_length_lem (row_length 10 364) small_rom code_end none_behind rules_at small_image
    small_image_length refl tt refl
