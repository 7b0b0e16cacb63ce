-- The judgement of an image file and a certificate file (01, "Logger cases"): the image is read first; a refused file is told by its number, with
-- address 0000H; where both are read the checker's verdict counts.
-- Assumes nothing.
use Rattle.std.specs.Prelude.{ℕ, Result, List, ◌++◌, length, drop, replicate, ltb}
use Rattle.base.specs.Addresses.{rom_addr}
use Rattle.base.specs.Choice.{pick}
use Rattle.base.specs.Outcome.{Outcome, on_outcome, outcome_by}
use Rattle.base.specs.Outcome.Outcome.{value, refused}
use Rattle.base.specs.Lengths.{long_certificate_length}
use Rattle.base.specs.Parts.{part_of}
use Rattle.base.specs.declared.Profile.TheVariants.{Rom4K}
use Rattle.hex_text.specs.Text.{text_answer, text_buffer}
use Rattle.certificate.specs.declared.Verdict.{Verdict}
use Rattle.certificate.specs.declared.Verdict.TheVariants.{Refused}
use Rattle.certificate.specs.Layout.{certificate_of}
use Rattle.safety.specs.Verdicts.{verdict_of}
use Rattle.report.specs.Report.{longest_report, report_text}

-- what was read, by the refusal's number
abbrev pub number_outcome : Result (Unit {0}) ℕ → Outcome (Unit {0})
number_outcome = outcome_by (λ n. n)

-- a refused file
abbrev pub refused_file : ℕ → Verdict
refused_file number = Refused number (rom_addr 0)

abbrev pub judgement : Outcome (Unit {0}) → Outcome (Unit {0}) → Verdict → Verdict
judgement image certificate verdict = on_outcome image (λ u. on_outcome certificate (λ v. verdict) refused_file) refused_file

-- the buffers before the files are read; the certificate's is the longer one, so a file without the byte at E482H leaves 0 there (request 03)
unfoldable pub filled : ℕ → ℕ → List ℕ
filled n x = replicate n x

-- the bytes of an image: the program judges for the 4K part (request 04)
abbrev pub image_length : ℕ
image_length = (part_of Rom4K).rom

abbrev pub blank_image : List ℕ
blank_image = filled image_length 0xFF

abbrev pub blank_certificate : List ℕ
blank_certificate = filled long_certificate_length 0

-- what `bridgecheck` prints of an image text and a certificate text
unfoldable pub printed : List ℕ → List ℕ → List ℕ
printed image certificate =
    let cert = text_buffer certificate blank_certificate in
    report_text
    (judgement (text_answer image image_length) (text_answer certificate long_certificate_length) (verdict_of image_length (text_buffer image blank_image) cert))
    (certificate_of cert)

-- the answer to two texts: the length of what is printed; 7: too short a buffer
unfoldable pub printed_answer : List ℕ → List ℕ → ℕ → Outcome ℕ
printed_answer image certificate room = pick (ltb room longest_report) (refused 7) (value (length (printed image certificate)))

-- the buffer behind it: what is printed at its front, unchanged where it is refused
unfoldable pub printed_buffer : List ℕ → List ℕ → List ℕ → List ℕ
printed_buffer image certificate out =
    on_outcome (printed_answer image certificate (length out)) (λ n. printed image certificate ++ drop n out) (λ number. out)
