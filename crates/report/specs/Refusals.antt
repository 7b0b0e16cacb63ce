-- A verdict's text is written whole within the lent buffer, or refused by 7 with the buffer as it was; the buffer keeps its length.
-- Assumes nothing.
use Rattle.std.specs.Prelude.{ℕ, ◌≡◌, refl, List, length}
use Rattle.base.specs.ChoiceLaws.{pick_has}
use Rattle.base.specs.Outcome.Outcome.{refused}
use Rattle.base.specs.Lengths.{is_certificate_length}
use Rattle.hex_write.specs.Refusals.{Fits, fits_within, length_front}
use Rattle.certificate.specs.declared.Verdict.{Verdict}
use Rattle.certificate.specs.Layout.{certificate_of}
use Rattle.report.specs.Report.{longest_report, report_text, report_answer, report_buffer}
use Rattle.report.specs.ReportLaws.{report_length}

report_fits : (verdict : Verdict) (cert : List ℕ) (room : ℕ) → Fits (report_text verdict (certificate_of cert)) room (report_answer verdict cert room)
unfolding report_answer
report_fits verdict cert room =
    let text = report_text verdict (certificate_of cert) in
    pick_has (Fits text room) (is_certificate_length (length cert)) _ _
    (λ c. fits_within text room longest_report (length text) refl (report_length verdict (certificate_of cert))) (λ c. refl)

pub report_number : (verdict : Verdict) (cert : List ℕ) (room n : ℕ) → report_answer verdict cert room ≡ refused n → n ≡ 7
report_number verdict cert room n e = rw e at (report_fits verdict cert room)

pub report_unchanged : (verdict : Verdict) (cert out : List ℕ) (n : ℕ) → report_answer verdict cert (length out) ≡ refused n
    → report_buffer verdict cert out ≡ out
unfolding report_buffer
report_unchanged verdict cert out n e = rw e

pub length_report_buffer : (verdict : Verdict) (cert out : List ℕ) → length (report_buffer verdict cert out) ≡ length out
unfolding report_buffer
length_report_buffer verdict cert out =
    length_front (report_text verdict (certificate_of cert)) out (report_answer verdict cert (length out)) (report_fits verdict cert (length out))
