-- What is written of the judgement of two texts that were read, whole or in pieces, is what is printed of them.
-- Assumes nothing.
use Rattle.std.specs.Prelude.{ℕ, ◌≤◌, ◌≡◌, refl, true, List, length}
use Rattle.std.proofs.Common.{◌∙◌}
use Rattle.std.proofs.lemmas.List.{length-replicate}
use Rattle.base.specs.Outcome.{Outcome}
use Rattle.base.specs.Outcome.Outcome.{value, refused}
use Rattle.base.specs.Lengths.{long_certificate_length, is_certificate_length}
use Rattle.hex_text.specs.Text.{text_answer, text_buffer}
use Rattle.hex_text.specs.Stream.{Leaves}
use Rattle.hex_text.specs.StreamTheorems.{leaves_same}
use Rattle.certificate.specs.declared.Verdict.{Verdict}
use Rattle.certificate.specs.Layout.{certificate_of}
use Rattle.safety.specs.Verdicts.{verdict_of}
use Rattle.report.specs.Report.{longest_report, report_text, report_answer, report_buffer}
use Rattle.report.specs.ReportLaws.{report_length}
use Rattle.judge.specs.Judgement.{judgement, filled, image_length, blank_image, blank_certificate, printed, printed_answer, printed_buffer}

pub length_filled : (n x : ℕ) → length (filled n x) ≡ n
unfolding filled
length_filled n x = length-replicate n x

-- what is printed is within the longest report
pub printed_length : (s t : List ℕ) → length (printed s t) ≤ longest_report
unfolding printed
printed_length s t =
    let cert = text_buffer t blank_certificate in
    report_length
    (judgement (text_answer s image_length) (text_answer t long_certificate_length) (verdict_of image_length (text_buffer s blank_image) cert))
    (certificate_of cert)

-- a text was read into a buffer; what a refused one left there does not count
pub record ReadFrom (text : List ℕ) (answer : Outcome (Unit {0})) (before after : List ℕ) : Type 0 where
  pub answers : answer ≡ text_answer text (length before)
  pub leaves : Leaves answer (text_buffer text before) after

-- as `read_text` reads it
pub read_whole : {text : List ℕ} {answer : Outcome (Unit {0})} {before after : List ℕ}
    → (answer ≡ text_answer text (length before)) × (after ≡ text_buffer text before) → ReadFrom text answer before after
read_whole {answer = answer} p = record { answers = p.0; leaves = leaves_same answer p.1 }

same_text : (i c : Outcome (Unit {0})) (image cert image₁ cert₁ : List ℕ) → Leaves i image₁ image → Leaves c cert₁ cert
    → report_text (judgement i c (verdict_of image_length image cert)) (certificate_of cert)
    ≡ report_text (judgement i c (verdict_of image_length image₁ cert₁)) (certificate_of cert₁)
same_text (value u) (value v) image cert image₁ cert₁ p q = rw (p, q)
same_text (value u) (refused k) image cert image₁ cert₁ p q = refl
same_text (refused n) (value v) image cert image₁ cert₁ p q = refl
same_text (refused n) (refused k) image cert image₁ cert₁ p q = refl

judged_text : (i c : Outcome (Unit {0})) (s t image cert : List ℕ) → i ≡ text_answer s image_length → c ≡ text_answer t long_certificate_length
    → Leaves i (text_buffer s blank_image) image → Leaves c (text_buffer t blank_certificate) cert
    → report_text (judgement i c (verdict_of image_length image cert)) (certificate_of cert) ≡ printed s t
unfolding printed
judged_text i c s t image cert a b p q =
    rw (← a, ← b) (same_text i c image cert (text_buffer s blank_image) (text_buffer t blank_certificate) p q)

pub judged : {s t : List ℕ} {i c : Outcome (Unit {0})} {image cert : List ℕ} {verdict : Verdict} (out : List ℕ)
    → ReadFrom s i blank_image image → ReadFrom t c blank_certificate cert → length cert ≡ length blank_certificate → verdict ≡ verdict_of image_length image cert
    → (report_answer (judgement i c verdict) cert (length out) ≡ printed_answer s t (length out))
    × (report_buffer (judgement i c verdict) cert out ≡ printed_buffer s t out)
unfolding report_answer report_buffer printed_answer printed_buffer
judged {s} {t} {i} {c} {image} {cert} {verdict} out p q n v =
    let a : i ≡ text_answer s image_length = rw (length_filled image_length 0xFF) at p.answers in
    let b : c ≡ text_answer t long_certificate_length = rw (length_filled long_certificate_length 0) at q.answers in
    let k : is_certificate_length (length cert) ≡ true = rw (n ∙ length_filled long_certificate_length 0) in
    rw (v, k, judged_text i c s t image cert a b p.leaves q.leaves) (refl, refl)
