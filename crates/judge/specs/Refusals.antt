-- What is printed of two texts stands whole within the lent buffer, or 7 is answered with the buffer as it was; the buffer keeps its length.
-- Assumes nothing.
use Rattle.std.specs.Prelude.{ℕ, ◌≤◌, ◌≡◌, refl, List, length}
use Rattle.base.specs.Outcome.Outcome.{value, refused}
use Rattle.hex_write.specs.Refusals.{Fits, fits_within, length_front}
use Rattle.report.specs.Report.{longest_report}
use Rattle.judge.specs.Judgement.{printed, printed_answer, printed_buffer}
use Rattle.judge.specs.JudgementLaws.{printed_length}

printed_fits : (image certificate : List ℕ) (room : ℕ) → Fits (printed image certificate) room (printed_answer image certificate room)
unfolding printed_answer
printed_fits image certificate room =
    let text = printed image certificate in
    fits_within text room longest_report (length text) refl (printed_length image certificate)

pub printed_number : (image certificate : List ℕ) (room n : ℕ) → printed_answer image certificate room ≡ refused n → n ≡ 7
printed_number image certificate room n e = rw e at (printed_fits image certificate room)

pub printed_within : (image certificate : List ℕ) (room n : ℕ) → printed_answer image certificate room ≡ value n → n ≤ room
printed_within image certificate room n e = (rw e at (printed_fits image certificate room)).1

pub printed_unchanged : (image certificate out : List ℕ) (n : ℕ) → printed_answer image certificate (length out) ≡ refused n
    → printed_buffer image certificate out ≡ out
unfolding printed_buffer
printed_unchanged image certificate out n e = rw e

pub length_printed_buffer : (image certificate out : List ℕ) → length (printed_buffer image certificate out) ≡ length out
unfolding printed_buffer
length_printed_buffer image certificate out =
    length_front (printed image certificate) out (printed_answer image certificate (length out))
    (printed_fits image certificate (length out))
