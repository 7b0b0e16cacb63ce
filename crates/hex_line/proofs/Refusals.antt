-- A line is refused by a number of 01's table for HEX and then leaves the lent buffer as it was; no line changes the buffer's length.
-- Assumes nothing.
use Rattle.std.specs.Prelude.{ℕ, ◌≤◌, ◌≡◌, refl, List, length}
use Rattle.std.proofs.Common.{arith}
use Rattle.base.specs.Outcome.{Outcome, and_then, on_outcome}
use Rattle.base.specs.Outcome.Outcome.{value, refused}
use Rattle.hex_line.specs.declared.Reader.{Reader}
use Rattle.hex_line.specs.declared.Fields.{Fields}
use Rattle.hex_line.specs.Record.{fields_of, body_of}
use Rattle.hex_line.specs.Line.{check_fields, check_body, check_by, read_line, stored, line_buffer, buffer_by}
use Rattle.hex_line.proofs.Cases.{parsed_has, checked_has}
use Rattle.hex_line.proofs.LineLaws.{within_line, read_within, length_stored}

pub line_number : (reader : Reader) (size : ℕ) (line : List ℕ) (n : ℕ) → read_line reader size line ≡ refused n → (1 ≤ n) × (n ≤ 7)
line_number reader size line n e = rw e at (within_line reader size line)

pub line_unchanged : (reader : Reader) (line m : List ℕ) (n : ℕ) → read_line reader (length m) line ≡ refused n → line_buffer reader line m ≡ m
unfolding buffer_by
line_unchanged reader line m n e = rw e

pub length_line_buffer : (reader : Reader) (line m : List ℕ) → length (line_buffer reader line m) ≡ length m
unfolding buffer_by
length_line_buffer reader line m = by_answer (read_line reader (length m) line) refl
  where
    by_answer : (o : Outcome Reader) → read_line reader (length m) line ≡ o
        → length (on_outcome o (λ next. stored (body_of line) m) (λ n. m)) ≡ length m
    by_answer (value next) e = length_stored (body_of line) m (read_within reader (length m) line next e)
    by_answer (refused n) e = refl

-- 1 to 3 of a line
abbrev OneToThree : Outcome (Unit {0}) → Type 0
OneToThree (value t) = Unit {0}
OneToThree (refused n) = (1 ≤ n) × (n ≤ 3)

one_to_three : (body : List ℕ) → OneToThree (check_body body)
unfolding check_by
one_to_three body =
    parsed_has (λ (o : Outcome Fields). OneToThree (and_then o check_fields)) body
    (λ _. checked_has OneToThree (fields_of body) (λ _. tt) (omega arith, omega arith) (omega arith, omega arith) (omega arith, omega arith))
    (omega arith, omega arith)

pub check_number : (body : List ℕ) (n : ℕ) → check_body body ≡ refused n → (1 ≤ n) × (n ≤ 3)
check_number body n e = rw e at (one_to_three body)
