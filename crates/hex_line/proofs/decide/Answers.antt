-- `decide`: the length, then the end line, then the fields, as the definition tests them.
-- Assumes nothing.
use Rattle.std.proofs.Common.{sym, ◌∙◌}
use Rattle.hex_line.specs.Line.{read_by}
use Rattle.hex_line.proofs.LineLaws.{read_parsed}
use Rattle.hex_line.proofs.decide.Goals as goal

pub returns-then-not-is_buffer_length-clause-result_value : goal.returns-then-not-is_buffer_length-clause-result_value
unfolding read_by
returns-then-not-is_buffer_length-clause-result_value c = rw (sym c.if-not-is_buffer_length.ensures)

pub returns-then-reader-clause-result_value : goal.returns-then-reader-clause-result_value
unfolding read_by
returns-then-reader-clause-result_value c = rw (sym c.if-not-is_buffer_length.ensures, c.if-reader.true)

pub returns-in_default-clause-result_value : goal.returns-in_default-clause-result_value
returns-in_default-clause-result_value c =
    read_parsed _ _ _ _ (sym c.if-not-is_buffer_length.ensures) c.if-reader.false
    (rw c.body_length.ensures.0 at (sym c.in_default.ensures.result_value.0))

pub returns-clause-result_value : goal.returns-clause-result_value
returns-clause-result_value c =
    c.answer.ensures
    ∙ read_parsed _ _ _ _ (sym c.if-not-is_buffer_length.ensures) c.if-reader.false
    (rw c.body_length.ensures.0 at (sym c.in-Some.ensures.result_value.0))
