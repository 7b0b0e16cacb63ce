-- `check_body`: by the fields, if the line is well-formed.
-- Assumes nothing.
use Rattle.std.proofs.Common.{sym}
use Rattle.hex_line.specs.Line.{check_by}
use Rattle.hex_line.proofs.check_body.Goals as goal

pub returns-in_default : goal.returns-in_default
unfolding check_by
returns-in_default c = rw (sym c.in_default.ensures.0)

pub returns : goal.returns
unfolding check_by
returns c = rw (sym c.in-Some.ensures.0) c.check_fields.ensures
