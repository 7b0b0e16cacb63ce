-- `former_check`: a line's end does not count; one that is too long is no line.
-- Assumes nothing.
use Rattle.std.proofs.Common.{sym, length-take-le}
use Rattle.hex_line.specs.Record.{body_length, body_of}
use Rattle.hex_upper.proofs.UpperLaws.{former_long}
use Rattle.hex_upper.proofs.former_check.Goals as goal

pub returns-then-n-gt-LONGEST_BODY : goal.returns-then-n-gt-LONGEST_BODY
returns-then-n-gt-LONGEST_BODY c =
    let line = c.args.line.now in
    let n = c.body_length-n.ensures in
    sym (former_long (body_of line) (rw (length-take-le (body_length line) line (rw n.0 at n.1), ← n.0) c.if-n-gt-LONGEST_BODY.true))
