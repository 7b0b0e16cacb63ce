-- `check_lines`: at each turn the answer to all lines is that to the lines that are left.
-- Assumes nothing.
use Rattle.std.proofs.Common.{◌≡◌}
use Rattle.hex_line.specs.Line.{begun}
use Rattle.hex_text.specs.Text.{lines, lines_answer}
use Rattle.hex_text.proofs.check_lines.Given as goal

abbrev pub invariant-loop-line : goal.invariant-loop-line
invariant-loop-line l = lines_answer (lines l.text) begun l.length ≡ lines_answer (lines l.line-iterator.0.now) l.reader l.length
