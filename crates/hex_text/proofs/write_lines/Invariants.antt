-- `write_lines`: at each turn the lines that are left make of the buffer what all lines make of the first one.
-- Assumes nothing.
use Rattle.std.proofs.Common.{◌≡◌}
use Rattle.hex_line.specs.Line.{begun}
use Rattle.hex_text.specs.Text.{lines, lines_buffer}
use Rattle.hex_text.proofs.write_lines.Given as goal

abbrev pub invariant-loop-line : goal.invariant-loop-line
invariant-loop-line l = lines_buffer (lines l.text) begun l.fn.buffer ≡ lines_buffer (lines l.line-iterator.0.now) l.reader l.buffer
