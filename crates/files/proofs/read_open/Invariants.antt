-- After each turn some text was fed, and where turns are left the reading goes on.
use Rattle.std.proofs.Common.{length, ◌<◌, ◌≡◌}
use Rattle.hex_text.specs.Stream.{started}
use Rattle.files.specs.Reading.{Turned, reading_number}
use Rattle.files.proofs.read_open.Given as goal

abbrev pub invariant-loop-turns : goal.invariant-loop-turns
invariant-loop-turns g l =
    Turned started l.turn.stream 0 l.turn.lines (reading_number l.turn.state) l.initial.buffer l.buffer
    × (0 < l.turns → reading_number l.turn.state ≡ 0)
    × (length l.buffer ≡ length l.initial.buffer)

abbrev pub decreases-loop-turns : goal.decreases-loop-turns
decreases-loop-turns g l = l.turns
