-- After each turn the lines before were fed, and none of them is refused.
use Rattle.std.proofs.Common.{◌≡◌, length}
use Rattle.files.specs.Reading.{Fed}
use Rattle.files.proofs.feed_lines.Given as goal

abbrev pub invariant-loop-line : goal.invariant-loop-line
invariant-loop-line l =
    Fed l.initial.stream l.stream l.initial.count l.count l.initial.buffer l.buffer × (l.stream.number ≡ 0)
    × (length l.buffer ≡ length l.initial.buffer)
