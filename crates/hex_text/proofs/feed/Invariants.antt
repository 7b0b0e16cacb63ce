-- `feed`: at each turn the characters from the position on make of the stream and the buffer what the whole piece makes of the first ones.
-- Assumes nothing.
use Rattle.std.proofs.Common.{◌≡◌, length}
use Rattle.hex_text.specs.Stream.{longest, stream_of}
use Rattle.hex_text.specs.StreamLaws.{FedUpTo}
use Rattle.hex_text.proofs.feed.Given as goal

abbrev pub invariant-loop-c : goal.invariant-loop-c
invariant-loop-c l =
    FedUpTo (length l.fn.buffer) l.fn.s l.piece l.fn.buffer (stream_of l.s.reader l.s.held l.count 0) l.c-index l.buffer
    × ((length l.buffer ≡ length l.fn.buffer) × (length l.s.held ≡ longest) × (l.s.number ≡ 0))
