-- A file that is fed in pieces: what one character does, a piece as the fold over its characters, and the file's end.
-- Assumes nothing.
use Rattle.std.specs.Prelude.{ℕ, ◌+◌, ◌≡◌, List, [], ◌∷◌, length, take, set, replicate, eqb, leb}
use Rattle.base.specs.Choice.{pick}
use Rattle.base.specs.Outcome.{Outcome, and_then, on_outcome}
use Rattle.base.specs.Outcome.Outcome.{value, refused}
use Rattle.hex_line.specs.Line.{buffer_length, begun, read_line, line_buffer}
use Rattle.hex_line.specs.declared.Reader.{Reader}
use Rattle.hex_text.specs.declared.Stream.{Stream}
use Rattle.hex_text.specs.Text.{end_answer}

-- the longest valid line: a colon, 260 pairs of digits, CR LF
abbrev pub longest : ℕ
longest = 523

-- the number of a longer line
abbrev pub long_number : Reader → ℕ → ℕ
long_number reader size = pick (buffer_length size) (pick reader.ended 6 1) 7

abbrev pub stream_of : Reader → List ℕ → ℕ → ℕ → Stream
stream_of reader held count number = record { reader = reader; held = held; count = count; number = number }

-- before the first piece
abbrev pub started : Stream
started = stream_of begun (replicate longest 0) 0 0

-- the unfinished line
abbrev pub held_line : Stream → List ℕ
held_line s = take s.count s.held

-- one more character
abbrev pub appended : Stream → ℕ → Stream
appended s c = stream_of s.reader (set s.held s.count c) (s.count + 1) 0

-- a refusal by this number
abbrev pub stopped : Stream → ℕ → Stream
stopped s n = stream_of s.reader s.held s.count n

-- the finished line goes to the line reader
abbrev pub line_done : ℕ → Stream → Stream
line_done size s =
    on_outcome (read_line s.reader size (held_line s))
    (λ next. stream_of next s.held 0 0) (λ n. stopped s n)

-- one character, for a buffer of this size: behind a refusal nothing; a line longer than any valid one is refused; LF finishes the line
unfoldable pub push_stream : ℕ → Stream → ℕ → Stream
push_stream size s c =
    pick (eqb s.number 0)
    (pick (leb longest s.count) (stopped s (long_number s.reader size))
    (pick (eqb c 10) (line_done size (appended s c)) (appended s c)))
    s

-- and the buffer behind it
unfoldable pub push_buffer : Stream → ℕ → List ℕ → List ℕ
push_buffer s c m =
    pick (eqb s.number 0)
    (pick (leb longest s.count) m (pick (eqb c 10) (line_buffer s.reader (held_line (appended s c)) m) m))
    m

-- the characters of a piece in turn
unfoldable pub feed_stream : ℕ → Stream → List ℕ → Stream
feed_stream size s [] = s
feed_stream size s (c ∷ t) = feed_stream size (push_stream size s c) t

unfoldable pub feed_buffer : Stream → List ℕ → List ℕ → List ℕ
feed_buffer s [] m = m
feed_buffer s (c ∷ t) m = feed_buffer (push_stream (length m) s c) t (push_buffer s c m)

-- the number by which a refused file is told. `start` and `feed` make streams with 0 or a number of 01's table for HEX, 1 to 7; another number, in
-- a stream made elsewhere, is told as 1
abbrev pub told_number : ℕ → ℕ
told_number n = pick (leb n 7) n 1

-- the file's end: the line behind the last LF goes to the line reader; a missing end line is told last
unfoldable pub finish_answer : ℕ → Stream → Outcome (Unit {0})
finish_answer size s =
    pick (eqb s.number 0)
    (pick (buffer_length size)
    (pick (eqb s.count 0) (end_answer s.reader)
    (pick (leb s.count longest) (and_then (read_line s.reader size (held_line s)) end_answer)
    (refused (long_number s.reader size))))
    (refused 7))
    (refused (told_number s.number))

-- what stands in the buffer behind a file that is read; what a refused file leaves there does not count
abbrev pub Leaves : Outcome (Unit {0}) → List ℕ → List ℕ → Type 0
Leaves (value u) expected after = after ≡ expected
Leaves (refused n) expected after = Unit {0}
