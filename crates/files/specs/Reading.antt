-- What reading a file promises. No contract can say which bytes a file holds, so each promise names a text, what was read of the file, and says what was made of it.
-- Assumes nothing.
use Rattle.std.specs.Prelude.{ℕ, zero, suc, ◌+◌, ◌-◌, ◌≤◌, ◌≡◌, List, [], ◌∷◌, length, eqb, ltb}
use Rattle.base.specs.Choice.{pick}
use Rattle.base.specs.Outcome.{Outcome}
use Rattle.hex_text.specs.declared.Stream.{Stream}
use Rattle.hex_text.specs.Text.{first_length, text_answer, text_buffer}
use Rattle.hex_text.specs.Stream.{started, feed_stream, feed_buffer, finish_answer, Leaves}
use Rattle.judge.specs.Judgement.{printed_answer, printed_buffer}
use Rattle.files.specs.declared.Reading.{Reading}
use Rattle.files.specs.declared.Reading.TheVariants.{GoesOn, Ended, Failed, Refused}

-- whether a character ends a line, as a number of line ends
abbrev pub line_end : ℕ → ℕ
line_end c = pick (eqb c 10) 1 0

unfoldable pub line_ends : List ℕ → ℕ
line_ends [] = 0
line_ends (c ∷ t) = line_end c + line_ends t

-- a count of lines, this many more; it stays at its greatest value
unfoldable pub counted : ℕ → ℕ → ℕ
counted n zero = n
counted n (suc k) = counted (pick (ltb n 4294967295) (n + 1) n) k

-- some text was fed to a stream, and its line ends were counted
pub record Fed (s next : Stream) (n m : ℕ) (before after : List ℕ) : Type 0 where
  pub text : List ℕ
  pub stream : next ≡ feed_stream (length before) s text
  pub buffer : after ≡ feed_buffer s text before
  pub lines : m ≡ counted n (line_ends text)

-- how the reading stands, as a number
abbrev pub reading_number : Reading → ℕ
reading_number GoesOn = 0
reading_number Ended = 1
reading_number Failed = 2
reading_number Refused = 3

-- reading stops before the end (3) exactly behind a refused line
pub record Settled (s : Stream) (state : ℕ) : Type 0 where
  pub stops : state ≡ 3 → 1 ≤ s.number
  pub goes : (state ≡ 3 → ⊥) → s.number ≡ 0

-- lines were fed and counted, none of them refused; behind them a refused line, if there is one
pub record Turned (s next : Stream) (n m state : ℕ) (before after : List ℕ) : Type 0 where
  pub between : Stream
  pub middle : List ℕ
  pub fed : Fed s between n m before middle
  pub right : between.number ≡ 0
  pub line : List ℕ
  pub single : first_length line ≡ length line
  pub none : (state ≡ 3 → ⊥) → line ≡ []
  pub stream : next ≡ feed_stream (length middle) between line
  pub buffer : after ≡ feed_buffer between line middle
  pub settled : Settled next state

-- how many turns are left: one less where the reading goes on (0), else none
abbrev pub turns_left : ℕ → ℕ → ℕ
turns_left turns state = pick (eqb state 0) (turns - 1) 0

-- the answer to what was read of a file; one that failed (2) counts as empty
abbrev pub answer_of : Stream → ℕ → ℕ → Outcome (Unit {0})
answer_of s state size = pick (eqb state 2) (finish_answer size started) (finish_answer size s)

-- some text was read as a whole file. On a refusal too the buffer is given: some part was fed, whose lines before a refused one were written
pub record Reads (answer : Outcome (Unit {0})) (before after : List ℕ) : Type 0 where
  pub text : List ℕ
  pub answers : answer ≡ text_answer text (length before)
  pub leaves : Leaves answer (text_buffer text before) after
  pub part : List ℕ
  pub buffer : after ≡ feed_buffer started part before

-- some texts were read as an image file and a certificate file, and what is printed of them was written
pub record Judges (answer : Outcome ℕ) (before after : List ℕ) : Type 0 where
  pub image : List ℕ
  pub certificate : List ℕ
  pub answers : answer ≡ printed_answer image certificate (length before)
  pub writes : after ≡ printed_buffer image certificate before
