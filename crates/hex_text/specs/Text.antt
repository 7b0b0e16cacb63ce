-- A whole text: its lines, what reading them in turn answers, and what it leaves in the lent buffer.
-- Assumes nothing.
use Rattle.std.specs.Prelude.{ℕ, suc, Result, List, [], ◌∷◌, length, eqb}
use Rattle.base.specs.Choice.{pick}
use Rattle.base.specs.Outcome.{Outcome, and_then, on_outcome, outcome_by}
use Rattle.base.specs.Outcome.Outcome.{value, refused}
use Rattle.hex_line.specs.Line.{buffer_length, begun, fault_number, read_line, line_buffer}
use Rattle.hex_line.specs.declared.Fault.{Fault}
use Rattle.hex_line.specs.declared.Reader.{Reader}

-- a character in front of the first line
abbrev pub onto : ℕ → List (List ℕ) → List (List ℕ)
onto c [] = (c ∷ []) ∷ []
onto c (l ∷ ls) = (c ∷ l) ∷ ls

-- the lines of a text, each with its LF; what stands behind the last LF is a line too
unfoldable pub lines : List ℕ → List (List ℕ)
lines [] = []
lines (c ∷ t) = pick (eqb c 10) ((c ∷ []) ∷ lines t) (onto c (lines t))

-- the lines that LF ends: what stands behind the last LF is none of them
abbrev pub onto_first : ℕ → List (List ℕ) → List (List ℕ)
onto_first c [] = []
onto_first c (l ∷ ls) = (c ∷ l) ∷ ls

unfoldable pub ended_lines : List ℕ → List (List ℕ)
ended_lines [] = []
ended_lines (c ∷ t) = pick (eqb c 10) ((c ∷ []) ∷ ended_lines t) (onto_first c (ended_lines t))

-- the length of the first line, its LF included
unfoldable pub first_length : List ℕ → ℕ
first_length [] = 0
first_length (c ∷ t) = pick (eqb c 10) 1 (suc (first_length t))

-- what reading a text tells, by its fault's number
abbrev pub text_outcome : Result (Unit {0}) Fault → Outcome (Unit {0})
text_outcome = outcome_by fault_number

-- behind the last line: 6 where no end line was read
abbrev pub end_answer : Reader → Outcome (Unit {0})
end_answer reader = pick reader.ended (value tt) (refused 6)

-- the answer to the lines in turn, for a buffer of this size: the first refused line decides
unfoldable pub lines_answer : List (List ℕ) → Reader → ℕ → Outcome (Unit {0})
lines_answer [] reader size = end_answer reader
lines_answer (l ∷ ls) reader size = and_then (read_line reader size l) (λ next. lines_answer ls next size)

-- the buffer behind the lines in turn: on a refusal it holds what the lines before the refused one have written
unfoldable pub lines_buffer : List (List ℕ) → Reader → List ℕ → List ℕ
lines_buffer [] reader m = m
lines_buffer (l ∷ ls) reader m =
    on_outcome (read_line reader (length m) l) (λ next. lines_buffer ls next (line_buffer reader l m)) (λ number. m)

-- the answer to a text: 7 first, a missing end line last
unfoldable pub text_answer : List ℕ → ℕ → Outcome (Unit {0})
text_answer text size = pick (buffer_length size) (lines_answer (lines text) begun size) (refused 7)

-- the buffer that reading a whole text leaves: unchanged where the text is refused
unfoldable pub text_buffer : List ℕ → List ℕ → List ℕ
text_buffer text m = on_outcome (text_answer text (length m)) (λ u. lines_buffer (lines text) begun m) (λ number. m)
