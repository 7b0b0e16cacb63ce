-- The former reader, before request 13: the reader's definitions with a digit test that takes the small letters a to f too.
-- Assumes nothing.
use Rattle.std.specs.Prelude.{ℕ, ◌-◌, ◌≡◌, Bool, false, ◌&&◌, List, get_or, leb, ltb}
use Rattle.base.specs.Choice.{pick}
use Rattle.base.specs.Outcome.{Outcome}
use Rattle.hex_line.specs.declared.Reader.{Reader}
use Rattle.hex_line.specs.Record.{digit_of}
use Rattle.hex_line.specs.Line.{check_by, read_by, buffer_by}

-- a to f
abbrev pub small_letter : ℕ → Bool
small_letter c = leb 97 c && ltb c 103

-- a text has none of them
abbrev pub NoSmall : List ℕ → Type 0
NoSmall l = (i : ℕ) → small_letter (get_or l i 0) ≡ false

-- the value of a digit of either letter case
abbrev pub former_digit : ℕ → ℕ
former_digit c = pick (small_letter c) (c - 87) (digit_of c)

-- 1 to 3 as they stood, of a line without its end
abbrev pub former_check : List ℕ → Outcome (Unit {0})
former_check = check_by former_digit

-- the answer to a line, and the buffer behind it
abbrev pub former_line : Reader → ℕ → List ℕ → Outcome Reader
former_line = read_by former_digit

abbrev pub former_buffer : Reader → List ℕ → List ℕ → List ℕ
former_buffer = buffer_by former_digit
