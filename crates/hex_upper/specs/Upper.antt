-- The separate call of request 13, which converts an old line in place into its upper-case line: its answer, and the line behind it.
-- Assumes nothing.
use Rattle.std.specs.Prelude.{ℕ, ◌-◌, Result, List, map}
use Rattle.base.specs.Choice.{pick}
use Rattle.base.specs.Outcome.{Outcome, on_outcome, outcome_by}
use Rattle.hex_line.specs.Record.{body_of}
use Rattle.hex_line.specs.Line.{fault_number}
use Rattle.hex_line.specs.declared.Fault.{Fault}
use Rattle.hex_upper.specs.Former.{small_letter, former_check}

-- what the conversion tells, by its fault's number
abbrev pub upper_outcome : Result (Unit {0}) Fault → Outcome (Unit {0})
upper_outcome = outcome_by fault_number

-- the upper-case letter of a to f; any other character as it is
abbrev pub upper_of : ℕ → ℕ
upper_of c = pick (small_letter c) (c - 32) c

-- a line that breaks none of 1 to 3 as they stood is converted
abbrev pub upper_answer : List ℕ → Outcome (Unit {0})
upper_answer line = former_check (body_of line)

-- into its upper-case line; a refused one is unchanged
unfoldable pub upper_line : List ℕ → List ℕ
upper_line line = on_outcome (upper_answer line) (λ _. map upper_of line) (λ number. line)
