-- What decoding at a position gives: the map's cell for the first byte, the operands from the bytes after it, and the flags that the first byte
-- alone names (02, request 07).
-- Assumes nothing.
use Rattle.std.specs.Prelude.{ℕ, ◌+◌, ◌-◌, ◌/◌, List, Option, Some, None, length, get_or, ltb, leb}
use Rattle.base.specs.Choice.{pick}
use Rattle.base.specs.Outcome.{Outcome}
use Rattle.base.specs.Outcome.Outcome.{value, refused}
use Rattle.isa.specs.Flags.{no_flags}
use Rattle.isa.specs.Map.{Cell, cell_of, cell_length}
use Rattle.isa.specs.Map.Cell.{empty, implied}
use Rattle.isa.specs.declared.FlagSet.{FlagSet}
use Rattle.isa.specs.declared.Implied.{Implied}
use Rattle.isa.specs.declared.Instruction.{Instruction}
use Rattle.columns.specs.Form.{answer_of}

-- the cell of a row of column F that holds this, and the flags that it names
abbrev pub implied_cell : Option (Implied × FlagSet) → Cell × FlagSet
implied_cell (Some p) = (implied p.0, p.1)
implied_cell None = (empty, no_flags)

-- at a position of a byte list: 10 where the first byte, or a byte that its length calls for, is not there; an undefined first byte
-- has length 0, so it is 11 wherever it stands
unfoldable pub decode_at : List ℕ → ℕ → Outcome (Instruction × ℕ × FlagSet)
decode_at s at =
    pick (ltb at (length s))
    (pick (leb (cell_length (cell_of (get_or s at 0))) (length s - at))
    (answer_of (cell_of (get_or s at 0)) (get_or s at 0 / 16) (get_or s (at + 1) 0) (get_or s (at + 2) 0) (get_or s (at + 3) 0))
    (refused 10))
    (refused 10)

-- the instruction and its length, without the flags: what the encoder goes by
abbrev pub without_flags : Outcome (Instruction × ℕ × FlagSet) → Outcome (Instruction × ℕ)
without_flags (value d) = value (d.0, d.1)
without_flags (refused n) = refused n
