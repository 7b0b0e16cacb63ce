-- What each of the decoder's answers means: its value, or its number in the table of answers.
-- Assumes nothing.
use Rattle.std.specs.Prelude.{ℕ, Result, Ok, Err}
use Rattle.base.specs.Outcome.{Outcome}
use Rattle.base.specs.Outcome.Outcome.{value, refused}
use Rattle.isa.specs.declared.FlagSet.{FlagSet}
use Rattle.isa.specs.declared.Instruction.{Instruction}
use Rattle.isa.specs.declared.Decoded.{Decoded}
use Rattle.isa.specs.declared.DecodeError.{DecodeError}
use Rattle.isa.specs.declared.DecodeError.TheVariants.{CutOff, Undefined, OddPair}

abbrev pub decode_error_number : DecodeError → ℕ
decode_error_number CutOff = 10
decode_error_number Undefined = 11
decode_error_number OddPair = 12

-- an instruction, its length, and the flags that it names
abbrev pub decoded : Result Decoded DecodeError → Outcome (Instruction × ℕ × FlagSet)
decoded (Ok d) = value (d.instruction, d.length, d.names)
decoded (Err e) = refused (decode_error_number e)
