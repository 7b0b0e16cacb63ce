-- What each of the encoder's answers means: its value, or its number in the table of answers.
-- Assumes nothing.
use Rattle.std.specs.Prelude.{ℕ, Result}
use Rattle.base.specs.Outcome.{Outcome, outcome_by}
use Rattle.coded.specs.declared.CodeError.{CodeError}
use Rattle.encode.specs.declared.EncodeError.{EncodeError}
use Rattle.encode.specs.declared.EncodeError.TheVariants.{Short, TooWide, OddPair}

abbrev pub encode_error_number : EncodeError → ℕ
encode_error_number Short = 7
encode_error_number TooWide = 8
encode_error_number OddPair = 12

-- the refusal that the bytes' refusal becomes
abbrev pub of_code : CodeError → EncodeError
of_code CodeError.TooWide = TooWide
of_code CodeError.OddPair = OddPair

abbrev pub encoded : Result ℕ EncodeError → Outcome ℕ
encoded = outcome_by encode_error_number
