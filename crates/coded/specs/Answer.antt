-- What the bytes of an instruction and of two nibbles mean: their value, or their number in the table of answers.
-- Assumes nothing.
use Rattle.std.specs.Prelude.{ℕ, List, [], ◌∷◌, Result, Ok, Err}
use Rattle.base.specs.Outcome.{Outcome, outcome_by}
use Rattle.base.specs.Outcome.Outcome.{value, refused}
use Rattle.coded.specs.declared.Code.{Code}
use Rattle.coded.specs.declared.CodeError.{CodeError}
use Rattle.coded.specs.declared.CodeError.TheVariants.{TooWide, OddPair}

abbrev pub code_error_number : CodeError → ℕ
code_error_number TooWide = 8
code_error_number OddPair = 12

-- what a result tells, by its error's number
abbrev pub code_outcome : {A : Type 0} → Result A CodeError → Outcome A
code_outcome = outcome_by code_error_number

abbrev pub bytes : Code → List ℕ
bytes (Code.One a) = a ∷ []
bytes (Code.Two a b) = a ∷ b ∷ []
bytes (Code.Three a b c) = a ∷ b ∷ c ∷ []
bytes (Code.Four a b c d) = a ∷ b ∷ c ∷ d ∷ []

abbrev pub coded : Result Code CodeError → Outcome (List ℕ)
coded (Ok code) = value (bytes code)
coded (Err e) = refused (code_error_number e)
