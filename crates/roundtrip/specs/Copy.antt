-- What copying one instruction out of a byte list answers and leaves in a buffer: the very bytes that it was decoded from.
-- Assumes nothing.
use Rattle.std.specs.Prelude.{ℕ, List, ◌++◌, Result, length, take, drop, ltb}
use Rattle.base.specs.Choice.{pick}
use Rattle.base.specs.Outcome.{Outcome, and_then, on_outcome, outcome_by}
use Rattle.base.specs.Outcome.Outcome.{value, refused}
use Rattle.decode.specs.Decode.{decode_at}
use Rattle.isa.specs.Answer.{decode_error_number}
use Rattle.roundtrip.specs.declared.CopyError.{CopyError}
use Rattle.roundtrip.specs.declared.CopyError.TheVariants.{Short, Decode}

abbrev pub copy_error_number : CopyError → ℕ
copy_error_number Short = 7
copy_error_number (Decode e) = decode_error_number e

-- what each answer means: the number of bytes copied, or its number in the table of answers
abbrev pub copied : Result ℕ CopyError → Outcome ℕ
copied = outcome_by copy_error_number

-- the decoder's number; then 7 where the buffer has no room for the instruction decoded, since only decoding gives its length
unfoldable pub copy_answer : List ℕ → ℕ → ℕ → Outcome ℕ
copy_answer s at room = and_then (decode_at s at) (λ p. pick (ltb room p.1) (refused 7) (value p.1))

-- the bytes from the position on, and what stood behind them; all as it was on refusal
unfoldable pub copy_into : List ℕ → ℕ → List ℕ → List ℕ
copy_into s at out =
    on_outcome (decode_at s at) (λ p. pick (ltb (length out) p.1) out (take p.1 (drop at s) ++ drop p.1 out)) (λ k. out)
