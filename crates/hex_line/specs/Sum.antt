-- The sum of a line's pairs as it is gathered: the first n pairs, added up (request 02).
-- Assumes nothing.
use Rattle.std.specs.Prelude.{ℕ, zero, suc, ◌+◌, ◌*◌, ◌<◌, List}
use Rattle.hex_line.specs.Record.{pair_at}

-- each of the first n pairs behind the colon is two digits
abbrev pub AllPairs : List ℕ → ℕ → Type 0
AllPairs l n = (i : ℕ) → i < n → pair_at l (i * 2 + 1) < 256

-- the sum of the first n pairs behind the colon, as a number. It is meant where all are digits
unfoldable pub total_of : List ℕ → ℕ → ℕ
total_of l zero = 0
total_of l (suc n) = total_of l n + pair_at l (n * 2 + 1)
