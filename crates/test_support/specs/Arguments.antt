-- Numbers of decimal digits, and what the arguments of a benchmark program mean.
-- Assumes nothing.
use Rattle.std.specs.Prelude.{◌≡◌, ℕ, ◌+◌, ◌*◌, ◌%◌, ◌<◌, List, length, drop, ◌==◌, slice_index}
use Rattle.std.proofs.Common.{add-one, drop-cons}
use Rattle.std.specs.List.{fold}
use Rattle.base.specs.Choice.{pick}
use Rattle.test_support.specs.declared.Rows.{Rows}

-- a number with one more digit behind it, of ten digits at most
abbrev pub with_digit : ℕ → ℕ → ℕ
with_digit n d = n % 1000000000 * 10 + d % 16

-- the number that n and the digits behind it give
abbrev pub number_from : ℕ → List ℕ → ℕ
number_from n text = fold with_digit n text

unfoldable pub number_of : List ℕ → ℕ
number_of text = number_from 0 text

-- one more digit
pub number_next : (n : ℕ) (text : List ℕ) (i : ℕ) → i < length text
    → number_from n (drop i text) ≡ number_from (with_digit n (slice_index text i)) (drop (i + 1) text)
number_next n text i h = rw (drop-cons text i 0 h, add-one i)

-- the row that an argument names, or with 0 all, 1 to count
abbrev pub rows_of : ℕ → ℕ → Rows
rows_of what count = pick (what == 0) (record { first = 1; last = count }) (record { first = what; last = what })
