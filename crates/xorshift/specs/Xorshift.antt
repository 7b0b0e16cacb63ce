-- Schedules by Marsaglia's 32-bit xorshift: a round, the record behind a state, the records from a seed, and the call that fills a buffer with them.
-- Assumes nothing.
use Rattle.std.specs.Prelude.{ℕ, zero, suc, ◌*◌, ◌/◌, ◌%◌, ◌^◌, Bool, false, Result, List, [], ◌∷◌, ◌++◌, map, eqb, length}
use Rattle.std.specs.Int.Bits.{bit_and, bit_xor}
use Rattle.base.specs.Choice.{pick, from}
use Rattle.base.specs.Lengths.{record_length}
use Rattle.base.specs.Outcome.{Outcome, on_outcome, outcome_by}
use Rattle.base.specs.Outcome.Outcome.{value, refused}
use Rattle.base.specs.declared.InvalidArgument.{InvalidArgument}

-- y ^= y << k, in 32 bits
abbrev pub xor_left : ℕ → ℕ → ℕ
xor_left k y = bit_xor y (y * 2 ^ k % 2 ^ 32)

-- y ^= y >> k
abbrev pub xor_right : ℕ → ℕ → ℕ
xor_right k y = bit_xor y (y / 2 ^ k)

-- a round: shifts 13 left, 17 right, 5 left
unfoldable pub round : ℕ → ℕ
round y = xor_left 5 (xor_right 17 (xor_left 13 y))

-- each state after a round gives four bytes, lowest first
abbrev pub byte_of : ℕ → ℕ → ℕ
byte_of x i = x / 2 ^ (8 * i) % 256

abbrev pub four_bytes : ℕ → List ℕ
four_bytes x = map (byte_of x) (from 4 0)

-- bits 5 to 7 of byte 0 are cleared
abbrev pub cleared : List ℕ → List ℕ
cleared [] = []
cleared (b ∷ r) = bit_and b 0x1F ∷ r

-- two rounds a record
abbrev pub next_state : ℕ → ℕ
next_state x = round (round x)

unfoldable pub record_from : ℕ → List ℕ
record_from x = cleared (four_bytes (round x) ++ four_bytes (next_state x))

-- n records, and the state after them
unfoldable pub records_from : ℕ → ℕ → List ℕ
records_from zero x = []
records_from (suc n) x = record_from x ++ records_from n (next_state x)

unfoldable pub state_after : ℕ → ℕ → ℕ
state_after zero x = x
state_after (suc n) x = state_after n (next_state x)

-- the state behind the records that were made; or a refusal by 7
abbrev pub filled_outcome : Result ℕ InvalidArgument → Outcome ℕ
filled_outcome = outcome_by (λ _. 7)

-- 7 for a seed of 0 or a buffer not a multiple of 8; any other seed and buffer's length are taken
abbrev pub taken : ℕ → ℕ → Bool
taken seed size = pick (eqb seed 0) false (eqb (size % record_length) 0)

unfoldable pub fill_answer : ℕ → ℕ → Outcome ℕ
fill_answer seed size = pick (taken seed size) (value (state_after (size / record_length) seed)) (refused 7)

-- the buffer behind it: full of records, unchanged where it is refused
unfoldable pub fill_buffer : ℕ → List ℕ → List ℕ
fill_buffer seed out =
    on_outcome (fill_answer seed (length out)) (λ state. records_from (length out / record_length) seed) (λ number. out)
