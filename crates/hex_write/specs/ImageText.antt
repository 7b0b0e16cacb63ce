-- The text of an image: upper-case records of 16 bytes and the end line, with LF. It goes by the bytes of a part's ROM, rom: 256 records and 11,276
-- bytes of text for 4096, 128 and 5,644 for 2048 (request 04).
-- Assumes nothing.
use Rattle.std.specs.Prelude.{ℕ, zero, suc, ◌+◌, ◌-◌, ◌*◌, ◌/◌, ◌%◌, ◌≤◌, Result, List, [], ◌∷◌, ◌++◌, length, get_or, drop, eqb, ltb, ◌≡◌, refl}
use Rattle.base.specs.Choice.{pick}
use Rattle.base.specs.Outcome.{Outcome, on_outcome, outcome_by}
use Rattle.base.specs.Outcome.Outcome.{value, refused}
use Rattle.base.specs.Parts.{part_of}
use Rattle.base.specs.declared.Profile.TheVariants.{Rom4K, Rom2K}
use Rattle.base.specs.declared.InvalidArgument.{InvalidArgument}

-- an upper-case digit
abbrev pub hex_digit : ℕ → ℕ
hex_digit x = pick (ltb x 10) (x + 48) (x + 55)

-- byte j of record k before its sum: length 16, address high and low, type 0, the data
unfoldable pub head_byte : List ℕ → ℕ → ℕ → ℕ
head_byte m k j =
    pick (eqb j 0) 16
    (pick (eqb j 1) (k * 16 / 256) (pick (eqb j 2) (k * 16 % 256) (pick (eqb j 3) 0 (get_or m (k * 16 + (j - 4)) 0))))

-- the sum modulo 256 of the first n of them
unfoldable pub head_sum : List ℕ → ℕ → ℕ → ℕ
head_sum m k zero = 0
head_sum m k (suc n) = (head_sum m k n + head_byte m k n) % 256

-- with the byte that makes the sum 0 behind them
unfoldable pub record_byte : List ℕ → ℕ → ℕ → ℕ
record_byte m k j = pick (ltb j 20) (head_byte m k j) ((256 - head_sum m k 20) % 256)

-- the first n bytes of record k in digits
unfoldable pub digits : List ℕ → ℕ → ℕ → List ℕ
digits m k zero = []
digits m k (suc n) = digits m k n ++ (hex_digit (record_byte m k n / 16) ∷ hex_digit (record_byte m k n % 16) ∷ [])

unfoldable pub record_line : List ℕ → ℕ → List ℕ
record_line m k = (58 ∷ digits m k 21) ++ (10 ∷ [])

-- the first k records
unfoldable pub records : List ℕ → ℕ → List ℕ
records m zero = []
records m (suc k) = records m k ++ record_line m k

-- :00000001FF and LF
abbrev pub end_line : List ℕ
end_line = 58 ∷ 48 ∷ 48 ∷ 48 ∷ 48 ∷ 48 ∷ 48 ∷ 48 ∷ 49 ∷ 70 ∷ 70 ∷ 10 ∷ []

-- the bytes that a record's address can reach
abbrev pub addressable : ℕ
addressable = 65536

-- m has the bytes of record k, within reach
abbrev pub HasRecord : List ℕ → ℕ → Type 0
HasRecord m k = (k * 16 + 16 ≤ length m) × (length m ≤ addressable)

-- the records of an image, 16 bytes each
abbrev pub record_count : ℕ → ℕ
record_count rom = rom / 16

unfoldable pub image_text : ℕ → List ℕ → List ℕ
image_text rom m = records m (record_count rom) ++ end_line

abbrev pub text_length : ℕ → ℕ
text_length rom = record_count rom * 44 + 12

pub record_counts : (record_count (part_of Rom4K).rom ≡ 256) × (record_count (part_of Rom2K).rom ≡ 128)
record_counts = (refl, refl)

pub text_lengths : (text_length (part_of Rom4K).rom ≡ 11276) × (text_length (part_of Rom2K).rom ≡ 5644)
text_lengths = (refl, refl)

-- how many bytes were written, or 7
abbrev pub written_outcome : Result ℕ InvalidArgument → Outcome ℕ
written_outcome = outcome_by (λ e. 7)

-- 7: an image of another length, or too short a buffer
unfoldable pub write_answer : ℕ → ℕ → ℕ → Outcome ℕ
write_answer rom size room = pick (eqb size rom) (pick (ltb room (text_length rom)) (refused 7) (value (text_length rom))) (refused 7)

-- the buffer behind it: the text at its front, unchanged where it is refused
unfoldable pub write_buffer : ℕ → List ℕ → List ℕ → List ℕ
write_buffer rom m out = on_outcome (write_answer rom (length m) (length out)) (λ n. image_text rom m ++ drop n out) (λ number. out)
