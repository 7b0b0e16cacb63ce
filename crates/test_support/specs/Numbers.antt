-- A hexadecimal digit's value. Numbers in a list of bytes, high byte first; a byte past the end counts as 0.
-- Assumes nothing.
use Rattle.std.specs.Prelude.{◌≡◌, ℕ, ◌+◌, ◌-◌, ◌*◌, ◌≤◌, true, ◌&&◌, Option, Some, None, List, length, nat_le, slice_index}
use Rattle.std.proofs.Common.{arith, leb-true}
use Rattle.std.proofs.Math.ListN.{get_or-eq_default}
use Rattle.base.specs.Choice.{pick}
use Rattle.base.specs.Formula.{sound, of_true, test, ◌&◌}

-- of a character: 0 to 9, A to F or a to f
abbrev pub hex_value : ℕ → ℕ
hex_value b =
    pick (nat_le 0x30 b && nat_le b 0x39) (b - 0x30)
    (pick (nat_le 0x41 b && nat_le b 0x46) (b - 0x41 + 10)
    (pick (nat_le 0x61 b && nat_le b 0x66) (b - 0x61 + 10)
    16))

-- the number of a digit's value, 16 where there is none
abbrev pub digit_number : Option ℕ → ℕ
digit_number None = 16
digit_number (Some n) = n

-- a number between two others is at least the first
pub at_least : (l h b : ℕ) → (nat_le l b && nat_le b h) ≡ true → l ≤ b
at_least l h b e = leb-true l b (sound (test (nat_le l b) & test (nat_le b h)) (of_true _ e)).0

abbrev pub word_at : List ℕ → ℕ → ℕ
word_at s at = slice_index s at * 256 + slice_index s (at + 1)

abbrev pub long_at : List ℕ → ℕ → ℕ
long_at s at = word_at s at * 65536 + word_at s (at + 2)

-- a word past the end
pub word_out : (s : List ℕ) (at : ℕ) → length s ≤ at → word_at s at ≡ 0
word_out s at h = rw (get_or-eq_default s 0 {n = at} h, get_or-eq_default s 0 {n = at + 1} (omega arith))
