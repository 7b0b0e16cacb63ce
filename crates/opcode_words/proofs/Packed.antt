-- What the rows' numbers hold is what the map says, at all 256 first bytes, by one computation each.
-- Assumes nothing.
use mathlib.Core.Path.{◌≡◌, refl}
use Prim.Native.Nat.{ℕ, ◌%◌, ◌/◌, ◌*◌, ◌^◌, ◌<◌}
use Rattle.base.specs.Table.{agree}
use Rattle.isa.specs.Map.{length_of, cycles_of}
use Rattle.opcode_words.specs.Words.{length_word, cycle_word}

-- the value of a first byte in the words of its row
abbrev packed : (ℕ → ℕ) → ℕ → ℕ
packed word n = word (n / 16) / 2 ^ (n % 16 * 4) % 16

pub length_at : (n : ℕ) → n < 256 → length_word (n / 16) / 2 ^ (n % 16 * 4) % 16 ≡ length_of n
length_at n h = agree (packed length_word) length_of 0 256 refl n h

pub cycles_at : (n : ℕ) → n < 256 → cycle_word (n / 16) / 2 ^ (n % 16 * 4) % 16 ≡ cycles_of n
cycles_at n h = agree (packed cycle_word) cycles_of 0 256 refl n h
