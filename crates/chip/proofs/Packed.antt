-- What the packed numbers hold is what the definitions say, at all 256 addresses, by one computation each.
-- Assumes nothing.
use Rattle.std.specs.Prelude.{◌≡◌, refl, Bool, true, ℕ, ◌%◌, ◌/◌, ◌*◌, ◌-◌, ◌^◌, ◌<◌, eqb, ltb}
use Rattle.base.specs.Choice.{pick}
use Rattle.base.specs.Table.{agree}
use Rattle.chip.specs.Registers.{kept_bits, mapped_of}
use Rattle.chip.specs.Words.{kept_word}

abbrev packed_kept : ℕ → ℕ
packed_kept n = kept_word (n / 8) / 2 ^ (n % 8 * 8) % 256

pub kept_at : (n : ℕ) → n < 256 → kept_word (n / 8) / 2 ^ (n % 8 * 8) % 256 ≡ kept_bits n
unfolding kept_bits
kept_at n h = agree packed_kept kept_bits 0 256 refl n h

abbrev packed_mapped : ℕ → Bool
packed_mapped n = pick (ltb n 0xD0) true (eqb (0x39C0FC7FA37 / 2 ^ (n - 0xD0) % 2) 1)

pub mapped_at : (n : ℕ) → n < 256 → pick (ltb n 0xD0) true (eqb (0x39C0FC7FA37 / 2 ^ (n - 0xD0) % 2) 1) ≡ mapped_of n
unfolding mapped_of
mapped_at n h = agree packed_mapped mapped_of true 256 refl n h
