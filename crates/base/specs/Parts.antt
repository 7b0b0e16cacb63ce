-- The parts of the family that a caller may choose by a profile (request 04), and the length of an image.
-- Assumes nothing.
use Rattle.std.specs.Prelude.{ℕ, ◌≤◌, Bool, true, false, ◌||◌, ◌==◌}
use Rattle.std.proofs.Common.{arith}
use Rattle.base.specs.declared.Profile.{Profile}
use Rattle.base.specs.declared.Profile.TheVariants.{Rom4K, Rom2K}
use Rattle.base.specs.Lengths.{largest_rom}

-- What a part has: the bytes of its ROM, and of an image, so that ROM ends below this address; and whether its A/D inputs from 3 on are grounded.
-- Definitions and theorems go by these two, not by the profile.
pub record Part : Type 0 where
  pub rom : ℕ
  pub grounds : Bool

-- the S3F9454; the S3C9444 "takes images of 2048 bytes, ends ROM at 07FFH", and "those inputs are grounded there"
abbrev pub part_of : Profile → Part
part_of Rom4K = record { rom = largest_rom; grounds = false }
part_of Rom2K = record { rom = 2048; grounds = true }

-- whether n bytes are an image of some part: the HEX reader goes by the lent length
abbrev pub is_image_length : ℕ → Bool
is_image_length n = n == (part_of Rom4K).rom || n == (part_of Rom2K).rom

-- no ROM is larger than the largest
pub rom_fits : (p : Profile) → (part_of p).rom ≤ largest_rom
rom_fits Rom4K = omega arith
rom_fits Rom2K = omega arith
