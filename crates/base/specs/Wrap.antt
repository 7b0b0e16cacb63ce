-- Differences that wrap: what `std::num`'s wrapping subtraction ensures, solved for its result.
-- Assumes nothing.
use Rattle.std.specs.Prelude.{◌≡◌, ℕ, ◌+◌, ◌-◌, ◌%◌, ◌<◌, ◌≤◌}
use Rattle.std.proofs.Common.{arith}

pub wrap_sub_8 : (a b r : ℕ) → a < 256 → b < 256 → r < 256 → (r + b) % 256 ≡ a → r ≡ (a + 256 - b) % 256
wrap_sub_8 a b r ha hb hr e = omega arith

pub wrap_sub_two_8 : (a b k : ℕ) → a < 256 → b < 256 → k ≤ 1 → ((a + 256 - b) % 256 + 256 - k) % 256 ≡ (a + 512 - (b + k)) % 256
wrap_sub_two_8 a b k ha hb hk = omega arith

pub wrap_down_8 : (x r : ℕ) → r < 256 → (r + 1) % 256 ≡ x → r ≡ (x + 255) % 256
wrap_down_8 x r hr e = omega arith
