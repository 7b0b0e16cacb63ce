-- Laws of AND, OR and XOR that the library does not have.
-- Assumes nothing.
use Rattle.std.specs.Prelude.{◌≡◌, ℕ, zero, suc, ◌+◌, ◌/◌, ◌%◌, ◌<◌, ◌≤◌, min, max, bit_and, bit_or, bit_xor}
use Rattle.std.proofs.Common.{◌∙◌, arith, le_refl}
use Rattle.std.specs.Int.Bits.{and_step, or_step, xor_add_and}
use Rattle.std.proofs.lemmas.Nat.{and_mask, xor_shr}

-- half of a result, and its lowest bit
and_half : (a b : ℕ) → bit_and a b / 2 ≡ bit_and (a / 2) (b / 2)
and_half a b = omega (arith, and_step a b)

and_low : (a b : ℕ) → bit_and a b % 2 ≡ min (a % 2) (b % 2)
and_low a b = omega (arith, and_step a b)

or_half : (a b : ℕ) → bit_or a b / 2 ≡ bit_or (a / 2) (b / 2)
or_half a b = omega (arith, or_step a b)

or_low : (a b : ℕ) → bit_or a b % 2 ≡ max (a % 2) (b % 2)
or_low a b = omega (arith, or_step a b)

-- two numbers with equal halves and equal lowest bits
halves : (x y : ℕ) → x / 2 ≡ y / 2 → x % 2 ≡ y % 2 → x ≡ y
halves x y h l = omega arith

min_assoc : (a b c : ℕ) → min (min a b) c ≡ min a (min b c)
min_assoc a b c = omega arith

min_max : (a b c : ℕ) → min (max a b) c ≡ max (min a c) (min b c)
min_max a b c = omega arith

-- by a bound on the first number, which a step halves
and_assoc_below : (n a b c : ℕ) → a ≤ n → bit_and (bit_and a b) c ≡ bit_and a (bit_and b c)
and_assoc_below zero a b c h =
    let e : a ≡ 0 = omega arith in
    rw e
and_assoc_below (suc n) a b c h =
    halves (bit_and (bit_and a b) c) (bit_and a (bit_and b c))
    (rw (and_half (bit_and a b) c, and_half a (bit_and b c), and_half a b, and_half b c)
    (and_assoc_below n (a / 2) (b / 2) (c / 2) (omega arith)))
    (rw (and_low (bit_and a b) c, and_low a (bit_and b c), and_low a b, and_low b c) (min_assoc (a % 2) (b % 2) (c % 2)))

pub and_assoc : (a b c : ℕ) → bit_and (bit_and a b) c ≡ bit_and a (bit_and b c)
and_assoc a b c = and_assoc_below a a b c (le_refl a)

and_or_below : (n a b c : ℕ) → a ≤ n → bit_and (bit_or a b) c ≡ bit_or (bit_and a c) (bit_and b c)
and_or_below zero a b c h =
    let e : a ≡ 0 = omega arith in
    rw e
and_or_below (suc n) a b c h =
    halves (bit_and (bit_or a b) c) (bit_or (bit_and a c) (bit_and b c))
    (rw (and_half (bit_or a b) c, or_half (bit_and a c) (bit_and b c), or_half a b, and_half a c, and_half b c)
    (and_or_below n (a / 2) (b / 2) (c / 2) (omega arith)))
    (rw (and_low (bit_or a b) c, or_low (bit_and a c) (bit_and b c), or_low a b, and_low a c, and_low b c)
    (min_max (a % 2) (b % 2) (c % 2)))

pub and_or : (a b c : ℕ) → bit_and (bit_or a b) c ≡ bit_or (bit_and a c) (bit_and b c)
and_or a b c = and_or_below a a b c (le_refl a)

-- the lowest bit of the XOR of four
xor_low : (a b c d : ℕ) → bit_xor (bit_xor a b) (bit_xor c d) % 2 ≡ (a + b + c + d) % 2
xor_low a b c d = omega (arith, xor_add_and (bit_xor a b) (bit_xor c d), xor_add_and a b, xor_add_and c d)

-- by a bound on their sum
xor_exchange_below : (n a b c d : ℕ) → a + b + c + d ≤ n → bit_xor (bit_xor a b) (bit_xor c d) ≡ bit_xor (bit_xor a c) (bit_xor b d)
xor_exchange_below zero a b c d h =
    let z : (a ≡ 0) × (b ≡ 0) × (c ≡ 0) × (d ≡ 0) = omega arith in
    rw (z.0, z.1, z.2, z.3)
xor_exchange_below (suc n) a b c d h =
    halves (bit_xor (bit_xor a b) (bit_xor c d)) (bit_xor (bit_xor a c) (bit_xor b d))
    (rw (xor_shr (bit_xor a b) (bit_xor c d) 1, xor_shr (bit_xor a c) (bit_xor b d) 1, xor_shr a b 1, xor_shr c d 1, xor_shr a c 1, xor_shr b d 1)
    (xor_exchange_below n (a / 2) (b / 2) (c / 2) (d / 2) (omega arith)))
    (omega (arith, xor_low a b c d, xor_low a c b d))

pub xor_exchange : (a b c d : ℕ) → bit_xor (bit_xor a b) (bit_xor c d) ≡ bit_xor (bit_xor a c) (bit_xor b d)
xor_exchange a b c d = xor_exchange_below (a + b + c + d) a b c d (le_refl (a + b + c + d))

-- all eight bits of a byte
pub and_byte : (x : ℕ) → x < 256 → bit_and x 0xFF ≡ x
and_byte x h = and_mask x 8 ∙ omega arith
