-- A state that is not 0 never becomes 0, and a state has 32 bits.
-- Assumes nothing.
use Rattle.std.specs.Prelude.{ℕ, zero, suc, ◌+◌, ◌*◌, ◌/◌, ◌%◌, ◌^◌, ◌<◌, ◌≡◌, refl}
use Rattle.std.proofs.Common.{sym, ap, ◌∙◌, div-le_self, lt_of_le_of_lt, mod-lt, mul_assoc, pow-suc, zero-lt-suc, arith, pow_pos}
use Rattle.std.proofs.Math.Nat.{div-lt_self, mod-add-div', pow-succ'}
use Rattle.std.specs.Int.Bits.{bit_xor, xor_add_and}
use Rattle.std.proofs.lemmas.Nat.{xor_lt, and_le_l, and_le_r}
use Rattle.xorshift.specs.Xorshift.{xor_left, xor_right, round, next_state, state_after}

xor_zero : (a b : ℕ) → bit_xor a b ≡ 0 → a ≡ b
xor_zero a b e = omega (arith, xor_add_and a b, and_le_l a b, and_le_r a b)

doubled : (a k : ℕ) → a * 2 ^ suc k ≡ a * 2 ^ k * 2
doubled a k = ap (λ (p : ℕ). a * p) (pow-suc 2 k) ∙ sym (mul_assoc a (2 ^ k) 2)

halved : (x k : ℕ) → x ≡ x / 2 * 2 → x * 2 ^ k ≡ x / 2 * 2 ^ suc k
halved x k even = ap (λ (y : ℕ). y * 2 ^ k) even ∙ (mul_assoc (x / 2) 2 (2 ^ k) ∙ ap (λ (p : ℕ). x / 2 * p) (sym (pow-succ' 2 k)))

-- of w bits only 0 stays as it is when it is shifted left: the lowest bit is 0, and so it goes on with the other bits
left_fixed : (w k x q : ℕ) → x < 2 ^ w → x + q * 2 ^ w ≡ x * 2 ^ suc k → x ≡ 0
left_fixed zero k x q h e = omega arith
left_fixed (suc w) k x q h e =
    let even : x ≡ x / 2 * 2 = omega (arith, doubled q w, doubled x k) in
    let none = left_fixed w k (x / 2) q (omega (arith, pow-suc 2 w)) (omega (arith, doubled q w, doubled x k, halved x k even)) in
    omega arith

-- of all numbers only 0 stays as it is when it is shifted right
right_fixed : (k x : ℕ) → x ≡ x / 2 ^ suc k → x ≡ 0
right_fixed k zero e = refl
right_fixed k (suc x) e =
    absurd (omega (arith, div-lt_self {n = suc x} {k = 2 ^ suc k} (zero-lt-suc x) (omega (arith, pow-suc 2 k, pow_pos k))))

xor_left_nonzero : (k x : ℕ) → x < 2 ^ 32 → xor_left (suc k) x ≡ 0 → x ≡ 0
xor_left_nonzero k x h e =
    let same = xor_zero x (x * 2 ^ suc k % 2 ^ 32) e in
    left_fixed 32 k x (x * 2 ^ suc k / 2 ^ 32) h (ap (λ (y : ℕ). y + x * 2 ^ suc k / 2 ^ 32 * 2 ^ 32) same ∙ mod-add-div' (x * 2 ^ suc k) (2 ^ 32))

xor_right_nonzero : (k x : ℕ) → xor_right (suc k) x ≡ 0 → x ≡ 0
xor_right_nonzero k x e = right_fixed k x (xor_zero x (x / 2 ^ suc k) e)

xor_left_below : (k x : ℕ) → x < 2 ^ 32 → xor_left k x < 2 ^ 32
xor_left_below k x h = xor_lt 32 x (x * 2 ^ k % 2 ^ 32) h (mod-lt (x * 2 ^ k) (zero-lt-suc _))

xor_right_below : (k x : ℕ) → x < 2 ^ 32 → xor_right k x < 2 ^ 32
xor_right_below k x h = xor_lt 32 x (x / 2 ^ k) h (lt_of_le_of_lt (div-le_self x (2 ^ k)) h)

pub round_below : (x : ℕ) → x < 2 ^ 32 → round x < 2 ^ 32
unfolding round
round_below x h =
    let a = xor_left 13 x in
    xor_left_below 5 (xor_right 17 a) (xor_right_below 17 a (xor_left_below 13 x h))

-- only 0 becomes 0
pub round_nonzero : (x : ℕ) → x < 2 ^ 32 → round x ≡ 0 → x ≡ 0
unfolding round
round_nonzero x h e =
    let a = xor_left 13 x in
    let below = xor_left_below 13 x h in
    xor_left_nonzero 12 x h (xor_right_nonzero 16 a (xor_left_nonzero 4 (xor_right 17 a) (xor_right_below 17 a below) e))

next_below : (x : ℕ) → x < 2 ^ 32 → next_state x < 2 ^ 32
next_below x h = round_below (round x) (round_below x h)

pub state_below : (n x : ℕ) → x < 2 ^ 32 → state_after n x < 2 ^ 32
unfolding state_after
state_below zero x h = h
state_below (suc n) x h = state_below n (next_state x) (next_below x h)

pub state_nonzero : (n x : ℕ) → x < 2 ^ 32 → state_after n x ≡ 0 → x ≡ 0
unfolding state_after
state_nonzero zero x h e = e
state_nonzero (suc n) x h e =
    round_nonzero x h
    (round_nonzero (round x) (round_below x h) (state_nonzero n (next_state x) (next_below x h) e))
