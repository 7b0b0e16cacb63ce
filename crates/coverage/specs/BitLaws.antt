-- Bits of a number: OR, a single bit, how many are set, and numbers with the same bits.
-- Assumes nothing.
use Prim.Native.Nat.compare
use Rattle.std.specs.Prelude.{ℕ, zero, suc, ◌+◌, ◌*◌, ◌/◌, ◌%◌, ◌^◌, ◌≤◌, ◌<◌, max, ◌≡◌, refl, Bool, ◌||◌, eqb}
use Rattle.std.proofs.Common.{◌∙◌, sym, ap, ap₂, ⊎_elim, eqb-true, arith, add-zero, zero-add, add-suc, suc-add, add_assoc, one-mul, pow-suc, div-one, mul-div_cancel, zero-lt-suc, one-add, shr-shr, shl_exact}
use Rattle.std.proofs.lemmas.Bool.{eqb-false}
use Rattle.std.proofs.Math.Nat.{zero-div, mul-mod_left}
use Rattle.std.proofs.Math.Dec.{compare_is_eq}
use Rattle.std.specs.Int.Bits.{bit_or, or_step}
use Rattle.std.proofs.lemmas.Nat.{or_shr}
use Rattle.std.specs.Int.Count.{ones, ones_step}
use Rattle.base.specs.Choice.{pick, from, count}
use Rattle.base.specs.ChoiceLaws.{pick_has}
use Rattle.base.specs.Formula.{eqb_no, case_bool}
use Rattle.coverage.specs.Map.{bit_of}

-- bit k + 1 of a number is bit k of its half
pub bit_half : (x k : ℕ) → bit_of x (suc k) ≡ bit_of (x / 2) k
bit_half x k = ap (λ (n : ℕ). eqb (x / 2 ^ n % 2) 1) (sym (one-add k)) ∙ ap (λ (n : ℕ). eqb (n % 2) 1) (sym (shr-shr x 1 k))

-- bit 0, by the number's lowest digit
pub bit_lowest : (x : ℕ) → bit_of x 0 ≡ eqb (x % 2) 1
bit_lowest x = rw (div-one x)

-- of two digits, OR is set where one of them is
max_digit : (p q : ℕ) → p < 2 → q < 2 → eqb (max p q) 1 ≡ (eqb p 1 || eqb q 1)
max_digit zero zero h g = refl
max_digit zero (suc zero) h g = refl
max_digit (suc zero) zero h g = refl
max_digit (suc zero) (suc zero) h g = refl
max_digit (suc (suc p)) q h g = absurd (omega (arith, h))
max_digit zero (suc (suc q)) h g = absurd (omega (arith, g))
max_digit (suc zero) (suc (suc q)) h g = absurd (omega (arith, g))

same_digit : (p q : ℕ) → p < 2 → q < 2 → eqb p 1 ≡ eqb q 1 → p ≡ q
same_digit p q h g e =
    ⊎_elim (λ t. eqb-true p 1 t ∙ sym (eqb-true q 1 (sym e ∙ t)))
    (λ f. let x = eqb-false p 1 f in let y = eqb-false q 1 (sym e ∙ f) in omega (arith, x, y)) (case_bool (eqb p 1))

pub bit_or_lem : (x y k : ℕ) → bit_of (bit_or x y) k ≡ (bit_of x k || bit_of y k)
bit_or_lem x y k =
    let e : bit_or x y / 2 ^ k % 2 ≡ max (x / 2 ^ k % 2) (y / 2 ^ k % 2) = rw (or_shr x y k) (omega (arith, or_step (x / 2 ^ k) (y / 2 ^ k))) in
    rw e (max_digit (x / 2 ^ k % 2) (y / 2 ^ k % 2) (omega arith) (omega arith))

-- the number whose only bit is j
pub bit_single : (j k : ℕ) → bit_of (2 ^ j) k ≡ eqb j k
bit_single zero zero = refl
bit_single zero (suc k) = bit_half 1 k ∙ ap (λ (n : ℕ). eqb (n % 2) 1) (zero-div (2 ^ k)) ∙ sym (eqb_no {a = 0} {b = suc k} (λ e. omega (arith, e)))
bit_single (suc j) zero = rw (bit_lowest (2 ^ suc j), pow-suc 2 j) (rw (mul-mod_left (2 ^ j) 2) (sym (eqb_no {a = suc j} {b = 0} (λ e. omega (arith, e)))))
bit_single (suc j) (suc k) = bit_half (2 ^ suc j) k ∙ rw (pow-suc 2 j, mul-div_cancel (2 ^ j) (zero-lt-suc 1)) (bit_single j k ∙ ap compare_is_eq (sym (compare.suc-suc j k)))

-- as a shift of a word of 64 bits makes it
pub shifted_one : (k : ℕ) → k < 64 → 1 * 2 ^ k % 2 ^ 64 ≡ 2 ^ k
shifted_one k h = shl_exact 1 k 64 (omega arith) (omega arith) ∙ one-mul (2 ^ k)

-- a number's half below half its bound
half_below : (n x : ℕ) → x < 2 ^ suc n → x / 2 < 2 ^ n
half_below n x h =
    let p = pow-suc 2 n in
    omega (arith, h, p)

-- numbers below 2 ^ n with the same n bits are equal
pub same_bits : (n x y : ℕ) → x < 2 ^ n → y < 2 ^ n → ((k : ℕ) → k < n → bit_of x k ≡ bit_of y k) → x ≡ y
same_bits zero x y hx hy h = omega (arith, hx, hy)
same_bits (suc n) x y hx hy h =
    let half = same_bits n (x / 2) (y / 2) (half_below n x hx) (half_below n y hy) (λ k l. sym (bit_half x k) ∙ h (suc k) (omega arith) ∙ bit_half y k) in
    let low = same_digit (x % 2) (y % 2) (omega arith) (omega arith) (sym (bit_lowest x) ∙ h 0 (omega arith) ∙ bit_lowest y) in
    omega (arith, half, low)

-- the lowest digit, counted
digit_counted : (p : ℕ) → p < 2 → p ≡ pick (eqb p 1) 1 0
digit_counted zero h = refl
digit_counted (suc zero) h = refl
digit_counted (suc (suc p)) h = absurd (omega (arith, h))

lowest_counted : (x : ℕ) → x % 2 ≡ pick (bit_of x 0) 1 0
lowest_counted x = rw (bit_lowest x) (digit_counted (x % 2) (omega arith))

ones_zero : ones 0 ≡ 0
unfolding ones
ones_zero = refl

-- what is counted from two places on, where the tests agree
pub count_same : (f g : ℕ → Bool) (n i j : ℕ) → ((k : ℕ) → k < n → f (i + k) ≡ g (j + k)) → count f (from n i) ≡ count g (from n j)
count_same f g zero i j h = refl
count_same f g (suc n) i j h =
    ap₂ (λ (b : Bool) (c : ℕ). pick b 1 0 + c) (rw (add-zero i, add-zero j) at (h 0 (omega arith)))
    (count_same f g n (suc i) (suc j) (λ k l. rw (suc-add i k, suc-add j k, ← (add-suc i k), ← (add-suc j k)) (h (suc k) (omega arith))))

-- and in two parts
pub count_parts : (f : ℕ → Bool) (m n i : ℕ) → count f (from (m + n) i) ≡ count f (from m i) + count f (from n (i + m))
count_parts f zero n i = rw (zero-add n, add-zero i, zero-add (count f (from n i)))
count_parts f (suc m) n i =
    rw (suc-add m n)
    (ap (λ (c : ℕ). pick (f i) 1 0 + c) (count_parts f m n (suc i)) ∙ rw (suc-add i m, ← (add-suc i m)) (sym (add_assoc (pick (f i) 1 0) _ _)))

pub count_le : (f : ℕ → Bool) (n i : ℕ) → count f (from n i) ≤ n
count_le f zero i = omega arith
count_le f (suc n) i =
    let rest = count_le f n (suc i) in
    let one = pick_has (λ (k : ℕ). k ≤ 1) (f i) 1 0 (λ _. omega arith) (λ _. omega arith) in
    omega (arith, rest, one)

-- the set digits are the set bits
pub ones_counted : (n x : ℕ) → x < 2 ^ n → ones x ≡ count (bit_of x) (from n 0)
ones_counted zero x h = ap ones (omega (arith, h)) ∙ ones_zero
ones_counted (suc n) x h =
    ones_step x
    ∙ ap₂ (λ (p q : ℕ). p + q) (lowest_counted x)
    (ones_counted n (x / 2) (half_below n x h) ∙ count_same (bit_of (x / 2)) (bit_of x) n 0 1 (λ k l. rw (zero-add k, one-add k) (sym (bit_half x k))))
