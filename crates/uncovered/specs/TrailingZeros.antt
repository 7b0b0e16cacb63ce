-- The trailing zeros of a number's complement are the set bits below its lowest clear bit.
-- Assumes nothing.
use Rattle.std.specs.Prelude.{ℕ, zero, suc, ◌+◌, ◌-◌, ◌/◌, ◌%◌, ◌^◌, ◌<◌, ◌≡◌, true, false}
use Rattle.std.proofs.Common.{◌∙◌, eq-eqb, ne_eqb, arith, div-one}
use Rattle.std.specs.Int.Count.{count_trailing_zeros, under}
use Rattle.coverage.specs.Map.{bit_of}
use Rattle.coverage.specs.BitLaws.{bit_half}

-- of the n bits of x, those below t are set and bit t is clear
pub record LowestClear (n x t : ℕ) : Type 0 where
  pub set : (k : ℕ) → k < t → bit_of x k ≡ true
  pub clear : t < n → bit_of x t ≡ false

-- from the half of a number to the number, by its lowest digit's complement
lowest_step : (d n x t : ℕ) → d + x % 2 ≡ 1 → LowestClear n (x / 2) t → LowestClear (suc n) x (under d t)
lowest_step zero n x t e h = record { set = set; clear = λ l. bit_half x t ∙ h.clear (omega arith) }
  where
    set : (k : ℕ) → k < suc t → bit_of x k ≡ true
    set zero l = rw (div-one x) (eq-eqb (x % 2) 1 (omega arith))
    set (suc k) l = bit_half x k ∙ h.set k (omega arith)
lowest_step (suc zero) n x t e h = record {
  set = λ k l. absurd (omega arith);
  clear = λ l. rw (div-one x) (ne_eqb (x % 2) 1 (omega arith));
}
lowest_step (suc (suc d)) n x t e h = absurd (omega arith)

pub lowest_clear : (n x : ℕ) → x < 2 ^ n → LowestClear n x (count_trailing_zeros n (2 ^ n - 1 - x))
unfolding count_trailing_zeros
lowest_clear zero x h = record { set = λ k l. absurd (omega arith); clear = λ l. absurd (omega arith) }
lowest_clear (suc n) x h =
    let y = 2 ^ suc n - 1 - x in
    let half : y / 2 ≡ 2 ^ n - 1 - x / 2 = omega arith in
    lowest_step (y % 2) n x (count_trailing_zeros n (y / 2)) (omega arith) (rw half (lowest_clear n (x / 2) (omega arith)))
