-- A word whose bits are set one by one where a test holds; the lowest unmarked start of a word of a map.
-- Assumes nothing.
use Prim.Native.Nat.{ℕ, ◌+◌, ◌-◌, ◌*◌, ◌%◌, ◌^◌, ◌≤◌, ◌<◌}
use mathlib.Core.Path.{◌≡◌, ◌∙◌, refl, sym}
use mathlib.Core.Logic.{◌≢◌, ⊎_elim}
use mathlib.Core.Bool.{Bool, true, false, not, ◌&&◌, ◌||◌, or-true, or-false}
use mathlib.Core.List.{List}
use native.Mathlib.Omega.{arith}
use native.Mathlib.Nat.{zero-div}
use borrow.Author.Count.{below_none, below_more}
use borrow.Author.Tests.{eq-eqb, ne_eqb, not-true, not-false}
use lib.Bits.{bit_or, or_lt}
use lib.Count.{count_trailing_zeros, trailing_le}
use lib.Dec.{eqb}
use lib.ListN.{get_or}
use Rattle.base.specs.Formula.{le?}
use Rattle.certificate.specs.Layout.{certificate_of}
use Rattle.coverage.specs.Map.{bit_of, marked}
use Rattle.coverage.specs.BitLaws.{bit_or_lem, bit_single, shifted_one}
use Rattle.coverage.specs.MapLaws.{marked_at}
use Rattle.uncovered.specs.TrailingZeros.{LowestClear, lowest_clear}
use Rattle.uncovered.specs.Lowest.{is_start, unmarked_start, LowestStart}
use Rattle.uncovered.specs.LowestLaws.{unmarked_not, unmarked_lowest}

-- below k the bits of x are a test's values, from k on they are clear
pub record Upto (f : ℕ → Bool) (k x : ℕ) : Type 0 where
  pub below : (j : ℕ) → j < k → bit_of x j ≡ f j
  pub above : (j : ℕ) → k ≤ j → bit_of x j ≡ false

-- after `x | (1 << k)`
or_bit : (x k j : ℕ) → k < 64 → bit_of (bit_or x (1 * 2 ^ k % 2 ^ 64)) j ≡ (bit_of x j || eqb k j)
or_bit x k j h = rw (shifted_one k h, bit_or_lem x (2 ^ k) j, bit_single k j)

module _ (f : ℕ → Bool) where
  pub upto_none : Upto f 0 0
  upto_none = record { below = below_none (λ (j : ℕ). bit_of 0 j ≡ f j); above = λ j l. rw (zero-div (2 ^ j)) }

  pub upto_set : (k x : ℕ) → k < 64 → f k ≡ true → Upto f k x → Upto f (k + 1) (bit_or x (1 * 2 ^ k % 2 ^ 64))
  upto_set k x l e h =
      let other : (j : ℕ) → (k ≡ j → ⊥) → bit_of (bit_or x (1 * 2 ^ k % 2 ^ 64)) j ≡ bit_of x j
      = λ j n. or_bit x k j l ∙ rw (ne_eqb k j n) (or-false (bit_of x j)) in
      record {
        below = below_more (λ (j : ℕ). bit_of (bit_or x (1 * 2 ^ k % 2 ^ 64)) j ≡ f j) k (λ j g. other j (omega arith) ∙ h.below j g)
            (or_bit x k k l ∙ rw (eq-eqb k k refl, e) (or-true (bit_of x k)));
        above = λ j g. other j (omega arith) ∙ h.above j (omega arith);
      }

  pub upto_kept : (k x : ℕ) → f k ≡ false → Upto f k x → Upto f (k + 1) x
  upto_kept k x e h = record {
    below = below_more (λ (j : ℕ). bit_of x j ≡ f j) k h.below (h.above k (omega arith) ∙ sym e);
    above = λ j l. h.above j (omega arith);
  }

or_not : (s u : Bool) → (u || not s) ≡ not (s && not u)
or_not true true = refl
or_not true false = refl
or_not false true = refl
or_not false false = refl

-- every start below j is marked
abbrev pub MarkedBelow : List ℕ → List ℕ → ℕ → Type 0
MarkedBelow cert m j = (b : ℕ) → b < j → (certificate_of cert).routine b ≢ 0 → marked m b ≡ true

-- the lowest bit that is clear both in the map's word w and in o; 64 where there is none
abbrev pub clear_bit : List ℕ → ℕ → ℕ → ℕ
clear_bit m w o = count_trailing_zeros 64 (18446744073709551615 - bit_or (get_or m w 0) o)

-- every start below bit t of word w is marked, and where t is a bit of the word, its address is the lowest unmarked start
pub record LowestBit (cert m : List ℕ) (w t : ℕ) : Type 0 where
  pub most : t ≤ 64
  pub below : MarkedBelow cert m (64 * w + t)
  pub here : t < 64 → LowestStart (certificate_of cert) m (64 * w + t)

-- o has the bits of word w at which no instruction starts
module _ (cert m : List ℕ) (w o : ℕ) (others : (k : ℕ) → k < 64 → bit_of o k ≡ not (is_start (certificate_of cert) (64 * w + k)))
    (before : MarkedBelow cert m (64 * w)) where
  either_bit : (k : ℕ) → k < 64 → bit_of (bit_or (get_or m w 0) o) k ≡ not (unmarked_start (certificate_of cert) m (64 * w + k))
  either_bit k l =
      bit_or_lem (get_or m w 0) o k
      ∙ rw (others k l, ← (marked_at m w k l)) (or_not (is_start (certificate_of cert) (64 * w + k)) (marked m (64 * w + k)))

  marked_below : (t : ℕ) → t ≤ 64 → LowestClear 64 (bit_or (get_or m w 0) o) t → MarkedBelow cert m (64 * w + t)
  marked_below t l low b g =
      ⊎_elim
      (λ (h : 64 * w ≤ b).
      let k = b - 64 * w in
      let e : 64 * w + k ≡ b = omega arith in
      unmarked_not (certificate_of cert) m b
      (not-true (unmarked_start (certificate_of cert) m b) (rw e at (sym (either_bit k (omega arith))) ∙ low.set k (omega arith))))
      (λ (h : b < 64 * w). before b h) (le? (64 * w) b)

  pub lowest_bit : get_or m w 0 < 2 ^ 64 → o < 2 ^ 64 → LowestBit cert m w (clear_bit m w o)
  lowest_bit hm ho =
      let x = bit_or (get_or m w 0) o in
      let t = clear_bit m w o in
      let low : LowestClear 64 x t = lowest_clear 64 x (or_lt 64 (get_or m w 0) o hm ho) in
      let most : t ≤ 64 = trailing_le 64 (18446744073709551615 - x) in
      let below = marked_below t most low in
      record {
        most = most;
        below = below;
        here = λ l. unmarked_lowest (certificate_of cert) m (64 * w + t) (not-false _ (sym (either_bit t l) ∙ low.clear l)) below;
      }
