-- Pairs from their digits, what is told where one is none, and the pairs that are kept.
-- Assumes nothing.
use Rattle.std.specs.Prelude.{ℕ, zero, suc, ◌+◌, ◌*◌, ◌%◌, ◌≤◌, ◌<◌, ◌≡◌, refl, ◌≢◌, List, map, length, get_or, take, drop, set, ltb}
use Rattle.std.proofs.Common.{sym, ◌∙◌, ⊎_elim, arith, length-drop, take-suc, get_or-drop, get_or-set_same, get_or-set_other, lt-ltb, le-ltb, Fits}
use Rattle.std.specs.Int.{w8}
use Rattle.base.specs.Choice.{from}
use Rattle.base.specs.ChoiceLaws.{pick_same}
use Rattle.base.specs.Formula.{same?, sound, le, forall_below}
use Rattle.base.specs.Outcome.{Outcome}
use Rattle.base.specs.Outcome.Outcome.{value, refused}
use Rattle.base.specs.Table.{table_at}
use Rattle.hex_line.specs.Record.{digit_of, pair_at, sum_of, data_of, count_of, data_by, pair_by}
use Rattle.hex_line.specs.Sum.{AllPairs, total_of}
use Rattle.hex_line.proofs.SumLaws.{sum_none}
use Rattle.hex_line.specs.Pairs.{Kept, KeptUnless}

-- a digit's value, and 16 of a character that is none
pub digit_small : (c : ℕ) → c < 256 → digit_of c ≤ 16
digit_small c h = sound (forall_below 256 (λ k. le (digit_of k) 16)) tt c h

-- the digit of a byte, from a table of all digits
pub digit_of_lem : (l : List ℕ) (k : ℕ) (table : List ℕ) → table ≡ map digit_of (from 256 0) → ((i : ℕ) → Fits w8 (get_or l i 0))
    → get_or table (get_or l k 0) 0 ≡ digit_of (get_or l k 0)
digit_of_lem l k table e byte = table_at digit_of 0 256 table e (get_or l k 0) (byte k).fits

-- pair i from its digits
second : (i : ℕ) → i * 2 + 1 + 1 ≡ i * 2 + 2
second i = omega arith

pub pair_of : (l : List ℕ) (i high low : ℕ) → high ≡ digit_of (get_or l (i * 2 + 1) 0) → low ≡ digit_of (get_or l (i * 2 + 2) 0) → high < 16
    → low < 16 → pair_at l (i * 2 + 1) ≡ high * 16 + low
unfolding pair_by
pair_of l i high low e f h o = rw (second i, ← e, ← f, lt-ltb high 16 h, lt-ltb low 16 o)

pub pair_none : (l : List ℕ) (i : ℕ) → 16 ≤ digit_of (get_or l (i * 2 + 1) 0) → pair_at l (i * 2 + 1) ≡ 256
unfolding pair_by
pair_none l i h = rw (le-ltb (digit_of (get_or l (i * 2 + 1) 0)) 16 h)

pub pair_none_low : (l : List ℕ) (i : ℕ) → 16 ≤ digit_of (get_or l (i * 2 + 2) 0) → pair_at l (i * 2 + 1) ≡ 256
unfolding pair_by
pair_none_low l i h =
    rw (second i, le-ltb (digit_of (get_or l (i * 2 + 2) 0)) 16 h)
    (pick_same (ltb (digit_of (get_or l (i * 2 + 1) 0)) 16) 256)

-- what is told of n pairs where one is none
pub none_gathered : (l : List ℕ) (k n : ℕ) (pairs : List ℕ) → k < n → pair_at l (k * 2 + 1) ≡ 256
    → (256 ≡ sum_of l n) × ((AllPairs l n → 256 ≡ total_of l n % 256) × (256 < 256 → Kept l n pairs))
none_gathered l k n pairs b e = (sym (sum_none l k n b e), ((λ h. absurd (omega (arith, e, h k b))), (λ h. absurd (omega arith))))

-- one more pair is kept
pub kept_next : (l : List ℕ) (i v : ℕ) (pairs : List ℕ) → Kept l i pairs → i < length pairs → v ≡ pair_at l (i * 2 + 1) → v < 256
    → Kept l (i + 1) (set pairs i v)
kept_next l i v pairs k b e s = (all, each)
  where
    all : AllPairs l (i + 1)
    all j h = ⊎_elim (λ (d : j ≡ i). rw (d, ← e) s) (λ (d : j ≢ i). k.0 j (omega arith)) (same? j i)

    each : (j : ℕ) → j < i + 1 → get_or (set pairs i v) j 0 ≡ pair_at l (j * 2 + 1)
    each j h =
        ⊎_elim (λ (d : j ≡ i). rw d (get_or-set_same pairs i v 0 b ∙ e))
        (λ (d : j ≢ i). get_or-set_other pairs i j v 0 d ∙ k.1 j (omega arith))
        (same? j i)

-- the data of a line, in its pairs
pub kept_data : (l pairs : List ℕ) (n : ℕ) → Kept l (n + 4) pairs → n + 4 ≤ length pairs → take n (drop 4 pairs) ≡ data_of l n
unfolding data_by
kept_data l pairs zero k b = refl
kept_data l pairs (suc n) k b =
    let p : 4 + n ≡ n + 4 = omega arith in
    let q : (n + 4) * 2 + 1 ≡ n * 2 + 9 = omega arith in
    let e = kept_data l pairs n ((λ i h. k.0 i (omega arith)), (λ i h. k.1 i (omega arith))) (omega arith) in
    let s : pair_at l (n * 2 + 9) % 256 ≡ pair_at l (n * 2 + 9) = omega (arith, rw q at (k.0 (n + 4) (omega arith))) in
    take-suc (drop 4 pairs) n 0 (omega (arith, length-drop 4 pairs))
    ∙ rw (e, get_or-drop 4 pairs n 0, p, k.1 (n + 4) (omega arith), q, s)

pub kept_anyway : {A : Type 0} (o : Outcome A) (l pairs : List ℕ) → Kept l (count_of l + 5) pairs → KeptUnless o l pairs
kept_anyway (value a) l pairs k = k
kept_anyway (refused n) l pairs k = tt
