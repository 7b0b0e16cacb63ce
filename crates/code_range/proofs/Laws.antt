-- A range widened by one byte, one list and one row after another.
-- Assumes nothing.
use mathlib.Core.Path.{◌≡◌, refl}
use mathlib.Core.List.{List, [], ◌∷◌, ◌++◌}
use Prim.Native.Nat.{ℕ, suc, ◌+◌, ◌<◌, min, max}
use native.Mathlib.Numerals.{add-one}
use lib.ListN.{length, take, drop, get_or}
use lib.Seq.{drop-cons}
use Rattle.certificate.specs.declared.Range.{Range}
use Rattle.certificate.specs.Summaries.{range}
use Rattle.safety.specs.CodeRange.{widened, rows_from}

pub widened_append : (q : Range) (xs ys : List ℕ) → widened q (xs ++ ys) ≡ widened (widened q xs) ys
unfolding widened
widened_append q [] ys = refl
widened_append q (b ∷ bs) ys = widened_append (range (min q.least b) (max q.greatest b)) bs ys

pub widened_next : (l h : ℕ) (xs : List ℕ) (i : ℕ) → i < length xs
    → widened (range l h) (drop i xs) ≡ widened (range (min l (get_or xs i 0)) (max h (get_or xs i 0))) (drop (i + 1) xs)
unfolding widened
widened_next l h xs i p = rw (drop-cons xs i 0, add-one)

pub widened_row : (q : Range) (image : List ℕ) (k j t n : ℕ) → k ≡ suc j
    → widened q (rows_from image k t n) ≡ widened (widened q (take n (drop t image))) (rows_from image j (t + 256) n)
unfolding rows_from
widened_row q image k j t n e = rw e (widened_append q (take n (drop t image)) (rows_from image j (t + 256) n))
