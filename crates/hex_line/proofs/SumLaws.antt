-- After any number of pairs the sum so far is theirs modulo 256 (request 02). Behind a pair that is none there is no sum.
-- Assumes nothing.
use Rattle.std.specs.Prelude.{ℕ, zero, suc, ◌+◌, ◌*◌, ◌%◌, ◌≤◌, ◌<◌, ◌≡◌, refl, ◌⊎◌, ◌≢◌, List, get_or, ltb}
use Rattle.std.proofs.Common.{inl, inr, ⊎_elim, add-one, arith, ltb-true, lt-ltb}
use Rattle.base.specs.ChoiceLaws.{pick_has, pick_same}
use Rattle.base.specs.Formula.{same?, le?}
use Rattle.base.specs.Outcome.{Outcome}
use Rattle.base.specs.Outcome.Outcome.{value, refused}
use Rattle.hex_line.specs.declared.Fields.{Fields}
use Rattle.hex_line.specs.Record.{digit_of, joined, pair_at, added, sum_of, count_of, parse_body, fields_by, pair_by, sum_by}
use Rattle.hex_line.proofs.Cases.{parsed_has}
use Rattle.hex_line.specs.Sum.{AllPairs, total_of}

add_modulo : (t p : ℕ) → (t % 256 + p) % 256 ≡ (t + p) % 256
add_modulo t p = omega arith

-- the sum so far, after any number of pairs
pub sum_so_far : (l : List ℕ) (n : ℕ) → AllPairs l n → sum_of l n ≡ total_of l n % 256
unfolding sum_by total_of
sum_so_far l zero h = refl
sum_so_far l (suc n) h =
    let t = total_of l n in
    let p = pair_at l (n * 2 + 1) in
    let e : sum_of l n ≡ t % 256 = sum_so_far l n (λ i b. h i (omega arith)) in
    let s : t % 256 < 256 = omega arith in
    rw (e, lt-ltb (t % 256) 256 s, lt-ltb p 256 (h n (omega arith))) (add_modulo t p)

-- with one more pair
pub total_next : (l : List ℕ) (i s : ℕ) → s ≡ total_of l i % 256 → (s + pair_at l (i * 2 + 1)) % 256 ≡ total_of l (i + 1) % 256
unfolding total_of
total_next l i s e = rw (add-one i, e) (add_modulo (total_of l i) (pair_at l (i * 2 + 1)))

-- behind a pair that is none there is no sum
added_none : (s p : ℕ) → p ≡ 256 → added s p ≡ 256
added_none s p e = rw e (pick_same (ltb s 256) 256)

pub sum_none : (l : List ℕ) (k n : ℕ) → k < n → pair_at l (k * 2 + 1) ≡ 256 → sum_of l n ≡ 256
unfolding sum_by
sum_none l k zero b h = absurd (omega arith)
sum_none l k (suc n) b h =
    ⊎_elim (λ (e : k ≡ n). added_none (sum_of l n) _ (rw e at h))
    (λ (d : k ≢ n). rw (sum_none l k n (omega arith) h))
    (same? k n)

-- two digits are below 256; where one is none, 256
joined_small : (high low : ℕ) → joined high low ≤ 256
joined_small high low =
    pick_has (λ (r : ℕ). r ≤ 256) (ltb high 16) _ _
    (λ h. pick_has (λ (r : ℕ). r ≤ 256) (ltb low 16) _ _ (λ o. omega (arith, ltb-true high 16 h, ltb-true low 16 o)) (λ _. omega arith))
    (λ _. omega arith)

pair_small : (l : List ℕ) (k : ℕ) → pair_at l k ≤ 256
unfolding pair_by
pair_small l k = joined_small (digit_of (get_or l k 0)) (digit_of (get_or l (k + 1) 0))

pub none_or_pair : (l : List ℕ) (k : ℕ) → (pair_at l k ≡ 256) ⊎ (pair_at l k < 256)
none_or_pair l k =
    ⊎_elim (λ (d : 256 ≤ pair_at l k). inl (omega (arith, pair_small l k))) (λ (d : pair_at l k < 256). inr d) (le? 256 (pair_at l k))

-- where there is a sum, all pairs are two digits
all_pairs : (l : List ℕ) (n : ℕ) → sum_of l n < 256 → AllPairs l n
all_pairs l n h i b =
    ⊎_elim (λ (none : pair_at l (i * 2 + 1) ≡ 256). absurd (omega (arith, sum_none l i n b none)))
    (λ (there : pair_at l (i * 2 + 1) < 256). there)
    (none_or_pair l (i * 2 + 1))

-- so the sum of a well-formed line is that of all its pairs: length byte, address, type, data and sum byte
abbrev HasSum : List ℕ → Outcome Fields → Type 0
HasSum l (value f) = f.sum ≡ total_of l (count_of l + 5) % 256
HasSum l (refused n) = Unit {0}

has_sum : (l : List ℕ) → HasSum l (parse_body l)
unfolding fields_by
has_sum l = parsed_has (HasSum l) l (λ h. sum_so_far l (count_of l + 5) (all_pairs l (count_of l + 5) h)) tt

pub line_sum : (l : List ℕ) (f : Fields) → parse_body l ≡ value f → f.sum ≡ total_of l (count_of l + 5) % 256
line_sum l f e = rw e at (has_sum l)
