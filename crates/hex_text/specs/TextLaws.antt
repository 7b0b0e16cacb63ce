-- Laws on the lines of a text: its first line, and what stands behind it.
-- Assumes nothing.
use Rattle.std.specs.Prelude.{ℕ, suc, ◌+◌, ◌-◌, ◌≤◌, ◌<◌, ◌≡◌, ◌==◌, refl, Some, None, position, cond, nat_lt, not, Bool, true, false, List, [], ◌∷◌, ◌++◌, eqb, length, get_or, take, drop}
use Rattle.std.proofs.Common.{ap, ◌∙◌, add-one, not-suc-le-zero, arith, drop_of_length-le, length-drop, drop-cons, drop-drop, ne_eqb}
use Rattle.std.proofs.lemmas.Bool.Decides.{nat_tests}
use Rattle.std.specs.List.{position_or_len}
use Rattle.base.specs.Choice.{pick}
use Rattle.hex_text.specs.Text.{onto, lines, first_length}

-- the first line ends behind the first LF; a text without LF is one line
one_more : (f p n : ℕ) → f ≡ cond (nat_lt p n) (p + 1) n → suc f ≡ cond (nat_lt (1 + p) (suc n)) (1 + p + 1) (suc n)
one_more f p n e = grind (arith, nat_tests)

first_lf : (s : List ℕ) → first_length s ≡ cond (nat_lt (position_or_len (λ c. c == 10) s) (length s)) (position_or_len (λ c. c == 10) s + 1) (length s)
unfolding first_length
first_lf [] = refl
first_lf (c ∷ t) = by_test (c == 10) (one_more _ _ _ (first_lf t))
  where
    by_test : (b : Bool)
        → suc (first_length t) ≡ cond (nat_lt (1 + position_or_len (λ c. c == 10) t) (suc (length t))) (1 + position_or_len (λ c. c == 10) t + 1) (suc (length t))
        → pick b 1 (suc (first_length t))
        ≡ cond (nat_lt (cond (not b) (1 + position_or_len (λ c. c == 10) t) 0) (suc (length t)))
        (cond (not b) (1 + position_or_len (λ c. c == 10) t) 0 + 1) (suc (length t))
    by_test true ih = grind (arith, nat_tests)
    by_test false ih = ih

pub first_found : (s : List ℕ) (n : ℕ) → position (λ c. c == 10) s ≡ Some n → first_length s ≡ n + 1
first_found s n e = first_lf s ∙ grind (arith, e)

pub first_none : (s : List ℕ) → position (λ c. c == 10) s ≡ None → first_length s ≡ length s
first_none s e = first_lf s ∙ grind (arith, e)

pub at_lf : (s : List ℕ) (e : ℕ) → e < length s → get_or s e 0 ≡ 10 → first_length (drop e s) ≡ 1
unfolding first_length
at_lf s e h q = rw (drop-cons s e 0 h, q)

pub past_one : (s : List ℕ) (e : ℕ) → e < length s → (get_or s e 0 ≡ 10 → ⊥)
    → first_length (drop e s) ≡ 1 + first_length (drop (e + 1) s)
unfolding first_length
past_one s e h q = rw (drop-cons s e 0 h, ne_eqb _ _ q, add-one) (omega arith)

pub at_end : (s : List ℕ) (e : ℕ) → length s ≤ e → first_length (drop e s) ≡ 0
unfolding first_length
at_end s e h = rw (drop_of_length-le s h)

-- a text that is not empty: its first line, and the lines behind it
first_of : (c : ℕ) (t : List ℕ)
    → lines (c ∷ t) ≡ take (first_length (c ∷ t)) (c ∷ t) ∷ lines (drop (first_length (c ∷ t)) (c ∷ t))
unfolding lines first_length
first_of c [] = by_test (eqb c 10)
  where
    by_test : (b : Bool) → pick b ((c ∷ []) ∷ []) ((c ∷ []) ∷ []) ≡ take (pick b 1 1) (c ∷ []) ∷ lines (drop (pick b 1 1) (c ∷ []))
    by_test true = refl
    by_test false = refl
first_of c (d ∷ t) = by_test (eqb c 10) (first_of d t)
  where
    by_test : (b : Bool) → lines (d ∷ t) ≡ take (first_length (d ∷ t)) (d ∷ t) ∷ lines (drop (first_length (d ∷ t)) (d ∷ t))
        → pick b ((c ∷ []) ∷ lines (d ∷ t)) (onto c (lines (d ∷ t)))
        ≡ take (pick b 1 (suc (first_length (d ∷ t)))) (c ∷ d ∷ t) ∷ lines (drop (pick b 1 (suc (first_length (d ∷ t)))) (c ∷ d ∷ t))
    by_test true ih = refl
    by_test false ih = ap (onto c) ih

pub first_line_of : (t : List ℕ) → 0 < length t → lines t ≡ take (first_length t) t ∷ lines (drop (first_length t) t)
first_line_of [] h = absurd (not-suc-le-zero h)
first_line_of (c ∷ t) h = first_of c t

-- the lines from a position on: the one that ends at e, and those behind it
pub turn : (s : List ℕ) (at e : ℕ) → at < length s → e ≡ at + first_length (drop at s)
    → lines (drop at s) ≡ take (e - at) (drop at s) ∷ lines (drop e s)
turn s at e h q =
    let k : e - at ≡ first_length (drop at s) = omega arith in
    let n : 0 < length (drop at s) = omega (arith, length-drop at s) in
    first_line_of (drop at s) n ∙ rw (k, q, drop-drop (first_length (drop at s)) at s)

-- no LF in it
abbrev pub Plain : List ℕ → Type 0
Plain [] = Unit {0}
Plain (c ∷ a) = (c ≡ 10 → ⊥) × Plain a

pub plain_append : (a b : List ℕ) → Plain a → Plain b → Plain (a ++ b)
plain_append [] b p q = q
plain_append (c ∷ a) b p q = (p.0, plain_append a b p.1 q)

-- a line stands first, up to its LF
pub first_line : (a t : List ℕ) → Plain a → lines (a ++ (10 ∷ t)) ≡ (a ++ (10 ∷ [])) ∷ lines t
unfolding lines
first_line [] t p = refl
first_line (c ∷ a) t p = rw (ne_eqb _ _ p.0, first_line a t p.1)

pub no_line : lines [] ≡ []
unfolding lines
no_line = refl

pub no_lines : (s : List ℕ) → length s ≡ 0 → lines s ≡ []
unfolding lines
no_lines [] h = refl
no_lines (c ∷ t) h = absurd (omega (arith, h))

-- where a line comes first, it is the first line of the text
pub first_of_lines : (s line t : List ℕ) → lines s ≡ line ∷ lines t → (0 < length s) × (line ≡ take (first_length s) s)
first_of_lines [] line t e = let none = no_line in cc
first_of_lines (c ∷ s) line t e =
    let n : 0 < length (c ∷ s) = omega arith in
    let w = first_line_of (c ∷ s) n in
    (n, cc)

-- a text without LF is one line
pub last_line : (c : ℕ) (a : List ℕ) → Plain (c ∷ a) → lines ((c ∷ a) ++ []) ≡ (c ∷ a) ∷ []
unfolding lines
last_line c [] p = rw (ne_eqb _ _ p.0)
last_line c (d ∷ a) p = rw (ne_eqb _ _ p.0, last_line d a p.1)

-- the first line goes on behind what has no LF
pub first_behind : (a t : List ℕ) → Plain a → first_length (a ++ t) ≡ length a + first_length t
unfolding first_length
first_behind [] t p = omega arith
first_behind (c ∷ a) t p = rw (ne_eqb _ _ p.0, first_behind a t p.1) (omega arith)

pub first_positive : (c : ℕ) (t : List ℕ) → 0 < first_length (c ∷ t)
unfolding first_length
first_positive c t = by_test (eqb c 10)
  where
    by_test : (b : Bool) → 0 < pick b 1 (suc (first_length t))
    by_test true = omega arith
    by_test false = omega arith

pub first_within : (t : List ℕ) → first_length t ≤ length t
unfolding first_length
first_within [] = omega arith
first_within (c ∷ t) = by_test (eqb c 10) (first_within t)
  where
    by_test : (b : Bool) → first_length t ≤ length t → pick b 1 (suc (first_length t)) ≤ suc (length t)
    by_test true h = omega arith
    by_test false h = omega arith
