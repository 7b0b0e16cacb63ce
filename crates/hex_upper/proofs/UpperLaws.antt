-- Upper-case lines: what is read of one is what the former reader read of the old line (request 13).
-- Assumes nothing.
use Rattle.std.specs.Prelude.{ℕ, zero, suc, ◌+◌, ◌-◌, ◌*◌, ◌≤◌, ◌<◌, ◌≡◌, refl, ◌≢◌, true, false, List, [], ◌∷◌, ◌++◌, map, eqb, length, get_or, take, drop, set}
use Rattle.std.proofs.Common.{ap, ◌∙◌, ⊎_elim, add-one, arith, length-take-le, take-suc, drop-cons, ne_eqb, lt-ltb, le-ltb}
use Rattle.std.proofs.lemmas.List.{map-append, length-map, get_or_at}
use Rattle.base.specs.Lists.{store_next}
use Rattle.base.specs.Formula.{le, lt, ◌&◌, sound, of_true, case_bool}
use Rattle.base.specs.Outcome.Outcome.{refused}
use Rattle.hex_line.specs.declared.Reader.{Reader}
use Rattle.hex_line.specs.Record.{digit_of, pair_by, sum_by, count_by, address_by, fields_by, data_by, parse_by, pair_at, sum_of, count_of, address_of, data_of, parse_body, body_length, body_of}
use Rattle.hex_line.specs.Line.{check_by, read_by, stored_by, buffer_by, check_body, read_line, stored, line_buffer}
use Rattle.hex_line.proofs.ParseLaws.{refused_long}
use Rattle.hex_upper.specs.Former.{small_letter, former_digit, former_check, former_line, former_buffer}
use Rattle.hex_upper.specs.Upper.{upper_of}

-- characters
small_range : (c : ℕ) → small_letter c ≡ true → (97 ≤ c) × (c < 103)
small_range c e = sound (le 97 c & lt c 103) (of_true _ e)

-- a small letter has the value of its upper-case letter
digit_upper : (c : ℕ) → digit_of (upper_of c) ≡ former_digit c
digit_upper c =
    ⊎_elim (λ (e : small_letter c ≡ true). let r = small_range c e in
    let a : 48 ≤ c - 32 = omega arith in
    let b : 58 ≤ c - 32 = omega arith in
    let d : 65 ≤ c - 32 = omega arith in
    let f : c - 32 < 71 = omega arith in
    rw (e, le-ltb _ _ a, le-ltb _ _ b, le-ltb _ _ d, lt-ltb _ _ f) (omega arith))
    (λ (e : small_letter c ≡ false). rw e)
    (case_bool (small_letter c))

-- neither it nor its upper-case letter is a colon, CR or LF
eqb_upper : (c k : ℕ) → k < 65 → eqb (upper_of c) k ≡ eqb c k
eqb_upper c k h =
    ⊎_elim (λ (e : small_letter c ≡ true). let r = small_range c e in
    let a : c - 32 ≢ k = λ q. omega (arith, q) in
    let b : c ≢ k = λ q. omega (arith, q) in
    rw (e, ne_eqb _ _ a, ne_eqb _ _ b))
    (λ (e : small_letter c ≡ false). rw e)
    (case_bool (small_letter c))

pub digit_none : (c : ℕ) → small_letter c ≡ true → digit_of c ≡ 16
digit_none c e =
    let r = small_range c e in
    let a : 48 ≤ c = omega arith in
    let b : 58 ≤ c = omega arith in
    let d : 65 ≤ c = omega arith in
    let f : 71 ≤ c = omega arith in
    rw (le-ltb _ _ a, le-ltb _ _ b, le-ltb _ _ d, le-ltb _ _ f)

-- lines
pub get_d_upper : (l : List ℕ) (k : ℕ) → get_or (map upper_of l) k 0 ≡ upper_of (get_or l k 0)
get_d_upper [] k = refl
get_d_upper (c ∷ l) zero = refl
get_d_upper (c ∷ l) (suc k) = get_d_upper l k

take_upper : (n : ℕ) (l : List ℕ) → take n (map upper_of l) ≡ map upper_of (take n l)
take_upper zero l = refl
take_upper (suc n) [] = refl
take_upper (suc n) (c ∷ l) = ap (λ (t : List ℕ). upper_of c ∷ t) (take_upper n l)

pair_upper : (l : List ℕ) (k : ℕ) → pair_at (map upper_of l) k ≡ pair_by former_digit l k
unfolding pair_by
pair_upper l k = rw (get_d_upper l k, get_d_upper l (k + 1), digit_upper (get_or l k 0), digit_upper (get_or l (k + 1) 0))

sum_upper : (l : List ℕ) (n : ℕ) → sum_of (map upper_of l) n ≡ sum_by former_digit l n
unfolding sum_by
sum_upper l zero = refl
sum_upper l (suc n) = rw (sum_upper l n, pair_upper l (n * 2 + 1))

data_upper : (l : List ℕ) (n : ℕ) → data_of (map upper_of l) n ≡ data_by former_digit l n
unfolding data_by
data_upper l zero = refl
data_upper l (suc n) = rw (data_upper l n, pair_upper l (n * 2 + 9))

count_upper : (l : List ℕ) → count_of (map upper_of l) ≡ count_by former_digit l
unfolding count_by
count_upper l = pair_upper l 1

address_upper : (l : List ℕ) → address_of (map upper_of l) ≡ address_by former_digit l
unfolding address_by
address_upper l = rw (pair_upper l 3, pair_upper l 5)

parse_upper : (l : List ℕ) → parse_body (map upper_of l) ≡ parse_by former_digit l
unfolding parse_by fields_by
parse_upper l =
    rw (
      get_d_upper l 0,
      eqb_upper (get_or l 0 0) 58 (omega arith),
      length-map l upper_of,
      count_upper l,
      sum_upper l (count_by former_digit l + 5),
      address_upper l,
      pair_upper l 7,
    )

pub body_length_upper : (l : List ℕ) → body_length (map upper_of l) ≡ body_length l
unfolding body_length
body_length_upper l =
    rw (
      length-map l upper_of,
      get_d_upper l (length l - 1),
      get_d_upper l (length l - 2),
      eqb_upper (get_or l (length l - 1) 0) 10 (omega arith),
      eqb_upper (get_or l (length l - 2) 0) 13 (omega arith),
    )

body_upper : (l : List ℕ) → body_of (map upper_of l) ≡ map upper_of (body_of l)
body_upper l = rw (body_length_upper l) (take_upper (body_length l) l)

-- 1 to 3 of the upper-case line are those of the old line as they stood
pub check_upper : (l : List ℕ) → check_body (map upper_of l) ≡ former_check l
unfolding check_by
check_upper l = rw (parse_upper l)

-- a line with more characters than a colon and 260 pairs
pub former_long : (l : List ℕ) → 521 < length l → former_check l ≡ refused 1
unfolding check_by
former_long l h = rw (← parse_upper l, refused_long (map upper_of l) (rw (length-map l upper_of) h))

-- the reader's answer to the upper-case line, and the buffer behind it, are the former ones to the old line
pub read_upper : (reader : Reader) (size : ℕ) (l : List ℕ) → read_line reader size (map upper_of l) ≡ former_line reader size l
unfolding read_by
read_upper reader size l = rw (body_upper l, parse_upper (body_of l))

stored_upper : (body m : List ℕ) → stored (map upper_of body) m ≡ stored_by former_digit body m
unfolding stored_by
stored_upper body m = rw (address_upper body, count_upper body, data_upper body (count_by former_digit body))

pub buffer_upper : (reader : Reader) (l m : List ℕ) → line_buffer reader (map upper_of l) m ≡ former_buffer reader l m
unfolding buffer_by
buffer_upper reader l m = rw (read_upper reader (length m) l, body_upper l, stored_upper (body_of l) m)

-- a line that is upper-case up to i: the next character, and one more
module _ (l : List ℕ) (i : ℕ) (h : i < length l) where
  abbrev done : List ℕ
  done = map upper_of (take i l)

  length_done : length done ≡ i
  length_done = length-map (take i l) upper_of ∙ length-take-le i l (omega arith)

  pub next_character : get_or (done ++ drop i l) i 0 ≡ get_or l i 0
  next_character = rw (drop-cons l i 0 h) (get_or_at done (get_or l i 0) (drop (suc i) l) 0 i length_done)

  pub one_more : set (done ++ drop i l) i (upper_of (get_or l i 0)) ≡ map upper_of (take (i + 1) l) ++ drop (i + 1) l
  one_more = store_next done l i (upper_of (get_or l i 0)) length_done h ∙ rw (add-one i, take-suc l i 0 h, map-append upper_of (take i l) (get_or l i 0 ∷ []))
