-- Maps by their marks: a bit that is set marks one address more, and maps with the same marks are equal.
-- Assumes nothing.
use Rattle.std.specs.Prelude.{ℕ, zero, suc, ◌+◌, ◌*◌, ◌/◌, ◌%◌, ◌^◌, ◌<◌, ◌≤◌, ◌≡◌, ◌≢◌, Bool, true, false, ◌&&◌, ◌||◌, List, map, length, get_or, set, drop, eqb}
use Rattle.std.proofs.Common.{◌∙◌, sym, ap₂, arith, add-zero, zero-add, add_assoc, pow-suc, add-one, drop_of_length-le, get_or-set_same, get_or-set_other, ext_get_or, drop-cons, eqb-true, ltb→lt}
use Rattle.std.proofs.Math.Path.{refl, ap}
use Rattle.std.proofs.Math.Logic.{⊎_elim}
use Rattle.std.proofs.Math.Bool.{or-false, and-false}
use Rattle.std.proofs.Math.Nat.{zero-div}
use Rattle.std.proofs.lemmas.List.{get_or-replicate}
use Rattle.std.proofs.Math.ListN.{get_or-eq_default}
use Rattle.std.specs.Int.Bits.{bit_or}
use Rattle.std.proofs.lemmas.Nat.{or_lt}
use Rattle.std.specs.Int.Count.{ones}
use Rattle.base.specs.Choice.{pick, from, count}
use Rattle.base.specs.Lengths.{largest_rom}
use Rattle.base.specs.Table.{table_at}
use Rattle.base.specs.Formula.{eqb_no, eqb_yes, of_true, case_bool, same?, le?}
use Rattle.coverage.specs.Map.{map_words, bit_of, marked, inside, with_mark, bits_from, map_of, empty_map, joined, marked_count, set_bits}
use Rattle.coverage.specs.BitLaws.{bit_half, bit_lowest, bit_or_lem, bit_single, same_bits, count_same, count_parts, ones_counted}

-- a digit below a number
low_bit : (b : Bool) (x : ℕ) → eqb ((pick b 1 0 + x * 2) % 2) 1 ≡ b
low_bit true x = eqb_yes {a = (1 + x * 2) % 2} {b = 1} (omega arith)
low_bit false x = eqb_no {a = (0 + x * 2) % 2} {b = 1} (omega arith)

high_bits : (b : Bool) (x : ℕ) → (pick b 1 0 + x * 2) / 2 ≡ x
high_bits true x = omega arith
high_bits false x = omega arith

digit_below : (b : Bool) → pick b 1 0 < 2
digit_below true = omega arith
digit_below false = omega arith

-- an address is its word and its bit
same_place : (a b : ℕ) → a / 64 ≡ b / 64 → eqb (a % 64) (b % 64) ≡ eqb a b
same_place a b w =
    ⊎_elim (λ (e : a ≡ b). rw e (eqb_yes {a = b % 64} refl ∙ sym (eqb_yes {a = b} refl)))
    (λ (n : a ≢ b). eqb_no {a = a % 64} (λ e. n (omega (arith, e, w))) ∙ sym (eqb_no n)) (same? a b)

module _ (m : List ℕ) (a b : ℕ) where
  word : ℕ
  word = bit_or (get_or m (a / 64) 0) (2 ^ (a % 64))

  -- where a and b share a word, b's bit is the one that was set or is as it was
  in_word : a / 64 ≡ b / 64 → bit_of word (b % 64) ≡ (bit_of (get_or m (b / 64) 0) (b % 64) || eqb a b)
  unfolding word
  in_word w = bit_or_lem (get_or m (a / 64) 0) (2 ^ (a % 64)) (b % 64) ∙ rw (w, bit_single (a % 64) (b % 64), same_place a b w)

  marked_set : a / 64 < length m → marked (set m (a / 64) word) b ≡ (marked m b || eqb a b)
  unfolding marked
  marked_set h =
      ⊎_elim
      (λ (w : a / 64 ≡ b / 64). ap (λ (x : ℕ). bit_of x (b % 64)) (rw (← w) (get_or-set_same m (a / 64) word 0 h)) ∙ in_word w)
      (λ (n : a / 64 ≢ b / 64).
      rw (get_or-set_other m (a / 64) (b / 64) word 0 (λ e. n (sym e)), eqb_no {a = a} {b = b} (λ e. n (ap (λ (k : ℕ). k / 64) e)))
      (sym (or-false (bit_of (get_or m (b / 64) 0) (b % 64)))))
      (same? (a / 64) (b / 64))

  same_inside : (inside m b && eqb a b) ≡ (inside m a && eqb a b)
  same_inside =
      ⊎_elim (λ t. ap (λ (k : ℕ). inside m k && eqb a b) (sym (eqb-true a b t)))
      (λ f. rw f (and-false (inside m b) ∙ sym (and-false (inside m a)))) (case_bool (eqb a b))

  by_inside : (t : Bool) → inside m a ≡ t → marked (pick t (set m (a / 64) word) m) b ≡ (marked m b || (t && eqb a b))
  by_inside true h = marked_set (ltb→lt (a / 64) (length m) (of_true (inside m a) h))
  by_inside false h = sym (or-false (marked m b))

  -- a mark is one address more, if the map has a bit for it
  pub marked_with : marked (with_mark m a) b ≡ (marked m b || (inside m b && eqb a b))
  unfolding with_mark word
  marked_with = by_inside (inside m a) refl ∙ ap (λ (t : Bool). marked m b || t) (sym same_inside)

-- bit k of the number that a test gives is the test at the k-th address
bits_from_lem : (n : ℕ) (f : ℕ → Bool) (a k : ℕ) → k < n → bit_of (bits_from n f a) k ≡ f (a + k)
unfolding bits_from
bits_from_lem zero f a k h = absurd (omega (arith, h))
bits_from_lem (suc n) f a zero h = bit_lowest (bits_from (suc n) f a) ∙ low_bit (f a) (bits_from n f (a + 1)) ∙ ap f (sym (add-zero a))
bits_from_lem (suc n) f a (suc k) h =
    bit_half (bits_from (suc n) f a) k ∙ ap (λ (x : ℕ). bit_of x k) (high_bits (f a) (bits_from n f (a + 1)))
    ∙ bits_from_lem n f (a + 1) k (omega (arith, h)) ∙ ap f (omega arith)

-- and it has n bits
bits_below : (n : ℕ) (f : ℕ → Bool) (a : ℕ) → bits_from n f a < 2 ^ n
unfolding bits_from
bits_below zero f a = omega arith
bits_below (suc n) f a =
    let rest = bits_below n f (a + 1) in
    let p = pow-suc 2 n in
    let digit = digit_below (f a) in
    omega (arith, rest, p, digit)

-- the words of the map that a test gives
word_of : (f : ℕ → Bool) (w : ℕ) → w < map_words → get_or (map_of f) w 0 ≡ bits_from 64 f (64 * w)
unfolding map_of
word_of f w h = table_at (λ w. bits_from 64 f (64 * w)) 0 map_words (map_of f) refl w h

pub length_map_of : (f : ℕ → Bool) → length (map_of f) ≡ map_words
unfolding map_of
length_map_of f = refl

-- that map marks what passes the test
pub marked_map_of : (f : ℕ → Bool) (a : ℕ) → a < largest_rom → marked (map_of f) a ≡ f a
unfolding marked
marked_map_of f a h =
    rw (word_of f (a / 64) (omega arith)) (bits_from_lem 64 f (64 * (a / 64)) (a % 64) (omega arith) ∙ ap f (omega arith))

-- an address by its word and its bit
pub marked_at : (m : List ℕ) (w k : ℕ) → k < 64 → marked m (64 * w + k) ≡ bit_of (get_or m w 0) k
unfolding marked
marked_at m w k h =
    let i : (64 * w + k) / 64 ≡ w = omega arith in
    let j : (64 * w + k) % 64 ≡ k = omega arith in
    rw (i, j)

-- words of 64 bits
abbrev pub Words : List ℕ → Type 0
Words m = (w : ℕ) → get_or m w 0 < 2 ^ 64

-- a map is given by its marks
pub map_of_marks : (m : List ℕ) (f : ℕ → Bool) → length m ≡ map_words → Words m → ((a : ℕ) → a < largest_rom → marked m a ≡ f a) → m ≡ map_of f
map_of_marks m f size small h = ext_get_or 0 m (map_of f) (size ∙ sym (length_map_of f)) (λ w l. word w (rw size at l))
  where
    word : (w : ℕ) → w < map_words → get_or m w 0 ≡ get_or (map_of f) w 0
    word w l =
        same_bits 64 (get_or m w 0) (get_or (map_of f) w 0) (small w) (rw (word_of f w l) (bits_below 64 f (64 * w)))
        (λ k g. sym (marked_at m w k g) ∙ h (64 * w + k) (omega (arith, l, g)) ∙ sym (marked_map_of f (64 * w + k) (omega (arith, l, g))) ∙ marked_at (map_of f) w k g)

-- the marks of one word more
pub word_counted : (m : List ℕ) (w : ℕ) → Words m
    → count (marked m) (from (64 * w) 0) + ones (get_or m w 0) ≡ count (marked m) (from (64 * (w + 1)) 0)
word_counted m w small =
    let e : 64 * (w + 1) ≡ 64 * w + 64 = omega arith in
    rw (e, count_parts (marked m) (64 * w) 64 0)
    (ap (λ (k : ℕ). count (marked m) (from (64 * w) 0) + k)
    (ones_counted 64 (get_or m w 0) (small w)
    ∙ count_same (bit_of (get_or m w 0)) (marked m) 64 0 (0 + 64 * w) (λ k l. rw (zero-add k, zero-add (64 * w)) (sym (marked_at m w k l)))))

-- a map that is made word by word
words_made : (f : ℕ → ℕ) → ((w : ℕ) → f w < 2 ^ 64) → Words (map f (from map_words 0))
words_made f h w =
    ⊎_elim (λ (l : map_words ≤ w). rw (get_or-eq_default (map f (from map_words 0)) 0 {n = w} l) (omega arith))
    (λ (l : w < map_words). rw (table_at f 0 map_words (map f (from map_words 0)) refl w l) (h w)) (le? map_words w)

pub words_map_of : (f : ℕ → Bool) → Words (map_of f)
unfolding map_of
words_map_of f = words_made (λ w. bits_from 64 f (64 * w)) (λ w. bits_below 64 f (64 * w))

pub words_joined : (m n : List ℕ) → Words m → Words n → Words (joined m n)
unfolding joined
words_joined m n h g = words_made (λ w. bit_or (get_or m w 0) (get_or n w 0)) (λ w. or_lt 64 (get_or m w 0) (get_or n w 0) (h w) (g w))

pub length_joined : (m n : List ℕ) → length (joined m n) ≡ map_words
unfolding joined
length_joined m n = refl

-- maps with the same marks are equal
pub same_marks : (m n : List ℕ) → length m ≡ map_words → length n ≡ map_words → Words m → Words n
    → ((a : ℕ) → a < largest_rom → marked m a ≡ marked n a) → m ≡ n
same_marks m n size size' small small' h = map_of_marks m (marked n) size small h ∙ sym (map_of_marks n (marked n) size' small' (λ a l. refl))

-- tests that agree give the same map
pub same_map_of : (f g : ℕ → Bool) → ((a : ℕ) → a < largest_rom → f a ≡ g a) → map_of f ≡ map_of g
same_map_of f g h = map_of_marks (map_of f) g (length_map_of f) (words_map_of f) (λ a l. marked_map_of f a l ∙ h a l)

-- a map of 64 words marks nothing past ROM
pub marked_past : (m : List ℕ) (a : ℕ) → length m ≡ map_words → largest_rom ≤ a → marked m a ≡ false
unfolding marked
marked_past m a size h = rw (get_or-eq_default m 0 {n = a / 64} (rw size (omega (arith, h))), zero-div (2 ^ (a % 64)))

-- nor does the empty map
pub marked_empty : (a : ℕ) → a < largest_rom → marked empty_map a ≡ false
unfolding marked empty_map
marked_empty a h = rw (get_or-replicate {A = ℕ} map_words (a / 64) 0 0 (omega (arith, h)), zero-div (2 ^ (a % 64)))

-- two maps joined mark what each marks
pub marked_joined : (m n : List ℕ) (a : ℕ) → a < largest_rom → marked (joined m n) a ≡ (marked m a || marked n a)
unfolding marked joined
marked_joined m n a h =
    rw (table_at (λ w. bit_or (get_or m w 0) (get_or n w 0)) 0 map_words (joined m n) refl (a / 64) (omega arith))
    (bit_or_lem (get_or m (a / 64) 0) (get_or n (a / 64) 0) (a % 64))

-- the marks of the first w words and the set bits of the others are those of all words
set_bits_from : (m : List ℕ) (n w : ℕ) → Words m → w + n ≡ length m
    → count (marked m) (from (64 * w) 0) + set_bits (drop w m) ≡ count (marked m) (from (64 * (w + n)) 0)
unfolding set_bits
set_bits_from m zero w small e =
    let l : length m ≤ w = omega (arith, e) in
    rw (drop_of_length-le m l, add-zero w, add-zero (count (marked m) (from (64 * w) 0)))
set_bits_from m (suc n) w small e =
    let l : w < length m = omega (arith, e) in
    let q : w + suc n ≡ w + 1 + n = omega arith in
    rw (drop-cons m w 0 l, q) (sym (add_assoc (count (marked m) (from (64 * w) 0)) (ones (get_or m w 0)) (set_bits (drop (suc w) m)))
    ∙ ap₂ (λ (p : ℕ) (x : List ℕ). p + set_bits x) (word_counted m w small) (ap (λ (k : ℕ). drop k m) (sym (add-one w)))
    ∙ set_bits_from m n (w + 1) small (omega (arith, e)))

-- the count is the number of set bits of the words
pub set_bits_counted : (m : List ℕ) → length m ≡ map_words → Words m → marked_count m ≡ set_bits m
unfolding marked_count
set_bits_counted m size small =
    let e = set_bits_from m map_words 0 small (sym size) in
    sym e ∙ zero-add (set_bits m)
