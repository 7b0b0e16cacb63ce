-- The reader treats a converted line as the former one treated the old line, the call changes nothing but the letters a to f, and it refuses what the
-- former reader refused by 1 to 3 (request 13).
-- Assumes nothing.
use Rattle.std.specs.Prelude.{ℕ, ◌-◌, ◌≤◌, ◌≡◌, refl, true, false, List, [], ◌∷◌, map, length, get_or}
use Rattle.std.proofs.Math.Path.{ap}
use Rattle.std.proofs.Common.{◌∙◌, arith, ext_get_or}
use Rattle.std.proofs.lemmas.List.{length-map}
use Rattle.base.specs.Outcome.{Outcome, and_then, on_outcome}
use Rattle.base.specs.Outcome.Outcome.{value, refused}
use Rattle.hex_line.specs.declared.Reader.{Reader}
use Rattle.hex_line.specs.declared.Fields.{Fields}
use Rattle.hex_line.specs.Record.{pair_by, sum_by, count_by, address_by, fields_by, parse_by, body_length, body_of}
use Rattle.hex_line.specs.Line.{buffer_length, check_fields, place_fields, read_fields, check_by, read_by, read_line, line_buffer}
use Rattle.hex_line.proofs.Cases.{placed_has}
use Rattle.hex_line.proofs.Refusals.{check_number}
use Rattle.hex_upper.specs.Former.{small_letter, NoSmall, former_digit, former_line, former_buffer}
use Rattle.hex_upper.specs.Upper.{upper_of, upper_answer, upper_line}
use Rattle.hex_upper.proofs.UpperLaws.{get_d_upper, body_length_upper, check_upper, read_upper, buffer_upper}

-- the line behind the call
pub converted : (l : List ℕ) → upper_answer l ≡ value tt → upper_line l ≡ map upper_of l
unfolding upper_line
converted l e = rw e

pub converted_read : (l : List ℕ) → upper_answer l ≡ value tt → (reader : Reader) (size : ℕ)
    → read_line reader size (upper_line l) ≡ former_line reader size l
converted_read l e reader size = rw (converted l e) (read_upper reader size l)

pub converted_buffer : (l : List ℕ) → upper_answer l ≡ value tt → (reader : Reader) (m : List ℕ)
    → line_buffer reader (upper_line l) m ≡ former_buffer reader l m
converted_buffer l e reader m = rw (converted l e) (buffer_upper reader l m)

-- a refused line is as it was, and the number is 1, 2 or 3
pub upper_unchanged : (l : List ℕ) (n : ℕ) → upper_answer l ≡ refused n → upper_line l ≡ l
unfolding upper_line
upper_unchanged l n e = rw e

pub upper_number : (l : List ℕ) (n : ℕ) → upper_answer l ≡ refused n → (1 ≤ n) × (n ≤ 3)
upper_number l n e = check_number (map upper_of (body_of l)) n (check_upper (body_of l) ∙ e)

same_number : {A : Type 0} {k n : ℕ} → ◌≡◌ {A = Outcome A} (refused k) (refused n) → k ≡ n
same_number {A} q = ap (λ (o : Outcome A). on_outcome o (λ _. 0) (λ m. m)) q

-- where a record lies is refused by 4 or 5
abbrev AboveThree : Outcome Reader → Type 0
AboveThree (value next) = Unit {0}
AboveThree (refused n) = 4 ≤ n

place_number : (reader : Reader) (size : ℕ) (f : Fields) → AboveThree (place_fields reader size f)
place_number reader size f = placed_has AboveThree reader size f (λ _. tt) (λ _. tt) (omega arith) (omega arith)

-- the call refuses exactly the lines that the former reader refused by 1 to 3, by the same number
module _ (reader : Reader) (size : ℕ) (b : buffer_length size ≡ true) (d : reader.ended ≡ false) (line : List ℕ) (n : ℕ) where
  pub refused_as_before : upper_answer line ≡ refused n → former_line reader size line ≡ refused n
  unfolding read_by check_by
  refused_as_before e = rw (b, d) (by_parse (parse_by former_digit (body_of line)) e)
    where
      by_parse : (o : Outcome Fields) → and_then o check_fields ≡ refused n → and_then o (read_fields reader size) ≡ refused n
      by_parse (value f) q = rw q
      by_parse (refused k) q = ap refused (same_number q)

  pub refused_before : former_line reader size line ≡ refused n → n ≤ 3 → upper_answer line ≡ refused n
  unfolding read_by check_by
  refused_before e h = by_parse (parse_by former_digit (body_of line)) (rw (b, d) at e)
    where
      by_check : (f : Fields) (c : Outcome (Unit {0})) → and_then c (λ _. place_fields reader size f) ≡ refused n → c ≡ refused n
      by_check f (value t) q = absurd (omega (arith, rw q at (place_number reader size f)))
      by_check f (refused k) q = ap refused (same_number q)

      by_parse : (o : Outcome Fields) → and_then o (read_fields reader size) ≡ refused n → and_then o check_fields ≡ refused n
      by_parse (value f) q = by_check f (check_fields f) q
      by_parse (refused k) q = ap refused (same_number q)

-- what holds of the old line and of the upper-case line holds of the line behind the call
either_line : (P : List ℕ → Type 0) (l : List ℕ) → P (map upper_of l) → P l → P (upper_line l)
unfolding upper_line
either_line P l u o = by_answer (upper_answer l)
  where
    by_answer : (a : Outcome (Unit {0})) → P (on_outcome a (λ _. map upper_of l) (λ number. l))
    by_answer (value t) = u
    by_answer (refused n) = o

-- nothing but the letters a to f changes: not the length, no other character, not the line's end
pub upper_length : (l : List ℕ) → length (upper_line l) ≡ length l
upper_length l = either_line (λ (t : List ℕ). length t ≡ length l) l (length-map l upper_of) refl

pub upper_others : (l : List ℕ) (i : ℕ) → small_letter (get_or l i 0) ≡ false → get_or (upper_line l) i 0 ≡ get_or l i 0
upper_others l i e = either_line (λ (t : List ℕ). get_or t i 0 ≡ get_or l i 0) l (get_d_upper l i ∙ rw e) refl

pub upper_end : (l : List ℕ) → body_length (upper_line l) ≡ body_length l
upper_end l = either_line (λ (t : List ℕ). body_length t ≡ body_length l) l (body_length_upper l) refl

-- so a line without small letters comes back as it was
pub upper_same : (l : List ℕ) → NoSmall l → upper_line l ≡ l
upper_same l none = ext_get_or 0 (upper_line l) l (upper_length l) (λ i _. upper_others l i (none i))

-- and a small letter of a converted line is its upper-case letter
pub upper_letters : (l : List ℕ) (i : ℕ) → upper_answer l ≡ value tt → small_letter (get_or l i 0) ≡ true → get_or (upper_line l) i 0 ≡ get_or l i 0 - 32
upper_letters l i a e = rw (converted l a, get_d_upper l i, e)

-- `:00000001ff` becomes the end line
pub end_line_converted : let old : List ℕ = 58 ∷ 48 ∷ 48 ∷ 48 ∷ 48 ∷ 48 ∷ 48 ∷ 48 ∷ 49 ∷ 102 ∷ 102 ∷ [] in
    (upper_answer old ≡ value tt) × (upper_line old ≡ 58 ∷ 48 ∷ 48 ∷ 48 ∷ 48 ∷ 48 ∷ 48 ∷ 48 ∷ 49 ∷ 70 ∷ 70 ∷ [])
unfolding upper_line check_by parse_by fields_by count_by address_by pair_by sum_by body_length
end_line_converted = (refl, refl)
