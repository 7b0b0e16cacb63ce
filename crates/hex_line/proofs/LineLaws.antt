-- Laws on lines: a line that is read fits into the buffer, a refused one has a number of 01's table, and the recursions one step on.
-- Assumes nothing.
use Rattle.std.specs.Prelude.{ℕ, zero, suc, ◌+◌, ◌*◌, ◌%◌, ◌≤◌, ◌≡◌, refl, true, false, List, [], ◌∷◌, ◌++◌, length, take, drop, T, eqb}
use Rattle.std.proofs.Common.{ap, ◌∙◌, add-one, arith, length-append, length-drop, length-take-le}
use Rattle.std.proofs.lemmas.Bool.{false≢true}
use Rattle.base.specs.ChoiceLaws.{pick_has}
use Rattle.base.specs.Formula.{le, ◌&◌, decide, sound}
use Rattle.base.specs.Outcome.{Outcome, and_then}
use Rattle.base.specs.Outcome.Outcome.{value, refused}
use Rattle.hex_line.specs.declared.Reader.{Reader}
use Rattle.hex_line.specs.declared.Fields.{Fields}
use Rattle.hex_line.specs.Record.{pair_at, added, sum_of, data_of, count_of, address_of, fields_of, parse_body, body_of, data_by, fields_by, sum_by}
use Rattle.hex_line.proofs.Cases.{parsed_has, checked_has, placed_has}
use Rattle.hex_line.specs.Line.{buffer_length, place_fields, read_fields, read_line, stored, line_buffer, buffer_by, read_by, stored_by}

-- one more pair
pub sum_of_more : (l : List ℕ) (i : ℕ) → sum_of l (i + 1) ≡ added (sum_of l i) (pair_at l (i * 2 + 1))
unfolding sum_by
sum_of_more l i = rw (add-one i)

pub length_data_of : (l : List ℕ) (n : ℕ) → length (data_of l n) ≡ n
unfolding data_by
length_data_of l zero = refl
length_data_of l (suc n) =
    length-append (data_of l n) (pair_at l (n * 2 + 9) % 256 ∷ []) ∙ (ap (λ (k : ℕ). k + 1) (length_data_of l n) ∙ add-one n)

-- the answer by the fields, where neither 7 nor 6 stands before it
pub read_parsed : (reader : Reader) (size : ℕ) (l : List ℕ) (o : Outcome Fields) → buffer_length size ≡ true → reader.ended ≡ false
    → parse_body (body_of l) ≡ o → and_then o (read_fields reader size) ≡ read_line reader size l
unfolding read_by
read_parsed reader size l o b d e = rw (b, d, e)

-- a record that is read ends within the buffer, the end line at address 0; a refusal has a number of 01's table for HEX
abbrev pub Within : ℕ → ℕ → Outcome Reader → Type 0
Within end size (value next) = (end ≤ size) × (next.ended ≡ true → end ≡ 0)
Within end size (refused n) = (1 ≤ n) × (n ≤ 7)

-- a number that is written out
pub numeral : {n : ℕ} → T (decide (le 1 n & le n 7)) → (1 ≤ n) × (n ≤ 7)
numeral {n} t = sound (le 1 n & le n 7) t

module _ (reader : Reader) (size : ℕ) (f : Fields) where
  abbrev end : ℕ
  end = f.address + f.count

  within_place : (eqb f.kind 1 ≡ true → end ≡ 0) → Within end size (place_fields reader size f)
  within_place z =
      placed_has (Within end size) reader size f (λ k. (omega (arith, z k), λ e. z k)) (λ h. (h, λ d. absurd (false≢true d))) (numeral tt) (numeral tt)

  within_fields : Within end size (read_fields reader size f)
  within_fields =
      checked_has (λ (o : Outcome (Unit {0})). Within end size (and_then o (λ _. place_fields reader size f))) f
      within_place (numeral tt) (numeral tt) (numeral tt)

pub within_line : (reader : Reader) (size : ℕ) (l : List ℕ)
    → Within (address_of (body_of l) + count_of (body_of l)) size (read_line reader size l)
unfolding read_by fields_by
within_line reader size l =
    let b = body_of l in
    let end = address_of b + count_of b in
    pick_has (Within end size) (buffer_length size) _ _
    (λ _. pick_has (Within end size) reader.ended _ _ (λ _. numeral tt)
    (λ _. parsed_has (λ (o : Outcome Fields). Within end size (and_then o (read_fields reader size))) b
    (λ _. within_fields reader size (fields_of b)) (numeral tt)))
    (λ _. numeral tt)

pub read_within : (reader : Reader) (size : ℕ) (l : List ℕ) (next : Reader) → read_line reader size l ≡ value next
    → address_of (body_of l) + count_of (body_of l) ≤ size
read_within reader size l next e = (rw e at (within_line reader size l)).0

-- the line that ends a text writes nothing
pub end_keeps : (reader : Reader) (l m : List ℕ) (next : Reader) → read_line reader (length m) l ≡ value next → next.ended ≡ true
    → line_buffer reader l m ≡ m
unfolding buffer_by stored_by data_by
end_keeps reader l m next e d =
    let z : address_of (body_of l) + count_of (body_of l) ≡ 0 = (rw e at (within_line reader (length m) l)).1 d in
    let a : address_of (body_of l) ≡ 0 = omega arith in
    let n : count_of (body_of l) ≡ 0 = omega arith in
    rw (e, a, n)

-- a buffer keeps its length
pub length_stored : (body m : List ℕ) → address_of body + count_of body ≤ length m → length (stored body m) ≡ length m
unfolding stored_by
length_stored body m h =
    let a = address_of body in
    let n = count_of body in
    omega (
      arith,
      length-append (take a m) (data_of body n ++ drop n (drop a m)),
      length-append (data_of body n) (drop n (drop a m)),
      length_data_of body n,
      length-drop n (drop a m),
      length-drop a m,
      length-take-le a m (omega arith),
    )
