-- What holds of each answer that a test can give holds of the answer: to the characters of a line, to its fields, and to where a record lies.
-- Assumes nothing.
use Rattle.std.specs.Prelude.{ℕ, ◌+◌, ◌*◌, ◌≤◌, ◌<◌, ◌≡◌, true, false, List, length, get_or, eqb, leb, ltb}
use Rattle.std.proofs.Common.{sym, ◌∙◌, arith, eqb-true, leb-true, ltb-true}
use Rattle.std.proofs.lemmas.Bool.{false≢true}
use Rattle.base.specs.ChoiceLaws.{pick_has}
use Rattle.base.specs.Outcome.{Outcome}
use Rattle.base.specs.Outcome.Outcome.{value, refused}
use Rattle.hex_line.specs.declared.Reader.{Reader}
use Rattle.hex_line.specs.declared.Fields.{Fields}
use Rattle.hex_line.specs.Record.{sum_of, count_of, fields_of, parse_body, parse_by}
use Rattle.hex_line.specs.Line.{check_fields, place_fields}

pub parsed_has : (P : Outcome Fields → Type 0) (l : List ℕ) → (sum_of l (count_of l + 5) < 256 → P (value (fields_of l))) → P (refused 1) → P (parse_body l)
unfolding parse_by
parsed_has P l right one =
    pick_has P (eqb (get_or l 0 0) 58) _ _
    (λ _. pick_has P (eqb (length l) (count_of l * 2 + 11)) _ _
    (λ _. pick_has P (ltb (sum_of l (count_of l + 5)) 256) _ _ (λ h. right (ltb-true _ _ h)) (λ _. one)) (λ _. one))
    (λ _. one)

-- a line of type 01 without a fault is at address 0 and has no data
pub checked_has : (P : Outcome (Unit {0}) → Type 0) (f : Fields) → ((eqb f.kind 1 ≡ true → f.address + f.count ≡ 0) → P (value tt))
    → P (refused 1) → P (refused 2) → P (refused 3) → P (check_fields f)
checked_has P f right one two three =
    pick_has P (eqb f.kind 1) _ _
    (λ _. pick_has P (eqb f.count 0) _ _
    (λ c. pick_has P (eqb f.address 0) _ _
    (λ a. pick_has P (eqb f.sum 0) _ _
    (λ _. right (λ _. omega (arith, eqb-true f.count 0 c, eqb-true f.address 0 a))) (λ _. one)) (λ _. one)) (λ _. one))
    (λ k. pick_has P (eqb f.sum 0) _ _
    (λ _. pick_has P (eqb f.kind 0) _ _ (λ _. right (λ t. absurd (false≢true (sym k ∙ t)))) (λ _. three)) (λ _. two))

-- behind the end line, or a record that ends within the buffer
pub placed_has : (P : Outcome Reader → Type 0) (reader : Reader) (size : ℕ) (f : Fields)
    → (eqb f.kind 1 ≡ true → P (value (record { next = reader.next; ended = true })))
    → (f.address + f.count ≤ size → P (value (record { next = f.address + f.count; ended = false }))) → P (refused 5) → P (refused 4)
    → P (place_fields reader size f)
placed_has P reader size f end within five four =
    pick_has P (eqb f.kind 1) _ _ end
    (λ _. pick_has P (leb reader.next f.address) _ _
    (λ _. pick_has P (leb (f.address + f.count) size) _ _ (λ h. within (leb-true _ _ h)) (λ _. five)) (λ _. four))
