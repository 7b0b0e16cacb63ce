-- A finding tells of the refusal that the reader gives, and the sum byte that it names is the right one.
-- Assumes nothing.
use Rattle.std.specs.Prelude.{ℕ, suc, ◌+◌, ◌-◌, ◌*◌, ◌%◌, ◌≤◌, ◌<◌, ◌≡◌, refl, Bool, true, false, List, eqb, ltb, length, get_or, drop}
use Rattle.std.proofs.Common.{add-one, arith, drop_of_length-le, drop-cons, lt-ltb, le-ltb}
use Rattle.base.specs.Choice.{pick}
use Rattle.base.specs.ChoiceLaws.{pick_has}
use Rattle.base.specs.Outcome.{Outcome, and_then, on_outcome}
use Rattle.base.specs.Outcome.Outcome.{value, refused}
use Rattle.hex_line.specs.Record.{digit_of, pair_at, added, sum_of, count_of, parse_body, body_of, sum_by}
use Rattle.hex_line.specs.Line.{buffer_length, place_fields, read_fields, read_line, read_by}
use Rattle.hex_line.proofs.Cases.{parsed_has, checked_has, placed_has}
use Rattle.hex_line.specs.declared.Reader.{Reader}
use Rattle.hex_line.specs.declared.Fields.{Fields}
use Rattle.hex_fault.specs.declared.Finding.{Finding}
use Rattle.hex_fault.specs.Finding.{digits_from, called_for, wrong_count, malformed, last_pair, right_sum, refusal_finding, finding_of, finding_number}

abbrev TellsOne : Finding → Type 0
TellsOne x = finding_number x ≡ 1

count_number : (body : List ℕ) → TellsOne (wrong_count body)
count_number body = pick_has TellsOne (ltb (length body) 3) _ _ (λ _. refl) (λ _. refl)

malformed_number : (body : List ℕ) → TellsOne (malformed body)
unfolding malformed
malformed_number body =
    let end = 1 + digits_from (drop 1 body) in
    pick_has TellsOne (eqb (length body) 0) _ _ (λ _. refl)
    (λ _. pick_has TellsOne (eqb (get_or body 0 0) 58) _ _
    (λ _. pick_has TellsOne (ltb end (length body)) _ _
    (λ _. pick_has TellsOne (ltb end (called_for body)) _ _ (λ _. refl) (λ _. count_number body)) (λ _. count_number body))
    (λ _. refl))

-- a malformed line is refused by 1
abbrev RefusedByOne : Outcome Fields → Type 0
RefusedByOne (value f) = Unit {0}
RefusedByOne (refused k) = k ≡ 1

parse_number : (body : List ℕ) → RefusedByOne (parse_body body)
parse_number body = parsed_has RefusedByOne body (λ _. tt) refl

-- the finding belongs to this answer of the reader
abbrev Agrees : List ℕ → ℕ → Reader → Outcome Reader → Type 0
Agrees body size reader o = finding_number (on_outcome o (λ next. Finding.Right) (refusal_finding body size reader)) ≡ on_outcome o (λ next. 0) (λ n. n)

module _ (body : List ℕ) (size : ℕ) (reader : Reader) (f : Fields) (e : parse_body body ≡ value f) where
  place_agrees : Agrees body size reader (place_fields reader size f)
  place_agrees = placed_has (Agrees body size reader) reader size f (λ _. refl) (λ _. refl) (rw e) (rw e)

  fields_agree : Agrees body size reader (read_fields reader size f)
  fields_agree =
      checked_has (λ (o : Outcome (Unit {0})). Agrees body size reader (and_then o (λ _. place_fields reader size f))) f
      (λ _. place_agrees) (rw e) (rw e) (rw e)

-- the finding's number is the reader's
pub finding_number_lem : (reader : Reader) (size : ℕ) (line : List ℕ)
    → finding_number (finding_of reader size line) ≡ on_outcome (read_line reader size line) (λ next. 0) (λ n. n)
unfolding finding_of read_by
finding_number_lem reader size line = by_test (buffer_length size) reader.ended (parse_body (body_of line)) refl
  where
    by_test : (a d : Bool) (o : Outcome Fields) → parse_body (body_of line) ≡ o
        → Agrees (body_of line) size reader (pick a (pick d (refused 6) (and_then o (read_fields reader size))) (refused 7))
    by_test false d o e = refl
    by_test true true o e = refl
    by_test true false (value f) e = fields_agree (body_of line) size reader f e
    by_test true false (refused k) e =
        let one : k ≡ 1 = rw e at (parse_number (body_of line)) in
        rw (one, e) (malformed_number (body_of line))

right_byte : (others found sum : ℕ) → sum ≡ (others + found) % 256 → (others + right_sum found sum) % 256 ≡ 0
right_byte others found sum e = rw e (omega arith)

-- a sum of pairs that are all pairs
added_small : (a b : ℕ) → added a b < 256 → added a b ≡ (a + b) % 256
added_small a b = pick_has (λ k. k < 256 → k ≡ (a + b) % 256) (ltb a 256) _ _
    (λ _. pick_has (λ k. k < 256 → k ≡ (a + b) % 256) (ltb b 256) _ _ (λ _ _. refl) (λ _ h. omega (arith, h))) (λ _ h. omega (arith, h))

-- the sum byte that is named makes the sum of a well-formed line 0 modulo 256: all pairs before it, and it
pub right_sum_lem : (body : List ℕ) → length body ≡ count_of body * 2 + 11 → sum_of body (count_of body + 5) < 256
    → (sum_of body (count_of body + 4) + right_sum (last_pair body) (sum_of body (count_of body + 5))) % 256 ≡ 0
unfolding last_pair sum_by
right_sum_lem body l h =
    let k : count_of body + 5 ≡ suc (count_of body + 4) = omega arith in
    let p : (count_of body + 4) * 2 + 1 ≡ length body - 2 = omega arith in
    let e = added_small (sum_of body (count_of body + 4)) (pair_at body (length body - 2)) (rw (k, p) at h) in
    right_byte (sum_of body (count_of body + 4)) (pair_at body (length body - 2)) (sum_of body (count_of body + 5)) (rw (k, p) e)

-- one more digit; a character that is none; the end
pub digits_more : (s : List ℕ) (i : ℕ) → i < length s → (15 < digit_of (get_or s i 0) → ⊥) → digits_from (drop i s) ≡ 1 + digits_from (drop (i + 1) s)
unfolding digits_from
digits_more s i h q =
    let w : digit_of (get_or s i 0) ≤ 15 = omega (arith, q) in
    rw (drop-cons s i 0 h, le-ltb _ _ w, add-one) (omega arith)

pub digits_stop : (s : List ℕ) (i : ℕ) → i < length s → 15 < digit_of (get_or s i 0) → digits_from (drop i s) ≡ 0
unfolding digits_from
digits_stop s i h q = rw (drop-cons s i 0 h, lt-ltb _ _ q)

pub digits_end : (s : List ℕ) (i : ℕ) → length s ≤ i → digits_from (drop i s) ≡ 0
unfolding digits_from
digits_end s i h = rw (drop_of_length-le s h)
