-- Encoding is refused by 7, 8 or 12 and then leaves the lent buffer as it was; the buffer keeps its length.
-- Assumes nothing.
use Rattle.std.specs.Prelude.{ℕ, ◌≤◌, ◌≡◌, ◌⊎◌, Bool, true, false, List, ◌++◌, length, drop, ltb}
use Rattle.std.proofs.Math.Path.{refl}
use Rattle.std.proofs.Common.{sym, inl, inr, arith, length-append, length-drop, ltb-false}
use Rattle.base.specs.Choice.{pick}
use Rattle.base.specs.Outcome.{Outcome, and_then, on_outcome}
use Rattle.base.specs.Outcome.Outcome.{value, refused}
use Rattle.isa.specs.declared.Instruction.{Instruction}
use Rattle.instruction_bytes.specs.Bytes.{bytes_of}
use Rattle.encode.specs.Encode.{size_of, encode_answer, encode_into}
use Rattle.encode.specs.Laws.{TooWideOrOdd, size_of_bytes, bytes_number}

-- what encoding answers, and makes of a buffer, by the test of the room and the bytes
abbrev answer_by : Bool → Outcome (List ℕ) → Outcome ℕ
answer_by short o = pick short (refused 7) (and_then o (λ bs. value (length bs)))

abbrev buffer_by : Bool → Outcome (List ℕ) → List ℕ → List ℕ
buffer_by short o l = pick short l (on_outcome o (λ bs. bs ++ drop (length bs) l) (λ n. l))

-- what a refusal says of its number and of the buffer
abbrev Refusal : List ℕ → Outcome ℕ → List ℕ → Type 0
Refusal l (value n) after = Unit {0}
Refusal l (refused n) after = ((n ≡ 7) ⊎ TooWideOrOdd n) × (after ≡ l)

module _ (i : Instruction) (l : List ℕ) where
  refusal : (t : Bool) (o : Outcome (List ℕ)) → bytes_of i ≡ o → Refusal l (answer_by t o) (buffer_by t o l)
  refusal true o e = (inl refl, refl)
  refusal false (value bs) e = tt
  refusal false (refused k) e = (inr (bytes_number i k e), refl)

  refusal_here : Refusal l (encode_answer i (length l)) (encode_into i l)
  unfolding encode_answer encode_into
  refusal_here = refusal (ltb (length l) (size_of i)) (bytes_of i) refl

  pub encode_number : (n : ℕ) → encode_answer i (length l) ≡ refused n → (n ≡ 7) ⊎ TooWideOrOdd n
  encode_number n e = (rw e at refusal_here).0

  pub encode_unchanged : (n : ℕ) → encode_answer i (length l) ≡ refused n → encode_into i l ≡ l
  encode_unchanged n e = (rw e at refusal_here).1

  keeps : (t : Bool) (o : Outcome (List ℕ)) → ltb (length l) (size_of i) ≡ t → bytes_of i ≡ o → length (buffer_by t o l) ≡ length l
  keeps true o r e = refl
  keeps false (value bs) r e =
      let n : length bs ≡ size_of i = size_of_bytes i bs (sym e) in
      let fits : size_of i ≤ length l = ltb-false (length l) (size_of i) r in
      omega (arith, length-append bs (drop (length bs) l), length-drop (length bs) l)
  keeps false (refused k) r e = refl

  pub length_encode_into : length (encode_into i l) ≡ length l
  unfolding encode_into
  length_encode_into = keeps (ltb (length l) (size_of i)) (bytes_of i) refl refl
