-- What the call that fills a buffer answers and leaves: a refusal by 7 with the buffer as it was, or whole records; n records and then m are n + m.
-- Assumes nothing.
use Rattle.std.specs.Prelude.{ℕ, ◌+◌, ◌/◌, ◌%◌, ◌^◌, ◌<◌, ◌≡◌, refl, true, false, ◌⊎◌, List, ◌++◌, eqb, length}
use Rattle.std.proofs.Common.{sym, ap, ◌∙◌, inl, inr, arith, length-append, eqb-true, ne_eqb}
use Rattle.std.proofs.lemmas.Bool.{eqb-false}
use Rattle.base.specs.ChoiceLaws.{pick_has, pick_same, first_fails}
use Rattle.base.specs.Lengths.{record_length}
use Rattle.base.specs.Outcome.{Outcome}
use Rattle.base.specs.Outcome.Outcome.{value, refused}
use Rattle.xorshift.specs.Xorshift.{records_from, state_after, taken, fill_answer, fill_buffer}
use Rattle.xorshift.specs.RecordLaws.{length_records, records_add, state_add}
use Rattle.xorshift.specs.Nonzero.{state_nonzero}

-- a seed other than 0, and room for whole records
pub record Fits (seed size : ℕ) : Type 0 where
  pub seeded : seed ≡ 0 → ⊥
  pub whole : size % record_length ≡ 0

-- the answer to a seed and a buffer's length: the state after the records, where they fit; else 7
abbrev Answers : ℕ → ℕ → Outcome ℕ → Type 0
Answers seed size (value state) = Fits seed size × (state ≡ state_after (size / record_length) seed)
Answers seed size (refused n) = n ≡ 7

pub taken_fits : (seed size : ℕ) → taken seed size ≡ true → Fits seed size
taken_fits seed size t =
    let b = first_fails (eqb seed 0) (eqb (size % record_length) 0) t in
    record { seeded = eqb-false seed 0 b.0; whole = eqb-true (size % record_length) 0 b.1 }

answers : (seed size : ℕ) → Answers seed size (fill_answer seed size)
unfolding fill_answer
answers seed size = pick_has (Answers seed size) (taken seed size) _ _ (λ t. (taken_fits seed size t, refl)) (λ o. refl)

pub fits_answer : (seed size : ℕ) → Fits seed size → fill_answer seed size ≡ value (state_after (size / record_length) seed)
unfolding fill_answer
fits_answer seed size f = rw (ne_eqb seed 0 f.seeded, f.whole) refl

pub fits_buffer : (seed : ℕ) (out : List ℕ) → Fits seed (length out) → fill_buffer seed out ≡ records_from (length out / record_length) seed
unfolding fill_buffer
fits_buffer seed out f = rw (fits_answer seed (length out) f) refl

-- where it answers a state
pub answered_fits : (seed size state : ℕ) → fill_answer seed size ≡ value state → Fits seed size
answered_fits seed size state e = (rw e at (answers seed size)).0

pub answered_state : (seed size state : ℕ) → fill_answer seed size ≡ value state → state ≡ state_after (size / record_length) seed
answered_state seed size state e = (rw e at (answers seed size)).1

-- where it refuses
pub fill_number : (seed size n : ℕ) → fill_answer seed size ≡ refused n → n ≡ 7
fill_number seed size n e = rw e at (answers seed size)

pub fill_refused : (seed size : ℕ) → (seed ≡ 0) ⊎ (size % record_length ≡ 0 → ⊥) → fill_answer seed size ≡ refused 7
unfolding fill_answer
fill_refused seed size (inl z) = rw z
fill_refused seed size (inr o) = rw (ne_eqb (size % record_length) 0 o, pick_same (eqb seed 0) false)

pub fill_unchanged : (seed : ℕ) (out : List ℕ) (n : ℕ) → fill_answer seed (length out) ≡ refused n → fill_buffer seed out ≡ out
unfolding fill_buffer
fill_unchanged seed out n e = rw e

filled_length : (seed : ℕ) (out : List ℕ) (o : Outcome ℕ) → fill_answer seed (length out) ≡ o → length (fill_buffer seed out) ≡ length out
filled_length seed out (value state) e =
    let f = answered_fits seed (length out) state e in
    omega (arith, ap length (fits_buffer seed out f), length_records (length out / record_length) seed, f.whole)
filled_length seed out (refused n) e = ap length (fill_unchanged seed out n e)

pub length_fill_buffer : (seed : ℕ) (out : List ℕ) → length (fill_buffer seed out) ≡ length out
length_fill_buffer seed out = filled_length seed out (fill_answer seed (length out)) refl

-- a call that answers a state, and one from that state over the buffer behind: the second is not refused and answers what one call over both answers, and
-- the two leave what that one leaves
pub record InTwo (seed state : ℕ) (a b : List ℕ) : Type 0 where
  pub end : ℕ
  pub second : fill_answer state (length b) ≡ value end
  pub once : fill_answer seed (length (a ++ b)) ≡ value end
  pub buffers : fill_buffer seed (a ++ b) ≡ fill_buffer seed a ++ fill_buffer state b

pub in_two : (seed state : ℕ) (a b : List ℕ) → seed < 2 ^ 32 → fill_answer seed (length a) ≡ value state → length b % record_length ≡ 0
    → InTwo seed state a b
in_two seed state a b h e w =
    let f = answered_fits seed (length a) state e in
    let s = answered_state seed (length a) state e in
    let n = length a / record_length in
    let m = length b / record_length in
    let l = length-append a b in
    let q : length (a ++ b) / record_length ≡ n + m = omega (arith, l, f.whole) in
    let nonzero : state ≡ 0 → ⊥ = λ z. f.seeded (state_nonzero n seed h (sym s ∙ z)) in
    let more : Fits state (length b) = record { seeded = nonzero; whole = w } in
    let both : Fits seed (length (a ++ b)) = record { seeded = f.seeded; whole = omega (arith, l, f.whole) } in
    record {
      end = state_after m state;
      second = fits_answer state (length b) more;
      once = fits_answer seed (length (a ++ b)) both ∙ ap value (rw (q, s) (state_add n m seed));
      buffers = rw (fits_buffer seed (a ++ b) both, fits_buffer seed a f, fits_buffer state b more, q, s) (records_add n m seed);
    }
