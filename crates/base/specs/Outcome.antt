-- What a call answers: a value, or a refusal by its number in the table of answers.
-- Assumes nothing.
use Rattle.std.specs.Prelude.{ℕ, Result, Ok, Err}

pub data Outcome (A : Type 0) : Type 0 where
  value : A → Outcome A
  refused : ℕ → Outcome A

-- go on with the value, or keep the refusal
abbrev pub and_then : {A B : Type 0} → Outcome A → (A → Outcome B) → Outcome B
and_then (value a) f = f a
and_then (refused n) f = refused n

-- by cases
abbrev pub on_outcome {ℓ} : {A : Type 0} {B : Type ℓ} → Outcome A → (A → B) → (ℕ → B) → B
on_outcome (value a) f g = f a
on_outcome (refused n) f g = g n

-- what a call's result tells, by its error's number
abbrev pub outcome_by : {A E : Type 0} → (E → ℕ) → Result A E → Outcome A
outcome_by number (Ok a) = value a
outcome_by number (Err e) = refused (number e)
