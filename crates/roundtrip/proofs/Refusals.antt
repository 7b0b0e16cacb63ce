-- Copying an instruction is refused by 7, 10, 11 or 12 and then leaves the lent buffer as it was; the buffer keeps its length.
-- Assumes nothing.
use Rattle.std.specs.Prelude.{ℕ, ◌-◌, ◌≤◌, ◌<◌, ◌≡◌, ◌⊎◌, Bool, true, false, List, ◌++◌, length, get_or, take, drop, ltb}
use Rattle.std.proofs.Math.Path.{refl}
use Rattle.std.proofs.Common.{inl, inr, arith, length-append, length-drop, length-take-le, ltb-false}
use Rattle.base.specs.Choice.{pick}
use Rattle.base.specs.Outcome.{Outcome, and_then, on_outcome}
use Rattle.base.specs.Outcome.Outcome.{value, refused}
use Rattle.isa.specs.declared.FlagSet.{FlagSet}
use Rattle.isa.specs.declared.Instruction.{Instruction}
use Rattle.decode.specs.Decode.{decode_at}
use Rattle.decode.specs.Refusals.{decode_number}
use Rattle.roundtrip.specs.RoundTrip.{RoundTrip, round_trip}
use Rattle.roundtrip.specs.Copy.{copy_answer, copy_into}

-- what a refusal says of its number and of the buffer
abbrev Refusal : List ℕ → Outcome ℕ → List ℕ → Type 0
Refusal l (value n) after = Unit {0}
Refusal l (refused n) after = ((n ≡ 7) ⊎ ((10 ≤ n) × (n ≤ 12))) × (after ≡ l)

module _ (s : List ℕ) (at : ℕ) (out : List ℕ) where
  -- by what was decoded, and the test of the room
  abbrev answer_by : Outcome (Instruction × ℕ × FlagSet) → Outcome ℕ
  answer_by o = and_then o (λ p. pick (ltb (length out) p.1) (refused 7) (value p.1))

  abbrev buffer_by : Outcome (Instruction × ℕ × FlagSet) → List ℕ
  buffer_by o = on_outcome o (λ p. pick (ltb (length out) p.1) out (take p.1 (drop at s) ++ drop p.1 out)) (λ k. out)

  refusal : (o : Outcome (Instruction × ℕ × FlagSet)) → decode_at s at ≡ o → Refusal out (answer_by o) (buffer_by o)
  refusal (value p) e = short (ltb (length out) p.1)
    where
      short : (t : Bool)
          → Refusal out (pick t (refused 7) (value p.1)) (pick t out (take p.1 (drop at s) ++ drop p.1 out))
      short true = (inl refl, refl)
      short false = tt
  refusal (refused n) e = (inr (decode_number s at n e), refl)

  refusal_here : Refusal out (copy_answer s at (length out)) (copy_into s at out)
  unfolding copy_answer copy_into
  refusal_here = refusal (decode_at s at) refl

  pub copy_number : (n : ℕ) → copy_answer s at (length out) ≡ refused n → (n ≡ 7) ⊎ ((10 ≤ n) × (n ≤ 12))
  copy_number n e = (rw e at refusal_here).0

  pub copy_unchanged : (n : ℕ) → copy_answer s at (length out) ≡ refused n → copy_into s at out ≡ out
  copy_unchanged n e = (rw e at refusal_here).1

  -- of bytes
  module _ (byte : (k : ℕ) → get_or s k 0 < 256) where
    keeps : (o : Outcome (Instruction × ℕ × FlagSet)) → decode_at s at ≡ o → length (buffer_by o) ≡ length out
    keeps (value p) e = short (round_trip s at byte p.0 p.1 p.2 e) (ltb (length out) p.1) refl
      where
        short : RoundTrip s at p.0 p.1 → (t : Bool) → ltb (length out) p.1 ≡ t
            → length (pick t out (take p.1 (drop at s) ++ drop p.1 out)) ≡ length out
        short r true h = refl
        short r false h =
            let fits : p.1 ≤ length out = ltb-false (length out) p.1 h in
            let d : length (drop at s) ≡ length s - at = length-drop at s in
            let k : length (take p.1 (drop at s)) ≡ p.1 = length-take-le p.1 (drop at s) (omega (arith, r.within)) in
            omega (arith, length-append (take p.1 (drop at s)) (drop p.1 out), length-drop p.1 out)
    keeps (refused n) e = refl

    pub length_copy_into : length (copy_into s at out) ≡ length out
    unfolding copy_into
    length_copy_into = keeps (decode_at s at) refl
