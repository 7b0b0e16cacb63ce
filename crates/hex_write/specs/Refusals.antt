-- An image is written whole within the lent buffer, or refused by 7 with the buffer as it was; the buffer keeps its length.
-- Assumes nothing.
use Rattle.std.specs.Prelude.{ℕ, ◌≤◌, ◌≡◌, refl, List, [], ◌++◌, eqb, ltb, length, drop}
use Rattle.std.proofs.Common.{sym, le_of_eq, arith, length-append, length-drop, ltb-false}
use Rattle.base.specs.Choice.{pick}
use Rattle.base.specs.ChoiceLaws.{pick_has}
use Rattle.base.specs.Outcome.{Outcome, on_outcome}
use Rattle.base.specs.Outcome.Outcome.{value, refused}
use Rattle.hex_write.specs.ImageText.{image_text, text_length, write_answer, write_buffer}
use Rattle.hex_write.specs.ImageTextLaws.{length_image_text}

-- the answer to a text that goes to the front of a buffer with this room: its length, which is within; or 7
abbrev pub Fits : List ℕ → ℕ → Outcome ℕ → Type 0
Fits text room (value n) = (n ≡ length text) × (n ≤ room)
Fits text room (refused n) = n ≡ 7

pub fits_within : (text : List ℕ) (room longest n : ℕ) → n ≡ length text → n ≤ longest
    → Fits text room (pick (ltb room longest) (refused 7) (value n))
fits_within text room longest n e h =
    pick_has (Fits text room) (ltb room longest) _ _ (λ t. refl) (λ t. (e, omega (arith, ltb-false room longest t, h)))

-- the buffer behind it
pub length_front : (text out : List ℕ) (o : Outcome ℕ) → Fits text (length out) o
    → length (on_outcome o (λ n. text ++ drop n out) (λ number. out)) ≡ length out
length_front text out (value n) f = omega (arith, length-append text (drop n out), length-drop n out, f.0, f.1)
length_front text out (refused n) f = refl

-- for a ROM of any length
module _ (rom : ℕ) where
  write_fits : (m : List ℕ) (size room : ℕ) → Fits (image_text rom m) room (write_answer rom size room)
  unfolding write_answer
  write_fits m size room =
      pick_has (Fits (image_text rom m) room) (eqb size rom) _ _
      (λ s. fits_within (image_text rom m) room (text_length rom) (text_length rom) (sym (length_image_text rom m)) (le_of_eq refl)) (λ s. refl)

  pub write_number : (size room n : ℕ) → write_answer rom size room ≡ refused n → n ≡ 7
  write_number size room n e = rw e at (write_fits [] size room)

  pub write_unchanged : (m out : List ℕ) (n : ℕ) → write_answer rom (length m) (length out) ≡ refused n → write_buffer rom m out ≡ out
  unfolding write_buffer
  write_unchanged m out n e = rw e

  pub length_write_buffer : (m out : List ℕ) → length (write_buffer rom m out) ≡ length out
  unfolding write_buffer
  length_write_buffer m out =
      length_front (image_text rom m) out (write_answer rom (length m) (length out)) (write_fits m (length m) (length out))
