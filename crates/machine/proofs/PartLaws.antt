-- Request 04, of the machine: an image of another length than its part's is refused, and so is a fetch past its part's ROM.
-- Assumes nothing.
use Rattle.std.specs.Prelude.{ℕ, ◌≤◌, ◌≡◌, ◌≢◌, true, false, List, length}
use Rattle.std.proofs.Math.Bool.{and-false, and-eq-true_iff}
use Rattle.std.proofs.Common.{arith, ne_eqb, eqb-true, le-ltb}
use Rattle.base.specs.Formula.{eqb_yes}
use Rattle.base.specs.Lengths.{record_length, is_entry_cost}
use Rattle.decode.specs.Decode.{decode_at}
use Rattle.semantics.specs.Setup.{Setup}
use Rattle.semantics.specs.declared.Mode.TheVariants.{Running}
use Rattle.semantics.specs.declared.State.{State}
use Rattle.semantics.specs.Step.{refuse, entry_due, requested, after_decode, instruction_act, mode_act, act_after_requests, acted_of, settled, valid_machine, step_of}
use Rattle.semantics.specs.Run.{ran, run_of}
use Rattle.coverage.specs.MapLaws.{Words}
use Rattle.machine.specs.Reached.{covered_run, covered_map}
use Rattle.machine.proofs.EntryLaws.{step_invalid, run_invalid, covered_invalid}

-- "takes images of 2048 bytes": in every call, and nothing is done
module _ (K : Setup) (image : List ℕ) (s : State) (other : length image ≢ K.part.rom) where
  wrong_length : valid_machine K image ≡ false
  wrong_length = rw (ne_eqb (length image) K.part.rom other) (and-false (is_entry_cost K.entry_cost))

  pub step_of_other_length : (rec : List ℕ) → step_of K image s rec ≡ refuse s 7
  step_of_other_length rec = step_invalid K image s wrong_length rec

  pub run_of_other_length : (schedule : List ℕ) → run_of K image s schedule ≡ ran s 0 7
  run_of_other_length schedule = run_invalid K image s wrong_length schedule

  pub covered_of_other_length : (schedule m : List ℕ) → Words m
      → (covered_run K image s schedule (length m) ≡ ran s 0 7) × (covered_map K image s schedule m ≡ m)
  covered_of_other_length schedule m small = covered_invalid K image s wrong_length schedule m small

-- "ends ROM at 07FFH": a fetch past it is refused by 10
pub fetch_past_rom : (K : Setup) (image : List ℕ) (s : State) (rec : List ℕ) → valid_machine K image ≡ true → length rec ≡ record_length
    → entry_due (requested s rec) s.mode ≡ false → s.mode ≡ Running → K.part.rom ≤ s.pc.0 → step_of K image s rec ≡ refuse s 10
unfolding step_of acted_of act_after_requests mode_act instruction_act decode_at after_decode settled
fetch_past_rom K image s rec valid whole due running past =
    let size = eqb-true (length image) K.part.rom ((and-eq-true_iff (is_entry_cost K.entry_cost) _).0 valid).1 in
    rw (valid, eqb_yes whole, due, running, le-ltb s.pc.0 (length image) (omega (arith, size, past)))
