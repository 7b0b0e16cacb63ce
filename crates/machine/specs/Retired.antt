-- Which steps complete an instruction: those of a running machine for which no entry is due, and that are not refused.
-- Assumes nothing.
use Rattle.std.specs.Prelude.{ℕ, ◌<◌, ◌≡◌, ◌≢◌, Bool, List, length, eqb, ltb}
use Rattle.std.proofs.Math.Path.{refl}
use Rattle.std.proofs.Common.{sym, subst, arith, ltb-true}
use Rattle.std.proofs.Math.Bool.{true, false}
use Rattle.std.proofs.lemmas.Bool.{false≢true, eqb-false}
use Rattle.base.specs.ChoiceLaws.{pick_has}
use Rattle.base.specs.Outcome.{Outcome}
use Rattle.base.specs.Outcome.Outcome.{value, refused}
use Rattle.isa.specs.declared.FlagSet.{FlagSet}
use Rattle.isa.specs.declared.Instruction.{Instruction}
use Rattle.decode.specs.Decode.{decode_at}
use Rattle.decode.specs.Refusals.{decode_number}
use Rattle.chip.specs.Registers.{inputs_of}
use Rattle.semantics.specs.Setup.{Setup}
use Rattle.semantics.specs.declared.Mode.{Mode}
use Rattle.semantics.specs.declared.Mode.TheVariants.{Running, Idle, Stopped}
use Rattle.semantics.specs.declared.State.{State}
use Rattle.semantics.specs.Execute.{Executed}
use Rattle.semantics.specs.Step.{Acted, entry_due, finish_of, after_decode, instruction_act, mode_act, act_after_requests, requested, acted_of}

-- a running machine, no entry, and no refusal
pub record Completes (K : Setup) (image : List ℕ) (s : State) (rec : List ℕ) : Type 0 where
  pub running : s.mode ≡ Running
  pub no_entry : entry_due (requested s rec) s.mode ≡ false
  pub done : (acted_of K image s rec).stop ≡ 0

-- an act that retires is not refused; one that may retire and is not refused does
record Retires (may : Bool) (a : Acted) : Type 0 where
  done : a.retired ≡ true → (may ≡ true) × (a.stop ≡ 0)
  does : may ≡ true → a.stop ≡ 0 → a.retired ≡ true

finish_retires : (s : State) (e : Executed) (retired : Bool) (cost : ℕ) → Retires retired (finish_of s e retired cost)
unfolding finish_of
finish_retires s e retired cost =
    pick_has (Retires retired) (eqb e.next.stop 0) _ _ (λ _. record { done = λ h. (h, refl); does = λ h _. h })
    (λ h. record { done = λ r. absurd (false≢true r); does = λ _ z. absurd (eqb-false e.next.stop 0 h z) })

-- of what was decoded an instruction retires, and what was decoded begins within the image
decode_retires : (o : Outcome (Instruction × ℕ × FlagSet)) → ((n : ℕ) → o ≡ refused n → n ≢ 0)
    → (image : List ℕ) (s : State) (regs rec : List ℕ) → Retires true (after_decode o image s regs rec)
unfolding after_decode
decode_retires (value d) numbered image s regs rec = finish_retires s _ true _
decode_retires (refused n) numbered image s regs rec =
    record { done = λ r. absurd (false≢true r); does = λ _ z. absurd (numbered n refl z) }

decode_place : (image : List ℕ) (s : State) (regs rec : List ℕ) → (instruction_act image s regs rec).retired ≡ true → s.pc.0 < length image
unfolding instruction_act decode_at after_decode
decode_place image s regs rec =
    pick_has (λ (o : Outcome (Instruction × ℕ × FlagSet)). (after_decode o image s regs rec).retired ≡ true → s.pc.0 < length image)
    (ltb s.pc.0 (length image)) _ (refused 10) (λ h _. ltb-true s.pc.0 (length image) h) (λ _ f. absurd (false≢true f))

module _ (K : Setup) (image : List ℕ) (s : State) (rec : List ℕ) where
  regs : List ℕ
  regs = requested s rec

  inputs : List ℕ
  inputs = inputs_of K.part.grounds rec

  not_zero : (n : ℕ) → decode_at image s.pc.0 ≡ refused n → n ≢ 0
  not_zero n e z =
      let h = (decode_number image s.pc.0 n e).0 in
      omega (arith, h, z)

  running_retires : Retires true (instruction_act image s regs inputs)
  unfolding instruction_act
  running_retires = decode_retires (decode_at image s.pc.0) not_zero image s regs inputs

  -- by the mode, where no entry is due
  by_mode : (m : Mode) → (mode_act m image s regs inputs).retired ≡ true → (m ≡ Running) × ((mode_act m image s regs inputs).stop ≡ 0)
  unfolding mode_act
  by_mode Running r = (refl, (running_retires.done r).1)
  by_mode Idle r = absurd (false≢true r)
  by_mode Stopped r = absurd (false≢true r)

  -- a step that retires an instruction completes one
  pub retired_completes : (acted_of K image s rec).retired ≡ true → Completes K image s rec
  unfolding acted_of act_after_requests regs inputs
  retired_completes = on (entry_due (requested s rec) s.mode) refl
    where
      on : (b : Bool) → entry_due (requested s rec) s.mode ≡ b → (act_after_requests b K image s (requested s rec) inputs).retired ≡ true → Completes K image s rec
      on true h r = absurd (false≢true ((finish_retires s _ false _).done r).0)
      on false h r =
          let q = by_mode s.mode r in
          record { running = q.0; no_entry = h; done = rw (acted_of, h) q.1 }

  -- and one that completes an instruction retires it
  pub completes_retired : Completes K image s rec → (acted_of K image s rec).retired ≡ true
  unfolding acted_of act_after_requests mode_act regs inputs
  completes_retired h =
      let z = h.done in
      rw h.no_entry
      (subst (λ (m : Mode). (mode_act m image s regs inputs).stop ≡ 0 → (mode_act m image s regs inputs).retired ≡ true) (sym h.running)
      (running_retires.does refl) (rw h.no_entry at z))

  -- an instruction that is completed begins within the image
  pub completes_place : Completes K image s rec → s.pc.0 < length image
  unfolding acted_of act_after_requests mode_act regs inputs
  completes_place h =
      let r = completes_retired h in
      decode_place image s regs inputs
      (subst (λ (m : Mode). (mode_act m image s regs inputs).retired ≡ true) h.running (rw h.no_entry at r))
