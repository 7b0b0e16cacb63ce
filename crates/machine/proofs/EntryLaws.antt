-- Request 03, of the machine: what an interrupt entry costs, and that the number beside the image is refused above 63.
-- Assumes nothing.
use Prim.Native.Nat.{ℕ, ◌+◌, ◌%◌, ◌<◌}
use Rattle.std.specs.Prelude.{◌≡◌, refl, ◌&&◌, length}
use Rattle.std.proofs.Common.{◌∙◌, ap}
use Rattle.std.proofs.Math.Bool.{Bool, true, false, and-false}
use mathlib.Core.List.{List}
use Rattle.std.proofs.lemmas.Bool.{lt-leb}
use Rattle.std.proofs.Math.Dec.{eqb}
use Rattle.base.specs.Choice.{pick}
use Rattle.base.specs.Lengths.{record_length, greatest_entry_cost}
use Rattle.base.specs.Parts.{Part}
use Rattle.chip.specs.Registers.{inputs_of}
use Rattle.semantics.specs.Setup.{Setup}
use Rattle.semantics.specs.declared.State.{State}
use Rattle.semantics.specs.Left.{Stepped}
use Rattle.semantics.specs.Execute.{Executed}
use Rattle.semantics.specs.Step.{Acted, refuse, refused_act, moved_to, finish_of, enter_of, entry_due, requested, act_after_requests, acted_of, settled}
use Rattle.semantics.specs.Step.{valid_machine, step_of}
use Rattle.semantics.specs.Run.{ran, run_of}
use Rattle.coverage.specs.Map.{is_map_length}
use Rattle.coverage.specs.MapLaws.{Words}
use Rattle.machine.specs.Count.{cost_of, SameButCycles}
use Rattle.machine.proofs.CountLaws.{step_accounts}
use Rattle.machine.specs.Reached.{covered_run, covered_map}
use Rattle.machine.proofs.CoveredLaws.{covered_refused}

module _ (K : Setup) (image : List ℕ) (s : State) (rec : List ℕ) where
  -- "The entry step costs that much"
  pub entry_cost_lem : entry_due (requested s rec) s.mode ≡ true → cost_of K image s rec ≡ K.entry_cost
  unfolding cost_of
  entry_cost_lem due = rw due

  -- so an entry that is not refused adds it to the cycle total
  pub entry_adds : s.cycles < 4294967296 → entry_due (requested s rec) s.mode ≡ true → (step_of K image s rec).stop ≡ 0
      → (step_of K image s rec).state.cycles ≡ (s.cycles + K.entry_cost) % 4294967296
  entry_adds small due goes =
      (step_accounts s small K image rec).completed goes ∙ ap (λ (c : ℕ). (s.cycles + c) % 4294967296) (entry_cost_lem due)

same : (a : Stepped) → SameButCycles a a
same a = record { regs = refl; pc = refl; mode = refl; stop = refl }

module _ (K K' : Setup) (image : List ℕ) (s : State) (rec : List ℕ) (part : K.part ≡ K'.part)
    (valid : valid_machine K image ≡ valid_machine K' image) where
  inputs : inputs_of K.part.grounds rec ≡ inputs_of K'.part.grounds rec
  inputs = ap (λ (p : Part). inputs_of p.grounds rec) part

  -- on one part a step that is no entry is the same whatever an entry costs
  pub other_step : entry_due (requested s rec) s.mode ≡ false → step_of K image s rec ≡ step_of K' image s rec
  unfolding step_of acted_of act_after_requests
  other_step due = rw (due, valid, inputs)

  finish_same : (e : Executed) (c c' : ℕ) → SameButCycles (settled s (finish_of s e false c)) (settled s (finish_of s e false c'))
  unfolding finish_of settled
  finish_same e c c' = on (eqb e.next.stop 0)
    where
      done : Bool → ℕ → Acted
      done b k =
          pick b (record { state = moved_to s e.regs e.next.pc e.next.mode k; stop = 0; retired = false; elapsed = k })
          (refused_act s e.next.stop)

      on : (b : Bool) → SameButCycles (settled s (done b c)) (settled s (done b c'))
      on true = record { regs = refl; pc = refl; mode = refl; stop = refl }
      on false = same _

  -- of any step the cycle total alone depends on it
  pub only_cycles : SameButCycles (step_of K image s rec) (step_of K' image s rec)
  unfolding step_of acted_of act_after_requests
  only_cycles = rw valid (on (valid_machine K' image && eqb (length rec) record_length) (entry_due (requested s rec) s.mode) _ _ inputs)
    where
      on : (b due : Bool) (r r' : List ℕ) → r ≡ r'
          → SameButCycles (pick b (settled s (act_after_requests due K image s (requested s rec) r)) (refuse s 7))
          (pick b (settled s (act_after_requests due K' image s (requested s rec) r')) (refuse s 7))
      on true true r r' e = finish_same (enter_of image (requested s rec) s.pc) K.entry_cost K'.entry_cost
      on true false r r' e = rw e (same _)
      on false due r r' e = same _

-- what is not valid is refused by 7 in every call, and nothing is done
module _ (K : Setup) (image : List ℕ) (s : State) (invalid : valid_machine K image ≡ false) where
  pub step_invalid : (rec : List ℕ) → step_of K image s rec ≡ refuse s 7
  unfolding step_of
  step_invalid rec = rw invalid

  pub run_invalid : (schedule : List ℕ) → run_of K image s schedule ≡ ran s 0 7
  unfolding run_of
  run_invalid schedule = rw invalid

  pub covered_invalid : (schedule m : List ℕ) → Words m → (covered_run K image s schedule (length m) ≡ ran s 0 7) × (covered_map K image s schedule m ≡ m)
  covered_invalid schedule m small = covered_refused K image s schedule m small (rw invalid (and-false (is_map_length (length m))))

module _ (K : Setup) (image : List ℕ) (s : State) (above : greatest_entry_cost < K.entry_cost) where
  -- "7 for .. a step's or run's number above 63"
  too_many : valid_machine K image ≡ false
  too_many = rw (lt-leb K.entry_cost greatest_entry_cost above)

  pub step_above : (rec : List ℕ) → step_of K image s rec ≡ refuse s 7
  step_above rec = step_invalid K image s too_many rec

  pub run_above : (schedule : List ℕ) → run_of K image s schedule ≡ ran s 0 7
  run_above schedule = run_invalid K image s too_many schedule

  pub covered_above : (schedule m : List ℕ) → Words m → (covered_run K image s schedule (length m) ≡ ran s 0 7) × (covered_map K image s schedule m ≡ m)
  covered_above schedule m small = covered_invalid K image s too_many schedule m small
