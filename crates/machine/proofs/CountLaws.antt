-- Laws of what a run counts: its steps are the completed ones, its cycle total has their costs modulo 2^32; and the state that it returns.
-- Assumes nothing.
use Rattle.std.specs.Prelude.{ℕ, zero, suc, ◌+◌, ◌/◌, ◌%◌, ◌<◌, ◌≡◌, Bool, ◌&&◌, List, length, get_or}
use Rattle.std.proofs.Common.{◌∙◌, ap, arith, eqb-true}
use Rattle.std.proofs.Math.Path.{refl}
use Rattle.std.proofs.Math.Bool.{true, false}
use Rattle.std.proofs.Math.Dec.{eqb}
use Rattle.std.proofs.lemmas.Bool.{eqb-false}
use Rattle.base.specs.Choice.{pick}
use Rattle.base.specs.ChoiceLaws.{pick_has}
use Rattle.base.specs.Outcome.{Outcome}
use Rattle.base.specs.Outcome.Outcome.{value, refused}
use Rattle.base.specs.Lengths.{record_length}
use Rattle.isa.specs.declared.FlagSet.{FlagSet}
use Rattle.isa.specs.declared.Instruction.{Instruction}
use Rattle.decode.specs.Decode.{decode_at}
use Rattle.chip.specs.Registers.{inputs_of}
use Rattle.semantics.specs.Setup.{Setup}
use Rattle.semantics.specs.declared.Mode.{Mode}
use Rattle.semantics.specs.declared.Mode.TheVariants.{Running, Idle, Stopped}
use Rattle.semantics.specs.declared.State.{State}
use Rattle.semantics.specs.Left.{Stepped, Ran}
use Rattle.semantics.specs.Execute.{Executed}
use Rattle.semantics.specs.Step.{Acted, entry_due, finish_of, after_decode, instruction_act, mode_act, act_after_requests, requested, acted_of, settled, valid_machine, step_of}
use Rattle.semantics.specs.Run.{ran, record_at, run_from, run_of}
use Rattle.semantics.specs.Refusals.{step_stops}
use Rattle.machine.specs.Count.{decoded_cost, mode_cost, cost_of, completed_of, costs_of, state_behind, completed_steps, total_cost, Accounts, Counted}

module _ (s : State) (small : s.cycles < 4294967296) where
  same_total : s.cycles ≡ (s.cycles + 0) % 4294967296
  same_total = omega arith

  -- the first half of the step
  abbrev ActAccounts : ℕ → Acted → Type 0
  ActAccounts cost a = Accounts s cost a.state a.stop

  refuse_accounts : (n cost : ℕ) → (n ≡ 0 → ⊥) → Accounts s cost s n
  refuse_accounts n cost h = record { completed = λ z. absurd (h z); refused = λ _. refl }

  finish_accounts : (e : Executed) (retired : Bool) (cost : ℕ) → ActAccounts cost (finish_of s e retired cost)
  unfolding finish_of
  finish_accounts e retired cost =
      pick_has (ActAccounts cost) (eqb e.next.stop 0) _ _
      (λ _. record { completed = λ _. refl; refused = λ h. absurd (h refl) })
      (λ h. refuse_accounts e.next.stop cost (eqb-false e.next.stop 0 h))

  decode_accounts : (o : Outcome (Instruction × ℕ × FlagSet)) (image regs rec : List ℕ)
      → ActAccounts (decoded_cost o (get_or image s.pc.0 0)) (after_decode o image s regs rec)
  unfolding decoded_cost after_decode
  decode_accounts (value d) image regs rec = finish_accounts _ true _
  decode_accounts (refused n) image regs rec = record { completed = λ _. same_total; refused = λ _. refl }

  mode_accounts : (m : Mode) (image regs rec : List ℕ) → ActAccounts (mode_cost m image s.pc) (mode_act m image s regs rec)
  unfolding mode_cost mode_act instruction_act
  mode_accounts Running image regs rec = decode_accounts (decode_at image s.pc.0) image regs rec
  mode_accounts Idle image regs rec = record { completed = λ _. refl; refused = λ h. absurd (h refl) }
  mode_accounts Stopped image regs rec = record { completed = λ _. refl; refused = λ h. absurd (h refl) }

  due_accounts : (b : Bool) (K : Setup) (image regs rec : List ℕ)
      → ActAccounts (pick b K.entry_cost (mode_cost s.mode image s.pc)) (act_after_requests b K image s regs rec)
  unfolding act_after_requests
  due_accounts true K image regs rec = finish_accounts _ false K.entry_cost
  due_accounts false K image regs rec = mode_accounts s.mode image regs rec

  -- what settles keeps the cycle total and the number
  settled_accounts : (cost : ℕ) (a : Acted) → ActAccounts cost a → Accounts s cost (settled s a).state (settled s a).stop
  unfolding settled
  settled_accounts cost a h = h

  pub step_accounts : (K : Setup) (image rec : List ℕ) → Accounts s (cost_of K image s rec) (step_of K image s rec).state (step_of K image s rec).stop
  unfolding step_of acted_of cost_of
  step_accounts K image rec =
      pick_has (λ (r : Stepped). Accounts s (cost_of K image s rec) r.state r.stop) (valid_machine K image && eqb (length rec) record_length) _ _
      (λ _. settled_accounts _ _ (due_accounts (entry_due (requested s rec) s.mode) K image (requested s rec) (inputs_of K.part.grounds rec)))
      (λ _. refuse_accounts 7 _ (λ h. absurd (omega (arith, h))))

-- the steps of a run are the completed ones
pub run_steps : (k : ℕ) (K : Setup) (image schedule : List ℕ) (i : ℕ) (s : State)
    → (run_from k K image schedule i s).steps ≡ i + completed_of k K image schedule i s
unfolding run_from completed_of
run_steps zero K image schedule i s = omega arith
run_steps (suc k) K image schedule i s = on (eqb r.stop 0) (run_steps k K image schedule (i + 1) r.state)
  where
    r : Stepped
    r = step_of K image s (record_at schedule i)

    on : (b : Bool) → (run_from k K image schedule (i + 1) r.state).steps ≡ i + 1 + completed_of k K image schedule (i + 1) r.state
        → (elim b as (λ _. Ran) [ true ↦ run_from k K image schedule (i + 1) r.state | false ↦ ran r.state i r.stop ]).steps
        ≡ i + (elim b as (λ _. ℕ) [ true ↦ suc (completed_of k K image schedule (i + 1) r.state) | false ↦ 0 ])
    on true rest = omega arith
    on false rest = omega arith

sums : (a b c d : ℕ) → d ≡ (a + b) % 4294967296 → (d + c) % 4294967296 ≡ (a + (b + c)) % 4294967296
sums a b c d e = omega arith

-- the cycle total of a run is the start's plus the completed steps' costs
pub run_cycles : (k : ℕ) (K : Setup) (image schedule : List ℕ) (i : ℕ) (s : State) → s.cycles < 4294967296
    → (run_from k K image schedule i s).state.cycles ≡ (s.cycles + costs_of k K image schedule i s) % 4294967296
unfolding run_from costs_of
run_cycles zero K image schedule i s small = same_total s small
run_cycles (suc k) K image schedule i s small = on (eqb r.stop 0) refl (run_cycles k K image schedule (i + 1) r.state)
  where
    r : Stepped
    r = step_of K image s (record_at schedule i)

    cost : ℕ
    cost = cost_of K image s (record_at schedule i)

    on : (b : Bool) → eqb r.stop 0 ≡ b
        → (r.state.cycles < 4294967296
        → (run_from k K image schedule (i + 1) r.state).state.cycles ≡ (r.state.cycles + costs_of k K image schedule (i + 1) r.state) % 4294967296)
        → (elim b as (λ _. Ran) [ true ↦ run_from k K image schedule (i + 1) r.state | false ↦ ran r.state i r.stop ]).state.cycles
        ≡ (s.cycles + (elim b as (λ _. ℕ) [ true ↦ cost + costs_of k K image schedule (i + 1) r.state | false ↦ 0 ])) % 4294967296
    on true h rest =
        let e = (step_accounts s small K image (record_at schedule i)).completed (eqb-true r.stop 0 h) in
        let b : r.state.cycles < 4294967296 = omega (arith, e) in
        rest b ∙ sums s.cycles cost _ r.state.cycles e
    on false h rest = ap (λ (x : State). x.cycles) ((step_accounts s small K image (record_at schedule i)).refused (eqb-false r.stop 0 h)) ∙ same_total s small

-- a run returns the state behind its completed steps, which is the state before the step that was refused
run_from_state : (k : ℕ) (K : Setup) (image schedule : List ℕ) (i : ℕ) (s : State)
    → (run_from k K image schedule i s).state ≡ state_behind (completed_of k K image schedule i s) K image schedule i s
unfolding run_from completed_of state_behind
run_from_state zero K image schedule i s = refl
run_from_state (suc k) K image schedule i s = on (eqb r.stop 0) refl (run_from_state k K image schedule (i + 1) r.state)
  where
    r : Stepped
    r = step_of K image s (record_at schedule i)

    on : (b : Bool) → eqb r.stop 0 ≡ b
        → (run_from k K image schedule (i + 1) r.state).state
        ≡ state_behind (completed_of k K image schedule (i + 1) r.state) K image schedule (i + 1) r.state
        → (elim b as (λ _. Ran) [ true ↦ run_from k K image schedule (i + 1) r.state | false ↦ ran r.state i r.stop ]).state
        ≡ state_behind (elim b as (λ _. ℕ) [ true ↦ suc (completed_of k K image schedule (i + 1) r.state) | false ↦ 0 ]) K image schedule i s
    on true h rest = rest
    on false h rest = (step_stops s K image (record_at schedule i)).unchanged (eqb-false r.stop 0 h)

pub run_state : (K : Setup) (image schedule : List ℕ) (s : State)
    → (run_of K image s schedule).state ≡ state_behind (completed_steps K image s schedule) K image schedule 0 s
unfolding run_of completed_steps state_behind
run_state K image schedule s = on (valid_machine K image && eqb (length schedule % record_length) 0)
  where
    n : ℕ
    n = length schedule / record_length

    on : (b : Bool)
        → (pick b (run_from n K image schedule 0 s) (ran s 0 7)).state ≡ state_behind (pick b (completed_of n K image schedule 0 s) 0) K image schedule 0 s
    on true = run_from_state n K image schedule 0 s
    on false = refl

-- a run answers the number of its completed steps
pub steps_completed : (K : Setup) (image schedule : List ℕ) (s : State) → (run_of K image s schedule).steps ≡ completed_steps K image s schedule
unfolding run_of completed_steps
steps_completed K image schedule s = on (valid_machine K image && eqb (length schedule % record_length) 0)
  where
    n : ℕ
    n = length schedule / record_length

    on : (b : Bool) → (pick b (run_from n K image schedule 0 s) (ran s 0 7)).steps ≡ pick b (completed_of n K image schedule 0 s) 0
    on true = omega (arith, run_steps n K image schedule 0 s)
    on false = refl

pub run_counted : (K : Setup) (image schedule : List ℕ) (s : State) → s.cycles < 4294967296
    → Counted (completed_steps K image s schedule) (total_cost K image s schedule) s (run_of K image s schedule)
unfolding run_of total_cost
run_counted K image schedule s small =
    record { steps = steps_completed K image schedule s; cycles = on (valid_machine K image && eqb (length schedule % record_length) 0) }
  where
    n : ℕ
    n = length schedule / record_length

    on : (b : Bool)
        → (pick b (run_from n K image schedule 0 s) (ran s 0 7)).state.cycles ≡ (s.cycles + pick b (costs_of n K image schedule 0 s) 0) % 4294967296
    on true = run_cycles n K image schedule 0 s small
    on false = same_total s small

-- the same of what is equal to the run
pub counts_too : (K : Setup) (image schedule : List ℕ) (s : State) (r : Ran) → s.cycles < 4294967296 → r ≡ run_of K image s schedule
    → (r ≡ run_of K image s schedule) × Counted (completed_steps K image s schedule) (total_cost K image s schedule) s r
counts_too K image schedule s r small e = (e, rw e (run_counted K image schedule s small))
