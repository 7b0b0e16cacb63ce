-- A step or a run is refused by 7 or 10 to 14, by 7 only for a wrong length; a refused step leaves the state before it.
-- Assumes nothing.
use Rattle.std.specs.Prelude.{ℕ, zero, suc, ◌+◌, ◌/◌, ◌%◌, ◌≤◌, ◌≡◌, ◌≢◌, ◌⊎◌, Bool, ◌&&◌, List, length, get_or, ltb}
use Rattle.std.proofs.Math.Path.{refl}
use Rattle.std.proofs.Math.Logic.{inl, inr, ⊎_elim}
use Rattle.std.proofs.Math.Bool.{true, false}
use Rattle.std.proofs.Common.{arith, length-take, length-drop}
use Rattle.std.proofs.Math.Dec.{eqb}
use Rattle.base.specs.declared.RomAddr.{RomAddr}
use Rattle.base.specs.Addresses.{rom_addr, stopcon_cell}
use Rattle.base.specs.Choice.{pick}
use Rattle.base.specs.ChoiceLaws.{pick_has}
use Rattle.base.specs.Formula.{eqb_yes}
use Rattle.base.specs.Outcome.{Outcome}
use Rattle.base.specs.Outcome.Outcome.{value, refused}
use Rattle.base.specs.Lengths.{record_length}
use Rattle.isa.specs.declared.FlagSet.{FlagSet}
use Rattle.isa.specs.declared.Instruction.{Instruction}
use Rattle.decode.specs.Decode.{decode_at}
use Rattle.decode.specs.Refusals.{decode_number}
use Rattle.action.specs.declared.Action.{Action}
use Rattle.chip.specs.Registers.{mapped_of, load_of}
use Rattle.semantics.specs.Setup.{Setup}
use Rattle.semantics.specs.declared.Mode.{Mode}
use Rattle.semantics.specs.declared.Mode.TheVariants.{Running, Idle, Stopped}
use Rattle.semantics.specs.Left.{Next, Stepped, Ran}
use Rattle.semantics.specs.declared.State.{State}
use Rattle.semantics.specs.Operands.{place_of, fetch_of, with_flags, lowered, raised, store_top, push_of, push_address, word_at, word_mapped, sp_of, flags_of}
use Rattle.semantics.specs.Execute.{code_address, Executed, goes_on, in_rom, leaves, binary_of, modify_of, load_into, push_operand, pop_operand, load_code_of, load_code_step_of}
use Rattle.semantics.specs.Execute.{jump_of, jump_pair_of, call_of, call_pair_of, return_of, interrupt_return_of, carry_of, stop_of, execute_of}
use Rattle.semantics.specs.Step.{Acted, entry_due, finish_of, enter_of, after_decode, instruction_act, mode_act, act_after_requests, requested, acted_of, settled, valid_machine, step_of}
use Rattle.semantics.specs.Run.{ran, record_at, run_from, run_of}

-- 0, or a number by which an action is refused
abbrev ActionNumber : ℕ → Type 0
ActionNumber n = (n ≡ 0) ⊎ ((13 ≤ n) × (n ≤ 14))

abbrev Ends : Next → Type 0
Ends next = ActionNumber next.stop

goes_on_lem : (ok : Bool) (pc : RomAddr) → Ends (goes_on ok pc)
goes_on_lem true pc = inl refl
goes_on_lem false pc = inr (omega arith, omega arith)

in_rom_lem : (image : List ℕ) (a : ℕ) (pc : RomAddr) → Ends (in_rom image a pc)
in_rom_lem image a pc = pick_has ActionNumber (ltb a (length image)) 0 14 (λ _. inl refl) (λ _. inr (omega arith, omega arith))

execute_ends : (act : Action) (n : FlagSet) (image regs rec : List ℕ) (pc : RomAddr) → Ends (execute_of act n image regs rec pc).next
unfolding execute_of binary_of modify_of load_into push_operand pop_operand load_code_of load_code_step_of jump_of jump_pair_of call_of call_pair_of return_of interrupt_return_of carry_of stop_of
execute_ends (Action.Binary op d s) n image regs rec pc = goes_on_lem ((place_of regs rec d).ok && (fetch_of regs rec s).ok) pc
execute_ends (Action.Modify op d) n image regs rec pc = goes_on_lem (place_of regs rec d).ok pc
execute_ends (Action.Load d s) n image regs rec pc = goes_on_lem ((place_of regs rec d).ok && (fetch_of regs rec s).ok) pc
execute_ends (Action.Push s) n image regs rec pc =
    let q = fetch_of (lowered regs) rec s in
    goes_on_lem (q.ok && (store_top (lowered regs) q.value).ok) pc
execute_ends (Action.Pop d) n image regs rec pc = goes_on_lem ((place_of regs rec d).ok && mapped_of (sp_of regs)) pc
execute_ends (Action.LoadCode d c) n image regs rec pc = in_rom_lem image (code_address c regs rec) pc
execute_ends (Action.LoadCodeStep d p up) n image regs rec pc = in_rom_lem image (word_at regs rec p.0) pc
execute_ends Action.External n image regs rec pc = inr (omega arith, omega arith)
execute_ends (Action.Jump cc to) n image regs rec pc = inl refl
execute_ends (Action.JumpPair p) n image regs rec pc = goes_on_lem (word_mapped p.0) pc
execute_ends (Action.Call to) n image regs rec pc = goes_on_lem (push_address regs pc).ok pc
execute_ends (Action.CallPair p) n image regs rec pc = goes_on_lem ((push_address regs pc).ok && word_mapped p.0) pc
execute_ends Action.Return n image regs rec pc = goes_on_lem (word_mapped (sp_of regs)) pc
execute_ends Action.InterruptReturn n image regs rec pc =
    let r = raised (with_flags regs n (load_of regs rec (sp_of regs))) 1 in
    goes_on_lem (mapped_of (sp_of regs) && word_mapped (sp_of r)) pc
execute_ends (Action.Carry change) n image regs rec pc = inl refl
execute_ends (Action.Interrupts on) n image regs rec pc = inl refl
execute_ends Action.Idle n image regs rec pc = inl refl
execute_ends Action.Stop n image regs rec pc =
    pick_has Ends (eqb (get_or regs stopcon_cell 0) 0xA5) (leaves pc Stopped 0) (leaves (rom_addr 0x100) Running 0) (λ _. inl refl) (λ _. inl refl)
execute_ends Action.Nop n image regs rec pc = inl refl

-- 0, or a number by which a step is refused
abbrev pub StepNumber : ℕ → Type 0
StepNumber n = (n ≡ 0) ⊎ (n ≡ 7) ⊎ ((10 ≤ n) × (n ≤ 14))

-- 0, or a number by which an act is refused
abbrev ActNumber : ℕ → Type 0
ActNumber n = (n ≡ 0) ⊎ ((10 ≤ n) × (n ≤ 14))

-- what a step from s ends in: its number, and where it is refused the state before it
pub record Stops (s after : State) (n : ℕ) : Type 0 where
  pub number : StepNumber n
  pub unchanged : n ≢ 0 → after ≡ s

widened : {n : ℕ} → ActionNumber n → ActNumber n
widened {n} (inl z) = inl z
widened {n} (inr h) = inr (omega (arith, h.0), omega (arith, h.1))

not_seven : {n : ℕ} → ActNumber n → n ≢ 7
not_seven {n} (inl z) = omega (arith, z)
not_seven {n} (inr h) =
    let l = h.0 in
    omega (arith, l)

enter_ends : (image regs : List ℕ) (pc : RomAddr) → Ends (enter_of image regs pc).next
unfolding enter_of
enter_ends image regs pc =
    let a = push_address regs pc in
    goes_on_lem (a.ok && (push_of a.regs (flags_of a.regs)).ok) pc

module _ (s : State) where
  record ActStops (a : Acted) : Type 0 where
    number : ActNumber a.stop
    unchanged : a.stop ≢ 0 → a.state ≡ s

  finish_stops : (e : Executed) (retired : Bool) (cost : ℕ) → Ends e.next → ActStops (finish_of s e retired cost)
  unfolding finish_of
  finish_stops e retired cost h =
      pick_has ActStops (eqb e.next.stop 0) _ _
      (λ _. record { number = inl refl; unchanged = λ ne. absurd (ne refl) }) (λ _. record { number = widened h; unchanged = λ _. refl })

  decode_stops : (o : Outcome (Instruction × ℕ × FlagSet)) (image regs rec : List ℕ) → decode_at image s.pc.0 ≡ o
      → ActStops (after_decode o image s regs rec)
  unfolding after_decode
  decode_stops (value d) image regs rec e = finish_stops _ true _ (execute_ends _ _ image regs rec _)
  decode_stops (refused n) image regs rec e =
      let h = decode_number image s.pc.0 n e in
      record { number = inr (h.0, omega (arith, h.1)); unchanged = λ _. refl }

  mode_stops : (m : Mode) (image regs rec : List ℕ) → ActStops (mode_act m image s regs rec)
  unfolding mode_act instruction_act
  mode_stops Running image regs rec = decode_stops (decode_at image s.pc.0) image regs rec refl
  mode_stops Idle image regs rec = record { number = inl refl; unchanged = λ ne. absurd (ne refl) }
  mode_stops Stopped image regs rec = record { number = inl refl; unchanged = λ ne. absurd (ne refl) }

  act_stops : (b : Bool) (K : Setup) (image regs rec : List ℕ) → ActStops (act_after_requests b K image s regs rec)
  unfolding act_after_requests
  act_stops true K image regs rec = finish_stops _ false K.entry_cost (enter_ends image regs s.pc)
  act_stops false K image regs rec = mode_stops s.mode image regs rec

  -- what settles keeps the number, and a refused act's state
  settled_stops : (a : Acted) → ActStops a → Stops s (settled s a).state (settled s a).stop
  unfolding settled
  settled_stops a h = record { number = ⊎_elim inl (λ n. inr (inr n)) h.number; unchanged = h.unchanged }

  settled_not_seven : (a : Acted) → ActStops a → (settled s a).stop ≢ 7
  unfolding settled
  settled_not_seven a h = not_seven h.number

  -- 7 is for the configuration and for lengths alone
  pub step_not_seven : (K : Setup) (image rec : List ℕ) → (valid_machine K image && eqb (length rec) record_length) ≡ true → (step_of K image s rec).stop ≢ 7
  unfolding step_of acted_of
  step_not_seven K image rec e = rw e (settled_not_seven _ (act_stops (entry_due (requested s rec) s.mode) K image (requested s rec) _))

  pub step_stops : (K : Setup) (image rec : List ℕ) → Stops s (step_of K image s rec).state (step_of K image s rec).stop
  unfolding step_of acted_of
  step_stops K image rec =
      pick_has (λ (r : Stepped). Stops s r.state r.stop) (valid_machine K image && eqb (length rec) record_length) _ _
      (λ _. settled_stops _ (act_stops (entry_due (requested s rec) s.mode) K image (requested s rec) _))
      (λ _. record { number = inr (inl refl); unchanged = λ _. refl })

run_from_number : (k : ℕ) (K : Setup) (image schedule : List ℕ) (i : ℕ) (s : State) → StepNumber (run_from k K image schedule i s).stop
unfolding run_from
run_from_number zero K image schedule i s = inl refl
run_from_number (suc k) K image schedule i s = on (eqb r.stop 0) (run_from_number k K image schedule (i + 1) r.state)
  where
    r : Stepped
    r = step_of K image s (record_at schedule i)

    on : (b : Bool) → StepNumber (run_from k K image schedule (i + 1) r.state).stop
        → StepNumber (elim b as (λ _. Ran) [ true ↦ run_from k K image schedule (i + 1) r.state | false ↦ ran r.state i r.stop ]).stop
    on true rest = rest
    on false rest = (step_stops s K image (record_at schedule i)).number

pub run_number : (K : Setup) (image schedule : List ℕ) (s : State) → StepNumber (run_of K image s schedule).stop
unfolding run_of
run_number K image schedule s =
    pick_has (λ (r : Ran). StepNumber r.stop) (valid_machine K image && eqb (length schedule % record_length) 0) _ _
    (λ _. run_from_number (length schedule / record_length) K image schedule 0 s) (λ _. inr (inl refl))

-- a run over the records that a schedule has, on what is valid
run_from_not_seven : (k : ℕ) (K : Setup) (image schedule : List ℕ) (i : ℕ) (s : State) → valid_machine K image ≡ true → i + k ≤ length schedule / record_length
    → (run_from k K image schedule i s).stop ≢ 7
unfolding run_from
run_from_not_seven zero K image schedule i s e h = omega arith
run_from_not_seven (suc k) K image schedule i s e h =
    on (eqb r.stop 0) (run_from_not_seven k K image schedule (i + 1) r.state e (omega (arith, h)))
  where
    r : Stepped
    r = step_of K image s (record_at schedule i)

    whole : length (record_at schedule i) ≡ record_length
    whole = simp (length-take, length-drop) (omega (arith, h))

    on : (b : Bool) → (run_from k K image schedule (i + 1) r.state).stop ≢ 7
        → (elim b as (λ _. Ran) [ true ↦ run_from k K image schedule (i + 1) r.state | false ↦ ran r.state i r.stop ]).stop ≢ 7
    on true rest = rest
    on false rest = step_not_seven s K image (record_at schedule i) (rw (e, eqb_yes whole))

-- so a run is refused by 7 only where the configuration or a length is wrong
pub run_seven : (K : Setup) (image schedule : List ℕ) (s : State) → (run_of K image s schedule).stop ≡ 7
    → (valid_machine K image && eqb (length schedule % record_length) 0) ≡ false
unfolding run_of
run_seven K image schedule s = on (valid_machine K image) (eqb (length schedule % record_length) 0) refl
  where
    n : ℕ
    n = length schedule / record_length

    on : (a b : Bool) → valid_machine K image ≡ a → (pick (a && b) (run_from n K image schedule 0 s) (ran s 0 7)).stop ≡ 7 → (a && b) ≡ false
    on true true e h = absurd (run_from_not_seven n K image schedule 0 s e (omega arith) h)
    on true false e h = refl
    on false b e h = refl
