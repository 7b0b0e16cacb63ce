-- The theorem: every run from reset of an accepted image is as demand 3 says.
-- Assumes nothing.
use Rattle.std.specs.Prelude.{◌≡◌, Bool, ◌||◌, ◌&&◌, List, [], ◌∷◌, T, get_or}
use Rattle.std.proofs.Math.Path.{refl, subst}
use Rattle.std.proofs.Common.{sym, ◌∙◌, ap}
use Rattle.std.proofs.Math.Bool.{true, false}
use Prim.Native.Nat.{ℕ, zero, suc, ◌+◌, ◌/◌, ◌≤◌, ◌<◌}
use native.Mathlib.Omega.{arith}
use Rattle.std.proofs.Math.ListN.{length}
use Rattle.base.specs.declared.RomAddr.{RomAddr}
use Rattle.base.specs.Addresses.{sp_cell, sym_cell}
use Rattle.base.specs.Formula.{eqb_yes, leb_yes}
use Rattle.base.specs.Outcome.{Outcome}
use Rattle.base.specs.Outcome.Outcome.{value}
use Rattle.base.specs.Lengths.{largest_rom, greatest_entry_cost, record_length}
use Rattle.base.specs.Parts.{Part}
use Rattle.isa.specs.declared.FlagSet.{FlagSet}
use Rattle.isa.specs.declared.Instruction.{Instruction}
use Rattle.isa.specs.Map.{cycles_of}
use Rattle.chip.specs.Registers.{inputs_of}
use Rattle.chip.specs.Interrupts.{interrupts_enabled, pending_any, pending_edge}
use Rattle.chip.specs.Reset.{reset_registers}
use Rattle.chip.specs.ResetLaws.{reset_enabled}
use Rattle.chip.specs.InterruptLaws.{enabled_same}
use Rattle.chip.specs.Laws.{inputs_bytes}
use Rattle.decode.specs.Decode.{decode_at}
use Rattle.action.specs.Action.{action_of}
use Rattle.semantics.specs.declared.Mode.{Mode}
use Rattle.semantics.specs.declared.Mode.TheVariants.{Running, Idle, Stopped}
use Rattle.semantics.specs.declared.State.{State}
use Rattle.semantics.specs.Left.{Stepped}
use Rattle.semantics.specs.Operands.{sp_of}
use Rattle.semantics.specs.Execute.{Executed, execute_of}
use Rattle.semantics.specs.Step.{Acted, requested, entry_due, behind, moved_to, idle_cycles, finish_of, enter_of}
use Rattle.semantics.specs.Step.{after_decode, instruction_act, waiting_act, mode_act, act_after_requests, acted_of, settled, valid_machine, step_of}
use Rattle.semantics.specs.Run.{record_at, run_of}
use Rattle.semantics.specs.Reset.{IsReset}
use Rattle.certificate.specs.Layout.{Certificate}
use Rattle.safety.specs.Verdicts.{summary_at, cost_at}
use Rattle.safety.specs.Statement.{Frame, Event, entered, waited, executed, decoded_event, mode_event, due_event, event_of, Monitored, spent, loaded_by, loads_top}
use Rattle.safety.specs.Statement.{setup_for, stepped, acted_state, after_step, monitor_step, EventRight, Within, StepRight, Walk, Schedule, RunRight}
use Rattle.safety.specs.Statement.{from_reset, Demand3, by_reset}
use Rattle.safety.specs.Invariant.{at, Registers, Awake, Invariant, table_of}
use Rattle.safety.specs.Accepted.{Accepts, RulesHold}
use Rattle.safety.proofs.Facts.{Global, rule20_facts, entry_in_rom}
use Rattle.safety.proofs.GlobalFacts.{global}
use Rattle.safety.proofs.Memory.{Input}
use Rattle.safety.proofs.DecodedShape.{decoded_shaped}
use Rattle.safety.proofs.Edge.{CertificateFacts, in_range}
use Rattle.safety.proofs.Plain.{inv_request}
use Rattle.safety.proofs.Bounds.{within_of, stack_of}
use Rattle.safety.proofs.Runs.{record_bytes, record_length_lem, walk_run}
use Rattle.safety.proofs.Interrupts.{service_frame, inv_enter}
use Rattle.safety.proofs.Instruction.{rules_decoded, table_decoded, decoded_at, Right, right}

-- an entry is due only where SYM.2 is 1
first_true : (b c : Bool) → (b && c) ≡ true → b ≡ true
first_true true c h = refl
first_true false c h = h

due_enabled : (r : List ℕ) (mode : Mode) → entry_due r mode ≡ true → interrupts_enabled r ≡ true
unfolding entry_due
due_enabled r Running h = first_true (interrupts_enabled r) (pending_any r) h
due_enabled r Idle h = first_true (interrupts_enabled r) (pending_any r) h
due_enabled r Stopped h = first_true (interrupts_enabled r) (pending_edge r) h

-- what an instruction or an entry leaves where it does not stop
abbrev finished : State → Executed → Bool → ℕ → Acted
finished s e retired cost =
    record { state = moved_to s e.regs e.next.pc e.next.mode cost; stop = 0; retired = retired; elapsed = cost }

finish_is : (s : State) (e : Executed) (retired : Bool) (cost : ℕ) → e.next.stop ≡ 0 → finished s e retired cost ≡ finish_of s e retired cost
unfolding finish_of
finish_is s e retired cost h = rw (eqb_yes h)

module _ (P : Part) (C : Certificate) (image : List ℕ) (fits : P.rom ≤ largest_rom) (ok : Accepts P.rom C image) (facts : CertificateFacts C)
    (size : length image ≡ P.rom) (bytes : (i : ℕ) → get_or image i 0 < 256) where
  whole : Global C image
  whole = global P.rom C image fits ok

  -- the inputs of a step under a record
  abbrev inputs : List ℕ → List ℕ
  inputs rec = inputs_of P.grounds rec

  -- the rules hold at an entry
  rules_there : (a : ℕ) → a < largest_rom → 1 ≤ C.routine a → RulesHold P.rom C image a
  rules_there a h u = ok.rules a (entry_in_rom P.rom C image (rule20_facts P.rom C image ok.r20) a h u) (λ z. omega arith)

  -- a machine with the certificate's cycles of an entry is valid
  valid : valid_machine (setup_for P C) image ≡ true
  valid = rw (leb_yes {b = greatest_entry_cost} (rule20_facts P.rom C image ok.r20).entry_cost, eqb_yes size)

  -- the table of the instruction at each ROM address
  unfoldable pub tables : ℕ → ℕ
  tables a = table_of C a (summary_at C image a)

  -- the invariant of a monitored machine
  pub record Kept (m : Monitored) : Type 0 where
    pub invariant : Invariant C m.loaded m.state.regs m.state.pc.0 m.frames.inner m.frames.outer
    pub awake : Awake m.state.mode

  -- the act x of a step that is the event e
  record Good (m : Monitored) (rec : List ℕ) (x : Acted) (e : Event) : Type 0 where
    goes : x.stop ≡ 0
    event : EventRight P C image tables m rec e x.state.pc.0
    stack : loaded_by C e m.loaded ≡ true → (C.floor ≤ sp_of x.state.regs) × (sp_of x.state.regs ≤ C.top)
    within : Within C ((spent C image e m.state m.frames).inner ∷ (spent C image e m.state m.frames).outer)
    kept : Kept (after_step C image 0 e m x.state x.state)

  -- a step that is the event e, acts as a and settles in x
  record Settles (m : Monitored) (a : Acted) (e : Event) (x : Stepped) : Type 0 where
    goes : x.stop ≡ 0
    kept : Kept (after_step C image 0 e m a.state x.state)

  -- what settles behind a good act keeps the invariant
  good_settled : (m : Monitored) (rec : List ℕ) (a : Acted) (e : Event) → Good m rec a e → Settles m a e (settled m.state a)
  unfolding settled
  good_settled m rec a e g = record { goes = g.goes; kept = g.kept }

  loaded_stack : (b : Bool) (r : List ℕ) (pc : ℕ) (f : Frame) (fs : List Frame) → Invariant C b r pc f fs → b ≡ true
      → (C.floor ≤ at r sp_cell) × (at r sp_cell ≤ C.top)
  loaded_stack true r pc f fs v h = stack_of C r pc f fs v
  loaded_stack false r pc f fs v h = absurd (subst T (sym h) tt)

  module _ (m : Monitored) (rec : List ℕ) (k : Kept m) (input : Input rec) where
    -- the invariant after the requests
    requested_kept : Invariant C m.loaded (requested m.state rec) m.state.pc.0 m.frames.inner m.frames.outer
    requested_kept = inv_request C image whole m.loaded m.state.regs _ m.state.pc.0 m.frames.inner m.frames.outer k.invariant

    -- waiting
    good_waiting : (elapsed : ℕ) → Good m rec (waiting_act m.state (requested m.state rec) elapsed) waited
    good_waiting elapsed =
        let v = requested_kept in
        record {
          goes = refl;
          event = tt;
          stack = loaded_stack m.loaded (requested m.state rec) m.state.pc.0 m.frames.inner m.frames.outer v;
          within = within_of C m.loaded (requested m.state rec) m.state.pc.0 m.frames.inner m.frames.outer v;
          kept = record { invariant = v; awake = k.awake };
        }

    -- an instruction that is right
    good_right : (d : Instruction × ℕ × FlagSet) → decode_at image m.state.pc.0 ≡ value d
        → Right C image m.loaded m.state.pc.0 (action_of d.0 (behind m.state.pc d.1)) d.2 (requested m.state rec) (inputs rec)
        (behind m.state.pc d.1) (cost_at image m.state.pc.0) m.frames
        (execute_of (action_of d.0 (behind m.state.pc d.1)) d.2 image (requested m.state rec) (inputs rec) (behind m.state.pc d.1))
        → Good m rec (after_decode (value d) image m.state (requested m.state rec) (inputs rec)) (decoded_event (value d) m.state.pc)
    unfolding after_decode cost_at tables
    good_right d q r =
        let next = behind m.state.pc d.1 in
        let act = action_of d.0 next in
        let e = execute_of act d.2 image (requested m.state rec) (inputs rec) next in
        subst (λ (x : Acted). Good m rec x (executed act next)) (finish_is m.state e true (cycles_of (get_or image m.state.pc.0 0)) r.goes)
        (record {
          goes = refl;
          event = record {
            named = k.invariant.used;
            begins = k.invariant.home;
            pointers = rw (table_decoded C image m.state.pc.0 d q) r.pointers;
            returning = r.returning;
          };
          stack =
              loaded_stack (loads_top C.top act || m.loaded) e.regs e.next.pc.0 _ _
              (r.keeps (finished m.state e true (cycles_of (get_or image m.state.pc.0 0))).state refl);
          within = r.within;
          kept = record { invariant = r.keeps (finished m.state e true (cycles_of (get_or image m.state.pc.0 0))).state refl; awake = r.awake };
        })

  -- main alone, at 0100H, SP not loaded, interrupts off
  reset_invariant : (r : List ℕ) → Registers r → interrupts_enabled r ≡ false
      → Invariant C false r 0x100 (record { routine = 1; return_to = 0; cycles = 0; opener = by_reset }) []
  reset_invariant r g off = record {
    in_entries = omega arith;
    home = whole.main_routine;
    used = let z = whole.main_routine in omega arith;
    registers = g;
    claims = λ x hx.
        in_range C 0x100 x (at r x) (λ q. absurd (let z = whole.main_first in omega arith)) (λ q. absurd (let z = whole.main_second in omega arith)) (g.bytes x);
    compare = λ h. absurd (let z = whole.main_compare in omega arith);
    enabled = λ h. absurd (subst T (sym h ∙ off) tt);
    cost = λ n. absurd (n refl);
    stack = record { unloaded = whole.main_depth; main = refl; reset = refl; alone = refl };
  }

  reset_kept : (s : State) → IsReset s → Kept (from_reset s)
  reset_kept s h =
      let g : Registers s.regs = record { size = h.size; bytes = h.bytes; flags = h.flags } in
      let e : at s.regs sym_cell ≡ at reset_registers sym_cell = h.control sym_cell (omega arith) (omega arith) (omega arith) (omega arith) (omega arith) (omega arith) in
      let off : interrupts_enabled s.regs ≡ false = enabled_same reset_registers s.regs e ∙ reset_enabled in
      let q : s.pc.0 ≡ 0x100 = ap (λ (p : RomAddr). p.0) h.counter in
      record {
        invariant = subst (λ (n : ℕ). Invariant C false s.regs n (record { routine = 1; return_to = 0; cycles = 0; opener = by_reset }) []) (sym q) (reset_invariant s.regs g off);
        awake = subst Awake (sym h.mode) tt;
      }

  -- the instruction at the program counter
  instruction_right : (m : Monitored) (rec : List ℕ) → Kept m → Input rec → (d : Instruction × ℕ × FlagSet) → decode_at image m.state.pc.0 ≡ value d
      → Right C image m.loaded m.state.pc.0 (action_of d.0 (behind m.state.pc d.1)) d.2 (requested m.state rec) (inputs rec)
      (behind m.state.pc d.1) (cost_at image m.state.pc.0) m.frames
      (execute_of (action_of d.0 (behind m.state.pc d.1)) d.2 image (requested m.state rec) (inputs rec) (behind m.state.pc d.1))
  instruction_right m rec k input d q =
      let a = m.state.pc.0 in
      let v = k.invariant in
      let next = behind m.state.pc d.1 in
      right P.rom C image fits ok facts size bytes m.loaded a (action_of d.0 next) d.2 (requested m.state rec) (inputs rec) next (cost_at image a) m.frames
      (decoded_shaped image bytes a d q next) (inputs_bytes P.grounds rec input)
      (rules_decoded P.rom C image a d q (rules_there a v.in_entries v.used)) (requested_kept m rec k input)

  -- an interrupt entry
  good_entered : (m : Monitored) (rec : List ℕ) → Kept m → Input rec → interrupts_enabled (requested m.state rec) ≡ true
      → Good m rec (finish_of m.state (enter_of image (requested m.state rec) m.state.pc) false C.entry_cost) entered
  good_entered m rec k input on =
      let e = enter_of image (requested m.state rec) m.state.pc in
      let w = inv_enter C image whole facts m.loaded (requested m.state rec) m.state.pc m.frames.inner m.frames.outer (requested_kept m rec k input) on in
      let i : Invariant C m.loaded e.regs e.next.pc.0 (service_frame C m.state.pc.0) (m.frames.inner ∷ m.frames.outer)
      = subst (λ (n : ℕ). Invariant C m.loaded e.regs n (service_frame C m.state.pc.0) (m.frames.inner ∷ m.frames.outer)) (sym w.counter) w.invariant in
      subst (λ (x : Acted). Good m rec x entered) (finish_is m.state e false C.entry_cost w.goes)
      (record {
        goes = refl;
        event = tt;
        stack = loaded_stack m.loaded e.regs e.next.pc.0 _ _ i;
        within = within_of C m.loaded e.regs e.next.pc.0 _ _ i;
        kept = record { invariant = i; awake = w.mode };
      })

  module _ (m : Monitored) (rec : List ℕ) (k : Kept m) (input : Input rec) where
    good_decoded : Good m rec (instruction_act image m.state (requested m.state rec) (inputs rec)) (decoded_event (decode_at image m.state.pc.0) m.state.pc)
    unfolding instruction_act
    good_decoded =
        let v = k.invariant in
        let h = rules_there m.state.pc.0 v.in_entries v.used in
        let d = decoded_at P.rom C image m.state.pc.0 h in
        subst (λ (o : Outcome (Instruction × ℕ × FlagSet)). Good m rec (after_decode o image m.state (requested m.state rec) (inputs rec)) (decoded_event o m.state.pc))
        (sym d.1) (good_right m rec k input d.0 d.1 (instruction_right m rec k input d.0 d.1))

    good_mode : (mode : Mode) → Awake mode → Good m rec (mode_act mode image m.state (requested m.state rec) (inputs rec)) (mode_event mode image m.state.pc)
    unfolding mode_act
    good_mode Running h = good_decoded
    good_mode Idle h = good_waiting m rec k input idle_cycles
    good_mode Stopped h = absurd h

    good_due : (b : Bool) → entry_due (requested m.state rec) m.state.mode ≡ b
        → Good m rec (act_after_requests b (setup_for P C) image m.state (requested m.state rec) (inputs rec)) (due_event b m.state.mode image m.state.pc)
    unfolding act_after_requests
    good_due true q = good_entered m rec k input (due_enabled (requested m.state rec) m.state.mode q)
    good_due false q = good_mode m.state.mode k.awake

    -- the act of the step
    abbrev acted : Acted
    acted = acted_of (setup_for P C) image m.state rec

    good_act : Good m rec acted (event_of image m.state rec)
    unfolding acted_of event_of
    good_act = good_due (entry_due (requested m.state rec) m.state.mode) refl

    good_step : length rec ≡ record_length → Settles m acted (event_of image m.state rec) (stepped P C image m rec)
    unfolding step_of
    good_step h = rw (valid, h) (good_settled m rec acted (event_of image m.state rec) good_act)

    step_right : length rec ≡ record_length → StepRight P C image tables m rec
    step_right h = let g = good_act in record { goes = (good_step h).goes; event = g.event; stack = g.stack; within = g.within }

    step_kept : length rec ≡ record_length → Kept (monitor_step P C image m rec)
    unfolding monitor_step
    step_kept h =
        let g = good_step h in
        subst (λ (n : ℕ). Kept (after_step C image n (event_of image m.state rec) m (acted_state P C image m rec) (stepped P C image m rec).state))
        (sym g.goes) g.kept

  walk : (k : ℕ) (schedule : List ℕ) → ((i : ℕ) → get_or schedule i 0 < 256) → (i : ℕ) → k + i ≤ length schedule / record_length → (m : Monitored)
      → Kept m → Walk P C image k tables schedule i m
  walk zero schedule b i h m p = tt
  walk (suc k) schedule b i h m p =
      let rec = record_at schedule i in
      let input = record_bytes schedule b i in
      let l = record_length_lem schedule i (omega arith) in
      (step_right m rec p input l, walk k schedule b (i + 1) (omega arith) (monitor_step P C image m rec) (step_kept m rec p input l))

  run_right : (s : State) → IsReset s → (schedule : List ℕ) → Schedule schedule → RunRight P C image tables s schedule
  unfolding run_of
  run_right s h schedule sc =
      let n = length schedule / record_length in
      let w : Walk P C image n tables schedule 0 (from_reset s) = walk n schedule sc.bytes 0 (omega arith) (from_reset s) (reset_kept s h) in
      let d = walk_run P C image n tables schedule 0 (from_reset s) w in
      let z : 0 + n ≡ n = omega arith in
      record { steps = rw (valid, sc.whole) (d.0 ∙ z); stop = rw (valid, sc.whole) d.1; walk = w }

  -- demand 3 for a certificate that breaks no rule
  pub demand_met : Demand3 P C image
  demand_met = (tables, run_right)
