-- One instruction of an accepted program, from the invariant: it does not stop, it is right, and it keeps the invariant.
-- Assumes nothing.
use Rattle.std.specs.Prelude.{◌≡◌, refl, Bool, ◌||◌, ℕ, ◌+◌, ◌%◌, ◌≤◌, ◌<◌, length, get_or}
use Rattle.std.proofs.Common.{sym, ◌∙◌}
use Rattle.std.proofs.Math.Path.{subst, ap}
use mathlib.Core.List.{List, ◌∷◌}
use Rattle.base.specs.declared.RomAddr.{RomAddr}
use Rattle.base.specs.Addresses.{rom_addr, flags_cell}
use Rattle.base.specs.Choice.{pick}
use Rattle.base.specs.Formula.{Holds}
use Rattle.base.specs.Outcome.{Outcome}
use Rattle.base.specs.Outcome.Outcome.{value, refused}
use Rattle.base.specs.Lengths.{largest_rom}
use Rattle.isa.specs.declared.FlagSet.{FlagSet}
use Rattle.isa.specs.Flags.{all_flags}
use Rattle.isa.specs.declared.Instruction.{Instruction}
use Rattle.alu.specs.Flags.{condition}
use Rattle.decode.specs.Decode.{decode_at}
use Rattle.action.specs.declared.Action.{Action}
use Rattle.action.specs.Action.{action_of}
use Rattle.semantics.specs.declared.State.{State}
use Rattle.semantics.specs.Execute.{Executed, execute_of}
use Rattle.certificate.specs.declared.Range.{Range}
use Rattle.certificate.specs.declared.CodeAccess.{CodeAccess}
use Rattle.certificate.specs.declared.Summary.{Summary}
use Rattle.certificate.specs.declared.Flow.{Flow}
use Rattle.certificate.specs.declared.Flow.TheVariants.{Step, Call, Return, InterruptReturn, Forbidden}
use Rattle.certificate.specs.Layout.{Certificate}
use Rattle.safety.specs.Rules.{flow_allowed, rule22, rule25}
use Rattle.certificate.specs.Summaries.{summary_of}
use Rattle.safety.specs.CodeRange.{load_range}
use Rattle.safety.specs.Verdicts.{summary_from, size_from, summary_at, next_at, cost_at}
use Rattle.safety.specs.Statement.{Frame, Open, transfer_of, loads_top, charge, outward, spends, closing, PointersRight, ReturnsRight, Within, transferred, Opener, by_call, by_interrupt}
use Rattle.safety.specs.Invariant.{at, Awake, Invariant, Shaped, table_of, FlagsAfter}
use Rattle.safety.specs.Accepted.{Accepts, RulesHold}
use Rattle.safety.proofs.Facts.{Global}
use Rattle.safety.proofs.GlobalFacts.{global}
use Rattle.safety.proofs.Memory.{Input}
use Rattle.safety.specs.StepRules.{StepRules}
use Rattle.safety.proofs.Transfers.{step_stays, is_call, is_return, is_interrupt_return, loaded_after, loads_top_lem}
use Rattle.safety.proofs.Refine.{refine, depth_met}
use Rattle.safety.proofs.RefineOperands.{flags_kept}
use Rattle.safety.proofs.Coherent.{coherent}
use Rattle.safety.proofs.Edge.{CertificateFacts}
use Rattle.safety.proofs.Plain.{RulesOf, rules_of, entry_of_lem, before_of, inv_step}
use Rattle.safety.proofs.Bounds.{within_of}
use Rattle.safety.proofs.Calls.{ReturnRight, called_frame, inv_call, inv_return}
use Rattle.safety.proofs.Interrupts.{inv_interrupt_return}

-- the summary at an address is that of the instruction that is decoded there
pub summary_decoded : (C : Certificate) (image : List ℕ) (a : ℕ) (d : Instruction × ℕ × FlagSet) → decode_at image a ≡ value d
    → summary_at C image a ≡ summary_of (load_range C image a) (action_of d.0 (rom_addr ((a + d.1) % 65536))) d.2
unfolding summary_at summary_from
summary_decoded C image a d q = ap (λ (o : Outcome (Instruction × ℕ × FlagSet)). summary_from (load_range C image a) o a) q

-- the rules at an address, for the instruction that is decoded there
pub rules_decoded : (rom : ℕ) (C : Certificate) (image : List ℕ) (a : ℕ) (d : Instruction × ℕ × FlagSet) → decode_at image a ≡ value d → RulesHold rom C image a
    → RulesOf C rom a (summary_of (load_range C image a) (action_of d.0 (rom_addr ((a + d.1) % 65536))) d.2) ((a + d.1) % 65536) (cost_at image a)
unfolding summary_at next_at summary_from
rules_decoded rom C image a d q h =
    subst (λ (o : Outcome (Instruction × ℕ × FlagSet)). RulesOf C rom a (summary_from (load_range C image a) o a) ((a + size_from o) % 65536) (cost_at image a)) q
    (rules_of rom C image a h)

pub table_decoded : (C : Certificate) (image : List ℕ) (a : ℕ) (d : Instruction × ℕ × FlagSet) → decode_at image a ≡ value d
    → table_of C a (summary_at C image a) ≡ table_of C a (summary_of (load_range C image a) (action_of d.0 (rom_addr ((a + d.1) % 65536))) d.2)
table_decoded C image a d q = ap (table_of C a) (summary_decoded C image a d q)

-- at an address with an entry an instruction is decoded
decoded_some : (C : Certificate) (load : CodeAccess → Range) (a : ℕ) (o : Outcome (Instruction × ℕ × FlagSet)) → Holds (rule22 C a (summary_from load o a))
    → (d : Instruction × ℕ × FlagSet) × (o ≡ value d)
unfolding summary_from rule22
decoded_some C load a (value d) h = (d, refl)
decoded_some C load a (refused n) h = absurd h.1

pub decoded_at : (rom : ℕ) (C : Certificate) (image : List ℕ) (a : ℕ) → RulesHold rom C image a → (d : Instruction × ℕ × FlagSet) × (decode_at image a ≡ value d)
unfolding summary_at
decoded_at rom C image a h = decoded_some C (load_range C image a) a (decode_at image a) h.r22

module _ (C : Certificate) (image : List ℕ) where
  -- the instruction act at a, with the flags ns that it names, on the registers r, with the address next behind it and cost c; o are the open routines
  pub record Right (ld : Bool) (a : ℕ) (act : Action) (ns : FlagSet) (r rec : List ℕ) (next : RomAddr) (c : ℕ) (o : Open) (e : Executed) : Type 0 where
    pub goes : e.next.stop ≡ 0
    pub awake : Awake e.next.mode
    pub pointers : PointersRight C image (table_of C a (summary_of (load_range C image a) act ns)) r rec act
    pub returning : ReturnsRight (transfer_of act) o.inner e.next.pc.0
    pub within : Within C ((charge c o).inner ∷ (charge c o).outer)
    pub keeps :
        (s' : State) → s'.pc ≡ e.next.pc
        → Invariant C (loads_top C.top act || ld) e.regs e.next.pc.0
        (transferred C (transfer_of act) next s' (charge c o)).inner (transferred C (transfer_of act) next s' (charge c o)).outer

module _ (rom : ℕ) (C : Certificate) (image : List ℕ) (fits : rom ≤ largest_rom) (ok : Accepts rom C image) (facts : CertificateFacts C)
    (size : length image ≡ rom) (bytes : (i : ℕ) → get_or image i 0 < 256) where
  gl : Global C image
  gl = global rom C image fits ok

  module _ (ld : Bool) (a : ℕ) (act : Action) (ns : FlagSet) (r rec : List ℕ) (next : RomAddr) (c : ℕ) (o : Open) (shaped : Shaped ns act) (input : Input rec)
      (rules : RulesOf C rom a (summary_of (load_range C image a) act ns) next.0 c) (v : Invariant C ld r a o.inner o.outer) where
    -- the ranges that the claims at a give, and its summary by them
    abbrev load : CodeAccess → Range
    load = load_range C image a

    abbrev summary : Summary
    summary = summary_of load act ns

    step_rules : StepRules C rom a summary
    unfolding rule25
    step_rules = record { r23 = rules.r23; r24 = rules.r24; stack = rules.r25.0 }

    -- an instruction that stays in its routine
    right_step : (n : ℕ) (to : RomAddr) → summary.flow ≡ Step n to → Right C image ld a act ns r rec next c o (execute_of act ns image r rec next)
    right_step n to flow =
        let f = o.inner in
        let fs = o.outer in
        let d =
        refine rom C image gl fits size bytes a (entry_of_lem C image gl ld r a f fs v) r rec (before_of C ld r a f fs v) input next ns
        (depth_met C ld r a f fs v.stack) act shaped n to flow step_rules in
        let r' = (execute_of act ns image r rec next).regs in
        let w : Invariant C (loaded_after summary.stack ld) r' (pick (condition n (at r flags_cell)) to.0 next.0) (spends c f) (outward c fs f.opener)
        = inv_step C image gl fits facts ld r r' a f fs summary next.0 c n to flow (coherent load act ns) rules v d.refines in
        let l = loads_top_lem C a load act ns ld rules.r23 in
        let t = step_stays load act ns n to flow in
        record {
          goes = d.goes;
          awake = d.mode;
          pointers = d.pointers;
          returning = rw t tt;
          within = within_of C (loaded_after summary.stack ld) _ _ _ _ w;
          keeps = λ s' q. rw (t, l, d.counter) w;
        }

    -- CALL
    right_call : (to : RomAddr) → summary.flow ≡ Call to → Right C image ld a act ns r rec next c o (execute_of act ns image r rec next)
    unfolding summary_of
    right_call to flow =
        let f = o.inner in
        let fs = o.outer in
        let after : (r' : List ℕ) → at r' flags_cell ≡ at r flags_cell → FlagsAfter summary.flags r r'
        = λ r' k. subst (λ (x : Action). FlagsAfter (summary_of load x ns).flags r r') (sym (is_call load act ns to flow)) (flags_kept ns r r' k) in
        let w = inv_call C image gl facts fits ns ld r rec a f fs summary next to c flow after rules v in
        let e = execute_of (Action.Call to) ns image r rec next in
        subst (λ (x : Action). Right C image ld a x ns r rec next c o (execute_of x ns image r rec next)) (sym (is_call load act ns to flow))
        (record {
          goes = w.goes;
          awake = w.mode;
          pointers = tt;
          returning = tt;
          within = (within_of C ld e.regs to.0 _ _ w.invariant).1;
          keeps = λ s' q.
              let z : s'.pc.0 ≡ to.0 = ap (λ (p : RomAddr). p.0) q ∙ w.counter in
              subst (λ (n : ℕ). Invariant C ld e.regs n (called_frame C s'.pc.0 next.0) (spends c f ∷ outward c fs f.opener)) (sym w.counter)
              (subst (λ (n : ℕ). Invariant C ld e.regs to.0 (called_frame C n next.0) (spends c f ∷ outward c fs f.opener)) (sym z) w.invariant);
        })

    -- a return closes the innermost routine
    right_closing : (x : Action) (p : Opener) → ReturnRight C image x ns p ld r rec next c o.inner o.outer
        → PointersRight C image (table_of C a (summary_of load x ns)) r rec x
        → ReturnsRight (transfer_of x) o.inner (execute_of x ns image r rec next).next.pc.0
        → (loads_top C.top x || ld) ≡ ld
        → ((s' : State) → transferred C (transfer_of x) next s' (charge c o) ≡ closing (charge c o))
        → Right C image ld a x ns r rec next c o (execute_of x ns image r rec next)
    right_closing x p w ptr ret same close =
        let f = o.inner in
        let e = execute_of x ns image r rec next in
        record {
          goes = w.goes;
          awake = w.mode;
          pointers = ptr;
          returning = ret;
          within = (λ n. w.own, subst (Within C) (sym w.shape) (within_of C ld e.regs f.return_to w.waiting w.rest w.invariant));
          keeps = λ s' q.
              rw (same, close s', w.counter)
              (subst
              (λ (l : List Frame).
              Invariant C ld e.regs f.return_to (closing (record { inner = spends c f; outer = l })).inner (closing (record { inner = spends c f; outer = l })).outer)
              (sym w.shape) w.invariant);
        }

    -- RET
    right_return : summary.flow ≡ Return → Right C image ld a act ns r rec next c o (execute_of act ns image r rec next)
    right_return flow =
        let w = inv_return C image gl facts ns ld r rec a o.inner o.outer summary next c flow rules v in
        subst (λ (x : Action). Right C image ld a x ns r rec next c o (execute_of x ns image r rec next)) (sym (is_return load act ns flow))
        (right_closing Action.Return by_call w tt (w.counter, w.opener) refl (λ s'. refl))

    -- IRET
    right_interrupt_return : summary.flow ≡ InterruptReturn → Right C image ld a act ns r rec next c o (execute_of act ns image r rec next)
    right_interrupt_return flow =
        let is = is_interrupt_return load act ns flow in
        let all : ns ≡ all_flags = subst (Shaped ns) is shaped in
        let whole = inv_interrupt_return C image gl facts ld r rec a o.inner o.outer summary next c flow rules v in
        let w = subst (λ (n : FlagSet). ReturnRight C image Action.InterruptReturn n by_interrupt ld r rec next c o.inner o.outer) (sym all) whole in
        subst (λ (x : Action). Right C image ld a x ns r rec next c o (execute_of x ns image r rec next)) (sym is)
        (right_closing Action.InterruptReturn by_interrupt w tt (w.counter, w.opener) refl (λ s'. refl))

    -- by the flow of its summary; rule 22 allows no other
    right_flow : (f : Flow) → summary.flow ≡ f → Right C image ld a act ns r rec next c o (execute_of act ns image r rec next)
    unfolding rule22
    right_flow (Step n to) q = right_step n to q
    right_flow (Call to) q = right_call to q
    right_flow Return q = right_return q
    right_flow InterruptReturn q = right_interrupt_return q
    right_flow Forbidden q = absurd (subst (λ (f : Flow). Holds (flow_allowed (C.routine a) f)) q rules.r22.1)

    pub right : Right C image ld a act ns r rec next c o (execute_of act ns image r rec next)
    right = right_flow summary.flow refl
