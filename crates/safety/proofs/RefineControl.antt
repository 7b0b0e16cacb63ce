-- Jumps, RCF, SCF, CCF, EI, DI, IDLE and NOP do what their summaries say.
-- Assumes nothing.
use Rattle.std.specs.Prelude.{◌≡◌, Bool, List, ℕ}
use Rattle.std.proofs.Math.Path.{refl}
use Rattle.std.proofs.Math.Bool.{true, false}
use Rattle.std.proofs.Common.{arith}
use Rattle.base.specs.declared.RomAddr.{RomAddr}
use Rattle.base.specs.Addresses.{flags_cell, sp_cell}
use Rattle.base.specs.Choice.{pick}
use Rattle.isa.specs.declared.FlagSet.{FlagSet}
use Rattle.chip.specs.Interrupts.{interrupts_enabled, set_interrupts_of}
use Rattle.chip.specs.InterruptLaws.{set_interrupts_other, set_interrupts_enabled}
use Rattle.alu.specs.Flags.{flags_byte, carry, condition}
use Rattle.alu.specs.Laws.{condition_never}
use Rattle.action.specs.declared.CarryChange.{CarryChange}
use Rattle.action.specs.declared.Action.{Action}
use Rattle.semantics.specs.Operands.{with_flags}
use Rattle.semantics.specs.Execute.{execute_of, jump_of, carry_of, carry_changed}
use Rattle.certificate.specs.declared.Write.{Write}
use Rattle.certificate.specs.declared.Range.{Range}
use Rattle.certificate.specs.declared.CodeAccess.{CodeAccess}
use Rattle.certificate.specs.declared.FlagEffect.TheVariants.{Changed}
use Rattle.certificate.specs.declared.Control.{Control}
use Rattle.certificate.specs.declared.Flow.{Flow}
use Rattle.certificate.specs.Layout.{Certificate}
use Rattle.certificate.specs.Summaries.{summary_of, flag_effect, controlling, onward, switching}
use Rattle.safety.specs.Invariant.{at, Refines, Before, enabled_after, Does, Shaped}
use Rattle.safety.proofs.Facts.{Global, EntryFacts}
use Rattle.safety.proofs.Memory.{Input, interrupts_registers}
use Rattle.safety.proofs.RefineOperands.{Written, nothing_written, refines_beyond, refines_flags, does_onward, flags_kept, flags_set}
use Rattle.safety.specs.StepRules.{StepRules}

-- the number of the address that a test chooses
pick_address : (b : Bool) (to next : RomAddr) → (pick b to next).0 ≡ pick b to.0 next.0
pick_address true to next = refl
pick_address false to next = refl

module _ (rom : ℕ) (C : Certificate) (image : List ℕ) (gl : Global C image) (a : ℕ) (e : EntryFacts C a) (r rec : List ℕ) (pre : Before C a r) (input : Input rec) (next : RomAddr) (ns : FlagSet)
    (load : CodeAccess → Range) where
  -- nothing is stored to a cell
  nothing : Written C a Write.Nothing r r
  nothing = nothing_written C a r pre.registers

  -- no register changes
  same : (c : Control) (to : Flow) → interrupts_enabled r ≡ enabled_after c (interrupts_enabled r) → Refines C a (controlling (flag_effect ns Changed) c to) r r
  same c to h =
      refines_beyond C image gl a e (controlling (flag_effect ns Changed) c to) r r r nothing pre.registers (λ x l. refl) refl (flags_kept ns r r refl) h

  pub does_jump : (cc : ℕ) (to : RomAddr) → Shaped ns (Action.Jump cc to) → StepRules C rom a (summary_of load (Action.Jump cc to) ns)
      → Does C image a (summary_of load (Action.Jump cc to) ns) (Action.Jump cc to) ns r rec next cc to.0
  unfolding summary_of execute_of jump_of
  does_jump cc to s rules = record {
    goes = refl;
    mode = tt;
    counter = pick_address (condition cc (at r flags_cell)) to next;
    refines = same Control.Nothing (Flow.Step cc to) refl;
    pointers = tt;
  }

  pub does_idle : Shaped ns Action.Idle → StepRules C rom a (summary_of load Action.Idle ns) → Does C image a (summary_of load Action.Idle ns) Action.Idle ns r rec next 0 0
  unfolding summary_of execute_of
  does_idle s rules = record {
    goes = refl;
    mode = tt;
    counter = rw (condition_never (at r flags_cell));
    refines = same Control.Wait onward refl;
    pointers = tt;
  }

  pub does_nop : Shaped ns Action.Nop → StepRules C rom a (summary_of load Action.Nop ns) → Does C image a (summary_of load Action.Nop ns) Action.Nop ns r rec next 0 0
  unfolding summary_of execute_of
  does_nop s rules = does_onward C image gl a e (summary_of load Action.Nop ns) Action.Nop ns r rec r next true refl refl (same Control.Nothing onward refl) tt

  pub does_carry : (c : CarryChange) → Shaped ns (Action.Carry c) → StepRules C rom a (summary_of load (Action.Carry c) ns)
      → Does C image a (summary_of load (Action.Carry c) ns) (Action.Carry c) ns r rec next 0 0
  unfolding summary_of execute_of carry_of
  does_carry c s rules =
      let u = flags_byte (carry_changed c (carry (at r flags_cell))) false false false in
      does_onward C image gl a e (summary_of load (Action.Carry c) ns) (Action.Carry c) ns r rec (with_flags r ns u) next true refl refl
      (refines_flags C image gl a e (summary_of load (Action.Carry c) ns) r r ns u refl refl nothing (flags_set ns r r u refl)) tt

  -- EI and DI
  switched : (on : Bool) → enabled_after (switching on) (interrupts_enabled r) ≡ on
  switched true = refl
  switched false = refl

  pub does_interrupts : (on : Bool) → Shaped ns (Action.Interrupts on) → StepRules C rom a (summary_of load (Action.Interrupts on) ns)
      → Does C image a (summary_of load (Action.Interrupts on) ns) (Action.Interrupts on) ns r rec next 0 0
  unfolding summary_of execute_of
  does_interrupts on s rules =
      let z = pre.registers.size in
      does_onward C image gl a e (summary_of load (Action.Interrupts on) ns) (Action.Interrupts on) ns r rec (set_interrupts_of r on) next true refl refl
      (refines_beyond C image gl a e (summary_of load (Action.Interrupts on) ns) r r (set_interrupts_of r on) nothing (interrupts_registers r on pre.registers)
      (λ x l. set_interrupts_other r on x (omega arith)) (set_interrupts_other r on sp_cell (omega arith))
      (flags_kept ns r _ (set_interrupts_other r on flags_cell (omega arith))) (rw (switched on) (set_interrupts_enabled r on (omega arith))))
      tt
