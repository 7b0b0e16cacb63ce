-- The flow of a summary tells the action: what stays in its routine, what calls, what returns. And which action loads SP with the top.
-- Assumes nothing.
use Rattle.std.specs.Prelude.{◌≡◌, Bool, true, false, ◌||◌, ◌&&◌, ℕ, eqb}
use Rattle.std.proofs.Math.Path.{refl, subst}
use Rattle.std.proofs.Common.{sym}
use Rattle.std.proofs.Math.Logic.{⊎_elim}
use Rattle.base.specs.declared.RegAddr.{RegAddr}
use Rattle.base.specs.declared.RomAddr.{RomAddr}
use Rattle.base.specs.Addresses.{sp_cell}
use Rattle.base.specs.Formula.{Holds, eqb_yes, case_bool}
use Rattle.isa.specs.declared.Alu.{Alu}
use Rattle.isa.specs.declared.FlagSet.{FlagSet}
use Rattle.alu.specs.Operations.{stores}
use Rattle.action.specs.declared.Operand.{Operand}
use Rattle.action.specs.declared.Operand.TheVariants.{Register, Indirect, Immediate}
use Rattle.action.specs.declared.Action.{Action}
use Rattle.certificate.specs.declared.Range.{Range}
use Rattle.certificate.specs.declared.CodeAccess.{CodeAccess}
use Rattle.certificate.specs.declared.FlagEffect.{FlagEffect}
use Rattle.certificate.specs.declared.FlagEffect.TheVariants.{Changed}
use Rattle.certificate.specs.declared.StackEffect.{StackEffect}
use Rattle.certificate.specs.declared.StackEffect.TheVariants.{Same, Push, Pop, Load}
use Rattle.certificate.specs.declared.Flow.{Flow}
use Rattle.certificate.specs.declared.Flow.TheVariants.{Step, Call, Return, InterruptReturn, Forbidden}
use Rattle.certificate.specs.Layout.{Certificate}
use Rattle.safety.specs.Rules.{rule23}
use Rattle.certificate.specs.Summaries.{summary_of, flag_effect, binary_summary, load_summary, onward}
use Rattle.safety.specs.Statement.{stays, transfer_of, loads_top}

-- control goes behind an operation on two operands
pub binary_flow : (b : Bool) (op : Alu) (d s : Operand) (ns : FlagSet) → (binary_summary b op d s ns).flow ≡ onward
binary_flow true op d s ns = refl
binary_flow false op d s ns = refl

-- and behind LD of a register, SP or not, with a number
pub number_flow : (x : RegAddr) (n : ℕ) (f : FlagEffect) → (load_summary (Register x) (Immediate n) f).flow ≡ onward
number_flow x n f = ⊎_elim (λ q. rw q) (λ q. rw q) (case_bool (eqb x.0 sp_cell))

-- what a flow tells of its action
abbrev Tells : Flow → Action → Type 0
Tells (Step cc to) act = transfer_of act ≡ stays
Tells (Call to) act = act ≡ Action.Call to
Tells Return act = act ≡ Action.Return
Tells InterruptReturn act = act ≡ Action.InterruptReturn
Tells Forbidden act = Unit {0}

module _ (load : CodeAccess → Range) where
  tells : (act : Action) (ns : FlagSet) → Tells (summary_of load act ns).flow act
  unfolding summary_of
  tells (Action.Binary op (Register x) s) ns =
      subst (λ (f : Flow). Tells f (Action.Binary op (Register x) s)) (sym (binary_flow (stores op) op (Register x) s ns)) refl
  tells (Action.Binary op (Indirect p o) s) ns =
      subst (λ (f : Flow). Tells f (Action.Binary op (Indirect p o) s)) (sym (binary_flow (stores op) op (Indirect p o) s ns)) refl
  tells (Action.Binary op (Immediate n) s) ns = tt
  tells (Action.Modify op (Register x)) ns = refl
  tells (Action.Modify op (Indirect p o)) ns = refl
  tells (Action.Modify op (Immediate n)) ns = tt
  tells (Action.Load (Register x) (Register y)) ns = refl
  tells (Action.Load (Register x) (Indirect p o)) ns = refl
  tells (Action.Load (Register x) (Immediate n)) ns =
      subst (λ (f : Flow). Tells f (Action.Load (Register x) (Immediate n))) (sym (number_flow x n (flag_effect ns Changed))) refl
  tells (Action.Load (Indirect p o) s) ns = refl
  tells (Action.Load (Immediate n) s) ns = tt
  tells (Action.Push s) ns = refl
  tells (Action.Pop (Register x)) ns = refl
  tells (Action.Pop (Indirect p o)) ns = refl
  tells (Action.Pop (Immediate n)) ns = tt
  tells (Action.LoadCode d c) ns = refl
  tells (Action.LoadCodeStep d p up) ns = refl
  tells Action.External ns = tt
  tells (Action.Jump cc to) ns = refl
  tells (Action.JumpPair p) ns = tt
  tells (Action.Call to) ns = refl
  tells (Action.CallPair p) ns = tt
  tells Action.Return ns = refl
  tells Action.InterruptReturn ns = refl
  tells (Action.Carry c) ns = refl
  tells (Action.Interrupts on) ns = refl
  tells Action.Idle ns = refl
  tells Action.Stop ns = tt
  tells Action.Nop ns = refl

  told : (act : Action) (ns : FlagSet) (f : Flow) → (summary_of load act ns).flow ≡ f → Tells f act
  told act ns f q = subst (λ (f : Flow). Tells f act) q (tells act ns)

  pub step_stays : (act : Action) (ns : FlagSet) (cc : ℕ) (to : RomAddr) → (summary_of load act ns).flow ≡ Step cc to → transfer_of act ≡ stays
  step_stays act ns cc to q = told act ns (Step cc to) q

  pub is_call : (act : Action) (ns : FlagSet) (to : RomAddr) → (summary_of load act ns).flow ≡ Call to → act ≡ Action.Call to
  is_call act ns to q = told act ns (Call to) q

  pub is_return : (act : Action) (ns : FlagSet) → (summary_of load act ns).flow ≡ Return → act ≡ Action.Return
  is_return act ns q = told act ns Return q

  pub is_interrupt_return : (act : Action) (ns : FlagSet) → (summary_of load act ns).flow ≡ InterruptReturn → act ≡ Action.InterruptReturn
  is_interrupt_return act ns q = told act ns InterruptReturn q

-- whether SP has been loaded with the top, after an action with this stack effect
abbrev pub loaded_after : StackEffect → Bool → Bool
loaded_after Same b = b
loaded_after Push b = b
loaded_after Pop b = b
loaded_after (Load n) b = true

binary_loads : (t : Bool) (op : Alu) (d s : Operand) (ns : FlagSet) (b : Bool) → b ≡ loaded_after (binary_summary t op d s ns).stack b
binary_loads true op d s ns b = refl
binary_loads false op d s ns b = refl

module _ (C : Certificate) (a : ℕ) (load : CodeAccess → Range) where
  number_loads : (x : RegAddr) (n : ℕ) (f : FlagEffect) (b : Bool) → Holds (rule23 C a (load_summary (Register x) (Immediate n) f))
      → (eqb x.0 sp_cell && eqb n C.top || b) ≡ loaded_after (load_summary (Register x) (Immediate n) f).stack b
  unfolding rule23
  number_loads x n f b h =
      ⊎_elim (λ q. let k = rw q at h in rw (q, eqb_yes k.1.1.1.1)) (λ q. rw q) (case_bool (eqb x.0 sp_cell))

  -- rule 23 lets SP be loaded with the top only
  pub loads_top_lem : (act : Action) (ns : FlagSet) (b : Bool) → Holds (rule23 C a (summary_of load act ns)) → (loads_top C.top act || b) ≡ loaded_after (summary_of load act ns).stack b
  unfolding summary_of
  loads_top_lem (Action.Binary op (Register x) s) ns b h = binary_loads (stores op) op (Register x) s ns b
  loads_top_lem (Action.Binary op (Indirect p o) s) ns b h = binary_loads (stores op) op (Indirect p o) s ns b
  loads_top_lem (Action.Binary op (Immediate n) s) ns b h = refl
  loads_top_lem (Action.Modify op (Register x)) ns b h = refl
  loads_top_lem (Action.Modify op (Indirect p o)) ns b h = refl
  loads_top_lem (Action.Modify op (Immediate n)) ns b h = refl
  loads_top_lem (Action.Load (Register x) (Register y)) ns b h = refl
  loads_top_lem (Action.Load (Register x) (Indirect p o)) ns b h = refl
  loads_top_lem (Action.Load (Register x) (Immediate n)) ns b h = number_loads x n (flag_effect ns Changed) b h
  loads_top_lem (Action.Load (Indirect p o) s) ns b h = refl
  loads_top_lem (Action.Load (Immediate n) s) ns b h = refl
  loads_top_lem (Action.Push s) ns b h = refl
  loads_top_lem (Action.Pop (Register x)) ns b h = refl
  loads_top_lem (Action.Pop (Indirect p o)) ns b h = refl
  loads_top_lem (Action.Pop (Immediate n)) ns b h = refl
  loads_top_lem (Action.LoadCode d c) ns b h = refl
  loads_top_lem (Action.LoadCodeStep d p up) ns b h = refl
  loads_top_lem Action.External ns b h = refl
  loads_top_lem (Action.Jump cc to) ns b h = refl
  loads_top_lem (Action.JumpPair p) ns b h = refl
  loads_top_lem (Action.Call to) ns b h = refl
  loads_top_lem (Action.CallPair p) ns b h = refl
  loads_top_lem Action.Return ns b h = refl
  loads_top_lem Action.InterruptReturn ns b h = refl
  loads_top_lem (Action.Carry c) ns b h = refl
  loads_top_lem (Action.Interrupts on) ns b h = refl
  loads_top_lem Action.Idle ns b h = refl
  loads_top_lem Action.Stop ns b h = refl
  loads_top_lem Action.Nop ns b h = refl
