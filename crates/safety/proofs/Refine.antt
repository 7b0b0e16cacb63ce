-- Every action that stays in its routine does what its summary says, and does not stop, where the rules hold.
-- Assumes nothing.
use Rattle.std.specs.Prelude.{◌≡◌, Bool, true, false, List, ℕ, ◌≤◌, ◌<◌, length, get_or}
use Rattle.std.proofs.Common.{sym, subst, arith}
use Rattle.base.specs.declared.RomAddr.{RomAddr}
use Rattle.base.specs.Lengths.{largest_rom}
use Rattle.isa.specs.declared.FlagSet.{FlagSet}
use Rattle.alu.specs.Operations.{stores}
use Rattle.action.specs.declared.Operand.TheVariants.{Register, Indirect, Immediate}
use Rattle.action.specs.declared.Action.{Action}
use Rattle.certificate.specs.declared.Range.{Range}
use Rattle.certificate.specs.declared.CodeAccess.{CodeAccess}
use Rattle.certificate.specs.declared.FlagEffect.TheVariants.{Changed}
use Rattle.certificate.specs.declared.Flow.{Flow}
use Rattle.certificate.specs.declared.Flow.TheVariants.{Step, Call, Return, InterruptReturn, Forbidden}
use Rattle.certificate.specs.declared.Summary.{Summary}
use Rattle.certificate.specs.Layout.{Certificate}
use Rattle.safety.specs.Rules.{unloaded}
use Rattle.safety.specs.CodeRange.{load_range}
use Rattle.certificate.specs.Summaries.{summary_of, flag_effect, onward}
use Rattle.safety.specs.Statement.{Frame}
use Rattle.safety.specs.Invariant.{Stack, Before, Does, Shaped}
use Rattle.safety.proofs.Facts.{Global, EntryFacts}
use Rattle.safety.proofs.Memory.{Input}
use Rattle.safety.specs.StepRules.{StepRules}
use Rattle.safety.proofs.RefineMove.{does_binary, does_modify, does_load}
use Rattle.safety.proofs.RefineStack.{does_push, does_pop}
use Rattle.safety.proofs.RefineCode.{does_load_code, does_load_code_step}
use Rattle.safety.proofs.RefineControl.{does_jump, does_carry, does_interrupts, does_idle, does_nop}
use Rattle.safety.proofs.Transfers.{binary_flow, number_flow}

-- no depth above 255 is met
pub depth_met : (C : Certificate) (loaded : Bool) (r : List ℕ) (pc : ℕ) (f : Frame) (fs : List Frame) → Stack C loaded r pc f fs → C.depth pc ≤ unloaded
depth_met C true r pc f fs s = omega (arith, s.loaded)
depth_met C false r pc f fs s = omega (arith, s.unloaded)

module _ (rom : ℕ) (C : Certificate) (image : List ℕ) (gl : Global C image) (fits : rom ≤ largest_rom) (size : length image ≡ rom)
    (bytes : (i : ℕ) → get_or image i 0 < 256) (a : ℕ) (e : EntryFacts C a) (r rec : List ℕ) (pre : Before C a r) (input : Input rec) (next : RomAddr)
    (ns : FlagSet) (deep : C.depth a ≤ unloaded) where
  -- the ranges that the claims at a give
  abbrev load : CodeAccess → Range
  load = load_range C image a

  -- what is to be shown of an action, by the flow of its summary
  abbrev RefinesFlow : Flow → Summary → Action → Type 0
  RefinesFlow (Step cc to) S act = StepRules C rom a S → Does C image a S act ns r rec next cc to.0
  RefinesFlow (Call to) S act = Unit {0}
  RefinesFlow Return S act = Unit {0}
  RefinesFlow InterruptReturn S act = Unit {0}
  RefinesFlow Forbidden S act = Unit {0}

  along : (f : Flow) (S : Summary) (act : Action) → f ≡ onward → (StepRules C rom a S → Does C image a S act ns r rec next 0 0) → RefinesFlow f S act
  along f S act q h = subst (λ (f : Flow). RefinesFlow f S act) (sym q) h

  refines_flow : (act : Action) → Shaped ns act → RefinesFlow (summary_of load act ns).flow (summary_of load act ns) act
  unfolding summary_of
  refines_flow (Action.Binary op (Register x) s) h =
      along (summary_of load (Action.Binary op (Register x) s) ns).flow (summary_of load (Action.Binary op (Register x) s) ns) (Action.Binary op (Register x) s)
      (binary_flow (stores op) op (Register x) s ns) (does_binary rom C image gl a e r rec pre input next ns load op (Register x) s h)
  refines_flow (Action.Binary op (Indirect p o) s) h = absurd h
  refines_flow (Action.Binary op (Immediate n) s) h = absurd h
  refines_flow (Action.Modify op (Register x)) h = does_modify rom C image gl a e r rec pre input next ns load op (Register x) h
  refines_flow (Action.Modify op (Indirect p o)) h = does_modify rom C image gl a e r rec pre input next ns load op (Indirect p o) h
  refines_flow (Action.Modify op (Immediate n)) h = absurd h
  refines_flow (Action.Load (Register x) (Register y)) h = does_load rom C image gl a e r rec pre input next ns load (Register x) (Register y) h
  refines_flow (Action.Load (Register x) (Indirect p o)) h = does_load rom C image gl a e r rec pre input next ns load (Register x) (Indirect p o) h
  refines_flow (Action.Load (Register x) (Immediate n)) h =
      along (summary_of load (Action.Load (Register x) (Immediate n)) ns).flow (summary_of load (Action.Load (Register x) (Immediate n)) ns)
      (Action.Load (Register x) (Immediate n)) (number_flow x n (flag_effect ns Changed)) (does_load rom C image gl a e r rec pre input next ns load (Register x) (Immediate n) h)
  refines_flow (Action.Load (Indirect p o) s) h = does_load rom C image gl a e r rec pre input next ns load (Indirect p o) s h
  refines_flow (Action.Load (Immediate n) s) h = absurd h
  refines_flow (Action.Push s) h = does_push rom C image gl a e r rec pre input next ns load deep s h
  refines_flow (Action.Pop (Register x)) h = does_pop rom C image gl a e r rec pre input next ns load deep (Register x) h
  refines_flow (Action.Pop (Indirect p o)) h = does_pop rom C image gl a e r rec pre input next ns load deep (Indirect p o) h
  refines_flow (Action.Pop (Immediate n)) h = absurd h
  refines_flow (Action.LoadCode d c) h = does_load_code rom C image gl fits size bytes a e r rec pre input next ns d c h
  refines_flow (Action.LoadCodeStep d p up) h = does_load_code_step rom C image gl fits size bytes a e r rec pre input next ns d p up h
  refines_flow Action.External h = tt
  refines_flow (Action.Jump cc to) h = does_jump rom C image gl a e r rec pre input next ns load cc to h
  refines_flow (Action.JumpPair p) h = tt
  refines_flow (Action.Call to) h = tt
  refines_flow (Action.CallPair p) h = tt
  refines_flow Action.Return h = tt
  refines_flow Action.InterruptReturn h = tt
  refines_flow (Action.Carry c) h = does_carry rom C image gl a e r rec pre input next ns load c h
  refines_flow (Action.Interrupts on) h = does_interrupts rom C image gl a e r rec pre input next ns load on h
  refines_flow Action.Idle h = does_idle rom C image gl a e r rec pre input next ns load h
  refines_flow Action.Stop h = tt
  refines_flow Action.Nop h = does_nop rom C image gl a e r rec pre input next ns load h

  pub refine : (act : Action) → Shaped ns act → (cc : ℕ) (to : RomAddr) → (summary_of load act ns).flow ≡ Step cc to → StepRules C rom a (summary_of load act ns)
      → Does C image a (summary_of load act ns) act ns r rec next cc to.0
  refine act h cc to q = subst (λ (f : Flow). RefinesFlow f (summary_of load act ns) act) q (refines_flow act h)
