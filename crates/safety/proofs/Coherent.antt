-- What every summary has: a copied register is the one read, and what leaves a compare writes nothing.
-- Assumes nothing.
use Rattle.std.specs.Prelude.{◌≡◌, refl, Bool, true, false, T, eqb}
use Rattle.std.proofs.Common.{sym, subst, ◌∙◌, ap}
use Rattle.base.specs.declared.RegAddr.{RegAddr}
use Rattle.base.specs.Addresses.{sp_cell}
use Rattle.base.specs.Choice.{pick}
use Rattle.base.specs.ChoiceLaws.{pick_has}
use Rattle.base.specs.Formula.{Holds}
use Rattle.isa.specs.declared.Alu.{Alu}
use Rattle.isa.specs.declared.Alu.TheVariants.{Add, Adc, Sub, Sbc, Or, And, Tcm, Tm, Cp, Xor}
use Rattle.isa.specs.declared.Unary.{Unary}
use Rattle.isa.specs.declared.Unary.TheVariants.{Dec, Rlc, Inc, Com, Rl, Clr, Rrc, Sra, Rr}
use Rattle.isa.specs.declared.FlagSet.{FlagSet}
use Rattle.chip.specs.Registers.{mapped_of}
use Rattle.alu.specs.Operations.{stores}
use Rattle.action.specs.declared.Operand.{Operand}
use Rattle.action.specs.declared.Operand.TheVariants.{Register, Indirect, Immediate}
use Rattle.action.specs.declared.Action.{Action}
use Rattle.certificate.specs.declared.NewValue.TheVariants.{Number, OneMore, OneLess, Within, CopyOf, Unknown}
use Rattle.certificate.specs.declared.Range.{Range}
use Rattle.certificate.specs.declared.Write.{Write}
use Rattle.certificate.specs.declared.Access.{Access}
use Rattle.certificate.specs.declared.CodeAccess.{CodeAccess}
use Rattle.certificate.specs.declared.FlagEffect.{FlagEffect}
use Rattle.certificate.specs.declared.FlagEffect.TheVariants.{Kept, Changed, Compared}
use Rattle.certificate.specs.declared.StackEffect.TheVariants.{Same, Load}
use Rattle.certificate.specs.declared.Summary.{Summary}
use Rattle.certificate.specs.Summaries.{reading, moving, into, binary_value, binary_flags, binary_summary, modify_value, flag_effect, load_summary, summary_of}
use Rattle.safety.specs.Rules.{no_cell, direct_read}
use Rattle.safety.proofs.Edge.{Copies, Compares}

-- the register that is copied is the one read
abbrev pub Reads : Write → Access → Type 0
Reads Write.Nothing s = Unit {0}
Reads (Write.Register x (Number n)) s = Unit {0}
Reads (Write.Register x OneMore) s = Unit {0}
Reads (Write.Register x OneLess) s = Unit {0}
Reads (Write.Register x (Within q)) s = Unit {0}
Reads (Write.Register x (CopyOf y)) s = s ≡ Access.Register y
Reads (Write.Register x Unknown) s = Unit {0}
Reads (Write.Pointed p o) s = Unit {0}
Reads (Write.RegisterAndPair x q p) s = Unit {0}

pub record Coherent (S : Summary) : Type 0 where
  pub reads : Reads S.write S.second
  pub compares : Compares S.flags S.write

unmapped : mapped_of no_cell ≡ true → ⊥
unfolding mapped_of
unmapped e = subst T (sym e) tt

-- a register that is read is mapped, FFH is not
pub reads_copies : (w : Write) (s : Access) → Reads w s → Holds (direct_read s) → Copies w
reads_copies Write.Nothing s h m = tt
reads_copies (Write.Register x (Number n)) s h m = tt
reads_copies (Write.Register x OneMore) s h m = tt
reads_copies (Write.Register x OneLess) s h m = tt
reads_copies (Write.Register x (Within q)) s h m = tt
reads_copies (Write.Register x (CopyOf y)) s h m = λ q.
    let z : mapped_of y.0 ≡ true = subst (λ (u : Access). Holds (direct_read u)) h m in
    unmapped (sym (ap mapped_of q) ∙ z)
reads_copies (Write.Register x Unknown) s h m = tt
reads_copies (Write.Pointed p o) s h m = tt
reads_copies (Write.RegisterAndPair x q p) s h m = tt

binary_reads : (op : Alu) (a : RegAddr) (s : Operand) (u : Access) → Reads (Write.Register a (binary_value op s)) u
binary_reads And a (Register b) u = tt
binary_reads And a (Indirect p x) u = tt
binary_reads And a (Immediate n) u = tt
binary_reads Add a s u = tt
binary_reads Adc a s u = tt
binary_reads Sub a s u = tt
binary_reads Sbc a s u = tt
binary_reads Or a s u = tt
binary_reads Tcm a s u = tt
binary_reads Tm a s u = tt
binary_reads Cp a s u = tt
binary_reads Xor a s u = tt

modify_reads : (op : Unary) (a : RegAddr) (u : Access) → Reads (Write.Register a (modify_value op)) u
modify_reads Dec a u = tt
modify_reads Rlc a u = tt
modify_reads Inc a u = tt
modify_reads Com a u = tt
modify_reads Rl a u = tt
modify_reads Clr a u = tt
modify_reads Rrc a u = tt
modify_reads Sra a u = tt
modify_reads Rr a u = tt

-- flags that have changed are no compare
changed_compares : (ns : FlagSet) (w : Write) → Compares (flag_effect ns Changed) w
changed_compares ns w = pick_has (λ (f : FlagEffect). Compares f w) (eqb ns.0 0) Kept Changed (λ _. tt) (λ _. tt)

pub nothing_compares : (f : FlagEffect) → Compares f Write.Nothing
nothing_compares Kept = tt
nothing_compares Changed = tt
nothing_compares (Compared x k) = refl

binary_coherent : (b : Bool) (op : Alu) (d s : Operand) (ns : FlagSet) → Coherent (into d (binary_summary b op d s ns))
binary_coherent true op (Register a) s ns = record { reads = binary_reads op a s (reading s); compares = changed_compares ns _ }
binary_coherent true op (Indirect p x) s ns = record { reads = tt; compares = changed_compares ns _ }
binary_coherent false op (Register a) s ns = record { reads = tt; compares = nothing_compares (flag_effect ns (binary_flags op (Register a) s)) }
binary_coherent false op (Indirect p x) s ns = record { reads = tt; compares = nothing_compares (flag_effect ns (binary_flags op (Indirect p x) s)) }
binary_coherent b op (Immediate n) s ns = record { reads = tt; compares = tt }

load_coherent : (d s : Operand) (ns : FlagSet) → Coherent (load_summary d s (flag_effect ns Changed))
load_coherent (Register a) (Register b) ns = record { reads = refl; compares = changed_compares ns _ }
load_coherent (Register a) (Indirect p x) ns = record { reads = tt; compares = changed_compares ns _ }
load_coherent (Register a) (Immediate n) ns = go (eqb a.0 sp_cell)
  where
    go : (b : Bool)
        → Coherent
        (pick b (moving Write.Nothing Access.Nothing Access.Nothing (flag_effect ns Changed) (Load n))
        (moving (Write.Register a (Number n)) Access.Nothing Access.Nothing (flag_effect ns Changed) Same))
    go true = record { reads = tt; compares = changed_compares ns _ }
    go false = record { reads = tt; compares = changed_compares ns _ }
load_coherent (Indirect p x) s ns = record { reads = tt; compares = changed_compares ns _ }
load_coherent (Immediate n) s ns = record { reads = tt; compares = tt }

pub coherent : (load : CodeAccess → Range) (act : Action) (ns : FlagSet) → Coherent (summary_of load act ns)
unfolding summary_of
coherent load (Action.Binary op d s) ns = binary_coherent (stores op) op d s ns
coherent load (Action.Modify op (Register a)) ns = record { reads = modify_reads op a Access.Nothing; compares = changed_compares ns _ }
coherent load (Action.Modify op (Indirect p x)) ns = record { reads = tt; compares = changed_compares ns _ }
coherent load (Action.Modify op (Immediate n)) ns = record { reads = tt; compares = tt }
coherent load (Action.Load d s) ns = load_coherent d s ns
coherent load (Action.Push s) ns = record { reads = tt; compares = changed_compares ns _ }
coherent load (Action.Pop (Register a)) ns = record { reads = tt; compares = changed_compares ns _ }
coherent load (Action.Pop (Indirect p x)) ns = record { reads = tt; compares = changed_compares ns _ }
coherent load (Action.Pop (Immediate n)) ns = record { reads = tt; compares = tt }
coherent load (Action.LoadCode d c) ns = record { reads = tt; compares = changed_compares ns _ }
coherent load (Action.LoadCodeStep d p up) ns = record { reads = tt; compares = changed_compares ns _ }
coherent load Action.External ns = record { reads = tt; compares = tt }
coherent load (Action.Jump n to) ns = record { reads = tt; compares = changed_compares ns _ }
coherent load (Action.JumpPair p) ns = record { reads = tt; compares = tt }
coherent load (Action.Call to) ns = record { reads = tt; compares = changed_compares ns _ }
coherent load (Action.CallPair p) ns = record { reads = tt; compares = tt }
coherent load Action.Return ns = record { reads = tt; compares = changed_compares ns _ }
coherent load Action.InterruptReturn ns = record { reads = tt; compares = changed_compares ns _ }
coherent load (Action.Carry c) ns = record { reads = tt; compares = changed_compares ns _ }
coherent load (Action.Interrupts on) ns = record { reads = tt; compares = changed_compares ns _ }
coherent load Action.Idle ns = record { reads = tt; compares = changed_compares ns _ }
coherent load Action.Stop ns = record { reads = tt; compares = tt }
coherent load Action.Nop ns = record { reads = tt; compares = changed_compares ns _ }
