-- The effect summary of an action and of the flags that the decoder named beside it: what it may store, read and change, and where control goes. The
-- checker's rules read nothing else of an instruction but its cost and the address behind it; `safety` proves each action against its summary.
-- Assumes nothing.
use Rattle.std.specs.Prelude.{ℕ, ◌-◌, Bool, true, false, eqb, ltb}
use Rattle.base.specs.Addresses.{rom_addr, sp_cell}
use Rattle.base.specs.Choice.{pick}
use Rattle.isa.specs.declared.Alu.{Alu}
use Rattle.isa.specs.declared.Alu.TheVariants.{Add, Adc, Sub, Sbc, Or, And, Tcm, Tm, Cp, Xor}
use Rattle.isa.specs.declared.Unary.{Unary}
use Rattle.isa.specs.declared.Unary.TheVariants.{Dec, Rlc, Inc, Com, Rl, Clr, Rrc, Sra, Rr}
use Rattle.isa.specs.declared.FlagSet.{FlagSet}
use Rattle.alu.specs.Operations.{stores}
use Rattle.action.specs.declared.Operand.{Operand}
use Rattle.action.specs.declared.CodeAddress.{CodeAddress}
use Rattle.action.specs.declared.Action.{Action}
use Rattle.certificate.specs.declared.NewValue.{NewValue}
use Rattle.certificate.specs.declared.NewValue.TheVariants.{Number, OneMore, OneLess, Within, CopyOf, Unknown}
use Rattle.certificate.specs.declared.Range.{Range}
use Rattle.certificate.specs.declared.Write.{Write}
use Rattle.certificate.specs.declared.Access.{Access}
use Rattle.certificate.specs.declared.CodeAccess.{CodeAccess}
use Rattle.certificate.specs.declared.FlagEffect.{FlagEffect}
use Rattle.certificate.specs.declared.FlagEffect.TheVariants.{Kept, Changed, Compared}
use Rattle.certificate.specs.declared.StackEffect.{StackEffect}
use Rattle.certificate.specs.declared.StackEffect.TheVariants.{Same, Push, Pop, Load}
use Rattle.certificate.specs.declared.Control.{Control}
use Rattle.certificate.specs.declared.Control.TheVariants.{Enable, Disable, Wait}
use Rattle.certificate.specs.declared.Flow.{Flow}
use Rattle.certificate.specs.declared.Flow.TheVariants.{Step, Call, Return, InterruptReturn, Forbidden}
use Rattle.certificate.specs.declared.Summary.{Summary}

-- storing to an operand, and reading one
abbrev pub write_to : Operand → NewValue → Write
write_to (Operand.Register a) v = Write.Register a v
write_to (Operand.Indirect p x) v = Write.Pointed p x
write_to (Operand.Immediate n) v = Write.Nothing

abbrev pub reading : Operand → Access
reading (Operand.Register a) = Access.Register a
reading (Operand.Indirect p x) = Access.Pointed p x
reading (Operand.Immediate n) = Access.Nothing

abbrev pub range : ℕ → ℕ → Range
range l h = record { least = l; greatest = h }

-- control goes behind the instruction
abbrev pub onward : Flow
onward = Step 0 (rom_addr 0)

-- a summary that stores and reads operands
abbrev pub moving : Write → Access → Access → FlagEffect → StackEffect → Summary
moving w first second f k =
    record { write = w; first = first; second = second; code = CodeAccess.Nothing; flags = f; stack = k; control = Control.Nothing; flow = onward }

abbrev pub reaching : Write → CodeAccess → FlagEffect → Summary
reaching w c f = record {
  write = w;
  first = Access.Nothing;
  second = Access.Nothing;
  code = c;
  flags = f;
  stack = Same;
  control = Control.Nothing;
  flow = onward;
}

-- a summary of control alone
abbrev pub controlling : FlagEffect → Control → Flow → Summary
controlling f c to = record {
  write = Write.Nothing;
  first = Access.Nothing;
  second = Access.Nothing;
  code = CodeAccess.Nothing;
  flags = f;
  stack = Same;
  control = c;
  flow = to;
}

-- what no accepted program has
abbrev pub forbidden : Summary
forbidden = controlling Kept Control.Nothing Forbidden

-- a number is no destination; no instruction has one there
abbrev pub into : Operand → Summary → Summary
into (Operand.Register a) S = S
into (Operand.Indirect p x) S = S
into (Operand.Immediate n) S = forbidden

-- AND with a number gives at most that number
abbrev pub binary_value : Alu → Operand → NewValue
binary_value And (Operand.Immediate n) = Within (range 0 n)
binary_value And (Operand.Register a) = Unknown
binary_value And (Operand.Indirect p x) = Unknown
binary_value Add s = Unknown
binary_value Adc s = Unknown
binary_value Sub s = Unknown
binary_value Sbc s = Unknown
binary_value Or s = Unknown
binary_value Tcm s = Unknown
binary_value Tm s = Unknown
binary_value Cp s = Unknown
binary_value Xor s = Unknown

-- all flags are as before where none is named, else f
abbrev pub flag_effect : FlagSet → FlagEffect → FlagEffect
flag_effect n f = pick (eqb n.0 0) Kept f

-- the flags behind an operation that names some: `CP cell,#k` (A6H) leaves a compare
abbrev pub binary_flags : Alu → Operand → Operand → FlagEffect
binary_flags Cp (Operand.Register a) (Operand.Immediate k) = Compared a k
binary_flags Cp (Operand.Register a) (Operand.Register b) = Changed
binary_flags Cp (Operand.Register a) (Operand.Indirect p x) = Changed
binary_flags Cp (Operand.Indirect p x) s = Changed
binary_flags Cp (Operand.Immediate n) s = Changed
binary_flags Add d s = Changed
binary_flags Adc d s = Changed
binary_flags Sub d s = Changed
binary_flags Sbc d s = Changed
binary_flags Or d s = Changed
binary_flags And d s = Changed
binary_flags Tcm d s = Changed
binary_flags Tm d s = Changed
binary_flags Xor d s = Changed

-- CP, TM and TCM read both operands and store nothing
abbrev pub binary_summary : Bool → Alu → Operand → Operand → FlagSet → Summary
binary_summary true op d s n = moving (write_to d (binary_value op s)) Access.Nothing (reading s) (flag_effect n Changed) Same
binary_summary false op d s n = moving Write.Nothing (reading d) (reading s) (flag_effect n (binary_flags op d s)) Same

abbrev pub modify_value : Unary → NewValue
modify_value Dec = OneLess
modify_value Rlc = Unknown
modify_value Inc = OneMore
modify_value Com = Unknown
modify_value Rl = Unknown
modify_value Clr = Number 0
modify_value Rrc = Unknown
modify_value Sra = Unknown
modify_value Rr = Unknown

-- LD; of SP with a number: the stack pointer is loaded
abbrev pub load_summary : Operand → Operand → FlagEffect → Summary
load_summary (Operand.Register a) (Operand.Immediate n) f =
    pick (eqb a.0 sp_cell) (moving Write.Nothing Access.Nothing Access.Nothing f (Load n))
    (moving (Write.Register a (Number n)) Access.Nothing Access.Nothing f Same)
load_summary (Operand.Register a) (Operand.Register b) f = moving (Write.Register a (CopyOf b)) Access.Nothing (Access.Register b) f Same
load_summary (Operand.Register a) (Operand.Indirect p x) f = moving (Write.Register a Unknown) Access.Nothing (Access.Pointed p x) f Same
load_summary (Operand.Indirect q y) s f = moving (Write.Pointed q y) Access.Nothing (reading s) f Same
load_summary (Operand.Immediate n) s f = forbidden

-- the offset of 8 bits is signed, that of 16 bits is not
abbrev pub code_access : CodeAddress → CodeAccess
code_access (CodeAddress.Direct a) = CodeAccess.Direct a
code_access (CodeAddress.Short p x) = pick (ltb x 128) (CodeAccess.Pair p x 0) (CodeAccess.Pair p 0 (256 - x))
code_access (CodeAddress.Long p x) = CodeAccess.Pair p x 0

-- EI and DI
abbrev pub switching : Bool → Control
switching true = Enable
switching false = Disable

-- of an action that names the flags n, f being its flag effect; an operation on two bytes works out its own, since CP leaves a compare. load gives the
-- range of the bytes that LDC, LDCI and LDCD can load
abbrev pub summary_with : (CodeAccess → Range) → Action → FlagSet → FlagEffect → Summary
summary_with load (Action.Binary op d s) n f = into d (binary_summary (stores op) op d s n)
summary_with load (Action.Modify op d) n f = into d (moving (write_to d (modify_value op)) Access.Nothing Access.Nothing f Same)
summary_with load (Action.Load d s) n f = load_summary d s f
summary_with load (Action.Push s) n f = moving Write.Nothing Access.Nothing (reading s) f Push
summary_with load (Action.Pop d) n f = into d (moving (write_to d Unknown) Access.Nothing Access.Nothing f Pop)
summary_with load (Action.LoadCode d c) n f = reaching (Write.Register d (Within (load (code_access c)))) (code_access c) f
summary_with load (Action.LoadCodeStep d p up) n f = reaching (Write.RegisterAndPair d (load (CodeAccess.Pair p 0 0)) p) (CodeAccess.Pair p 0 0) f
summary_with load Action.External n f = forbidden
summary_with load (Action.Jump cc to) n f = controlling f Control.Nothing (Step cc to)
summary_with load (Action.JumpPair p) n f = forbidden
summary_with load (Action.Call to) n f = controlling f Control.Nothing (Call to)
summary_with load (Action.CallPair p) n f = forbidden
summary_with load Action.Return n f = controlling f Control.Nothing Return
summary_with load Action.InterruptReturn n f = controlling f Control.Nothing InterruptReturn
summary_with load (Action.Carry c) n f = controlling f Control.Nothing onward
summary_with load (Action.Interrupts on) n f = controlling f (switching on) onward
summary_with load Action.Idle n f = controlling f Wait onward
summary_with load Action.Stop n f = forbidden
summary_with load Action.Nop n f = controlling f Control.Nothing onward

unfoldable pub summary_of : (CodeAccess → Range) → Action → FlagSet → Summary
summary_of load act n = summary_with load act n (flag_effect n Changed)
