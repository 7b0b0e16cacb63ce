-- An instruction's action: which operation on which operands (each instruction's page of chapter 6).
-- Assumes nothing.
use Rattle.std.specs.Prelude.{ℕ, ◌+◌, ◌%◌, Bool, true, false, eqb}
use Rattle.base.specs.declared.RegAddr.{RegAddr}
use Rattle.base.specs.declared.RomAddr.{RomAddr}
use Rattle.base.specs.Addresses.{reg_addr, rom_addr, displaced}
use Rattle.base.specs.Choice.{pick}
use Rattle.isa.specs.declared.Unary.TheVariants.{Inc}
use Rattle.isa.specs.declared.Implied.{Implied}
use Rattle.isa.specs.declared.Implied.TheVariants.{Idle, Stop, Di, Ei, Ret, Iret, Rcf, Scf, Ccf, Nop}
use Rattle.isa.specs.declared.Instruction.{Instruction}
use Rattle.action.specs.declared.Operand.{Operand}
use Rattle.action.specs.declared.Operand.TheVariants.{Register, Indirect, Immediate}
use Rattle.action.specs.declared.CodeAddress.{CodeAddress}
use Rattle.action.specs.declared.CodeAddress.TheVariants.{Direct, Short, Long}
use Rattle.action.specs.declared.CarryChange.TheVariants.{Reset, Set, Complement}
use Rattle.action.specs.declared.Action.{Action}

-- working register Rn is CnH
abbrev pub work_of : ℕ → RegAddr
work_of r = reg_addr (192 + r % 16)

abbrev work : ℕ → Operand
work r = Register (work_of r)

abbrev at_work : ℕ → ℕ → Operand
at_work r x = Indirect (work_of r) x

abbrev at : RegAddr → Operand
at a = Indirect a 0

-- an odd pair means LDE
abbrev pub load_code : ℕ → ℕ → CodeAddress → Action
load_code r p c = pick (eqb (p % 2) 0) (Action.LoadCode (work_of r) c) Action.External

abbrev pub load_code_step : ℕ → ℕ → Bool → Action
load_code_step r p up = pick (eqb (p % 2) 0) (Action.LoadCodeStep (work_of r) (work_of p) up) Action.External

abbrev pub load_code_direct : ℕ → Bool → RomAddr → Action
load_code_direct r lde a = pick lde Action.External (Action.LoadCode (work_of r) (Direct a))

abbrev pub implied_action : Implied → Action
implied_action Idle = Action.Idle
implied_action Stop = Action.Stop
implied_action Di = Action.Interrupts false
implied_action Ei = Action.Interrupts true
implied_action Ret = Action.Return
implied_action Iret = Action.InterruptReturn
implied_action Rcf = Action.Carry Reset
implied_action Scf = Action.Carry Set
implied_action Ccf = Action.Carry Complement
implied_action Nop = Action.Nop

-- the action of an instruction with the address `next` behind it
unfoldable pub action_of : Instruction → RomAddr → Action
action_of (Instruction.UnaryReg op d) next = Action.Modify op (Register d)
action_of (Instruction.UnaryAt op d) next = Action.Modify op (at d)
action_of (Instruction.Pop d) next = Action.Pop (Register d)
action_of (Instruction.PopAt d) next = Action.Pop (at d)
action_of (Instruction.Push s) next = Action.Push (Register s)
action_of (Instruction.PushAt s) next = Action.Push (at s)
action_of (Instruction.IncWork r) next = Action.Modify Inc (work r)
action_of (Instruction.AluWork op d s) next = Action.Binary op (work d) (work s)
action_of (Instruction.AluWorkAt op d s) next = Action.Binary op (work d) (at_work s 0)
action_of (Instruction.AluReg op d s) next = Action.Binary op (Register d) (Register s)
action_of (Instruction.AluRegAt op d s) next = Action.Binary op (Register d) (at s)
action_of (Instruction.AluImm op d n) next = Action.Binary op (Register d) (Immediate n)
action_of (Instruction.LoadReg d s) next = Action.Load (Register d) (Register s)
action_of (Instruction.LoadRegAt d s) next = Action.Load (Register d) (at s)
action_of (Instruction.LoadAtReg d s) next = Action.Load (at d) (Register s)
action_of (Instruction.LoadImm d n) next = Action.Load (Register d) (Immediate n)
action_of (Instruction.LoadAtImm d n) next = Action.Load (at d) (Immediate n)
action_of (Instruction.LoadWorkAt d s) next = Action.Load (work d) (at_work s 0)
action_of (Instruction.LoadAtWork d s) next = Action.Load (at_work d 0) (work s)
action_of (Instruction.LoadIndexed d b x) next = Action.Load (work d) (at_work b x)
action_of (Instruction.StoreIndexed s b x) next = Action.Load (at_work b x) (work s)
action_of (Instruction.LoadWorkReg d s) next = Action.Load (work d) (Register s)
action_of (Instruction.LoadRegWork d s) next = Action.Load (Register d) (work s)
action_of (Instruction.LoadWorkImm d n) next = Action.Load (work d) (Immediate n)
action_of (Instruction.LdcLoad r p) next = load_code r p (Short (work_of p) 0)
action_of (Instruction.LdcStore r p) next = Action.External
action_of (Instruction.LdcDec r p) next = load_code_step r p false
action_of (Instruction.LdcInc r p) next = load_code_step r p true
action_of (Instruction.LdcLoadShort r p x) next = load_code r p (Short (work_of p) x)
action_of (Instruction.LdcStoreShort r p x) next = Action.External
action_of (Instruction.LdcLoadLong r p x) next = load_code r p (Long (work_of p) x)
action_of (Instruction.LdcStoreLong r p x) next = Action.External
action_of (Instruction.LdcLoadDirect r lde a) next = load_code_direct r lde a
action_of (Instruction.LdcStoreDirect r lde a) next = Action.External
action_of (Instruction.JumpRel cc x) next = Action.Jump cc (rom_addr (displaced next.0 x))
action_of (Instruction.Jump cc to) next = Action.Jump cc to
action_of (Instruction.JumpAt p) next = Action.JumpPair p
action_of (Instruction.Call to) next = Action.Call to
action_of (Instruction.CallAt p) next = Action.CallPair p
action_of (Instruction.Implied i) next = implied_action i
