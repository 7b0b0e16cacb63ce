-- What writing an instruction's bytes answers and leaves in a buffer.
-- Assumes nothing.
use Rattle.std.specs.Prelude.{ℕ, List, ◌++◌, length, drop, ltb}
use Rattle.base.specs.Choice.{pick}
use Rattle.base.specs.Outcome.{Outcome, and_then, on_outcome}
use Rattle.base.specs.Outcome.Outcome.{value, refused}
use Rattle.isa.specs.declared.Instruction.{Instruction}
use Rattle.instruction_bytes.specs.Bytes.{bytes_of}

-- the number of bytes, which 7 needs also where 8 or 12 refuses them
abbrev pub size_of : Instruction → ℕ
size_of (Instruction.UnaryReg u r) = 2
size_of (Instruction.UnaryAt u r) = 2
size_of (Instruction.Pop r) = 2
size_of (Instruction.PopAt r) = 2
size_of (Instruction.Push r) = 2
size_of (Instruction.PushAt r) = 2
size_of (Instruction.IncWork r) = 1
size_of (Instruction.AluWork a d s) = 2
size_of (Instruction.AluWorkAt a d s) = 2
size_of (Instruction.AluReg a d s) = 3
size_of (Instruction.AluRegAt a d s) = 3
size_of (Instruction.AluImm a d x) = 3
size_of (Instruction.LoadReg d s) = 3
size_of (Instruction.LoadRegAt d s) = 3
size_of (Instruction.LoadAtReg d s) = 3
size_of (Instruction.LoadImm d x) = 3
size_of (Instruction.LoadAtImm d x) = 3
size_of (Instruction.LoadWorkAt d s) = 2
size_of (Instruction.LoadAtWork d s) = 2
size_of (Instruction.LoadIndexed r b x) = 3
size_of (Instruction.StoreIndexed r b x) = 3
size_of (Instruction.LoadWorkReg r s) = 2
size_of (Instruction.LoadRegWork d r) = 2
size_of (Instruction.LoadWorkImm r x) = 2
size_of (Instruction.LdcLoad r p) = 2
size_of (Instruction.LdcStore r p) = 2
size_of (Instruction.LdcDec r p) = 2
size_of (Instruction.LdcInc r p) = 2
size_of (Instruction.LdcLoadShort r p x) = 3
size_of (Instruction.LdcStoreShort r p x) = 3
size_of (Instruction.LdcLoadLong r p x) = 4
size_of (Instruction.LdcStoreLong r p x) = 4
size_of (Instruction.LdcLoadDirect r e at) = 4
size_of (Instruction.LdcStoreDirect r e at) = 4
size_of (Instruction.JumpRel c x) = 2
size_of (Instruction.Jump c to) = 3
size_of (Instruction.JumpAt r) = 2
size_of (Instruction.Call to) = 3
size_of (Instruction.CallAt r) = 2
size_of (Instruction.Implied p) = 1

-- what encoding into a buffer of this length answers: 7 before 8 and 12
unfoldable pub encode_answer : Instruction → ℕ → Outcome ℕ
encode_answer i room = pick (ltb room (size_of i)) (refused 7) (and_then (bytes_of i) (λ bs. value (length bs)))

-- what it leaves in the buffer: the bytes at the front, what stood behind them; all as it was on refusal
unfoldable pub encode_into : Instruction → List ℕ → List ℕ
encode_into i l = pick (ltb (length l) (size_of i)) l (on_outcome (bytes_of i) (λ bs. bs ++ drop (length bs) l) (λ n. l))
