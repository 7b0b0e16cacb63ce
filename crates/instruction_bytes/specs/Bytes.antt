-- An instruction's bytes, or the number of its refusal.
-- Assumes nothing.
use Rattle.std.specs.Prelude.{ℕ, ◌+◌, ◌*◌, ◌/◌, ◌%◌, Bool, true, false, List, [], ◌∷◌, ltb}
use Rattle.base.specs.Choice.{pick}
use Rattle.base.specs.Outcome.{Outcome}
use Rattle.base.specs.Outcome.Outcome.{value, refused}
use Rattle.isa.specs.declared.Alu.{Alu}
use Rattle.isa.specs.declared.Unary.{Unary}
use Rattle.isa.specs.declared.Implied.{Implied}
use Rattle.isa.specs.declared.Instruction.{Instruction}
use Rattle.coded.specs.Operands.{nibbles, even_pair, long_offset}

-- the row of an operation in table 6-5
abbrev pub alu_code : Alu → ℕ
alu_code Alu.Add = 0
alu_code Alu.Adc = 1
alu_code Alu.Sub = 2
alu_code Alu.Sbc = 3
alu_code Alu.Or = 4
alu_code Alu.And = 5
alu_code Alu.Tcm = 6
alu_code Alu.Tm = 7
alu_code Alu.Cp = 10
alu_code Alu.Xor = 11

abbrev pub unary_code : Unary → ℕ
unary_code Unary.Dec = 0
unary_code Unary.Rlc = 1
unary_code Unary.Inc = 2
unary_code Unary.Com = 6
unary_code Unary.Rl = 9
unary_code Unary.Clr = 11
unary_code Unary.Rrc = 12
unary_code Unary.Sra = 13
unary_code Unary.Rr = 14

abbrev pub implied_code : Implied → ℕ
implied_code Implied.Idle = 6
implied_code Implied.Stop = 7
implied_code Implied.Di = 8
implied_code Implied.Ei = 9
implied_code Implied.Ret = 10
implied_code Implied.Iret = 11
implied_code Implied.Rcf = 12
implied_code Implied.Scf = 13
implied_code Implied.Ccf = 14
implied_code Implied.Nop = 15

-- an opcode whose high nibble is a working register or a condition, and the rest; 8 where that is above 15
abbrev pub in_row : ℕ → ℕ → List ℕ → Outcome (List ℕ)
in_row col row rest = pick (ltb row 16) (value ((row * 16 + col) ∷ rest)) (refused 8)

-- the low nibble of a direct address: 1 for LDE
abbrev pub lde_bit : Bool → ℕ
lde_bit false = 0
lde_bit true = 1

-- the bytes, in the order of each page; or 8, or 12
abbrev pub bytes_of : Instruction → Outcome (List ℕ)
bytes_of (Instruction.UnaryReg u r) = value (unary_code u * 16 ∷ r.0 ∷ [])
bytes_of (Instruction.UnaryAt u r) = value ((unary_code u * 16 + 1) ∷ r.0 ∷ [])
bytes_of (Instruction.Pop r) = value (0x50 ∷ r.0 ∷ [])
bytes_of (Instruction.PopAt r) = value (0x51 ∷ r.0 ∷ [])
bytes_of (Instruction.Push r) = value (0x70 ∷ r.0 ∷ [])
bytes_of (Instruction.PushAt r) = value (0x71 ∷ r.0 ∷ [])
bytes_of (Instruction.IncWork r) = in_row 14 r []
bytes_of (Instruction.AluWork a d s) = nibbles (alu_code a * 16 + 2) d s []
bytes_of (Instruction.AluWorkAt a d s) = nibbles (alu_code a * 16 + 3) d s []
bytes_of (Instruction.AluReg a d s) = value ((alu_code a * 16 + 4) ∷ s.0 ∷ d.0 ∷ [])
bytes_of (Instruction.AluRegAt a d s) = value ((alu_code a * 16 + 5) ∷ s.0 ∷ d.0 ∷ [])
bytes_of (Instruction.AluImm a d x) = value ((alu_code a * 16 + 6) ∷ d.0 ∷ x ∷ [])
bytes_of (Instruction.LoadReg d s) = value (0xE4 ∷ s.0 ∷ d.0 ∷ [])
bytes_of (Instruction.LoadRegAt d s) = value (0xE5 ∷ s.0 ∷ d.0 ∷ [])
bytes_of (Instruction.LoadAtReg d s) = value (0xF5 ∷ s.0 ∷ d.0 ∷ [])
bytes_of (Instruction.LoadImm d x) = value (0xE6 ∷ d.0 ∷ x ∷ [])
bytes_of (Instruction.LoadAtImm d x) = value (0xD6 ∷ d.0 ∷ x ∷ [])
bytes_of (Instruction.LoadWorkAt d s) = nibbles 0xC7 d s []
bytes_of (Instruction.LoadAtWork d s) = nibbles 0xD7 d s []
bytes_of (Instruction.LoadIndexed r b x) = nibbles 0x87 r b (x ∷ [])
bytes_of (Instruction.StoreIndexed r b x) = nibbles 0x97 r b (x ∷ [])
bytes_of (Instruction.LoadWorkReg r s) = in_row 8 r (s.0 ∷ [])
bytes_of (Instruction.LoadRegWork d r) = in_row 9 r (d.0 ∷ [])
bytes_of (Instruction.LoadWorkImm r x) = in_row 12 r (x ∷ [])
bytes_of (Instruction.LdcLoad r p) = nibbles 0xC3 r p []
bytes_of (Instruction.LdcStore r p) = nibbles 0xD3 r p []
bytes_of (Instruction.LdcDec r p) = nibbles 0xE2 r p []
bytes_of (Instruction.LdcInc r p) = nibbles 0xE3 r p []
bytes_of (Instruction.LdcLoadShort r p x) = nibbles 0xE7 r p (x ∷ [])
bytes_of (Instruction.LdcStoreShort r p x) = nibbles 0xF7 r p (x ∷ [])
bytes_of (Instruction.LdcLoadLong r p x) = long_offset 0xA7 r p x
bytes_of (Instruction.LdcStoreLong r p x) = long_offset 0xB7 r p x
bytes_of (Instruction.LdcLoadDirect r e at) = nibbles 0xA7 r (lde_bit e) (at.0 % 256 ∷ at.0 / 256 ∷ [])
bytes_of (Instruction.LdcStoreDirect r e at) = nibbles 0xB7 r (lde_bit e) (at.0 % 256 ∷ at.0 / 256 ∷ [])
bytes_of (Instruction.JumpRel c x) = in_row 11 c (x ∷ [])
bytes_of (Instruction.Jump c to) = in_row 13 c (to.0 / 256 ∷ to.0 % 256 ∷ [])
bytes_of (Instruction.JumpAt r) = even_pair 0x30 r.0
bytes_of (Instruction.Call to) = value (0xF6 ∷ to.0 / 256 ∷ to.0 % 256 ∷ [])
bytes_of (Instruction.CallAt r) = even_pair 0xF4 r.0
bytes_of (Instruction.Implied p) = value ((implied_code p * 16 + 15) ∷ [])
