-- What a cell of the map and the bytes behind the first give: an instruction with its length, and the flags that the cell names.
-- Assumes nothing.
use Rattle.std.specs.Prelude.{ℕ, ◌+◌, ◌*◌, ◌/◌, ◌%◌, eqb, ltb}
use Rattle.base.specs.Addresses.{reg_addr, rom_addr}
use Rattle.base.specs.Choice.{pick}
use Rattle.base.specs.Outcome.{Outcome}
use Rattle.base.specs.Outcome.Outcome.{value, refused}
use Rattle.isa.specs.Map.{Cell, cell_names}
use Rattle.isa.specs.Map.Cell.{empty, unary, unary_at, pop, pop_at, push, push_at, jump_at, call_at, alu_work, alu_work_at, alu_reg, alu_reg_at, alu_imm, ldc_dec, ldc_inc, ldc_load, ldc_store}
use Rattle.isa.specs.Map.Cell.{load_reg, load_reg_at, load_imm, load_at_imm, load_at_reg, call, load_indexed, store_indexed, ldc_load_long, ldc_store_long}
use Rattle.isa.specs.Map.Cell.{load_work_at, load_at_work, ldc_load_short, ldc_store_short, load_work_reg, load_reg_work, jump_rel, load_work_imm, jump, inc_work, implied}
use Rattle.isa.specs.declared.FlagSet.{FlagSet}
use Rattle.isa.specs.declared.Instruction.{Instruction}

-- an instruction and its length
abbrev found : Instruction → ℕ → Outcome (Instruction × ℕ)
found i n = value (i, n)

-- the instruction of a cell in row h, with the bytes b1, b2, b3 behind the first
abbrev pub form_of : Cell → ℕ → ℕ → ℕ → ℕ → Outcome (Instruction × ℕ)
form_of empty h b1 b2 b3 = refused 11
form_of (unary u) h b1 b2 b3 = found (Instruction.UnaryReg u (reg_addr b1)) 2
form_of (unary_at u) h b1 b2 b3 = found (Instruction.UnaryAt u (reg_addr b1)) 2
form_of pop h b1 b2 b3 = found (Instruction.Pop (reg_addr b1)) 2
form_of pop_at h b1 b2 b3 = found (Instruction.PopAt (reg_addr b1)) 2
form_of push h b1 b2 b3 = found (Instruction.Push (reg_addr b1)) 2
form_of push_at h b1 b2 b3 = found (Instruction.PushAt (reg_addr b1)) 2
form_of jump_at h b1 b2 b3 = pick (eqb (b1 % 2) 0) (found (Instruction.JumpAt (reg_addr b1)) 2) (refused 12)
form_of call_at h b1 b2 b3 = pick (eqb (b1 % 2) 0) (found (Instruction.CallAt (reg_addr b1)) 2) (refused 12)
form_of (alu_work a) h b1 b2 b3 = found (Instruction.AluWork a (b1 / 16) (b1 % 16)) 2
form_of (alu_work_at a) h b1 b2 b3 = found (Instruction.AluWorkAt a (b1 / 16) (b1 % 16)) 2
form_of (alu_reg a) h b1 b2 b3 = found (Instruction.AluReg a (reg_addr b2) (reg_addr b1)) 3
form_of (alu_reg_at a) h b1 b2 b3 = found (Instruction.AluRegAt a (reg_addr b2) (reg_addr b1)) 3
form_of (alu_imm a) h b1 b2 b3 = found (Instruction.AluImm a (reg_addr b1) b2) 3
form_of ldc_dec h b1 b2 b3 = found (Instruction.LdcDec (b1 / 16) (b1 % 16)) 2
form_of ldc_inc h b1 b2 b3 = found (Instruction.LdcInc (b1 / 16) (b1 % 16)) 2
form_of ldc_load h b1 b2 b3 = found (Instruction.LdcLoad (b1 / 16) (b1 % 16)) 2
form_of ldc_store h b1 b2 b3 = found (Instruction.LdcStore (b1 / 16) (b1 % 16)) 2
form_of load_reg h b1 b2 b3 = found (Instruction.LoadReg (reg_addr b2) (reg_addr b1)) 3
form_of load_reg_at h b1 b2 b3 = found (Instruction.LoadRegAt (reg_addr b2) (reg_addr b1)) 3
form_of load_imm h b1 b2 b3 = found (Instruction.LoadImm (reg_addr b1) b2) 3
form_of load_at_imm h b1 b2 b3 = found (Instruction.LoadAtImm (reg_addr b1) b2) 3
form_of load_at_reg h b1 b2 b3 = found (Instruction.LoadAtReg (reg_addr b2) (reg_addr b1)) 3
form_of call h b1 b2 b3 = found (Instruction.Call (rom_addr (b1 * 256 + b2))) 3
form_of load_indexed h b1 b2 b3 = found (Instruction.LoadIndexed (b1 / 16) (b1 % 16) b2) 3
form_of store_indexed h b1 b2 b3 = found (Instruction.StoreIndexed (b1 / 16) (b1 % 16) b2) 3
form_of ldc_load_long h b1 b2 b3 =
    pick (ltb (b1 % 16) 2) (found (Instruction.LdcLoadDirect (b1 / 16) (eqb (b1 % 16) 1) (rom_addr (b3 * 256 + b2))) 4)
    (found (Instruction.LdcLoadLong (b1 / 16) (b1 % 16) (b3 * 256 + b2)) 4)
form_of ldc_store_long h b1 b2 b3 =
    pick (ltb (b1 % 16) 2) (found (Instruction.LdcStoreDirect (b1 / 16) (eqb (b1 % 16) 1) (rom_addr (b3 * 256 + b2))) 4)
    (found (Instruction.LdcStoreLong (b1 / 16) (b1 % 16) (b3 * 256 + b2)) 4)
form_of load_work_at h b1 b2 b3 = found (Instruction.LoadWorkAt (b1 / 16) (b1 % 16)) 2
form_of load_at_work h b1 b2 b3 = found (Instruction.LoadAtWork (b1 / 16) (b1 % 16)) 2
form_of ldc_load_short h b1 b2 b3 = found (Instruction.LdcLoadShort (b1 / 16) (b1 % 16) b2) 3
form_of ldc_store_short h b1 b2 b3 = found (Instruction.LdcStoreShort (b1 / 16) (b1 % 16) b2) 3
form_of load_work_reg h b1 b2 b3 = found (Instruction.LoadWorkReg h (reg_addr b1)) 2
form_of load_reg_work h b1 b2 b3 = found (Instruction.LoadRegWork (reg_addr b1) h) 2
form_of jump_rel h b1 b2 b3 = found (Instruction.JumpRel h b1) 2
form_of load_work_imm h b1 b2 b3 = found (Instruction.LoadWorkImm h b1) 2
form_of jump h b1 b2 b3 = found (Instruction.Jump h (rom_addr (b1 * 256 + b2))) 3
form_of inc_work h b1 b2 b3 = found (Instruction.IncWork h) 1
form_of (implied p) h b1 b2 b3 = found (Instruction.Implied p) 1

-- with the flags that are named beside it
abbrev pub naming : FlagSet → Outcome (Instruction × ℕ) → Outcome (Instruction × ℕ × FlagSet)
naming f (value d) = value (d.0, d.1, f)
naming f (refused n) = refused n

abbrev pub answer_of : Cell → ℕ → ℕ → ℕ → ℕ → Outcome (Instruction × ℕ × FlagSet)
answer_of c h b1 b2 b3 = naming (cell_names c) (form_of c h b1 b2 b3)
