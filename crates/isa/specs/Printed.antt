-- Table 6-5, row by row as printed (columns 0 to 7, then 8 to F), but for row 1, where columns 2 to 6 are ADC, as 01 says, and the manual
-- prints ADD, and for EFH and FFH, which their own pages give (CCF, NOP). And that the map by column and row says the same: one equation
-- over all 256 cells, by computing.
-- Assumes nothing.
use Rattle.std.specs.Prelude.{ℕ, ◌<◌, ◌≡◌, refl, List, [], ◌∷◌, map, get_or}
use Rattle.base.specs.Choice.{from}
use Rattle.isa.specs.Map.{Cell, cell_of}
use Rattle.isa.specs.Map.Cell.{empty, unary, unary_at, pop, pop_at, push, push_at, jump_at, call_at, alu_work, alu_work_at, alu_reg, alu_reg_at, alu_imm, ldc_dec, ldc_inc, ldc_load, ldc_store}
use Rattle.isa.specs.Map.Cell.{load_reg, load_reg_at, load_imm, load_at_imm, load_at_reg, call, load_indexed, store_indexed, ldc_load_long, ldc_store_long}
use Rattle.isa.specs.Map.Cell.{load_work_at, load_at_work, ldc_load_short, ldc_store_short, load_work_reg, load_reg_work, jump_rel, load_work_imm, jump, inc_work, implied}
use Rattle.isa.specs.declared.Alu.{Alu}
use Rattle.isa.specs.declared.Unary.{Unary}
use Rattle.isa.specs.declared.Implied.{Implied}
use Rattle.base.specs.Table.{table_at}

unfoldable pub printed : List Cell
printed =
    -- row 0
    unary Unary.Dec ∷ unary_at Unary.Dec ∷ alu_work Alu.Add ∷ alu_work_at Alu.Add ∷ alu_reg Alu.Add ∷ alu_reg_at Alu.Add ∷ alu_imm Alu.Add ∷ empty ∷
    load_work_reg ∷ load_reg_work ∷ empty ∷ jump_rel ∷ load_work_imm ∷ jump ∷ inc_work ∷ empty ∷
    -- row 1
    unary Unary.Rlc ∷ unary_at Unary.Rlc ∷ alu_work Alu.Adc ∷ alu_work_at Alu.Adc ∷ alu_reg Alu.Adc ∷ alu_reg_at Alu.Adc ∷ alu_imm Alu.Adc ∷ empty ∷
    load_work_reg ∷ load_reg_work ∷ empty ∷ jump_rel ∷ load_work_imm ∷ jump ∷ inc_work ∷ empty ∷
    -- row 2
    unary Unary.Inc ∷ unary_at Unary.Inc ∷ alu_work Alu.Sub ∷ alu_work_at Alu.Sub ∷ alu_reg Alu.Sub ∷ alu_reg_at Alu.Sub ∷ alu_imm Alu.Sub ∷ empty ∷
    load_work_reg ∷ load_reg_work ∷ empty ∷ jump_rel ∷ load_work_imm ∷ jump ∷ inc_work ∷ empty ∷
    -- row 3
    jump_at ∷ empty ∷ alu_work Alu.Sbc ∷ alu_work_at Alu.Sbc ∷ alu_reg Alu.Sbc ∷ alu_reg_at Alu.Sbc ∷ alu_imm Alu.Sbc ∷ empty ∷
    load_work_reg ∷ load_reg_work ∷ empty ∷ jump_rel ∷ load_work_imm ∷ jump ∷ inc_work ∷ empty ∷
    -- row 4
    empty ∷ empty ∷ alu_work Alu.Or ∷ alu_work_at Alu.Or ∷ alu_reg Alu.Or ∷ alu_reg_at Alu.Or ∷ alu_imm Alu.Or ∷ empty ∷
    load_work_reg ∷ load_reg_work ∷ empty ∷ jump_rel ∷ load_work_imm ∷ jump ∷ inc_work ∷ empty ∷
    -- row 5
    pop ∷ pop_at ∷ alu_work Alu.And ∷ alu_work_at Alu.And ∷ alu_reg Alu.And ∷ alu_reg_at Alu.And ∷ alu_imm Alu.And ∷ empty ∷
    load_work_reg ∷ load_reg_work ∷ empty ∷ jump_rel ∷ load_work_imm ∷ jump ∷ inc_work ∷ empty ∷
    -- row 6
    unary Unary.Com ∷ unary_at Unary.Com ∷ alu_work Alu.Tcm ∷ alu_work_at Alu.Tcm ∷ alu_reg Alu.Tcm ∷ alu_reg_at Alu.Tcm ∷ alu_imm Alu.Tcm ∷ empty ∷
    load_work_reg ∷ load_reg_work ∷ empty ∷ jump_rel ∷ load_work_imm ∷ jump ∷ inc_work ∷ implied Implied.Idle ∷
    -- row 7
    push ∷ push_at ∷ alu_work Alu.Tm ∷ alu_work_at Alu.Tm ∷ alu_reg Alu.Tm ∷ alu_reg_at Alu.Tm ∷ alu_imm Alu.Tm ∷ empty ∷
    load_work_reg ∷ load_reg_work ∷ empty ∷ jump_rel ∷ load_work_imm ∷ jump ∷ inc_work ∷ implied Implied.Stop ∷
    -- row 8
    empty ∷ empty ∷ empty ∷ empty ∷ empty ∷ empty ∷ empty ∷ load_indexed ∷
    load_work_reg ∷ load_reg_work ∷ empty ∷ jump_rel ∷ load_work_imm ∷ jump ∷ inc_work ∷ implied Implied.Di ∷
    -- row 9
    unary Unary.Rl ∷ unary_at Unary.Rl ∷ empty ∷ empty ∷ empty ∷ empty ∷ empty ∷ store_indexed ∷
    load_work_reg ∷ load_reg_work ∷ empty ∷ jump_rel ∷ load_work_imm ∷ jump ∷ inc_work ∷ implied Implied.Ei ∷
    -- row A
    empty ∷ empty ∷ alu_work Alu.Cp ∷ alu_work_at Alu.Cp ∷ alu_reg Alu.Cp ∷ alu_reg_at Alu.Cp ∷ alu_imm Alu.Cp ∷ ldc_load_long ∷
    load_work_reg ∷ load_reg_work ∷ empty ∷ jump_rel ∷ load_work_imm ∷ jump ∷ inc_work ∷ implied Implied.Ret ∷
    -- row B
    unary Unary.Clr ∷ unary_at Unary.Clr ∷ alu_work Alu.Xor ∷ alu_work_at Alu.Xor ∷ alu_reg Alu.Xor ∷ alu_reg_at Alu.Xor ∷ alu_imm Alu.Xor ∷ ldc_store_long ∷
    load_work_reg ∷ load_reg_work ∷ empty ∷ jump_rel ∷ load_work_imm ∷ jump ∷ inc_work ∷ implied Implied.Iret ∷
    -- row C
    unary Unary.Rrc ∷ unary_at Unary.Rrc ∷ empty ∷ ldc_load ∷ empty ∷ empty ∷ empty ∷ load_work_at ∷
    load_work_reg ∷ load_reg_work ∷ empty ∷ jump_rel ∷ load_work_imm ∷ jump ∷ inc_work ∷ implied Implied.Rcf ∷
    -- row D
    unary Unary.Sra ∷ unary_at Unary.Sra ∷ empty ∷ ldc_store ∷ empty ∷ empty ∷ load_at_imm ∷ load_at_work ∷
    load_work_reg ∷ load_reg_work ∷ empty ∷ jump_rel ∷ load_work_imm ∷ jump ∷ inc_work ∷ implied Implied.Scf ∷
    -- row E
    unary Unary.Rr ∷ unary_at Unary.Rr ∷ ldc_dec ∷ ldc_inc ∷ load_reg ∷ load_reg_at ∷ load_imm ∷ ldc_load_short ∷
    load_work_reg ∷ load_reg_work ∷ empty ∷ jump_rel ∷ load_work_imm ∷ jump ∷ inc_work ∷ implied Implied.Ccf ∷
    -- row F
    empty ∷ empty ∷ empty ∷ empty ∷ call_at ∷ load_at_reg ∷ call ∷ ldc_store_short ∷
    load_work_reg ∷ load_reg_work ∷ empty ∷ jump_rel ∷ load_work_imm ∷ jump ∷ inc_work ∷ implied Implied.Nop ∷
    []

all : printed ≡ map cell_of (from 256 0)
unfolding printed
all = refl

pub as_printed : (b : ℕ) → b < 256 → get_or printed b empty ≡ cell_of b
as_printed b h = table_at cell_of empty 256 printed all b h
