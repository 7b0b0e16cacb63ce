-- The opcode map (table 6-5), by low nibble (column) and high nibble (row); each form's length and cycles, and the flags that it names.
-- Assumes nothing.
use Rattle.std.specs.Prelude.{ℕ, ◌/◌, ◌%◌, List, [], ◌∷◌, Option, Some, None, ltb}
use Rattle.isa.specs.declared.UnaryRow.{UnaryRow}
use Rattle.base.specs.Choice.{pick, choose}
use Rattle.isa.specs.declared.Alu.{Alu}
use Rattle.isa.specs.declared.Alu.TheVariants.{Add, Adc, Sub, Sbc, Or, And, Tcm, Tm, Cp, Xor}
use Rattle.isa.specs.declared.Unary.{Unary}
use Rattle.isa.specs.declared.Unary.TheVariants.{Dec, Rlc, Inc, Com, Rl, Clr, Rrc, Sra, Rr}
use Rattle.isa.specs.declared.Implied.{Implied}
use Rattle.isa.specs.declared.Implied.TheVariants.{Idle, Stop, Di, Ei, Ret, Iret, Rcf, Scf, Ccf, Nop}
use Rattle.isa.specs.declared.FlagSet.{FlagSet}
use Rattle.isa.specs.Flags.{no_flags, carry_flag, result_flags, all_flags}

-- A cell of the map: what the first byte alone says. In columns 8, 9 and B to E the row is an operand.
pub data Cell : Type 0 where
  empty : Cell
  unary : Unary → Cell
  unary_at : Unary → Cell
  pop : Cell
  pop_at : Cell
  push : Cell
  push_at : Cell
  jump_at : Cell
  alu_work : Alu → Cell
  alu_work_at : Alu → Cell
  alu_reg : Alu → Cell
  alu_reg_at : Alu → Cell
  alu_imm : Alu → Cell
  ldc_dec : Cell
  ldc_inc : Cell
  ldc_load : Cell
  ldc_store : Cell
  load_reg : Cell
  load_reg_at : Cell
  load_imm : Cell
  load_at_imm : Cell
  load_at_reg : Cell
  call_at : Cell
  call : Cell
  load_indexed : Cell
  store_indexed : Cell
  ldc_load_long : Cell
  ldc_store_long : Cell
  load_work_at : Cell
  load_at_work : Cell
  ldc_load_short : Cell
  ldc_store_short : Cell
  load_work_reg : Cell
  load_reg_work : Cell
  jump_rel : Cell
  load_work_imm : Cell
  jump : Cell
  inc_work : Cell
  implied : Implied → Cell

-- rows of columns 0 and 1
abbrev pub unary_rows : List (ℕ × UnaryRow)
unary_rows =
    (0, UnaryRow.Op Dec) ∷ (1, UnaryRow.Op Rlc) ∷ (2, UnaryRow.Op Inc) ∷ (5, UnaryRow.Pop) ∷ (6, UnaryRow.Op Com) ∷ (7, UnaryRow.Push)
    ∷ (9, UnaryRow.Op Rl) ∷ (11, UnaryRow.Op Clr) ∷ (12, UnaryRow.Op Rrc) ∷ (13, UnaryRow.Op Sra) ∷ (14, UnaryRow.Op Rr) ∷ []

abbrev pub unary_row : ℕ → UnaryRow
unary_row h = choose h unary_rows UnaryRow.Other

-- rows of columns 2 to 6
abbrev pub alu_rows : List (ℕ × Option Alu)
alu_rows =
    (0, Some Add) ∷ (1, Some Adc) ∷ (2, Some Sub) ∷ (3, Some Sbc) ∷ (4, Some Or) ∷ (5, Some And)
    ∷ (6, Some Tcm) ∷ (7, Some Tm) ∷ (10, Some Cp) ∷ (11, Some Xor) ∷ []

abbrev pub alu_row : ℕ → Option Alu
alu_row h = choose h alu_rows None

-- columns 0 and 1 in a row that holds this
abbrev pub unary_cell : UnaryRow → ℕ → ℕ → Cell
unary_cell (UnaryRow.Op u) l h = choose l ((0, unary u) ∷ []) (unary_at u)
unary_cell UnaryRow.Pop l h = choose l ((0, pop) ∷ []) pop_at
unary_cell UnaryRow.Push l h = choose l ((0, push) ∷ []) push_at
unary_cell UnaryRow.Other l h = choose l ((0, choose h ((3, jump_at) ∷ []) empty) ∷ []) empty

abbrev pub alu_or : Option Alu → (Alu → Cell) → Cell → Cell
alu_or None f c = c
alu_or (Some a) f c = f a

-- columns 0 and 1
abbrev pub unary_column : ℕ → ℕ → Cell
unary_column l h = unary_cell (unary_row h) l h

-- columns 2 to 6, in the rows of `alu_row` and in the others
abbrev pub alu_cell : ℕ → Alu → Cell
alu_cell l a = choose l ((2, alu_work a) ∷ (3, alu_work_at a) ∷ (4, alu_reg a) ∷ (5, alu_reg_at a) ∷ []) (alu_imm a)

abbrev pub other_cell : ℕ → ℕ → Cell
other_cell l h =
    choose l
    ((2, choose h ((14, ldc_dec) ∷ []) empty)
    ∷ (3, choose h ((12, ldc_load) ∷ (13, ldc_store) ∷ (14, ldc_inc) ∷ []) empty)
    ∷ (4, choose h ((14, load_reg) ∷ (15, call_at) ∷ []) empty)
    ∷ (5, choose h ((14, load_reg_at) ∷ (15, load_at_reg) ∷ []) empty)
    ∷ [])
    (choose h ((13, load_at_imm) ∷ (14, load_imm) ∷ (15, call) ∷ []) empty)

abbrev pub alu_column : ℕ → ℕ → Cell
alu_column l h = alu_or (alu_row h) (alu_cell l) (other_cell l h)

abbrev pub column7_rows : List (ℕ × Cell)
column7_rows =
    (8, load_indexed) ∷ (9, store_indexed) ∷ (10, ldc_load_long) ∷ (11, ldc_store_long)
    ∷ (12, load_work_at) ∷ (13, load_at_work) ∷ (14, ldc_load_short) ∷ (15, ldc_store_short) ∷ []

abbrev pub column7 : ℕ → Cell
column7 h = choose h column7_rows empty

-- columns 8 to E, the same in every row
abbrev pub row_columns : List (ℕ × Cell)
row_columns =
    (8, load_work_reg) ∷ (9, load_reg_work) ∷ (10, empty) ∷ (11, jump_rel) ∷ (12, load_work_imm) ∷ (13, jump) ∷ []

abbrev pub row_column : ℕ → Cell
row_column l = choose l row_columns inc_work

abbrev pub column_f_rows : List (ℕ × Cell)
column_f_rows =
    (6, implied Idle) ∷ (7, implied Stop) ∷ (8, implied Di) ∷ (9, implied Ei) ∷ (10, implied Ret) ∷ (11, implied Iret)
    ∷ (12, implied Rcf) ∷ (13, implied Scf) ∷ (14, implied Ccf) ∷ (15, implied Nop) ∷ []

abbrev pub column_f : ℕ → Cell
column_f h = choose h column_f_rows empty

-- the cell at column l, row h
abbrev pub cell_at : ℕ → ℕ → Cell
cell_at l h =
    pick (ltb l 2) (unary_column l h)
    (pick (ltb l 7) (alu_column l h) (pick (ltb l 8) (column7 h) (pick (ltb l 15) (row_column l) (column_f h))))

-- through a pointer DEC's page prints 6
abbrev pub unary_at_cycles : Unary → ℕ
unary_at_cycles Dec = 6
unary_at_cycles Rlc = 4
unary_at_cycles Inc = 4
unary_at_cycles Com = 4
unary_at_cycles Rl = 4
unary_at_cycles Clr = 4
unary_at_cycles Rrc = 4
unary_at_cycles Sra = 4
unary_at_cycles Rr = 4

-- RET and IRET as 01 says
abbrev pub implied_cycles : Implied → ℕ
implied_cycles Idle = 4
implied_cycles Stop = 4
implied_cycles Di = 4
implied_cycles Ei = 4
implied_cycles Ret = 8
implied_cycles Iret = 10
implied_cycles Rcf = 4
implied_cycles Scf = 4
implied_cycles Ccf = 4
implied_cycles Nop = 4

-- bytes (each page's format); 0 where no instruction is
abbrev pub cell_length : Cell → ℕ
cell_length empty = 0
cell_length (unary u) = 2
cell_length (unary_at u) = 2
cell_length pop = 2
cell_length pop_at = 2
cell_length push = 2
cell_length push_at = 2
cell_length jump_at = 2
cell_length (alu_work a) = 2
cell_length (alu_work_at a) = 2
cell_length (alu_reg a) = 3
cell_length (alu_reg_at a) = 3
cell_length (alu_imm a) = 3
cell_length ldc_dec = 2
cell_length ldc_inc = 2
cell_length ldc_load = 2
cell_length ldc_store = 2
cell_length load_reg = 3
cell_length load_reg_at = 3
cell_length load_imm = 3
cell_length load_at_imm = 3
cell_length load_at_reg = 3
cell_length call_at = 2
cell_length call = 3
cell_length load_indexed = 3
cell_length store_indexed = 3
cell_length ldc_load_long = 4
cell_length ldc_store_long = 4
cell_length load_work_at = 2
cell_length load_at_work = 2
cell_length ldc_load_short = 3
cell_length ldc_store_short = 3
cell_length load_work_reg = 2
cell_length load_reg_work = 2
cell_length jump_rel = 2
cell_length load_work_imm = 2
cell_length jump = 3
cell_length inc_work = 1
cell_length (implied p) = 1

-- cycles (each page's; a blank one is ADD's in that column, SRA's for both its forms); 0 where no instruction is
abbrev pub cell_cycles : Cell → ℕ
cell_cycles empty = 0
cell_cycles (unary u) = 4
cell_cycles (unary_at u) = unary_at_cycles u
cell_cycles pop = 8
cell_cycles pop_at = 8
cell_cycles push = 8
cell_cycles push_at = 8
cell_cycles jump_at = 8
cell_cycles (alu_work a) = 4
cell_cycles (alu_work_at a) = 6
cell_cycles (alu_reg a) = 6
cell_cycles (alu_reg_at a) = 6
cell_cycles (alu_imm a) = 6
cell_cycles ldc_dec = 10
cell_cycles ldc_inc = 10
cell_cycles ldc_load = 10
cell_cycles ldc_store = 10
cell_cycles load_reg = 6
cell_cycles load_reg_at = 6
cell_cycles load_imm = 6
cell_cycles load_at_imm = 6
cell_cycles load_at_reg = 6
cell_cycles call_at = 12
cell_cycles call = 14
cell_cycles load_indexed = 6
cell_cycles store_indexed = 6
cell_cycles ldc_load_long = 14
cell_cycles ldc_store_long = 14
cell_cycles load_work_at = 4
cell_cycles load_at_work = 4
cell_cycles ldc_load_short = 12
cell_cycles ldc_store_short = 12
cell_cycles load_work_reg = 4
cell_cycles load_reg_work = 4
cell_cycles jump_rel = 6
cell_cycles load_work_imm = 4
cell_cycles jump = 8
cell_cycles inc_work = 4
cell_cycles (implied p) = implied_cycles p

-- Flags (each page's; 02, request 07): those that an instruction may change. An operation on two bytes: a logical one leaves C alone
abbrev pub alu_names : Alu → FlagSet
alu_names Add = all_flags
alu_names Adc = all_flags
alu_names Sub = all_flags
alu_names Sbc = all_flags
alu_names Or = result_flags
alu_names And = result_flags
alu_names Tcm = result_flags
alu_names Tm = result_flags
alu_names Cp = all_flags
alu_names Xor = result_flags

-- on one byte: INC, DEC and COM leave C alone, CLR all four
abbrev pub unary_names : Unary → FlagSet
unary_names Dec = result_flags
unary_names Rlc = all_flags
unary_names Inc = result_flags
unary_names Com = result_flags
unary_names Rl = all_flags
unary_names Clr = no_flags
unary_names Rrc = all_flags
unary_names Sra = all_flags
unary_names Rr = all_flags

-- IRET loads FLAGS
abbrev pub implied_names : Implied → FlagSet
implied_names Idle = no_flags
implied_names Stop = no_flags
implied_names Di = no_flags
implied_names Ei = no_flags
implied_names Ret = no_flags
implied_names Iret = all_flags
implied_names Rcf = carry_flag
implied_names Scf = carry_flag
implied_names Ccf = carry_flag
implied_names Nop = no_flags

-- none where no instruction is
abbrev pub cell_names : Cell → FlagSet
cell_names empty = no_flags
cell_names (unary u) = unary_names u
cell_names (unary_at u) = unary_names u
cell_names pop = no_flags
cell_names pop_at = no_flags
cell_names push = no_flags
cell_names push_at = no_flags
cell_names jump_at = no_flags
cell_names (alu_work a) = alu_names a
cell_names (alu_work_at a) = alu_names a
cell_names (alu_reg a) = alu_names a
cell_names (alu_reg_at a) = alu_names a
cell_names (alu_imm a) = alu_names a
cell_names ldc_dec = no_flags
cell_names ldc_inc = no_flags
cell_names ldc_load = no_flags
cell_names ldc_store = no_flags
cell_names load_reg = no_flags
cell_names load_reg_at = no_flags
cell_names load_imm = no_flags
cell_names load_at_imm = no_flags
cell_names load_at_reg = no_flags
cell_names call_at = no_flags
cell_names call = no_flags
cell_names load_indexed = no_flags
cell_names store_indexed = no_flags
cell_names ldc_load_long = no_flags
cell_names ldc_store_long = no_flags
cell_names load_work_at = no_flags
cell_names load_at_work = no_flags
cell_names ldc_load_short = no_flags
cell_names ldc_store_short = no_flags
cell_names load_work_reg = no_flags
cell_names load_reg_work = no_flags
cell_names jump_rel = no_flags
cell_names load_work_imm = no_flags
cell_names jump = no_flags
cell_names inc_work = unary_names Inc
cell_names (implied p) = implied_names p

-- what a first byte says
abbrev pub cell_of : ℕ → Cell
cell_of b = cell_at (b % 16) (b / 16)

abbrev pub length_of : ℕ → ℕ
length_of b = cell_length (cell_of b)

abbrev pub cycles_of : ℕ → ℕ
cycles_of b = cell_cycles (cell_of b)

abbrev pub names_of : ℕ → FlagSet
names_of b = cell_names (cell_of b)
