-- A number as an address of the register file, or of program memory; the registers that definitions name; an address with an offset.
-- Assumes nothing.
use Rattle.std.specs.Prelude.{ℕ, ◌+◌, ◌%◌, nat_lt}
use Rattle.base.specs.Choice.{pick}
use Rattle.base.specs.declared.RegAddr.{RegAddr}
use Rattle.base.specs.declared.RomAddr.{RomAddr}

abbrev pub reg_addr : ℕ → RegAddr
reg_addr a = record { 0 = a }

abbrev pub rom_addr : ℕ → RomAddr
rom_addr a = record { 0 = a }

-- the cells of FLAGS, SP, SYM and STOPCON
abbrev pub flags_cell : ℕ
flags_cell = 0xD5

abbrev pub sp_cell : ℕ
sp_cell = 0xD9

abbrev pub sym_cell : ℕ
sym_cell = 0xDF

abbrev pub stopcon_cell : ℕ
stopcon_cell = 0xF4

-- a word with an offset of -128 to 127, modulo 65536
abbrev pub displaced : ℕ → ℕ → ℕ
displaced w x = pick (nat_lt x 128) ((w + x) % 65536) ((w + (65280 + x)) % 65536)
