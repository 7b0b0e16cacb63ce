-- The states that a reset leaves: table 8-1's control values, program counter 0100H, running, cycle total 0. What the table leaves open stays open:
-- RAM, SP, the kept bits of FLAGS, F8H and bits 1 and 0 of F9H; F8H and F9H are left open whole (a step reads its record there, never this byte).
-- Assumes nothing.
use Rattle.std.specs.Prelude.{ℕ, ◌%◌, ◌≤◌, ◌<◌, ◌≡◌, ◌≢◌, length, get_or}
use Rattle.base.specs.Addresses.{rom_addr, flags_cell, sp_cell}
use Rattle.chip.specs.Reset.{reset_registers}
use Rattle.semantics.specs.declared.Mode.TheVariants.{Running}
use Rattle.semantics.specs.declared.State.{State}

-- the reset state whose open bytes (RAM, SP, FLAGS, F8H, F9H) are all 0
unfoldable pub reset_state : State
reset_state = record { regs = reset_registers; pc = rom_addr 0x100; mode = Running; cycles = 0 }

-- a reset state, whatever RAM, SP, the kept bits of FLAGS, F8H and F9H hold
pub record IsReset (s : State) : Type 0 where
  pub size : length s.regs ≡ 256
  pub bytes : (a : ℕ) → get_or s.regs a 0 < 256
  pub control : (a : ℕ) → 0xD0 ≤ a → a < 256 → a ≢ flags_cell → a ≢ sp_cell → a ≢ 0xF8 → a ≢ 0xF9
      → get_or s.regs a 0 ≡ get_or reset_registers a 0
  pub flags : get_or s.regs flags_cell 0 % 16 ≡ 0
  pub counter : s.pc ≡ rom_addr 0x100
  pub mode : s.mode ≡ Running
  pub cycles : s.cycles ≡ 0
