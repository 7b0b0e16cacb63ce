-- Interrupt enable, pending sources and the requests of a schedule record (01, "One step").
-- Assumes nothing.
use Rattle.std.specs.Prelude.{ℕ, ◌%◌, ◌/◌, List, Bool, ◌||◌, get_or, set, eqb}
use Rattle.std.specs.Int.Bits.{bit_or}
use Rattle.base.specs.Addresses.{sym_cell}
use Rattle.base.specs.Choice.{pick}
use Rattle.chip.specs.Registers.{store_of}

-- SYM.2
unfoldable pub interrupts_enabled : List ℕ → Bool
interrupts_enabled regs = eqb (get_or regs sym_cell 0 / 4 % 2) 1

-- SYM.2 becomes on: a write of SYM's one kept bit
unfoldable pub set_interrupts_of : List ℕ → Bool → List ℕ
set_interrupts_of regs on = store_of regs sym_cell (pick on 0x04 0x00)

-- an external source is enabled and pending: E8.1 with E8.0, E8.3 with E8.2
unfoldable pub pending_edge : List ℕ → Bool
pending_edge regs = ◌||◌ (eqb (get_or regs 0xE8 0 % 4) 3) (eqb (get_or regs 0xE8 0 / 4 % 4) 3)

-- any source is enabled and pending: D2.1 with D2.0, F3.1 with F3.0, or an external one
unfoldable pub pending_any : List ℕ → Bool
pending_any regs = ◌||◌ (◌||◌ (eqb (get_or regs 0xD2 0 % 4) 3) (eqb (get_or regs 0xF3 0 % 4) 3)) (pending_edge regs)

-- the bits are set at a, if on
unfoldable pub raise_of : List ℕ → Bool → ℕ → ℕ → List ℕ
raise_of regs on a bits = pick on (set regs a (bit_or (get_or regs a 0) bits)) regs

-- the requests of byte b: bit 0 sets D2.0, 1 F3.0, 2 E8.0, 3 E8.2, 4 F7.3
unfoldable pub post_of : List ℕ → ℕ → List ℕ
post_of regs b =
    raise_of
    (raise_of
    (raise_of
    (raise_of
    (raise_of regs (eqb (b % 2) 1) 0xD2 0x01)
    (eqb (b / 2 % 2) 1) 0xF3 0x01)
    (eqb (b / 4 % 2) 1) 0xE8 0x01)
    (eqb (b / 8 % 2) 1) 0xE8 0x04)
    (eqb (b / 16 % 2) 1) 0xF7 0x08
