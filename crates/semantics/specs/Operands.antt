-- Operands, FLAGS and the stack (01, "One step"; the manual's chapter 3, addressing modes, and the system stack of chapter 2).
-- Assumes nothing.
use Rattle.std.specs.Prelude.{ℕ, ◌+◌, ◌*◌, ◌/◌, ◌%◌, Bool, true, false, ◌&&◌, List, eqb, get_or, set}
use Rattle.base.specs.declared.RomAddr.{RomAddr}
use Rattle.base.specs.Addresses.{reg_addr, flags_cell, sp_cell}
use Rattle.base.specs.Choice.{pick}
use Rattle.chip.specs.Registers.{mapped_of, load_of, store_of}
use Rattle.isa.specs.declared.FlagSet.{FlagSet}
use Rattle.alu.specs.Flags.{update}
use Rattle.action.specs.declared.Operand.{Operand}
use Rattle.action.specs.declared.Operand.TheVariants.{Register, Indirect, Immediate}
use Rattle.semantics.specs.declared.Place.{Place}
use Rattle.semantics.specs.declared.Fetched.{Fetched}

-- SP keeps all its bits, FLAGS bits 7 to 4
abbrev pub sp_of : List ℕ → ℕ
sp_of regs = get_or regs sp_cell 0

abbrev pub flags_of : List ℕ → ℕ
flags_of regs = get_or regs flags_cell 0 / 16 * 16

-- the place of an operand; the pointer's byte and the offset are added modulo 256. A number has no place
unfoldable pub place_of : List ℕ → List ℕ → Operand → Place
place_of regs rec (Register a) = record { addr = a; ok = mapped_of a.0 }
place_of regs rec (Indirect p x) =
    let a = (load_of regs rec p.0 + x) % 256 in
    record { addr = reg_addr a; ok = mapped_of p.0 && mapped_of a }
place_of regs rec (Immediate n) = record { addr = reg_addr 0; ok = false }

-- what stands at an operand's place
unfoldable pub fetch_place : List ℕ → List ℕ → Place → Fetched
fetch_place regs rec p = record { value = load_of regs rec p.addr.0; ok = p.ok }

unfoldable pub fetch_of : List ℕ → List ℕ → Operand → Fetched
fetch_of regs rec (Register a) = fetch_place regs rec (place_of regs rec (Register a))
fetch_of regs rec (Indirect p x) = fetch_place regs rec (place_of regs rec (Indirect p x))
fetch_of regs rec (Immediate n) = record { value = n; ok = true }

-- the flags that an instruction names, n, are set over FLAGS as it stands, as they are in x; where none is named FLAGS stays whole
unfoldable pub with_flags : List ℕ → FlagSet → ℕ → List ℕ
with_flags regs n x = pick (eqb n.0 0) regs (set regs flags_cell (update (get_or regs flags_cell 0) n x))

-- the registers after a push, and whether SP pointed to a mapped register
pub record Pushed : Type 0 where
  pub regs : List ℕ
  pub ok : Bool

-- SP is lowered by one; it counts modulo 256
unfoldable pub lowered : List ℕ → List ℕ
lowered regs = set regs sp_cell ((sp_of regs + 255) % 256)

unfoldable pub raised : List ℕ → ℕ → List ℕ
raised regs k = set regs sp_cell ((sp_of regs + k) % 256)

-- an ordinary write where SP points
unfoldable pub store_top : List ℕ → ℕ → Pushed
store_top regs v = record { regs = store_of regs (sp_of regs) v; ok = mapped_of (sp_of regs) }

-- a push lowers SP, then writes where it points
unfoldable pub push_of : List ℕ → ℕ → Pushed
push_of regs v = store_top (lowered regs) v

-- the low half, then the high half
unfoldable pub push_address : List ℕ → RomAddr → Pushed
push_address regs a =
    let low = push_of regs (a.0 % 256) in
    let high = push_of low.regs (a.0 / 256) in
    record { regs = high.regs; ok = low.ok && high.ok }

-- the two bytes at a register and at the one behind it, high half first
unfoldable pub word_at : List ℕ → List ℕ → ℕ → ℕ
word_at regs rec a = load_of regs rec a * 256 + load_of regs rec ((a + 1) % 256)

unfoldable pub word_mapped : ℕ → Bool
word_mapped a = mapped_of a && mapped_of ((a + 1) % 256)
