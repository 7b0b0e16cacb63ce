-- Laws of requests and of the interrupt enable.
-- Assumes nothing.
use Rattle.std.specs.Prelude.{◌≡◌, refl, ◌≢◌, Bool, true, false, List, ℕ, ◌%◌, ◌/◌, ◌<◌, eqb, length, get_or}
use Rattle.std.proofs.Common.{arith, length-set, get_or-set_other}
use Rattle.std.specs.Int.Bits.{bit_and, bit_or}
use Rattle.std.proofs.lemmas.Nat.{or_lt}
use Rattle.std.proofs.lemmas.Nat.Bits.{and_high}
use Rattle.base.specs.Addresses.{sym_cell}
use Rattle.base.specs.Choice.{pick}
use Rattle.base.specs.Cells.{Bytes, set_cells}
use Rattle.chip.specs.Registers.{kept_bits, written_of, kept_of, store_of}
use Rattle.chip.specs.Interrupts.{interrupts_enabled, set_interrupts_of, raise_of, post_of}
use Rattle.chip.specs.Laws.{store_length, store_other, store_same, store_bytes}

raise_length : (regs : List ℕ) (on : Bool) (a bits : ℕ) → length (raise_of regs on a bits) ≡ length regs
unfolding raise_of
raise_length regs true a bits = simp length-set
raise_length regs false a bits = refl

raise_other : (regs : List ℕ) (on : Bool) (a bits k : ℕ) → k ≢ a → get_or (raise_of regs on a bits) k 0 ≡ get_or regs k 0
unfolding raise_of
raise_other regs true a bits k n = get_or-set_other regs a k (bit_or (get_or regs a 0) bits) 0 n
raise_other regs false a bits k n = refl

raise_bytes : (regs : List ℕ) (on : Bool) (a bits : ℕ) → bits < 256 → Bytes regs → Bytes (raise_of regs on a bits)
unfolding raise_of
raise_bytes regs true a bits l h = set_cells (λ (k x : ℕ). x < 256) regs a _ h (or_lt 8 (get_or regs a 0) bits (h a) l)
raise_bytes regs false a bits l h = h

pub post_length : (regs : List ℕ) (b : ℕ) → length (post_of regs b) ≡ length regs
unfolding post_of
post_length regs b = simp raise_length

-- no cell but D2H, F3H, E8H and F7H
pub post_other : (regs : List ℕ) (b k : ℕ) → k ≢ 0xD2 → k ≢ 0xF3 → k ≢ 0xE8 → k ≢ 0xF7
    → get_or (post_of regs b) k 0 ≡ get_or regs k 0
unfolding post_of
post_other regs b k n₁ n₂ n₃ n₄ = simp raise_other

pub post_bytes : (regs : List ℕ) (b : ℕ) → Bytes regs → Bytes (post_of regs b)
unfolding post_of
post_bytes regs b h =
    raise_bytes _ _ 0xF7 0x08 (omega arith)
    (raise_bytes _ _ 0xE8 0x04 (omega arith)
    (raise_bytes _ _ 0xE8 0x01 (omega arith)
    (raise_bytes _ _ 0xF3 0x01 (omega arith)
    (raise_bytes regs _ 0xD2 0x01 (omega arith) h))))

-- The interrupt enable

-- what leaves SYM as it is leaves the enable
pub enabled_same : (regs after : List ℕ) → get_or after sym_cell 0 ≡ get_or regs sym_cell 0 → interrupts_enabled after ≡ interrupts_enabled regs
unfolding interrupts_enabled
enabled_same regs after e = rw e

pub post_enabled : (regs : List ℕ) (b : ℕ) → interrupts_enabled (post_of regs b) ≡ interrupts_enabled regs
post_enabled regs b =
    enabled_same regs (post_of regs b) (post_other regs b sym_cell (λ e. omega arith) (λ e. omega arith) (λ e. omega arith) (λ e. omega arith))

-- a write to SYM: bit 2 of what is written
pub store_enabled : (regs : List ℕ) (v : ℕ) → sym_cell < length regs → interrupts_enabled (store_of regs sym_cell v) ≡ eqb (v / 4 % 2) 1
unfolding interrupts_enabled kept_of written_of kept_bits
store_enabled regs v h =
    let e : bit_and v 4 / 4 % 2 ≡ v / 4 % 2 = omega (arith, and_high v 1 2) in
    rw (store_same regs sym_cell v h, e)

pub set_interrupts_enabled : (regs : List ℕ) (on : Bool) → sym_cell < length regs → interrupts_enabled (set_interrupts_of regs on) ≡ on
unfolding set_interrupts_of
set_interrupts_enabled regs true h = store_enabled regs 0x04 h
set_interrupts_enabled regs false h = store_enabled regs 0x00 h

pub set_interrupts_length : (regs : List ℕ) (on : Bool) → length (set_interrupts_of regs on) ≡ length regs
unfolding set_interrupts_of
set_interrupts_length regs on = store_length regs sym_cell (pick on 0x04 0x00)

pub set_interrupts_other : (regs : List ℕ) (on : Bool) (k : ℕ) → k ≢ sym_cell → get_or (set_interrupts_of regs on) k 0 ≡ get_or regs k 0
unfolding set_interrupts_of
set_interrupts_other regs on k n = store_other regs sym_cell (pick on 0x04 0x00) k n

enable_byte : (on : Bool) → pick on 0x04 0x00 < 256
enable_byte true = omega arith
enable_byte false = omega arith

pub set_interrupts_bytes : (regs : List ℕ) (on : Bool) → Bytes regs → Bytes (set_interrupts_of regs on)
unfolding set_interrupts_of
set_interrupts_bytes regs on h = store_bytes regs sym_cell (pick on 0x04 0x00) h (enable_byte on)
