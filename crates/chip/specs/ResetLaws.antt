-- Laws of the registers at reset.
-- Assumes nothing.
use Rattle.std.specs.Prelude.{◌≡◌, refl, false, List, [], ◌∷◌, ℕ, ◌<◌, length, set, replicate}
use Rattle.std.proofs.Common.{arith}
use Rattle.base.specs.Cells.{Cells, Bytes, filled_cells, set_cells}
use Rattle.base.specs.ChoiceLaws.{Each}
use Rattle.chip.specs.Interrupts.{interrupts_enabled}
use Rattle.chip.specs.Reset.{reset_rows, stored_over, reset_registers}

stored_cells : (P : ℕ → ℕ → Type 0) (rows : List (ℕ × ℕ)) (regs : List ℕ) → Each P rows → Cells P regs → Cells P (stored_over rows regs)
stored_cells P [] regs h c = c
stored_cells P (e ∷ r) regs h c = stored_cells P r (set regs e.0 e.1) h.1 (set_cells P regs e.0 e.1 c h.0)

pub reset_length : length reset_registers ≡ 256
unfolding reset_registers
reset_length = refl

pub reset_bytes : Bytes reset_registers
unfolding reset_registers
reset_bytes =
    stored_cells (λ (k x : ℕ). x < 256) reset_rows (replicate 256 0) (omega arith)
    (filled_cells (λ (k x : ℕ). x < 256) 256 0 (λ (k : ℕ). omega arith) (λ (k : ℕ). omega arith))

pub reset_enabled : interrupts_enabled reset_registers ≡ false
unfolding interrupts_enabled reset_registers
reset_enabled = refl
