-- The control registers' values at reset: table 8-1 of the manual.
-- Assumes nothing.
use Rattle.std.specs.Prelude.{ℕ, List, [], ◌∷◌, replicate, set}

-- Table 8-1, each row of a mapped register but FLAGS (D5H) and SP (D9H), whose bits it leaves open. A bit that is not used ('-'), and a bit of
-- F8H and F9H that is open ('x'), is 0 here.
abbrev pub reset_rows : List (ℕ × ℕ)
reset_rows =
    (0xD0, 0x00) ∷ (0xD1, 0xFF) ∷ (0xD2, 0x00) ∷ (0xD4, 0x00) ∷ (0xDB, 0x00) ∷ (0xDC, 0x00) ∷ (0xDD, 0x00) ∷ (0xDE, 0x00)
    ∷ (0xDF, 0x00) ∷ (0xE0, 0x00) ∷ (0xE1, 0x00) ∷ (0xE2, 0x00) ∷ (0xE6, 0x00) ∷ (0xE7, 0x00) ∷ (0xE8, 0x00) ∷ (0xE9, 0x00)
    ∷ (0xEA, 0x00) ∷ (0xEB, 0x00) ∷ (0xF2, 0x00) ∷ (0xF3, 0x00) ∷ (0xF4, 0x00) ∷ (0xF7, 0x00) ∷ (0xF8, 0x00) ∷ (0xF9, 0x00) ∷ []

-- the rows' values stored over the list, in order
abbrev pub stored_over : List (ℕ × ℕ) → List ℕ → List ℕ
stored_over [] regs = regs
stored_over (e ∷ r) regs = stored_over r (set regs e.0 e.1)

unfoldable pub reset_registers : List ℕ
reset_registers = stored_over reset_rows (replicate 256 0)
