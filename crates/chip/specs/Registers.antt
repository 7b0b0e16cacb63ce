-- The register file: which addresses are mapped, what a read gives and what a write leaves (01, "Memories").
-- Assumes nothing.
use Rattle.std.specs.Prelude.{ℕ, ◌/◌, ◌%◌, List, [], ◌∷◌, ◌++◌, map, Bool, false, ◌||◌, ◌&&◌, get_or, set, ltb, leb, eqb}
use Rattle.std.specs.Int.Bits.{bit_and, bit_or}
use Rattle.base.specs.Choice.{pick, choose}

-- the control registers that keep bits, with the bits that they keep
abbrev pub kept_rows : List (ℕ × ℕ)
kept_rows =
    (0xD1, 0xFF) ∷ (0xD2, 0xCB) ∷ (0xD4, 0x98) ∷ (0xD5, 0xF0) ∷ (0xD9, 0xFF) ∷ (0xDB, 0xFF) ∷ (0xDC, 0xFC)
    ∷ (0xDF, 0x04) ∷ (0xE0, 0xFF) ∷ (0xE1, 0x07) ∷ (0xE2, 0x7F) ∷ (0xE6, 0xFF) ∷ (0xE7, 0xFF) ∷ (0xE8, 0x0F)
    ∷ (0xE9, 0xCF) ∷ (0xEA, 0x7F) ∷ (0xEB, 0xFF) ∷ (0xF2, 0xFF) ∷ (0xF3, 0xDF) ∷ (0xF4, 0xFF) ∷ (0xF7, 0xFE) ∷ []

-- the bits that address a keeps: all in RAM, none where a write is dropped or nothing is mapped
unfoldable pub kept_bits : ℕ → ℕ
kept_bits a = pick (ltb a 0xD0) 0xFF (choose a kept_rows 0)

-- whether a is one of the list's numbers
abbrev pub among : ℕ → List ℕ → Bool
among a [] = false
among a (b ∷ r) = ◌||◌ (eqb a b) (among a r)

-- read only: a write is dropped
abbrev pub read_only : ℕ → Bool
read_only a = among a (0xD0 ∷ 0xDD ∷ 0xF8 ∷ 0xF9 ∷ [])

-- the test register reads 0, and a write is dropped
abbrev pub test_register : ℕ → Bool
test_register a = eqb a 0xDE

unfoldable pub mapped_of : ℕ → Bool
mapped_of a = ◌||◌ (ltb a 0xD0) (◌||◌ (among a (map (λ (e : ℕ × ℕ). e.0) kept_rows)) (◌||◌ (read_only a) (test_register a)))

-- the inputs of a step: the 8 bytes of its schedule record, and a ninth, 1 on a part whose A/D inputs from 3 on are grounded, else 0 (request 04)
abbrev pub inputs_of : Bool → List ℕ → List ℕ
inputs_of grounds rec = rec ++ (pick grounds 1 0 ∷ [])

-- request 04: "Reading F8H or F9H gives 0 while ADCON.7-.4 is 3 or more, since those inputs are grounded there". ADCON is F7H, as it is at the read
unfoldable pub grounded_now : List ℕ → List ℕ → Bool
grounded_now regs r = eqb (get_or r 8 0) 1 && leb 3 (get_or regs 0xF7 0 / 16)

-- what a step with inputs r reads from bytes 1 to 7 of its schedule record ("One step")
abbrev pub input_rows : List ℕ → List ℕ → List (ℕ × ℕ)
input_rows regs r =
    (0xE0, get_or r 1 0) ∷ (0xE1, get_or r 2 0 % 8) ∷ (0xE2, get_or r 3 0 % 128) ∷ (0xD0, get_or r 4 0) ∷ (0xDD, get_or r 5 0)
    ∷ (0xF8, pick (grounded_now regs r) 0 (get_or r 6 0)) ∷ (0xF9, pick (grounded_now regs r) 0 (get_or r 7 0 % 4)) ∷ []

-- what a step with inputs r reads at a: the byte in RAM, the record's input, else the kept bits
unfoldable pub load_of : List ℕ → List ℕ → ℕ → ℕ
load_of regs r a =
    pick (ltb a 0xD0) (get_or regs a 0) (choose a (input_rows regs r) (bit_and (get_or regs a 0) (kept_bits a)))

-- F7H: bit 3 stays, except that writing 1 to bit 0 clears it
abbrev pub written_f7 : ℕ → ℕ → ℕ
written_f7 old v = pick (eqb (v % 2) 1) (bit_and v 0xF7) (bit_or (bit_and v 0xF7) (bit_and old 0x08))

-- what a write of v asks for where a register that holds old does not simply take it; of a pending bit (D2.0, E8.0, E8.2, F3.0): old AND written
abbrev pub written_rows : ℕ → ℕ → List (ℕ × ℕ)
written_rows old v =
    (0xD2, bit_and v (bit_or old 0xFE)) ∷ (0xE8, bit_and v (bit_or old 0xFA)) ∷ (0xF3, bit_and v (bit_or old 0xFE))
    ∷ (0xF7, written_f7 old v) ∷ []

unfoldable pub written_of : ℕ → ℕ → ℕ → ℕ
written_of a old v = choose a (written_rows old v) v

-- what a write of v leaves at a, which holds old: v in RAM, old where no bit is kept, else the kept bits
unfoldable pub kept_of : ℕ → ℕ → ℕ → ℕ
kept_of a old v = pick (ltb a 0xD0) v (pick (eqb (kept_bits a) 0) old (bit_and (written_of a old v) (kept_bits a)))

unfoldable pub store_of : List ℕ → ℕ → ℕ → List ℕ
store_of regs a v = set regs a (kept_of a (get_or regs a 0) v)
