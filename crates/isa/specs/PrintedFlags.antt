-- The pages of chapter 6 in their order: the flags that each says are affected, and its first bytes as printed, but for TCM's, which 01 gives (its page
-- repeats TM's). And that the map says the same of all 256 first bytes, in one equation each, by computing: it names the flags of a first byte's page, and
-- the 198 that it defines stand on one page each, the others on none.
-- Assumes nothing.
use Rattle.std.specs.Prelude.{ℕ, ◌+◌, ◌*◌, ◌<◌, ◌≡◌, refl, List, [], ◌∷◌, ◌++◌, map, eqb}
use Rattle.base.specs.Choice.{pick, from, count}
use Rattle.base.specs.Table.{agree}
use Rattle.isa.specs.declared.Flag.{Flag}
use Rattle.isa.specs.declared.Flag.TheVariants.{Carry, Zero, Sign, Overflow}
use Rattle.isa.specs.declared.FlagSet.{FlagSet}
use Rattle.isa.specs.Flags.{weight_of, no_flags}
use Rattle.isa.specs.Map.{length_of, names_of}

-- what a page lists as affected
abbrev czsv : List Flag
czsv = Carry ∷ Zero ∷ Sign ∷ Overflow ∷ []

abbrev zsv : List Flag
zsv = Zero ∷ Sign ∷ Overflow ∷ []

abbrev c : List Flag
c = Carry ∷ []

abbrev none : List Flag
none = []

-- 'rE, r=0 to F', and so on: the first bytes of a column
abbrev column : ℕ → List ℕ
column low = map (λ r. 16 * r + low) (from 16 0)

unfoldable pub pages : List (List Flag × List ℕ)
pages =
    (czsv, from 5 0x12)  -- ADC
    ∷ (czsv, from 5 0x02)  -- ADD
    ∷ (zsv, from 5 0x52)  -- AND
    ∷ (none, 0xF6 ∷ 0xF4 ∷ [])  -- CALL
    ∷ (c, 0xEF ∷ [])  -- CCF
    ∷ (none, 0xB0 ∷ 0xB1 ∷ [])  -- CLR
    ∷ (zsv, 0x60 ∷ 0x61 ∷ [])  -- COM
    ∷ (czsv, from 5 0xA2)  -- CP
    ∷ (zsv, 0x00 ∷ 0x01 ∷ [])  -- DEC
    ∷ (none, 0x8F ∷ [])  -- DI
    ∷ (none, 0x9F ∷ [])  -- EI
    ∷ (none, 0x6F ∷ [])  -- IDLE
    ∷ (zsv, 0x20 ∷ 0x21 ∷ column 0xE)  -- INC
    ∷ (czsv, 0xBF ∷ [])  -- IRET: all become what they were before the interrupt
    ∷ (none, 0x30 ∷ column 0xD)  -- JP
    ∷ (none, column 0xB)  -- JR
    ∷ (none, column 0xC ++ (column 0x8 ++ (column 0x9 ++ (0xC7 ∷ 0xD7 ∷ 0xE4 ∷ 0xE5 ∷ 0xE6 ∷ 0xD6 ∷ 0xF5 ∷ 0x87 ∷ 0x97 ∷ []))))  -- LD
    ∷ (none, 0xC3 ∷ 0xD3 ∷ 0xE7 ∷ 0xF7 ∷ 0xA7 ∷ 0xB7 ∷ [])  -- LDC, LDE
    ∷ (none, 0xE2 ∷ [])  -- LDCD, LDED
    ∷ (none, 0xE3 ∷ [])  -- LDCI, LDEI
    ∷ (none, 0xFF ∷ [])  -- NOP
    ∷ (zsv, from 5 0x42)  -- OR
    ∷ (none, 0x50 ∷ 0x51 ∷ [])  -- POP
    ∷ (none, 0x70 ∷ 0x71 ∷ [])  -- PUSH
    ∷ (c, 0xCF ∷ [])  -- RCF
    ∷ (none, 0xAF ∷ [])  -- RET
    ∷ (czsv, 0x90 ∷ 0x91 ∷ [])  -- RL
    ∷ (czsv, 0x10 ∷ 0x11 ∷ [])  -- RLC
    ∷ (czsv, 0xE0 ∷ 0xE1 ∷ [])  -- RR
    ∷ (czsv, 0xC0 ∷ 0xC1 ∷ [])  -- RRC
    ∷ (czsv, from 5 0x32)  -- SBC
    ∷ (c, 0xDF ∷ [])  -- SCF
    ∷ (none, 0x7F ∷ [])  -- STOP
    ∷ (czsv, 0xD0 ∷ 0xD1 ∷ [])  -- SRA
    ∷ (czsv, from 5 0x22)  -- SUB
    ∷ (zsv, from 5 0x62)  -- TCM
    ∷ (zsv, from 5 0x72)  -- TM
    ∷ (zsv, from 5 0xB2)  -- XOR
    ∷ []

-- how often a first byte stands on these pages
abbrev occurrences : List (List Flag × List ℕ) → ℕ → ℕ
occurrences [] b = 0
occurrences (p ∷ r) b = count (eqb b) p.1 + occurrences r b

-- the flags of its page; none where no page has it
abbrev affected : List (List Flag × List ℕ) → ℕ → List Flag
affected [] b = none
affected (p ∷ r) b = pick (eqb (count (eqb b) p.1) 0) (affected r b) p.0

-- flags as a set, by their bits in FLAGS
abbrev bits : List Flag → ℕ
bits [] = 0
bits (g ∷ r) = weight_of g + bits r

abbrev pub printed_flags : ℕ → FlagSet
printed_flags b = record { 0 = bits (affected pages b) }

abbrev pub printed_on : ℕ → ℕ
printed_on b = occurrences pages b

pub flags_as_printed : (b : ℕ) → b < 256 → printed_flags b ≡ names_of b
unfolding pages
flags_as_printed b h = agree printed_flags names_of no_flags 256 refl b h

-- the map gives an undefined first byte the length 0
pub on_one_page : (b : ℕ) → b < 256 → printed_on b ≡ pick (eqb (length_of b) 0) 0 1
unfolding pages
on_one_page b h = agree printed_on (λ b. pick (eqb (length_of b) 0) 0 1) 0 256 refl b h
