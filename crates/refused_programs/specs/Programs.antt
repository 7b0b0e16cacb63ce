-- Nineteen small programs with their certificates. Eighteen break one rule each; one is accepted.
-- Assumes nothing.
use Rattle.std.specs.Prelude.{List, [], ◌∷◌, ◌++◌, ℕ, ◌-◌, length, replicate}
use Rattle.base.specs.Choice.{choose}
use Rattle.base.specs.declared.Profile.TheVariants.{Rom4K, Rom2K}
use Rattle.base.specs.Parts.{Part, part_of}
use Rattle.certificate.specs.Layout.{Certificate, certificate_from}
use Rattle.logger_cases.specs.Gathered.{up_to}
use Rattle.logger_cases.specs.Linearised as linearised

-- a part, an image, and what its certificate has: entries by address, cells by register, rows by routine, the floor, the cycles of
-- an interrupt entry
pub record Program : Type 0 where
  pub part : Part
  pub image : List ℕ
  pub entries : List (ℕ × List ℕ)
  pub cells : List (ℕ × List ℕ)
  pub rows : List (ℕ × List ℕ)
  pub floor : ℕ
  pub entry_cost : ℕ

-- where code ends, and with it the entries
abbrev pub code_end : ℕ
code_end = 0x160

-- zero where nothing is listed; the top is C0H
abbrev pub certificate : Program → Certificate
certificate p =
    certificate_from (up_to code_end (λ a. choose a p.entries [])) (up_to 256 (λ x. choose x p.cells [])) (up_to 64 (λ n. choose n p.rows []))
    p.floor 0xC0 p.entry_cost

-- code at 0100H, at 0120H and, of the service, at 0140H
abbrev padded : List ℕ → List ℕ
padded code = code ++ replicate (32 - length code) 0xFF

unfoldable pub image_of : Part → List ℕ → List ℕ → List ℕ → List ℕ
image_of part main routine service =
    (0x01 ∷ 0x40 ∷ []) ++ (replicate 254 0xFF ++ (padded main ++ (padded routine ++ (padded service ++ replicate (part.rom - code_end) 0xFF))))

-- the entry of an address, with one claim: routine, depth, B below 256; cell, lo, hi
abbrev claiming : ℕ → ℕ → ℕ → ℕ → ℕ → ℕ → ℕ → ℕ × List ℕ
claiming address routine depth base cell lo hi =
    (address, routine ∷ depth ∷ 0 ∷ base ∷ 0 ∷ 0 ∷ cell ∷ lo ∷ hi ∷ 0xFF ∷ 0 ∷ 0 ∷ 0xFF ∷ 0 ∷ [])

-- without claims
abbrev entry : ℕ → ℕ → ℕ → ℕ → ℕ × List ℕ
entry address routine depth base = claiming address routine depth base 0xFF 0 0

-- the row of a register that main alone writes, in no table
abbrev mains : ℕ → ℕ × List ℕ
mains x = (x, 1 ∷ 1 ∷ 0 ∷ [])

-- the row of a routine that starts between 0100H and 01FFH: the start's low half, side, need, bound below 256
abbrev row : ℕ → ℕ → ℕ → ℕ → ℕ → ℕ × List ℕ
row n start side need bound = (n, 0x01 ∷ start ∷ side ∷ need ∷ 0 ∷ bound ∷ [])

-- main and routine on a part, with main's need; the service is IRET, with bound 10
abbrev program_on : Part → List ℕ → List ℕ → ℕ → List (ℕ × List ℕ) → List (ℕ × List ℕ) → List (ℕ × List ℕ) → ℕ → Program
program_on part main routine need entries cells rows floor = record {
  part = part;
  image = image_of part main routine (0xBF ∷ []);
  entries = entry 0x140 2 0 10 ∷ entries;
  cells = cells;
  rows = row 1 0x00 1 need 0 ∷ row 2 0x40 2 0 10 ∷ rows;
  floor = floor;
  entry_cost = 0;
}

-- on the 4K part
abbrev program_of : List ℕ → List ℕ → ℕ → List (ℕ × List ℕ) → List (ℕ × List ℕ) → List (ℕ × List ℕ) → ℕ → Program
program_of = program_on (part_of Rom4K)

-- main is LD SP,#C0H; CALL 0120H, again and again
abbrev calling : List ℕ → ℕ → List (ℕ × List ℕ) → List (ℕ × List ℕ) → Program
calling routine need entries rows =
    program_of (0xE6 ∷ 0xD9 ∷ 0xC0 ∷ 0xF6 ∷ 0x01 ∷ 0x20 ∷ 0x8B ∷ 0xFB ∷ []) routine need
    (entry 0x100 1 255 0 ∷ entry 0x103 1 0 0 ∷ entry 0x106 1 0 0 ∷ entries) [] rows 0xA0

-- main is LD SP,#C0H; LD P0PND,#02H, which enables the first external source; EI, then a jump to itself; the service, with its need and
-- bound, and the cycles of its entry
abbrev interrupted : List ℕ → ℕ → ℕ → ℕ → List (ℕ × List ℕ) → Program
interrupted service need bound cost entries = record {
  part = part_of Rom4K;
  image = image_of (part_of Rom4K) (0xE6 ∷ 0xD9 ∷ 0xC0 ∷ 0xE6 ∷ 0xE8 ∷ 0x02 ∷ 0x9F ∷ 0x8B ∷ 0xFE ∷ []) [] service;
  entries = entry 0x100 1 255 0 ∷ entry 0x103 1 0 0 ∷ entry 0x106 1 0 0 ∷ entry 0x107 1 0 0 ∷ entries;
  cells = mains 0xE8 ∷ [];
  rows = row 1 0x00 1 0 0 ∷ row 2 0x40 2 need bound ∷ [];
  floor = 0xA0;
  entry_cost = cost;
}

-- the instruction at 0100H is undefined
unfoldable pub stopping : Program
stopping = program_of (0x0A ∷ []) [] 0 (entry 0x100 1 255 0 ∷ []) [] [] 0xA0

-- main jumps to the start of routine 3, which is RET
unfoldable pub straying : Program
straying = program_of (0x8B ∷ 0x1E ∷ []) (0xAF ∷ []) 0 (entry 0x100 1 255 0 ∷ entry 0x120 3 0 8 ∷ []) [] (row 3 0x20 1 0 8 ∷ []) 0xA0

-- RET is called, and has no entry
unfoldable pub unnamed : Program
unnamed = calling (0xAF ∷ []) 2 [] []

-- LD R0,@R1, then a jump to itself; no table is declared
unfoldable pub pointing : Program
pointing = program_of (0xC7 ∷ 0x01 ∷ 0x8B ∷ 0xFE ∷ []) [] 0 (entry 0x100 1 255 0 ∷ entry 0x102 1 255 0 ∷ []) (mains 0xC0 ∷ []) [] 0xA0

-- LD SP,#C0H; PUSH R0, again and again; five stack bytes
unfoldable pub pushing : Program
pushing =
    program_of (0xE6 ∷ 0xD9 ∷ 0xC0 ∷ 0x70 ∷ 0xC0 ∷ 0x8B ∷ 0xFC ∷ []) [] 2
    (entry 0x100 1 255 0 ∷ entry 0x103 1 0 0 ∷ entry 0x105 1 1 0 ∷ []) [] [] 0xBB

-- routine 3 is PUSH R0; RET
unfoldable pub returning : Program
returning = calling (0x70 ∷ 0xC0 ∷ 0xAF ∷ []) 3 (entry 0x120 3 0 16 ∷ entry 0x122 3 1 8 ∷ []) (row 3 0x20 1 1 16 ∷ [])

-- routine 3 is a jump to itself, with bound 10
unfoldable pub looping : Program
looping = calling (0x8B ∷ 0xFE ∷ []) 2 (entry 0x120 3 0 10 ∷ []) (row 3 0x20 1 0 10 ∷ [])

-- routine 3 is CALL 0124H; RET, with bound 22, its own cycles; routine 4 at 0124H is RET
unfoldable pub charging : Program
charging =
    calling (0xF6 ∷ 0x01 ∷ 0x24 ∷ 0xAF ∷ 0xAF ∷ []) 4
    (entry 0x120 3 0 22 ∷ entry 0x123 3 0 8 ∷ entry 0x124 4 0 8 ∷ []) (row 3 0x20 1 2 22 ∷ row 4 0x24 1 0 8 ∷ [])

-- LD SP,#C0H; POP R0, again and again
unfoldable pub popping : Program
popping =
    program_of (0xE6 ∷ 0xD9 ∷ 0xC0 ∷ 0x50 ∷ 0xC0 ∷ 0x8B ∷ 0xFC ∷ []) [] 0
    (entry 0x100 1 255 0 ∷ entry 0x103 1 0 0 ∷ entry 0x105 1 0 0 ∷ []) (mains 0xC0 ∷ []) [] 0xA0

-- LD R2,#h; LDC R0,@RR2, with R2 claimed h; then a jump to itself
abbrev fetching_from : Part → ℕ → Program
fetching_from part h =
    program_on part (0x2C ∷ h ∷ 0xC3 ∷ 0x02 ∷ 0x8B ∷ 0xFE ∷ []) [] 0
    (entry 0x100 1 255 0 ∷ claiming 0x102 1 255 0 0xC2 h h ∷ entry 0x104 1 255 0 ∷ [])
    (mains 0xC0 ∷ mains 0xC2 ∷ []) [] 0xA0

-- from 1000H on
unfoldable pub fetching : Program
fetching = fetching_from (part_of Rom4K) 0x10

-- request 04: from 0800H on, on the 2K part; and on the 4K part, where it is accepted
unfoldable pub fetching_small : Program
fetching_small = fetching_from (part_of Rom2K) 0x08

unfoldable pub fetching_large : Program
fetching_large = fetching_from (part_of Rom4K) 0x08

-- the service is PUSH R0; IRET
unfoldable pub resuming : Program
resuming = interrupted (0x70 ∷ 0xC0 ∷ 0xBF ∷ []) 1 18 0 (entry 0x140 2 0 18 ∷ entry 0x142 2 1 10 ∷ [])

-- the service is IRET, with bound 9
unfoldable pub serving : Program
serving = interrupted (0xBF ∷ []) 0 9 0 (entry 0x140 2 0 9 ∷ [])

-- the service is IRET, with bound 10; its entry takes 5 cycles, which the bound leaves out
unfoldable pub entering : Program
entering = interrupted (0xBF ∷ []) 0 10 5 (entry 0x140 2 0 10 ∷ [])

-- LD R1,#00H; LD R0,@R1; INC R1, then a jump to the second; R1 is claimed 0 to 1, register 00H is in table 1 and 01H in table 2
unfoldable pub crossing : Program
crossing =
    program_of (0x1C ∷ 0x00 ∷ 0xC7 ∷ 0x01 ∷ 0x1E ∷ 0x8B ∷ 0xFB ∷ []) [] 0
    (entry 0x100 1 255 0 ∷ claiming 0x102 1 255 0 0xC1 0 1 ∷ entry 0x104 1 255 0 ∷ entry 0x105 1 255 0 ∷ [])
    (mains 0xC0 ∷ mains 0xC1 ∷ (0x00, 0 ∷ 0 ∷ 1 ∷ []) ∷ (0x01, 0 ∷ 0 ∷ 2 ∷ []) ∷ []) [] 0xA0

-- main is JP @RR0
unfoldable pub jumping : Program
jumping = program_of (0x30 ∷ 0x00 ∷ []) [] 0 (entry 0x100 1 255 0 ∷ []) [] [] 0xA0

-- main is RET
unfoldable pub leaving : Program
leaving = program_of (0xAF ∷ []) [] 0 (entry 0x100 1 255 0 ∷ []) [] [] 0xA0

-- the program of `logger_cases` S`Linearised`, which takes its pointer from a table in ROM, with one byte of the table too large
unfoldable pub exceeding : Program
exceeding = record {
  part = part_of Rom4K;
  image = linearised.image_with 0x10;
  entries = linearised.entries;
  cells = linearised.cells;
  rows = linearised.rows;
  floor = 0xA0;
  entry_cost = 0;
}
