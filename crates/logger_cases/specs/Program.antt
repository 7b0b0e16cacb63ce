-- Image P of 01 and its certificate, at full size. The bytes of ROM, the byte, the bounds and what stands from E480H on, in which the cases differ,
-- are parameters.
-- Assumes nothing.
use Rattle.std.specs.Prelude.{◌≡◌, refl, List, [], ◌∷◌, ◌++◌, ℕ, ◌-◌, ◌/◌, ◌%◌, ltb, length, replicate}
use Rattle.base.specs.Choice.{pick}
use Rattle.base.specs.ChoiceLaws.{pick_has}
use Rattle.base.specs.declared.Profile.TheVariants.{Rom4K}
use Rattle.base.specs.Parts.{part_of}
use Rattle.logger_cases.specs.Gathered.{listed, listed_length, certificate_bytes}

-- j stands at 0128H
unfoldable pub image_for : ℕ → ℕ → List ℕ
image_for size j =
    (0x01 ∷ 0x40 ∷ [])
    ++ (replicate 254 0xFF
    ++ ((0xE6 ∷ 0xD9 ∷ 0xC0 ∷ 0xF6 ∷ 0x01 ∷ 0x20 ∷ 0x8B ∷ 0xFB ∷ [])
    ++ (replicate 24 0xFF
    ++ ((0xB0 ∷ 0xC2 ∷ 0x03 ∷ 0x32 ∷ 0x2E ∷ 0xA6 ∷ 0xC2 ∷ 0x10 ∷ j ∷ 0xF8 ∷ 0xAF ∷ [])
    ++ (replicate 21 0xFF ++ (0xBF ∷ replicate (size - 0x141) 0xFF))))))

-- on 01's part, which has so many bytes of ROM
abbrev pub rom : ℕ
rom = (part_of Rom4K).rom

abbrev pub image_with : ℕ → List ℕ
image_with j = image_for rom j

-- fourteen bytes of an entry: routine, depth, B, M, direction, first claim, no second claim, compare
abbrev entry_bytes : ℕ → ℕ → ℕ → ℕ → ℕ → ℕ → ℕ → ℕ → ℕ → ℕ → List ℕ
entry_bytes routine depth base slope direction cell lo hi compared k =
    routine ∷ depth ∷ base / 256 ∷ base % 256 ∷ slope ∷ direction ∷ cell ∷ lo ∷ hi ∷ 0xFF ∷ 0 ∷ 0 ∷ compared ∷ k ∷ []

-- an entry without claims
abbrev bare : ℕ → ℕ → ℕ → List ℕ
bare routine depth base = entry_bytes routine depth base 0 0 0xFF 0 0 0xFF 0

-- an entry of the loop: R2 (C2H) is claimed, M 22 up
abbrev in_loop : ℕ → ℕ → ℕ → ℕ → ℕ → List ℕ
in_loop base lo hi compared k = entry_bytes 3 0 base 22 1 0xC2 lo hi compared k

abbrev pub entries : List (ℕ × List ℕ)
entries =
    (0x100, bare 1 255 0) ∷ (0x103, bare 1 0 0) ∷ (0x106, bare 1 0 0)
    ∷ (0x120, bare 3 0 364)
    ∷ (0x122, in_loop 30 0 0x0F 0xFF 0) ∷ (0x124, in_loop 24 0 0x0F 0xFF 0)
    ∷ (0x125, in_loop 20 1 0x10 0xFF 0) ∷ (0x128, in_loop 14 1 0x10 0xC2 0x10)
    ∷ (0x12A, bare 3 0 8)
    ∷ (0x140, bare 2 0 10) ∷ []

unfoldable pub entry : ℕ → List ℕ
entry = listed 14 entries

-- table 1 is 00H to 0FH; C2H and C3H are class 1, limit 3
abbrev pub cell_rows : List (ℕ × List ℕ)
cell_rows = (0xC2, 1 ∷ 3 ∷ 0 ∷ []) ∷ (0xC3, 1 ∷ 3 ∷ 0 ∷ []) ∷ []

unfoldable pub cell : ℕ → List ℕ
cell x = pick (ltb x 16) (0 ∷ 0 ∷ 1 ∷ []) (listed 3 cell_rows x)

-- main, the service and routine 3, each of these with its bound
abbrev pub rows : ℕ → ℕ → List (ℕ × List ℕ)
rows service bound =
    (1, 0x01 ∷ 0x00 ∷ 1 ∷ 2 ∷ 0 ∷ 0 ∷ []) ∷ (2, 0x01 ∷ 0x40 ∷ 2 ∷ 0 ∷ service / 256 ∷ service % 256 ∷ []) ∷ (3, 0x01 ∷ 0x20 ∷ 1 ∷ 0 ∷ bound / 256 ∷ bound % 256 ∷ []) ∷ []

unfoldable pub row : ℕ → ℕ → ℕ → List ℕ
row service bound = listed 6 (rows service bound)

-- the whole certificate, with the bounds of the service and of routine 3
unfoldable pub certificate_for : ℕ → ℕ → List ℕ → List ℕ
certificate_for service bound ends = certificate_bytes entry cell (row service bound) ends

-- 01's: the service's bound is 10, T is C0H, an entry takes no cycles
abbrev pub ends : ℕ → List ℕ
ends floor = floor ∷ 0xC0 ∷ []

abbrev pub certificate_with : ℕ → ℕ → List ℕ
certificate_with bound floor = certificate_for 10 bound (ends floor)

pub entry_length : (k : ℕ) → length (entry k) ≡ 14
unfolding entry
entry_length = listed_length 14 entries tt

pub cell_length_lem : (k : ℕ) → length (cell k) ≡ 3
unfolding cell
cell_length_lem k =
    pick_has (λ (l : List ℕ). length l ≡ 3) (ltb k 16) (0 ∷ 0 ∷ 1 ∷ []) (listed 3 cell_rows k) (λ _. refl) (λ _. listed_length 3 cell_rows tt k)

pub row_length : (service bound k : ℕ) → length (row service bound k) ≡ 6
unfolding row
row_length service bound = listed_length 6 (rows service bound) tt
