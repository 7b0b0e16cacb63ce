-- The tables of length and cycles as numbers, one a row: sixteen values of four bits, column 0 lowest. `proofs/Packed.antt` shows that they
-- hold what the map says.
-- Assumes nothing.
use Rattle.std.specs.Prelude.{ℕ, List, [], ◌∷◌}
use Rattle.base.specs.Choice.{choose}

abbrev pub length_words : List (ℕ × ℕ)
length_words =
    (0, 0x0132202203332222) ∷ (1, 0x0132202203332222) ∷ (2, 0x0132202203332222) ∷ (3, 0x0132202203332202) ∷ (4, 0x0132202203332200)
    ∷ (5, 0x0132202203332222) ∷ (6, 0x1132202203332222) ∷ (7, 0x1132202203332222) ∷ (8, 0x1132202230000000) ∷ (9, 0x1132202230000022)
    ∷ (10, 0x1132202243332200) ∷ (11, 0x1132202243332222) ∷ (12, 0x1132202220002022) ∷ (13, 0x1132202223002022) ∷ (14, 0x1132202233332222) ∷ []

abbrev pub length_word : ℕ → ℕ
length_word row = choose row length_words 0x1132202233320000

abbrev pub cycle_words : List (ℕ × ℕ)
cycle_words =
    (0, 0x0484604406666464) ∷ (1, 0x0484604406666444) ∷ (2, 0x0484604406666444) ∷ (3, 0x0484604406666408) ∷ (4, 0x0484604406666400)
    ∷ (5, 0x0484604406666488) ∷ (6, 0x4484604406666444) ∷ (7, 0x4484604406666488) ∷ (8, 0x4484604460000000) ∷ (9, 0x4484604460000044)
    ∷ (10, 0x84846044E6666400) ∷ (11, 0xA4846044E6666444) ∷ (12, 0x448460444000A044) ∷ (13, 0x448460444600A044) ∷ (14, 0x44846044C666AA44) ∷ []

abbrev pub cycle_word : ℕ → ℕ
cycle_word row = choose row cycle_words 0x44846044CE6C0000
