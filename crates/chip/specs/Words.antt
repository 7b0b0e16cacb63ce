-- The tables of the register map as numbers, from which the code reads them. `proofs/Packed.antt` shows that they hold what the definitions say.
-- Assumes nothing.
use Rattle.std.specs.Prelude.{ℕ, List, [], ◌∷◌}
use Rattle.base.specs.Choice.{choose}

-- the kept bits of addresses 8 × k to 8 × k + 7, lowest address lowest
abbrev pub kept_words : List (ℕ × ℕ)
kept_words =
    (26, 0xF09800CBFF00) ∷ (27, 0x40000FCFF00FF00) ∷ (28, 0xFFFF0000007F07FF) ∷ (29, 0xFF7FCF0F)
    ∷ (30, 0xFE0000FFDFFF0000) ∷ (31, 0x0) ∷ []

abbrev pub kept_word : ℕ → ℕ
kept_word k = choose k kept_words 0xFFFFFFFFFFFFFFFF
