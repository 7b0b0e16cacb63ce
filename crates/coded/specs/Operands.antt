-- The operands that can be refused: two nibbles, a register pair, a 16-bit offset.
-- Assumes nothing.
use Rattle.std.specs.Prelude.{ℕ, ◌+◌, ◌*◌, ◌/◌, ◌%◌, List, [], ◌∷◌, eqb, ltb}
use Rattle.base.specs.Choice.{pick}
use Rattle.base.specs.Outcome.{Outcome, and_then}
use Rattle.base.specs.Outcome.Outcome.{value, refused}

-- two numbers as the halves of a byte; 8 where one is above 15
abbrev pub nibble_pair : ℕ → ℕ → Outcome ℕ
nibble_pair hi lo = pick (ltb hi 16) (pick (ltb lo 16) (value (hi * 16 + lo)) (refused 8)) (refused 8)

-- an opcode, a byte of two nibbles, and the rest
abbrev pub nibbles : ℕ → ℕ → ℕ → List ℕ → Outcome (List ℕ)
nibbles op hi lo rest = and_then (nibble_pair hi lo) (λ b. value (op ∷ b ∷ rest))

-- an even register; 12 where it is odd
abbrev pub even_register : ℕ → Outcome ℕ
even_register r = pick (eqb (r % 2) 0) (value r) (refused 12)

-- the pair of JP and CALL through a register; 12 where it is odd
abbrev pub even_pair : ℕ → ℕ → Outcome (List ℕ)
even_pair op r = pick (eqb (r % 2) 0) (value (op ∷ r ∷ [])) (refused 12)

-- the pair of a 16-bit offset; 8 where it is 0 or 1, where the code means a direct address
abbrev pub offset_pair : ℕ → Outcome ℕ
offset_pair p = pick (ltb p 2) (refused 8) (value p)

-- a 16-bit offset, low byte first; 8 on pair 0 or 1, where the code means a direct address
abbrev pub long_offset : ℕ → ℕ → ℕ → ℕ → Outcome (List ℕ)
long_offset op r p x = pick (ltb p 2) (refused 8) (nibbles op r p (x % 256 ∷ x / 256 ∷ []))
