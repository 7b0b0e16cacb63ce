-- The number of a broken rule, as the checker's code holds it.
-- Assumes nothing.
use Rattle.std.specs.Prelude.{ℕ, zero, suc, Option, Some, None}

-- 0 stands for none
abbrev pub number_told : ℕ → Option ℕ
number_told zero = None
number_told (suc n) = Some (suc n)
