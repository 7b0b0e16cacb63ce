-- Request 03, "Interrupt entry takes time": a short certificate with the cycles of an entry.
-- Assumes nothing.
use Rattle.std.specs.Prelude.{ℕ, List, get_or}
use Rattle.certificate.specs.Layout.{Certificate, certificate_from, entry_part, cell_part, row_part}

-- what a short certificate says, with an entry of e cycles
abbrev pub with_cost : List ℕ → ℕ → Certificate
with_cost b e = certificate_from (entry_part b) (cell_part b) (row_part b) (get_or b 0xE480 0) (get_or b 0xE481 0) e
