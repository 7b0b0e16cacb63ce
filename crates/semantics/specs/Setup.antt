-- What a machine is given beside its image: its part (request 04), and the cycles of an interrupt entry (request 03).
-- Assumes nothing.
use Rattle.std.specs.Prelude.{ℕ}
use Rattle.base.specs.Parts.{Part, part_of}
use Rattle.semantics.specs.declared.Configuration.{Configuration}

pub record Setup : Type 0 where
  pub part : Part
  pub entry_cost : ℕ

-- the machine that a caller's configuration chooses
abbrev pub setup_of : Configuration → Setup
setup_of k = record { part = part_of k.profile; entry_cost = k.entry_cost }
