-- A run that does every record of its schedule and stops with 0.
-- Assumes nothing.
use Rattle.std.specs.Prelude.{ℕ, ◌/◌, ◌≡◌, List, length}
use Rattle.base.specs.Lengths.{record_length}
use Rattle.semantics.specs.Left.{Ran}

pub record DoesAll (schedule : List ℕ) (r : Ran) : Type 0 where
  pub stop : r.stop ≡ 0
  pub steps : r.steps ≡ length schedule / record_length
