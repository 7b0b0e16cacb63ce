-- How far a value is from the end of an entry's first claim that its bound falls towards.
-- Assumes nothing.
use Rattle.std.specs.Prelude.{ℕ, ◌-◌, eqb}
use Rattle.base.specs.Choice.{pick}
use Rattle.entries.specs.declared.Entry.{Entry}

abbrev pub distance_from : Entry → ℕ → ℕ
distance_from e c = pick (eqb e.direction 1) (e.first.high - c) (pick (eqb e.direction 2) (c - e.first.low) 0)
