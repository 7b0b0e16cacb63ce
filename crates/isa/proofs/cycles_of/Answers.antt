-- The table of cycles is the map's 256 values in order, by one computation.
-- Assumes nothing.
use Rattle.std.proofs.Common.{refl, rules}
use Rattle.base.specs.Table.{table_at}
use Rattle.isa.specs.Map.{cycles_of}
use Rattle.isa.proofs.cycles_of.Goals as goal

pub returns : goal.returns
returns c = table_at cycles_of 0 256 _ refl c.args.first (search rules)
