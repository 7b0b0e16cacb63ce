-- The count of a file's cases.
-- Assumes nothing.
use Rattle.std.specs.Prelude.{◌+◌, ◌%◌, ◌^◌}
use Rattle.test_support.specs.declared.Case.{Case}
use Rattle.test_support.specs.declared.Case.TheVariants.{Same, Differs}
use Rattle.test_support.specs.declared.Counts.{Counts}

-- one case more
abbrev pub counted_of : Counts → Case → Counts
counted_of c Same = record { compared = (c.compared + 1) % 2 ^ 64; differ = c.differ }
counted_of c Differs = record { compared = (c.compared + 1) % 2 ^ 64; differ = (c.differ + 1) % 2 ^ 64 }
