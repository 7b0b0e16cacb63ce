-- The table of digits is the definition's 256 values in order, by one computation.
-- Assumes nothing.
use Rattle.std.proofs.Common.{rules, refl, arith}
use Rattle.base.specs.Table.{table_at}
use Rattle.hex_line.specs.Record.{digit_of}
use Rattle.hex_line.proofs.PairLaws.{digit_small}
use Rattle.hex_line.proofs.digit.Goals as goal

pub returns-then-value-lt16-clause-value : goal.returns-then-value-lt16-clause-value
returns-then-value-lt16-clause-value c = table_at digit_of 0 256 _ refl c.args.c (search rules)

pub returns-else-value-lt16-clause-value : goal.returns-else-value-lt16-clause-value
returns-else-value-lt16-clause-value c = omega (arith, table_at digit_of 0 256 _ refl c.args.c (search rules), digit_small c.args.c (search rules))
