-- `write_decimal`, which calls itself: the measure is how many digits there are at most.
use Rattle.report.proofs.+write_decimal.Given as goal

abbrev pub decreases-write_decimal : goal.decreases-write_decimal
decreases-write_decimal l = l.k
