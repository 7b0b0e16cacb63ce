-- `write_records`: behind k records the buffer holds them, and the state is the one after them.
-- Assumes nothing.
use Rattle.std.proofs.Common.{◌≡◌, ◌++◌, ◌*◌, drop, length}
use Rattle.base.specs.Lengths.{record_length}
use Rattle.xorshift.specs.Xorshift.{state_after, records_from}
use Rattle.xorshift.proofs.write_records.Given as goal

abbrev pub invariant-loop-k : goal.invariant-loop-k
invariant-loop-k l = record {
  same_length : length l.out ≡ length l.fn.out;
  state : l.state ≡ state_after l.k l.seed;
  written : l.out ≡ records_from l.k l.seed ++ drop (l.k * record_length) l.fn.out;
}
