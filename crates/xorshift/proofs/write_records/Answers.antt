-- `write_records`: a record more is one round of the loop.
-- Assumes nothing.
use Rattle.std.proofs.Common.{◌≡◌, ◌+◌, ◌*◌, refl, arith, rules}
use Rattle.base.specs.Lengths.{record_length}
use Rattle.base.specs.Lists.{part_back_behind}
use Rattle.xorshift.specs.Xorshift.{record_from, records_from, state_after}
use Rattle.xorshift.specs.RecordLaws.{length_records, records_more, state_more}
use Rattle.xorshift.proofs.write_records.Goals as goal

pub loop-k-init : goal.loop-k-init
unfolding records_from state_after
loop-k-init c = record { same_length = refl; state = refl; written = refl }

pub loop-k-preserved : goal.loop-k-preserved
loop-k-preserved c =
    let l = c.loop-k in
    let seed = c.args.seed in
    let e : (l.k + 1) * record_length ≡ l.k * record_length + record_length = omega arith in
    record {
      same_length = search rules;
      state = rw (state_more l.k seed, ← l.invariant.state) c.write_record-state.ensures.value;
      written = rw (e, records_more l.k seed, c.write_record-state.ensures.out_after, l.invariant.state)
          (part_back_behind
          (records_from l.k seed)
          (record_from (state_after l.k seed))
          l.out
          c.args.out.now
          (l.k * record_length)
          record_length
          (length_records l.k seed)
          l.invariant.written);
    }
