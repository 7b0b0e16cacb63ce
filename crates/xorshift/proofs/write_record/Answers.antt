-- `write_record`: four bytes at the front, the first of them cleared, and four behind them.
-- Assumes nothing.
use Rattle.std.proofs.Common.{◌≡◌, ◌∙◌, ◌++◌, refl, ap}
use Rattle.std.specs.Prelude.{drop, slice_index, slice_set, bit_and}
use Rattle.base.specs.Lists.{part_back_behind}
use Rattle.xorshift.specs.Xorshift.{round, cleared, four_bytes, next_state, record_from}
use Rattle.xorshift.proofs.write_record.Goals as goal

pub returns-clause-out_after : goal.returns-clause-out_after
unfolding record_from
returns-clause-out_after c =
    let first = c.round-first.result in
    let second = c.round-second.result in
    let e : second ≡ next_state c.args.state = c.round-second.ensures ∙ ap round c.round-first.ensures in
    let w = c.write_state.new.out in
    let xs = slice_set w 0 (bit_and (slice_index w 0) 0x1F) in
    let g : xs ≡ cleared (four_bytes first) ++ drop 4 c.args.out.now = rw c.write_state.ensures refl in
    let p = part_back_behind (cleared (four_bytes first)) (four_bytes second) xs c.args.out.now 4 4 refl g in
    rw (c.write_state-2.ensures, ← e, ← c.round-first.ensures) p
