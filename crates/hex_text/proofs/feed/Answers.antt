-- `feed`: a turn feeds one character, and ends where a line is refused.
-- Assumes nothing.
use Rattle.std.proofs.Common.{◌<◌, arith, sym, ◌∙◌, eq-eqb, ne_eqb}
use Rattle.std.proofs.Math.ListN.{length-set}
use Rattle.std.proofs.lemmas.Bool.{lt-leb}
use Rattle.hex_text.specs.Stream.{push_stream, push_buffer}
use Rattle.hex_text.specs.StreamLaws.{fed_one, fed_all, feed_refused, feed_refused_buffer}
use Rattle.hex_text.proofs.FeedLaws.{fed_long, fed_fault}
use Rattle.hex_text.proofs.feed.Goals.{then-c-eq10+in-Ok, else-c-eq10}
use Rattle.hex_text.proofs.feed.Goals as goal

pub returns-then-s-ne0-clause-value : goal.returns-then-s-ne0-clause-value
returns-then-s-ne0-clause-value c =
    let above : 0 < c.args.s.number = omega arith in
    sym (feed_refused _ c.args.s c.args.piece.now above)

pub returns-then-s-ne0-clause-buffer_after : goal.returns-then-s-ne0-clause-buffer_after
returns-then-s-ne0-clause-buffer_after c =
    let above : 0 < c.args.s.number = omega arith in
    sym (feed_refused_buffer c.args.s c.args.piece.now c.args.buffer.now above)

pub returns-then-count-ge-LONGEST-clause-value : goal.returns-then-count-ge-LONGEST-clause-value
returns-then-count-ge-LONGEST-clause-value c =
    let l = c.loop-c in
    rw (c.from.ensures, c.long_line.ensures, l.invariant.1.0) (fed_long l.invariant.0 c.loop-c-test.true l.invariant.1.0 c.if-count-ge-LONGEST.true).0

pub returns-then-count-ge-LONGEST-clause-buffer_after : goal.returns-then-count-ge-LONGEST-clause-buffer_after
returns-then-count-ge-LONGEST-clause-buffer_after c =
    let l = c.loop-c in
    (fed_long l.invariant.0 c.loop-c-test.true l.invariant.1.0 c.if-count-ge-LONGEST.true).1

pub returns-in-Err-clause-value : goal.returns-in-Err-clause-value
returns-in-Err-clause-value c =
    let l = c.loop-c in
    let g = rw l.invariant.1.0 at (sym c.in-Err.ensures.result_value) in
    rw c.from-in-Err.ensures (fed_fault l.invariant.0 c.loop-c-test.true l.invariant.1.0 c.if-count-ge-LONGEST.false c.if-c-eq10.true g).0

pub returns-in-Err-clause-buffer_after : goal.returns-in-Err-clause-buffer_after
returns-in-Err-clause-buffer_after c =
    let l = c.loop-c in
    let g = rw l.invariant.1.0 at (sym c.in-Err.ensures.result_value) in
    c.read_line.ensures.buffer_after
    ∙ (fed_fault l.invariant.0 c.loop-c-test.true l.invariant.1.0 c.if-count-ge-LONGEST.false c.if-c-eq10.true g).1

pub loop-c-preserved : goal.loop-c-preserved
unfolding push_stream push_buffer
loop-c-preserved c =
    let l = c.loop-c in
    let room = lt-leb _ _ c.if-count-ge-LONGEST.false in
    elim c.if-c-eq10.branch [
      | then-c-eq10+in-Ok w ↦
          (let g = rw l.invariant.1.0 at (sym w.in-Ok.ensures.result_value) in
          let end = eq-eqb _ _ w.if-c-eq10.true in
          rw (w.buffer-is, w.s-is, w.count-is) (
            fed_one l.invariant.0 c.loop-c-test.true l.invariant.1.0 (rw (room, end, g)) (rw (room, end) (sym w.read_line.ensures.buffer_after)),
            (w.read_line.auto.buffer ∙ l.invariant.1.0, rw length-set l.invariant.1.1, l.invariant.1.2),
          ))
      | else-c-eq10 w ↦
          (let other = ne_eqb _ _ w.if-c-eq10.false in
          rw (w.buffer-is, w.s-is, w.count-is) (
            fed_one l.invariant.0 c.loop-c-test.true l.invariant.1.0 (rw (room, other)) (rw (room, other)),
            (l.invariant.1.0, rw length-set l.invariant.1.1, l.invariant.1.2),
          ))
    ]

pub returns-clause-value : goal.returns-clause-value
returns-clause-value c = rw c.loop-c.invariant.1.2 ((fed_all c.loop-c.invariant.0 c.loop-c-test.false).0)

pub returns-clause-buffer_after : goal.returns-clause-buffer_after
returns-clause-buffer_after c = (fed_all c.loop-c.invariant.0 c.loop-c-test.false).1
