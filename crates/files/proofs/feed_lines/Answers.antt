-- A turn feeds the first line of what is left.
use Rattle.std.proofs.Common.{arith, refl, ◌∙◌, pos_of_ne-zero}
use Rattle.hex_text.specs.TextLaws.{first_of_lines}
use Rattle.files.specs.ReadingLaws.{fed_none, fed_more, fed_first, turned_none, turned_first}
use Rattle.files.proofs.feed_lines.Goals as goal

pub loop-line-init : goal.loop-line-init
loop-line-init c = (fed_none, c.requires, refl)

pub returns-then-next-ne0 : goal.returns-then-next-ne0
returns-then-next-ne0 c =
    let l = c.loop-line in
    let w = first_of_lines _ _ _ c.in-Some.ensures.steps in
    let e = c.feed-next.ensures in
    turned_first _ _ w.0 w.1 l.invariant.0 l.invariant.1 e.value e.buffer_after (pos_of_ne-zero c.if-next-ne0.true)

-- the lines before this one were fed, and this one
pub loop-line-preserved : goal.loop-line-preserved
loop-line-preserved c =
    let l = c.loop-line in
    let w = first_of_lines _ _ _ c.in-Some.ensures.steps in
    let e = c.feed-next.ensures in
    let line = fed_first _ _ w.0 w.1 {n = l.count} e.value e.buffer_after in
    (fed_more l.invariant.2 l.invariant.0 (rw (c.count_line-count.ensures, c.byte_at.ensures, c.saturating_sub.ensures) line), c.if-next-ne0.false, c.feed-next.auto.buffer ∙ l.invariant.2)

pub returns : goal.returns
returns c = turned_none 0 (λ h. omega (arith, h)) c.loop-line.invariant.1 c.loop-line.invariant.0
