-- `write_lines`: a record in a turn, behind what is written, and the end line last.
-- Assumes nothing.
use Rattle.std.proofs.Common.{arith, ◌≡◌, refl, ◌++◌, ◌+◌, ◌*◌, length, drop}
use Rattle.base.specs.Lists.{part_back_behind}
use Rattle.hex_write.specs.ImageText.{records, record_line, record_count, image_text, end_line}
use Rattle.hex_write.specs.ImageTextLaws.{records_more, length_records}
use Rattle.hex_write.proofs.write_lines.Goals as goal

pub loop-k-init : goal.loop-k-init
unfolding records
loop-k-init c = refl

pub loop-k-preserved : goal.loop-k-preserved
loop-k-preserved c =
    let l = c.loop-k in
    let m = c.args.image.now in
    let e : (l.k + 1) * 44 ≡ l.k * 44 + 44 = omega arith in
    rw (c.write_record.ensures, records_more, e)
    (part_back_behind (records m l.k) (record_line m l.k) l.out c.args.out.now (l.k * 44) 44 (length_records m l.k) l.invariant)

pub returns : goal.returns
unfolding image_text
returns c =
    let l = c.loop-k in
    let m = c.args.image.now in
    let n = record_count (length m) in
    let e : l.k ≡ n = omega arith in
    let g : l.out ≡ records m n ++ drop (n * 44) c.args.out.now = rw e at l.invariant in
    rw c.write_end.ensures (part_back_behind (records m n) end_line l.out c.args.out.now (n * 44) 12 (length_records m n) g)
