-- `write_record`: the colon first, two digits in a turn, the LF last.
-- Assumes nothing.
use Rattle.std.proofs.Common.{arith, ◌≡◌, ap, ◌∙◌, ◌∷◌, ◌++◌, ◌+◌, ◌*◌, ◌/◌, ◌%◌, length, drop}
use Rattle.std.proofs.Math.ListN.{set, length-set}
use Rattle.std.proofs.lemmas.List.{drop-set-lt}
use Rattle.base.specs.Lists.{store_next}
use Rattle.hex_write.specs.ImageText.{hex_digit, digits, record_line}
use Rattle.hex_write.specs.ImageTextLaws.{digits_more, length_digits, store_two, store_front}
use Rattle.hex_write.proofs.write_record.Goals as goal

pub loop-j-init : goal.loop-j-init
unfolding digits
loop-j-init c = store_front c.args.out.now 58 (omega arith)

pub loop-j-preserved : goal.loop-j-preserved
loop-j-preserved c =
    let l = c.loop-j in
    let m = c.args.image.now in
    let k = c.args.k in
    let o = set c.args.out.now 0 58 in
    let b = c.record_byte-b in
    let high : b.result / 16 % 16 ≡ b.result / 16 = omega (arith, b.type_inv) in
    let n : length (58 ∷ digits m k l.j) ≡ l.j * 2 + 1 = omega (arith, length_digits m k l.j) in
    rw (l.invariant, c.hex_digit.ensures ∙ ap hex_digit high, c.hex_digit-in-loop-j.ensures, b.ensures, digits_more)
    (store_two (58 ∷ digits m k l.j) o (l.j * 2 + 1) (l.j * 2 + 2) ((l.j + 1) * 2 + 1) _ _ n (omega arith) (omega arith)
    (omega (arith, length-set c.args.out.now 0 58)))

pub returns : goal.returns
unfolding record_line
returns c =
    let l = c.loop-j in
    let m = c.args.image.now in
    let k = c.args.k in
    let o = set c.args.out.now 0 58 in
    let e : l.j ≡ 21 = omega arith in
    let g : l.out ≡ (58 ∷ digits m k 21) ++ drop 43 o = rw e at l.invariant in
    let n : length (58 ∷ digits m k 21) ≡ 43 = omega (arith, length_digits m k 21) in
    rw (
      g,
      store_next (58 ∷ digits m k 21) o 43 10 n (omega (arith, length-set c.args.out.now 0 58)),
      drop-set-lt 44 c.args.out.now 0 58 (omega arith),
    )
