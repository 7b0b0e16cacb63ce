-- `gather`: a digit is read from the table; a pair that is none ends the sum.
-- Assumes nothing.
use Rattle.std.proofs.Common.{rules, arith, refl, sym, ◌∙◌, ◌≡◌, ◌+◌, ◌*◌}
use Rattle.hex_line.specs.Sum.{total_of}
use Rattle.hex_line.proofs.SumLaws.{sum_so_far, total_next}
use Rattle.hex_line.proofs.PairLaws.{digit_of_lem, none_gathered, pair_of, pair_none, pair_none_low, kept_next}
use Rattle.hex_line.proofs.gather.Goals as goal

pub loop-i-init : goal.loop-i-init
unfolding total_of
loop-i-init c = (refl, ((λ i h. absurd (omega arith)), (λ i h. absurd (omega arith))))

pub returns-then-high-gt15-clause-value : goal.returns-then-high-gt15-clause-value
returns-then-high-gt15-clause-value c =
    let body = c.args.body.now in
    let i = c.loop-i.i in
    let high = digit_of_lem body (i * 2 + 1) _ refl c.type_inv.body in
    (none_gathered body i _ c.loop-i.pairs (search rules) (pair_none body i (omega (arith, high)))).0

pub returns-then-high-gt15-clause-value_2 : goal.returns-then-high-gt15-clause-value_2
returns-then-high-gt15-clause-value_2 c =
    let body = c.args.body.now in
    let i = c.loop-i.i in
    let high = digit_of_lem body (i * 2 + 1) _ refl c.type_inv.body in
    (none_gathered body i _ c.loop-i.pairs (search rules) (pair_none body i (omega (arith, high)))).1.0

pub returns-then-low-gt15-clause-value : goal.returns-then-low-gt15-clause-value
returns-then-low-gt15-clause-value c =
    let body = c.args.body.now in
    let i = c.loop-i.i in
    let low = digit_of_lem body (i * 2 + 2) _ refl c.type_inv.body in
    (none_gathered body i _ c.loop-i.pairs (search rules) (pair_none_low body i (omega (arith, low)))).0

pub returns-then-low-gt15-clause-value_2 : goal.returns-then-low-gt15-clause-value_2
returns-then-low-gt15-clause-value_2 c =
    let body = c.args.body.now in
    let i = c.loop-i.i in
    let low = digit_of_lem body (i * 2 + 2) _ refl c.type_inv.body in
    (none_gathered body i _ c.loop-i.pairs (search rules) (pair_none_low body i (omega (arith, low)))).1.0

pub loop-i-preserved : goal.loop-i-preserved
loop-i-preserved c =
    let l = c.loop-i in
    let body = c.args.body.now in
    let high = digit_of_lem body (l.i * 2 + 1) _ refl c.type_inv.body in
    let low = digit_of_lem body (l.i * 2 + 2) _ refl c.type_inv.body in
    let pair = pair_of body l.i _ _ high low (search rules) (search rules) in
    (rw (← pair) (total_next body l.i l.sum l.invariant.0), kept_next body l.i _ l.pairs l.invariant.1 (search rules) (sym pair) (omega arith))

pub returns-clause-value : goal.returns-clause-value
returns-clause-value c =
    let l = c.loop-i in
    let e : l.i ≡ c.args.n = omega arith in
    let total = rw e at l.invariant.0 in
    let kept = rw e at l.invariant.1 in
    total ∙ sym (sum_so_far _ _ kept.0)
