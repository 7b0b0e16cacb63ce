-- `digits_end`: a step of the loop by the character that was met.
-- Assumes nothing.
use Rattle.std.proofs.Common.{arith, ◌≡◌, ◌+◌, drop}
use Rattle.hex_fault.specs.Finding.{digits_from}
use Rattle.hex_fault.proofs.FindingLaws.{digits_more, digits_stop, digits_end}
use Rattle.hex_fault.proofs.digits_end.Goals as goal

pub returns-in_default : goal.returns-in_default
returns-in_default c =
    let s = c.args.body.now in
    let i = c.loop-i.i in
    let f : digits_from (drop i s) ≡ 0 = digits_stop s i c.loop-i-test.true (omega (arith, c.in_default.ensures.value)) in
    (omega arith, omega arith)

pub loop-i-preserved : goal.loop-i-preserved
loop-i-preserved c =
    let s = c.args.body.now in
    let i = c.loop-i.i in
    let e = c.in-Some.ensures in
    let f : digits_from (drop i s) ≡ 1 + digits_from (drop (i + 1) s) = digits_more s i c.loop-i-test.true (λ h. omega (arith, e.value, e.small, h)) in
    omega arith

pub returns : goal.returns
returns c =
    let s = c.args.body.now in
    let i = c.loop-i.i in
    let f : digits_from (drop i s) ≡ 0 = digits_end s i c.loop-i-test.false in
    (omega arith, omega arith)
