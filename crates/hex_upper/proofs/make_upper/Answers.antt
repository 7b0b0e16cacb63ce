-- `make_upper`: one character more.
-- Assumes nothing.
use Rattle.std.proofs.Common.{arith, ◌≡◌, ◌<◌, ap, length, get_or}
use Rattle.hex_upper.specs.Upper.{upper_of}
use Rattle.hex_upper.proofs.UpperLaws.{next_character, one_more}
use Rattle.hex_upper.proofs.make_upper.Goals as goal

pub loop-c-preserved : goal.loop-c-preserved
loop-c-preserved c =
    let l = c.loop-c in
    let text₀ = c.args.text.now in
    let h : l.c-index < length text₀ = omega arith in
    let e : c.to_upper.result ≡ upper_of (get_or text₀ l.c-index 0) =
    rw (c.to_upper.ensures, l.invariant) (ap upper_of (next_character text₀ l.c-index h)) in
    rw (e, l.invariant) (one_more text₀ l.c-index h)
