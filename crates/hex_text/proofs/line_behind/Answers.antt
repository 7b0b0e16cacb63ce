-- `line_behind`: an LF, and none before it; or none; past the end no line is left.
-- Assumes nothing.
use Rattle.std.proofs.Common.{arith, ◌≡◌, ◌-◌, sym, drop, take, length, length-drop, take_all}
use Rattle.hex_text.specs.TextLaws.{first_found, first_none, at_end}
use Rattle.hex_text.proofs.line_behind.Goals as goal

pub returns-then-at-text : goal.returns-then-at-text
returns-then-at-text c = omega (arith, at_end c.args.text.now c.args.at c.if-at-text.true)

pub returns-in-Some : goal.returns-in-Some
returns-in-Some c =
    let s = c.args.text.now in
    let whole : take (length s - c.args.at) (drop c.args.at s) ≡ drop c.args.at s = take_all _ _ (omega (arith, length-drop c.args.at s)) in
    omega (arith, first_found (drop c.args.at s) c.in-Some.length (rw whole at (sym c.in-Some.ensures)))

pub returns-in-None : goal.returns-in-None
returns-in-None c =
    let s = c.args.text.now in
    let whole : take (length s - c.args.at) (drop c.args.at s) ≡ drop c.args.at s = take_all _ _ (omega (arith, length-drop c.args.at s)) in
    omega (arith, first_none (drop c.args.at s) (rw whole at (sym c.in-None.ensures)), length-drop c.args.at s)
