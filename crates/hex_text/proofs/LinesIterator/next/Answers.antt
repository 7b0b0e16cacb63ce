-- `next`: a text that is not empty has a first line, and less is left behind it.
-- Assumes nothing.
use Rattle.std.proofs.Common.{rules, arith, ◌≡◌, ◌<◌, length, ◌∷◌}
use Rattle.hex_text.specs.Text.{lines, first_length}
use Rattle.hex_text.specs.TextLaws.{first_line_of, first_within, no_lines}
use Rattle.hex_text.proofs.LinesIterator.next.Goals as goal

pub returns-then-is_empty-clause-steps : goal.returns-then-is_empty-clause-steps
returns-then-is_empty-clause-steps c =
    let e : length c.args.self.now.0.now ≡ 0 = search rules in
    (no_lines _ e, no_lines _ e)

pub split_at-requires : goal.split_at-requires
split_at-requires c = omega (arith, first_within c.args.self.now.0.now)

pub returns-clause-steps : goal.returns-clause-steps
returns-clause-steps c =
    let n : 0 < length c.args.self.now.0.now = search rules in
    let e : c.line_behind.result ≡ first_length c.args.self.now.0.now = omega arith in
    rw (c.split_at.ensures.front, c.split_at.ensures.back, e) (first_line_of _ n)

pub returns-clause-goes : goal.returns-clause-goes
returns-clause-goes c =
    let e : lines c.args.self.now.0.now ≡ c.split_at.result.0.now ∷ lines c.split_at.result.1.now = returns-clause-steps c in
    search rules
