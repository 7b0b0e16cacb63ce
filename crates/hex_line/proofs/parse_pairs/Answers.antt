-- `parse_pairs`: each return by what the pairs decide of a line.
-- Assumes nothing.
use Rattle.std.proofs.Common.{rules, arith, sym, ◌∙◌, ◌≡◌, ◌+◌, ◌*◌, ◌/◌, ◌<◌, length}
use Rattle.hex_line.specs.Record.{count_of}
use Rattle.hex_line.proofs.ParseLaws.{refused_colon, refused_length, refused_sum, refused_long, kept_fields, parsed}
use Rattle.hex_line.proofs.parse_pairs.Goals as goal

pub returns-then-body-n-clause-result_value : goal.returns-then-body-n-clause-result_value
returns-then-body-n-clause-result_value c =
    let body = c.args.body.now in
    (sym (refused_length body (λ (e : length body ≡ count_of body * 2 + 11). c.if-body-n.true (omega arith))), tt)

pub returns-then-n-gt-PAIRS-clause-result_value : goal.returns-then-n-gt-PAIRS-clause-result_value
returns-then-n-gt-PAIRS-clause-result_value c = (sym (refused_long c.args.body.now (omega arith)), tt)

pub returns-then-body-ne58-clause-result_value : goal.returns-then-body-ne58-clause-result_value
returns-then-body-ne58-clause-result_value c = (sym (refused_colon _ c.if-body-ne58.true), tt)

pub returns-in_err-sum-clause-result_value : goal.returns-in_err-sum-clause-result_value
returns-in_err-sum-clause-result_value c =
    let none = refused_sum c.args.body.now _ c.if-body-n.false (omega (arith, c.in_err-sum.ensures.value)) in
    rw c.from_residual.ensures (sym none, tt)

pub returns-clause-result_value : goal.returns-clause-result_value
returns-clause-result_value c =
    let body = c.args.body.now in
    let g = c.in_ok-sum.ensures in
    let small : c.in_ok-sum.sum < 256 = search rules in
    let e = c.fields_in.ensures in
    (e.0 ∙ parsed body (length body / 2) c.gather.new.pairs c.if-body-n.false (g.kept small) c.in_ok-sum.sum c.if-body-ne58.false g.value small, e.1)

pub returns-clause-kept_unless : goal.returns-clause-kept_unless
returns-clause-kept_unless c =
    let body = c.args.body.now in
    let small : c.in_ok-sum.sum < 256 = search rules in
    rw c.fields_in.ensures.0 (kept_fields body (length body / 2) c.gather.new.pairs c.if-body-n.false (c.in_ok-sum.ensures.kept small) c.in_ok-sum.sum)
