-- A pointer that is not claimed, or reaches past FFH, fails; else its reach is the walk over one table.
use Rattle.std.proofs.Common.{◌+◌, ◌∙◌, ap, arith}
use Rattle.base.specs.Formula.{decide_no, decide_true, decide_false}
use Rattle.certificate.specs.declared.Range.{Range}
use Rattle.entries.specs.Fields.{said_by}
use Rattle.rule24.proofs.Laws.{table_outside, reach_is}
use Rattle.safety.specs.Rules.{reach, claimed}
use Rattle.rule24.proofs.reach.Goals as goal

pub returns-in_default : goal.returns-in_default
unfolding reach
returns-in_default g c rule f =
    let n = c.args.n.now in
    let lowest = ap (λ (q : Range). q.least) c.range-claim.ensures in
    decide_no (reach (said_by n.certificate) n.address.0 c.args.p.0 c.args.o rule)
    (λ m. m.1.1.0 (table_outside _ _ (omega (arith, lowest, c.in_default.ensures))))

pub returns-in_default-checked_add : goal.returns-in_default-checked_add
unfolding reach
returns-in_default-checked_add g c rule f =
    let n = c.args.n.now in
    let highest = ap (λ (q : Range). q.greatest) c.range-claim.ensures in
    decide_no (reach (said_by n.certificate) n.address.0 c.args.p.0 c.args.o rule)
    (λ m. omega (arith, m.1.0, highest, c.in_default-checked_add.ensures))

pub returns-then-claimed : goal.returns-then-claimed
returns-then-claimed g c rule f =
    let n = c.args.n.now in
    let C = said_by n.certificate in
    let from = c.in-Some.ensures in
    let upto = c.in-Some-checked_add.ensures in
    c.one_table.ensures rule f
    ∙ reach_is C n.address.0 c.args.p.0 c.args.o rule _ _
    (from.1 ∙ ap (λ (q : Range). q.least + c.args.o) c.range-claim.ensures)
    (upto.1 ∙ ap (λ (q : Range). q.greatest + c.args.o) c.range-claim.ensures) (omega arith)
    (decide_true (claimed C n.address.0 c.args.p.0) c.claimed.ensures c.if-claimed.true)

pub returns-else-claimed : goal.returns-else-claimed
unfolding reach
returns-else-claimed g c rule f =
    let n = c.args.n.now in
    let C = said_by n.certificate in
    rw (c.if-claimed.false)
    (decide_no (reach C n.address.0 c.args.p.0 c.args.o rule)
    (λ m. decide_false (claimed C n.address.0 c.args.p.0) c.claimed.ensures c.if-claimed.false m.0))
