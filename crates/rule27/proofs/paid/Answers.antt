-- Main is exempt; of another routine every value of the first cell that is left is paid.
use Rattle.std.proofs.Common.{◌+◌, ◌∙◌, ap, rules}
use Rattle.base.specs.Formula.{decide, le}
use Rattle.entries.specs.declared.Entry.{Entry}
use Rattle.entries.specs.Fields.{said_by}
use Rattle.claims.specs.declared.Values.{Values}
use Rattle.claims.specs.Values.{all_among}
use Rattle.flows.specs.Edges.{edge_of}
use Rattle.safety.specs.Rules.{bound_at}
use Rattle.rule27.specs.Paid.{after_of}
use Rattle.rule27.proofs.Laws.{paid_all}
use Rattle.rule27.proofs.paid.Goals as goal

pub returns-else-n-eq1 : goal.returns-else-n-eq1
returns-else-n-eq1 c =
    let n = c.args.n.now in
    let C = said_by n.certificate in
    let a = n.address.0 in
    let f = after_of c.args.after.now in
    c.all.ensures (λ v. le (c.args.cost + f v) (bound_at C a v)) (λ v r h q. search rules)
    ∙ ap (λ (s : Values). decide (all_among s (λ v. le (c.args.cost + f v) (bound_at C a v)))) c.first_values.ensures
    ∙ paid_all C a (edge_of c.args.e) c.args.cost f (λ m. c.if-n-eq1.false (ap (λ (x : Entry). x.routine) n.told ∙ m))
