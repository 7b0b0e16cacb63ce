-- Where nothing is written every value left must lie in the range.
use Rattle.std.proofs.Common.{◌∙◌, sym, ap, rules}
use Rattle.base.specs.Formula.{decide, le, ◌&◌}
use Rattle.certificate.specs.declared.NewValue.{NewValue}
use Rattle.std.specs.Prelude.{Option}
use Rattle.claims.specs.declared.Values.{Values}
use Rattle.claims.specs.Values.{change_in, all_among}
use Rattle.entries.specs.Fields.{said_by}
use Rattle.flows.specs.Edges.{edge_of}
use Rattle.rule26.specs.Follows.{follows_left}
use Rattle.safety.specs.Rules.{follows}
use Rattle.rule26.proofs.change_follows.Goals as goal

pub returns-in-None : goal.returns-in-None
returns-in-None c =
    let n = c.args.n.now in
    let k = c.args.k in
    let C = said_by n.certificate in
    let e = edge_of c.args.e in
    c.all.ensures (λ v. le k.low v & le v k.high) (λ v r h q. search rules)
    ∙ ap (λ (s : Values). decide (all_among s (λ v. le k.low v & le v k.high))) c.values_left.ensures
    ∙ follows_left C n.address.0 k.cell.0 k.low k.high e
    ∙ ap (λ (t : Option NewValue). decide (follows C n.address.0 e (change_in t) k.cell.0 k.low k.high)) (sym c.in-None.is)
