-- A value of a claimed cell is left unless the search over its range finds none.
use Rattle.std.proofs.Common.{◌∙◌, ap, rules}
use Rattle.base.specs.Formula.{never, decide, decide_true, decide_false, decide_yes}
use Rattle.claims.specs.declared.Values.{Values}
use Rattle.claims.specs.Values.{all_among, feasible_for}
use Rattle.flows.specs.Edges.{edge_of}
use Rattle.safety.specs.Rules.{claimed}
use Rattle.claims.proofs.Laws.{feasible_by}
use Rattle.claims.proofs.feasible_for.Goals as goal

pub returns-then-not-claimed_in : goal.returns-then-not-claimed_in
unfolding feasible_for
returns-then-not-claimed_in c C a q =
    let x = c.args.x.0 in
    rw (c.if-not-claimed_in.true)
    (decide_yes (feasible_for C a (edge_of c.args.e) x)
    (λ m. absurd (decide_false (claimed C a x) (c.claimed_in.ensures C a q) c.if-not-claimed_in.true m)))

pub returns-else-not-claimed_in : goal.returns-else-not-claimed_in
returns-else-not-claimed_in c C a q =
    let x = c.args.x.0 in
    let same = ap (λ (s : Values). decide (all_among s (λ v. never))) (c.values_left.ensures C a q) in
    feasible_by C a (edge_of c.args.e) x c.all.result
    (decide_true (claimed C a x) (c.claimed_in.ensures C a q) c.if-not-claimed_in.false)
    (c.all.ensures (λ v. never) (λ v r h e. search rules) ∙ same)
