-- A register is at most 255, so that the search looks at all of them.
use Rattle.std.proofs.Common.{◌∙◌, arith, rules}
use Rattle.claims.specs.Laws.{decide_same}
use Rattle.claims.specs.Values.{all_between}
use Rattle.safety.specs.Rules.{cell_rule}
use Rattle.entries.specs.Fields.{said_by}
use Rattle.rule20.specs.Parts.{cells_rule}
use Rattle.rule20.proofs.cells_rule.Goals as goal

pub returns : goal.returns
unfolding cells_rule all_between
returns c =
    let C = said_by c.args.cert.now in
    c.all_between.ensures (cell_rule C) (λ v r hv e. search rules)
    ∙ decide_same (all_between 0 255 (cell_rule C)) (cells_rule C) (λ m k h. m k h (omega arith, omega arith)) (λ m k h _. m k h)
