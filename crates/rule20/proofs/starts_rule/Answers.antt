-- The search goes over all the routines.
use Rattle.std.proofs.Common.{◌∙◌, rules, refl, tests}
use Rattle.std.proofs.lemmas.Iterator.{YieldsList-from_range}
use Rattle.std.proofs.lemmas.Iterator.Search.{all_from_yields_List}
use Rattle.base.specs.Formula.{decide}
use Rattle.entries.specs.Fields.{said_by}
use Rattle.safety.specs.Rules.{start_rule}
use Rattle.rule20.specs.Parts.{starts_rule}
use Rattle.rule20.proofs.Laws.{all_below}
use Rattle.rule20.proofs.starts_rule.Goals as goal

pub returns : goal.returns
unfolding starts_rule
returns c =
    let p = start_rule (said_by c.args.cert.now) c.args.rom in
    all_from_yields_List (λ k. decide (p k)) _ _ _ c.all.ensures.ran (YieldsList-from_range 0 64 64 refl refl) (λ x b q k. search (rules, tests))
    ∙ all_below 64 p
