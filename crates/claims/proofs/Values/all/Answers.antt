-- The search over the range finds a value that is left and fails, or none.
use Rattle.std.proofs.Common.{◌∙◌, rules}
use Rattle.base.specs.Formula.{◌⇒◌}
use Rattle.claims.specs.Laws.{decide_same}
use Rattle.claims.specs.Values.{among, all_between, all_among}
use Rattle.claims.proofs.Values.all.Goals as goal

pub returns : goal.returns
unfolding among all_between all_among
returns g c p f =
    let s = c.args.self in
    c.all_between.ensures (λ v. among s v ⇒ p v) (λ v r hv e. search rules)
    ∙ decide_same (all_between s.range.least s.range.greatest (λ v. among s v ⇒ p v)) (all_among s p)
    (λ m v hv k. m v hv (k.0, k.1.0) k) (λ m v hv k n. m v hv n)
