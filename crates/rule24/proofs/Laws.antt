-- What a pointer reaches is one table, or past FFH.
-- Assumes nothing.
use Prim.Native.Nat.{ℕ, ◌+◌, ◌≤◌, ◌<◌}
use mathlib.Core.Path.{◌≡◌, subst}
use mathlib.Core.List.{List}
use borrow.Author.Tests.{le-ltb}
use Rattle.base.specs.Formula.{Formula, Holds, decide}
use Rattle.certificate.specs.Layout.{Certificate, certificate_of, certificate_from, part}
use Rattle.claims.specs.Laws.{decide_same}
use Rattle.claims.specs.Values.{all_between}
use Rattle.safety.specs.Rules.{claimed, low, high, reach}
use Rattle.rule24.specs.Tables.{one_table}

-- past FFH no table has a register
pub table_outside : (b : List ℕ) (x : ℕ) → 256 ≤ x → (certificate_of b).table x ≡ 0
unfolding certificate_of certificate_from part
table_outside b x h = rw (part, le-ltb x 256 h)

-- of a claimed pointer whose reach ends by FFH
pub reach_is : (C : Certificate) (a p o : ℕ) (rule : ℕ → Formula) (from upto : ℕ) → from ≡ low C a p + o → upto ≡ high C a p + o → upto < 256
    → Holds (claimed C a p) → decide (one_table C from upto rule) ≡ decide (reach C a p o rule)
unfolding reach one_table all_between
reach_is C a p o rule from upto f u h m =
    rw (f, u)
    (decide_same (one_table C (low C a p + o) (high C a p + o) rule) (reach C a p o rule)
    (λ t. (m, (subst (λ (n : ℕ). n < 256) u h, (t.0, t.1)))) (λ r. (r.1.1.0, r.1.1.1)))
