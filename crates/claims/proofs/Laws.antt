-- The range of a cell, by the claims of an entry; products of bytes; a change that is made or not; an edge on which a value is left.
-- Assumes nothing.
use mathlib.Core.Path.{◌≡◌, refl, ◌∙◌}
use mathlib.Core.Bool.{Bool, not, true, false}
use Prim.Native.Nat.{ℕ, ◌*◌, ◌<◌, ◌≤◌}
use native.Mathlib.Nat.{mul-le-mul}
use native.Mathlib.Omega.{arith}
use lib.Dec.{eqb}
use Rattle.std.specs.Prelude.{Some, None}
use Rattle.base.specs.Choice.{pick}
use Rattle.base.specs.Formula.{Holds, decide, never, neg, forall_below, decide_step}
use Rattle.certificate.specs.declared.NewValue.{NewValue}
use Rattle.certificate.specs.Layout.{Certificate}
use Rattle.safety.specs.Rules as rules
use Rattle.safety.specs.Rules.{low, high, claimed, left}
use Rattle.entries.specs.declared.Entry.{Entry}
use Rattle.entries.specs.Fields.{entry_of}
use Rattle.claims.specs.Laws.{decide_same}
use Rattle.claims.specs.Values.{all_among, values_of, feasible_for, left_among, among_left, change_in}

unfoldable pub low_in : Entry → ℕ → ℕ
low_in n x = pick (eqb x n.first.cell.0) n.first.low (pick (eqb x n.second.cell.0) n.second.low 0)

unfoldable pub high_in : Entry → ℕ → ℕ
high_in n x = pick (eqb x n.first.cell.0) n.first.high (pick (eqb x n.second.cell.0) n.second.high 255)

module _ (C : Certificate) (a : ℕ) (n : Entry) (x r : ℕ) (q : n ≡ entry_of C a) where
  pub low_by : r ≡ low_in n x → r ≡ low C a x
  unfolding low low_in
  low_by p = p ∙ rw q

  pub high_by : r ≡ high_in n x → r ≡ high C a x
  unfolding high high_in
  high_by p = p ∙ rw q

pub product : (m d : ℕ) → m < 256 → d < 256 → m * d < 65536
product m d h k =
    let p : m ≤ 255 = omega arith in
    let q : d ≤ 255 = omega arith in
    omega (arith, mul-le-mul p q)

pub change_pick : (b : Bool) (v : NewValue)
    → change_in (pick b (Some v) None) ≡ pick b (rules.Change.changed v) rules.Change.unchanged
change_pick true v = refl
change_pick false v = refl

-- a claimed cell has a value left unless all of them are none
pub feasible_by : (C : Certificate) (a : ℕ) (e : rules.Edge) (x : ℕ) (none : Bool) → Holds (claimed C a x)
    → none ≡ decide (all_among (values_of C a e x) (λ v. never)) → not none ≡ decide (feasible_for C a e x)
unfolding feasible_for all_among
feasible_by C a e x none m q =
    let empty = forall_below 256 (λ v. neg (left C a e x v)) in
    decide_step (claimed C a x) (neg empty) m
    (rw q
    (decide_same (neg (all_among (values_of C a e x) (λ v. never))) (neg empty)
    (λ f k. f (λ v hv h. k v hv (among_left C a e x v h))) (λ f k. f (λ v hv h. k v hv (left_among C a e x v h)))))
