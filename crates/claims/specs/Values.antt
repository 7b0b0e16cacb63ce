-- The values of a cell that are left on an edge, and the change of a cell, as the checker's code holds them.
-- Assumes nothing.
use Rattle.std.specs.Prelude.{ℕ, ◌+◌, ◌≡◌, refl, Bool, true, false, ◌&&◌, leb, Option, Some, None}
use Rattle.std.proofs.Common.{sym, subst}
use Rattle.std.proofs.Math.Dec.{T}
use Rattle.base.specs.Choice.{pick}
use Rattle.base.specs.Formula.{Formula, Holds, decide, decide_true, decide_yes, always, le, neg, ◌&◌, ◌⇒◌, forall_below}
use Rattle.certificate.specs.Layout.{Certificate}
use Rattle.certificate.specs.Summaries.{range}
use Rattle.certificate.specs.declared.NewValue.{NewValue}
use Rattle.safety.specs.Rules as rules
use Rattle.safety.specs.Rules.{meets, low, high, claimed, narrowed, left}
use Rattle.claims.specs.declared.Comparison.{Comparison}
use Rattle.claims.specs.declared.Values.{Values}

-- every number from l to h is so
unfoldable pub all_between : ℕ → ℕ → (ℕ → Formula) → Formula
all_between l h p = forall_below 256 (λ v. le l v & le v h ⇒ p v)

-- v meets a comparison, if there is one
abbrev pub met : Option Comparison → ℕ → Formula
met None v = always
met (Some c) v = meets c.condition c.outcome v c.number

-- v is one of the values: as `left` of rule 26
unfoldable pub among : Values → ℕ → Formula
among s v = le s.range.least v & le v s.range.greatest & met s.narrowed v

-- every one of the values is so
unfoldable pub all_among : Values → (ℕ → Formula) → Formula
all_among s p = forall_below 256 (λ v. among s v ⇒ p v)

-- every one of the values lies between l and h
abbrev pub all_within : Values → ℕ → ℕ → Formula
all_within s l h = all_among s (λ v. le l v & le v h)

-- the values of cell x that are left on an edge from a
abbrev pub values_of : Certificate → ℕ → rules.Edge → ℕ → Values
values_of C a e x = record {
  range = range (low C a x) (high C a x);
  narrowed = pick (decide (narrowed C a x)) (Some (record { condition = e.condition; outcome = e.outcome; number = C.compare_number a })) None;
}

-- what is left on an edge is among those values
module _ (C : Certificate) (a : ℕ) (e : rules.Edge) (x v : ℕ) where
  abbrev comparison : Comparison
  comparison = record { condition = e.condition; outcome = e.outcome; number = C.compare_number a }

  meets_if : (b : Bool) → (b ≡ true → Holds (meets e.condition e.outcome v (C.compare_number a))) → Holds (met (pick b (Some comparison) None) v)
  meets_if true f = f refl
  meets_if false f = tt

  if_meets : (b : Bool) → Holds (met (pick b (Some comparison) None) v) → b ≡ true → Holds (meets e.condition e.outcome v (C.compare_number a))
  if_meets true m q = m
  if_meets false m q = absurd (subst T (sym q) tt)

  pub left_among : Holds (left C a e x v) → Holds (among (values_of C a e x) v)
  unfolding left among
  left_among m = (m.0, (m.1.0, meets_if (decide (narrowed C a x)) (λ t. m.1.1 (decide_true (narrowed C a x) refl t))))

  pub among_left : Holds (among (values_of C a e x) v) → Holds (left C a e x v)
  unfolding left among
  among_left m = (m.0, (m.1.0, λ h. if_meets (decide (narrowed C a x)) m.1.1 (sym (decide_yes (narrowed C a x) h))))

-- some value of cell x, if it is claimed, is left: as `feasible`
unfoldable pub feasible_for : Certificate → ℕ → rules.Edge → ℕ → Formula
feasible_for C a e x = claimed C a x ⇒ neg (forall_below 256 (λ v. neg (left C a e x v)))

abbrev pub change_in : Option NewValue → rules.Change
change_in None = rules.Change.unchanged
change_in (Some v) = rules.Change.changed v

-- x is among the addresses that the claim of pointer p, plus offset o, reaches
abbrev pub pointed_at : Certificate → ℕ → ℕ → ℕ → ℕ → Bool
pointed_at C a p o x = leb (low C a p + o) x && leb x (high C a p + o)
