-- Parts of rule 26: the ranges that INC and DEC give, and what follows where nothing is written.
-- Assumes nothing.
use Rattle.std.specs.Prelude.{ℕ, ◌+◌, ◌-◌, ◌≡◌, refl}
use Rattle.base.specs.Formula.{Formula, decide, le, lt, eq, ◌&◌, ◌⇒◌}
use Rattle.certificate.specs.declared.NewValue.{NewValue}
use Rattle.certificate.specs.declared.NewValue.TheVariants.{Number, OneMore, OneLess, Within, CopyOf, Unknown}
use Rattle.certificate.specs.Layout.{Certificate}
use Rattle.safety.specs.Rules.{Edge, Change, follows}
use Rattle.claims.specs.Laws.{decide_same}
use Rattle.claims.specs.Values.{all_among, all_within, values_of, left_among, among_left}

abbrev pub one_more_follows : ℕ → ℕ → ℕ → ℕ → Formula
one_more_follows low high l h = (lt high 255 ⇒ le l (low + 1) & le (high + 1) h) & (le 255 high ⇒ eq l 0 & le 255 h)

abbrev pub one_less_follows : ℕ → ℕ → ℕ → ℕ → Formula
one_less_follows low high l h = (lt 0 low ⇒ le l (low - 1) & le (high - 1) h) & (eq low 0 ⇒ eq l 0 & le 255 h)

module _ (C : Certificate) (a x l h : ℕ) where
  -- what is stored gives its range on every edge
  pub follows_stored : (d e : Edge) (v : NewValue)
      → decide (follows C a d (Change.changed v) x l h) ≡ decide (follows C a e (Change.changed v) x l h)
  follows_stored d e (Number n) = refl
  follows_stored d e OneMore = refl
  follows_stored d e OneLess = refl
  follows_stored d e (Within q) = refl
  follows_stored d e (CopyOf y) = refl
  follows_stored d e Unknown = refl

  -- where nothing is stored, the values that are left must lie in the range
  pub follows_left : (e : Edge) → decide (all_within (values_of C a e x) l h) ≡ decide (follows C a e Change.unchanged x l h)
  unfolding all_among
  follows_left e =
      decide_same (all_within (values_of C a e x) l h) (follows C a e Change.unchanged x l h)
      (λ m v hv k. m v hv (left_among C a e x v k)) (λ m v hv k. m v hv (among_left C a e x v k))
