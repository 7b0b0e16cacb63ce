-- What the code of rule 27 holds means what the rule says.
-- Assumes nothing.
use Prim.Native.Nat.{ℕ, ◌+◌, ◌-◌, ◌≤◌}
use mathlib.Core.Path.{◌≡◌, refl, sym, subst, ◌∙◌}
use mathlib.Core.Logic.{inl, inr, ⊎_elim, ◌≢◌}
use mathlib.Core.Bool.{Bool, true, false, ◌&&◌}
use lib.Dec.{ltb}
use native.Mathlib.Nat.{zero-add}
use native.Mathlib.Omega.{arith}
use borrow.Author.Tests.{eq-eqb, ne_eqb}
use Rattle.std.specs.Prelude.{Option, Some, None}
use Rattle.base.specs.Choice.{pick}
use Rattle.base.specs.Formula.{Holds, decide, le, same?}
use Rattle.certificate.specs.declared.NewValue.{NewValue}
use Rattle.certificate.specs.declared.NewValue.TheVariants.{Number, OneMore, OneLess, Within, CopyOf, Unknown}
use Rattle.certificate.specs.declared.Write.{Write}
use Rattle.certificate.specs.Layout.{Certificate}
use Rattle.safety.specs.Rules as rules
use Rattle.safety.specs.Rules.{paid, first_value, same_first, bound_at, bound_along, bound_after, bound_after_call, change_of}
use Rattle.entries.specs.Fields.{said_by}
use Rattle.claims.specs.declared.EntryAt.{EntryAt}
use Rattle.claims.specs.Laws.{decide_same}
use Rattle.claims.specs.Values.{among, all_among, change_in, left_among, among_left}
use Rattle.rule27.specs.declared.After.{After}
use Rattle.rule27.specs.declared.After.TheVariants as after
use Rattle.rule27.specs.Paid.{bound_of, worst_of, after_of, along_of, first_values_of}

along_of_lem : (k : Option NewValue) (t : EntryAt) (c : ℕ) → after_of (along_of k t) c ≡ bound_along (said_by t.certificate) (change_in k) t.address.0 c
along_of_lem None t c = zero-add _
along_of_lem (Some (Number n)) t c = zero-add _
along_of_lem (Some OneMore) t c = refl
along_of_lem (Some OneLess) t c = refl
along_of_lem (Some (Within q)) t c = zero-add _
along_of_lem (Some (CopyOf y)) t c = zero-add _
along_of_lem (Some Unknown) t c = zero-add _

module _ (t : EntryAt) (a : ℕ) (w : Write) (c : ℕ) where
  pub after_worst : same_first (said_by t.certificate) a t.address.0 ≡ false → after_of (after.Worst 0 t) c ≡ bound_after (said_by t.certificate) a w t.address.0 c
  unfolding bound_after
  after_worst s = rw (bound_after, s) (zero-add _)

  pub after_along : (k : Option NewValue) → same_first (said_by t.certificate) a t.address.0 ≡ true
      → change_in k ≡ change_of (said_by t.certificate) a w ((said_by t.certificate).first_cell a)
      → after_of (along_of k t) c ≡ bound_after (said_by t.certificate) a w t.address.0 c
  unfolding bound_after
  after_along k s p = rw (bound_after, s, ← p) (along_of_lem k t c)

after_callee : (k : Bool) (b : ℕ) (t : EntryAt) (c : ℕ) → after_of (pick k (after.Along b t) (after.Worst b t)) c ≡ b + pick k (bound_of t c) (worst_of t)
after_callee true b t c = refl
after_callee false b t c = refl

pub after_call : (C : Certificate) (a next to : ℕ) (k : Bool) (b : ℕ) (t : EntryAt) (c : ℕ)
    → k ≡ (same_first C a next && ltb (C.limit (C.first_cell a)) (C.routine to)) → b ≡ C.bound (C.routine to) → said_by t.certificate ≡ C
    → t.address.0 ≡ next → after_of (pick k (after.Along b t) (after.Worst b t)) c ≡ bound_after_call C a next to c
unfolding bound_after_call
after_call C a next to k b t c hk hb of at = after_callee k b t c ∙ rw (hk, hb, of, at) refl

module _ (C : Certificate) (a : ℕ) (e : rules.Edge) where
  module _ (c : ℕ) where
    first_among : Holds (first_value C a e c) → Holds (among (first_values_of C a e) c)
    unfolding first_value among
    first_among m =
        ⊎_elim
        (λ (q : C.first_cell a ≡ 255). rw (eq-eqb (C.first_cell a) 255 q) (omega arith, (omega (arith, m.1 q), tt)))
        (λ (q : C.first_cell a ≢ 255). rw (ne_eqb (C.first_cell a) 255 q) (left_among C a e (C.first_cell a) c (m.0 q)))
        (same? (C.first_cell a) 255)

    among_first : Holds (among (first_values_of C a e) c) → Holds (first_value C a e c)
    unfolding first_value among
    among_first m = (
      λ (q : C.first_cell a ≢ 255). among_left C a e (C.first_cell a) c (rw (ne_eqb (C.first_cell a) 255 q) at m),
      λ (q : C.first_cell a ≡ 255). zero_only (rw (eq-eqb (C.first_cell a) 255 q) at m).1.0,
    )
      where
        zero_only : c ≤ 0 → c ≡ 0
        zero_only h = omega arith

  -- all values paid is what the rule says, but for main
  pub paid_all : (cost : ℕ) (f : ℕ → ℕ) → C.routine a ≢ 1
      → decide (all_among (first_values_of C a e) (λ c. le (cost + f c) (bound_at C a c))) ≡ decide (paid C a e cost f)
  unfolding all_among paid
  paid_all cost f n =
      decide_same (all_among (first_values_of C a e) (λ c. le (cost + f c) (bound_at C a c))) (paid C a e cost f)
      (λ m. inr (λ c hc v. m c hc (first_among c v)))
      (λ p c hc v. ⊎_elim (λ q. absurd (n q)) (λ m. m c hc (among_first c v)) p)

  -- the same cycles after, the same rule
  pub paid_same : (cost : ℕ) (f g : ℕ → ℕ) → ((c : ℕ) → f c ≡ g c) → decide (paid C a e cost f) ≡ decide (paid C a e cost g)
  unfolding paid
  paid_same cost f g q =
      decide_same (paid C a e cost f) (paid C a e cost g)
      (λ p. ⊎_elim inl (λ m. inr (λ c hc v. subst (λ (n : ℕ). cost + n ≤ bound_at C a c) (q c) (m c hc v))) p)
      (λ p. ⊎_elim inl (λ m. inr (λ c hc v. subst (λ (n : ℕ). cost + n ≤ bound_at C a c) (sym (q c)) (m c hc v))) p)
