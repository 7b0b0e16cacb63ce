-- The bound behind a CALL.
-- Assumes nothing.
use Rattle.std.specs.Prelude.{◌≡◌, Bool, ◌&&◌, not, List, ℕ, ◌+◌, ◌≤◌, ◌<◌, T, eqb, ltb}
use Rattle.std.proofs.Math.Path.{refl, sym, subst, ap}
use Rattle.std.proofs.Common.{◌∙◌, ⊎_elim, eqb→eq, ltb→lt}
use Rattle.std.proofs.Math.Bool.{true, false}
use native.Mathlib.Omega.{arith}
use Rattle.base.specs.Choice.{pick}
use Rattle.base.specs.Formula.{of_true, eqb_yes}
use Rattle.base.specs.Lengths.{largest_rom}
use Rattle.certificate.specs.Layout.{Certificate}
use Rattle.safety.specs.Rules.{no_cell, ram_end, worst, bound_at}
use Rattle.safety.specs.Rules.{same_first, bound_after_call}
use Rattle.safety.specs.Invariant.{at, Claims, first_now, bound_now}
use Rattle.safety.proofs.Facts.{EntryFacts}
use Rattle.safety.proofs.Edge.{CertificateFacts, first_in, now_worst}

-- the bound behind a CALL of the routine at t
pub bound_after_call_lem : (C : Certificate) → CertificateFacts C → (a t next : ℕ) (r r'' : List ℕ) → next < largest_rom → EntryFacts C a → EntryFacts C next
    → Claims C next r'' → (C.first_cell a < ram_end → C.limit (C.first_cell a) < C.routine t → at r'' (C.first_cell a) ≡ at r (C.first_cell a))
    → C.bound (C.routine t) + bound_now C next r'' ≤ bound_after_call C a next t (first_now C a r)
unfolding bound_after_call same_first
bound_after_call_lem C more a t next r r'' hn e en cl same =
    go (eqb (C.first_cell next) (C.first_cell a)) refl (eqb (C.first_cell a) no_cell) refl (ltb (C.limit (C.first_cell a)) (C.routine t)) refl
  where
    most : C.bound (C.routine t) + bound_now C next r'' ≤ C.bound (C.routine t) + worst C next
    most = let z = now_worst C more next r'' hn en cl in omega arith

    go : (b : Bool) → eqb (C.first_cell next) (C.first_cell a) ≡ b → (d : Bool) → eqb (C.first_cell a) no_cell ≡ d
        → (g : Bool) → ltb (C.limit (C.first_cell a)) (C.routine t) ≡ g
        → C.bound (C.routine t) + bound_now C next r''
        ≤ C.bound (C.routine t) + pick (b && not d && g) (bound_at C next (first_now C a r)) (worst C next)
    go false e1 d e2 g e3 = most
    go true e1 true e2 g e3 = most
    go true e1 false e2 false e3 = most
    go true e1 false e2 true e3 =
        let q = eqb→eq (C.first_cell next) (C.first_cell a) (of_true (eqb (C.first_cell next) (C.first_cell a)) e1) in
        let l = ltb→lt (C.limit (C.first_cell a)) (C.routine t) (of_true (ltb (C.limit (C.first_cell a)) (C.routine t)) e3) in
        ⊎_elim
        (λ (h : C.first_cell a < ram_end).
        let z : first_now C next r'' ≡ first_now C a r = first_in C next r'' (omega arith) ∙ ap (at r'') q ∙ same h l ∙ sym (first_in C a r h) in
        let y : bound_now C next r'' ≡ bound_at C next (first_now C a r) = ap (bound_at C next) z in
        omega arith)
        (λ (h : C.first_cell a ≡ no_cell). absurd (subst T (sym (eqb_yes h) ∙ e2) tt)) e.first_cell
