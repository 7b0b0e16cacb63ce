-- Formulas of the same meaning have the same value.
-- Assumes nothing.
use Rattle.std.specs.Prelude.{◌≡◌, refl, true, false}
use Rattle.std.proofs.Common.{◌∙◌, ⊎_elim}
use Rattle.base.specs.Formula.{Formula, Holds, decide, sound, of_true, decide_yes, decide_no, case_bool, decide_false}

pub decide_same : (p q : Formula) → (Holds p → Holds q) → (Holds q → Holds p) → decide p ≡ decide q
decide_same p q f g =
    ⊎_elim (λ (t : decide p ≡ true). t ∙ decide_yes q (f (sound p (of_true (decide p) t))))
    (λ (t : decide p ≡ false). t ∙ decide_no q (λ m. decide_false p refl t (g m))) (case_bool (decide p))
