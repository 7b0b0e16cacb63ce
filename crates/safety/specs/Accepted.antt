-- What acceptance means: rule 20 holds, and at each address with an entry rules 21 to 27 hold.
-- Assumes nothing.
use Rattle.std.specs.Prelude.{◌≢◌, List, [], ◌∷◌}
use Prim.Native.Nat.{ℕ, ◌<◌}
use Rattle.base.specs.Formula.{Holds}
use Rattle.certificate.specs.Layout.{Certificate}
use Rattle.safety.specs.Rules.{rule20, rule21, rule22, rule23, rule24, rule25, rule26, rule27}
use Rattle.safety.specs.Verdicts.{Rule, summary_at, next_at, cost_at}

-- every rule of a list holds
abbrev pub Every : List Rule → Type 0
Every [] = Unit {0}
Every (q ∷ qs) = Holds q.formula × Every qs

-- the numbers of a list ascend, from above m
abbrev pub Ascends : ℕ → List Rule → Type 0
Ascends m [] = Unit {0}
Ascends m (q ∷ qs) = (m < q.number) × Ascends q.number qs

-- The checker's own rules --

-- rules 21 to 27 at an address
pub record RulesHold (rom : ℕ) (C : Certificate) (image : List ℕ) (a : ℕ) : Type 0 where
  pub r21 : Holds (rule21 C rom a (summary_at C image a) (next_at image a))
  pub r22 : Holds (rule22 C a (summary_at C image a))
  pub r23 : Holds (rule23 C a (summary_at C image a))
  pub r24 : Holds (rule24 C rom a (summary_at C image a))
  pub r25 : Holds (rule25 C a (summary_at C image a) (next_at image a))
  pub r26 : Holds (rule26 C a (summary_at C image a) (next_at image a))
  pub r27 : Holds (rule27 C a (summary_at C image a) (cost_at image a) (next_at image a))

-- an accepted certificate breaks no rule
pub record Accepts (rom : ℕ) (C : Certificate) (image : List ℕ) : Type 0 where
  pub r20 : Holds (rule20 C rom image)
  pub rules : (a : ℕ) → a < rom → C.routine a ≢ 0 → RulesHold rom C image a
