-- What the rules at an address say of an action that stays in its routine.
-- Assumes nothing.
use Rattle.std.specs.Prelude.{ℕ}
use Rattle.base.specs.Formula.{Holds}
use Rattle.certificate.specs.declared.Summary.{Summary}
use Rattle.certificate.specs.Layout.{Certificate}
use Rattle.safety.specs.Rules.{rule23, rule24, stack_rule}

pub record StepRules (C : Certificate) (rom a : ℕ) (S : Summary) : Type 0 where
  pub r23 : Holds (rule23 C a S)
  pub r24 : Holds (rule24 C rom a S)
  pub stack : Holds (stack_rule (C.depth a) (C.need (C.routine a)) S.stack)
