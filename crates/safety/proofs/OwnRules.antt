-- What acceptance means of the checker's own rules.
-- Assumes nothing.
use mathlib.Core.Path.{◌≡◌}
use Rattle.std.specs.Prelude.{List}
use Rattle.std.proofs.Common.{arith}
use Prim.Native.Nat.{ℕ}
use Rattle.base.specs.Formula.{Formula}
use Rattle.certificate.specs.declared.Verdict.TheVariants.{Accepted}
use Rattle.certificate.specs.declared.Summary.{Summary}
use Rattle.certificate.specs.Layout.{Certificate}
use Rattle.safety.specs.Verdicts.{rules_with, rules_at}
use Rattle.safety.specs.Verdicts.{verdict_on}
use Rattle.safety.specs.Accepted.{Every, Ascends, RulesHold, Accepts}
use Rattle.safety.proofs.Accepted.{accepted_rules}

-- the numbers of the rules on an instruction ascend, whatever the formulas
pub ascending_with : (r24 : Formula) (rom : ℕ) (C : Certificate) (a : ℕ) (S : Summary) (next cost : ℕ) → Ascends 20 (rules_with r24 rom C a S next cost)
unfolding rules_with
ascending_with r24 rom C a S next cost = (omega arith, (omega arith, (omega arith, (omega arith, (omega arith, (omega arith, (omega arith, tt)))))))

pub ascending : (rom : ℕ) (C : Certificate) (image : List ℕ) (a : ℕ) → Ascends 20 (rules_at rom C image a)
ascending rom C image a = ascending_with _ _ _ _ _ _ _

named : (rom : ℕ) (C : Certificate) (image : List ℕ) (a : ℕ) → Every (rules_at rom C image a) → RulesHold rom C image a
unfolding rules_with
named rom C image a e =
    record {
      r21 = e.0;
      r22 = e.1.0;
      r23 = e.1.1.0;
      r24 = e.1.1.1.0;
      r25 = e.1.1.1.1.0;
      r26 = e.1.1.1.1.1.0;
      r27 = e.1.1.1.1.1.1.0;
    }

pub accepts : (rom : ℕ) (C : Certificate) (image : List ℕ) → verdict_on rom C image ≡ Accepted → Accepts rom C image
accepts rom C image h =
    let z = accepted_rules rules_at rom C image (ascending rom C image) h in
    record { r20 = z.0; rules = λ a l r. named rom C image a (z.1 a l r) }
