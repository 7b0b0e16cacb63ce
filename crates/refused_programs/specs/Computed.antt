-- The verdict on a program, computed: behind the code there is no entry.
-- Assumes nothing.
use Rattle.std.specs.Prelude.{◌≡◌, T}
use Rattle.base.specs.Formula.{decide, ltb_no}
use Rattle.certificate.specs.declared.Verdict.{Verdict}
use Rattle.certificate.specs.Layout.{certificate_from}
use Rattle.safety.specs.Rules.{empty_entry, address_rule}
use Rattle.safety.specs.Verdicts.{rules_at, scan, verdict_on}
use Rattle.logger_cases.specs.Computed.{layout, NoneBehind, verdict_by_lem}
use Rattle.refused_programs.specs.Programs.{Program, certificate, code_end}

module _ (p : Program) where
  behind_code : NoneBehind p.part.rom (certificate p) code_end
  unfolding certificate_from address_rule empty_entry
  behind_code a h = rw (ltb_no h) tt

  pub verdict_is : {v : Verdict} → T (decide (layout p.part.rom (certificate p) p.image code_end))
      → scan p.part.rom (certificate p) p.image p.part.rom 0 ≡ v → verdict_on p.part.rom (certificate p) p.image ≡ v
  verdict_is = verdict_by_lem rules_at p.part.rom (certificate p) p.image code_end behind_code
