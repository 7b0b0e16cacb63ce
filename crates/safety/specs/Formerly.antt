-- The verdict as it was before request 14.
-- Assumes nothing.
use Rattle.std.specs.Prelude.{ℕ, ◌+◌, ◌*◌, List}
use Rattle.base.specs.Formula.{Formula, always, le, lt, ◌&◌}
use Rattle.decode.specs.Decode.{decode_at}
use Rattle.certificate.specs.declared.CodeAccess.{CodeAccess}
use Rattle.certificate.specs.declared.Summary.{Summary}
use Rattle.certificate.specs.declared.Verdict.{Verdict}
use Rattle.certificate.specs.Layout.{Certificate}
use Rattle.certificate.specs.Summaries.{range}
use Rattle.safety.specs.Rules.{low, high, claimed}
use Rattle.safety.specs.Rules.{rule24_by}
use Rattle.safety.specs.Verdicts.{Rules, summary_from, next_at, cost_at, rules_with, verdict_by}

-- 24 took the claim of the high half, the low half 0 to 255, the offset added unwrapped
abbrev pub former_in_rom : Certificate → ℕ → ℕ → CodeAccess → Formula
former_in_rom C rom a CodeAccess.Nothing = always
former_in_rom C rom a (CodeAccess.Direct t) = lt t.0 rom
former_in_rom C rom a (CodeAccess.Pair p up down) =
    claimed C a p.0 & le down (low C a p.0 * 256 + up) & lt (high C a p.0 * 256 + 255 + up) (rom + down)

-- what LDC, LDCI and LDCD load counted as 0 to 255
abbrev pub former_summary : List ℕ → ℕ → Summary
former_summary image a = summary_from (λ c. range 0 255) (decode_at image a) a

abbrev pub former_rules : Rules
former_rules rom C image a =
    let S = former_summary image a in
    rules_with (rule24_by C (former_in_rom C rom) a S) rom C a S (next_at image a) (cost_at image a)

-- over today's other rules and lengths: certificates of 58,499 bytes came later, with request 03
abbrev pub verdict_formerly : ℕ → List ℕ → List ℕ → Verdict
verdict_formerly = verdict_by former_rules
