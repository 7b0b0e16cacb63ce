-- What acceptance means: rule 20 holds, and at each address with an entry the rules hold.
-- Assumes nothing.
use mathlib.Core.Path.{◌≡◌, refl, sym, subst, ◌∙◌}
use Rattle.std.specs.Prelude.{◌≢◌, Bool, List}
use Rattle.std.proofs.Common.{arith}
use Rattle.std.proofs.Math.Bool.{true, false}
use Prim.Native.Nat.{ℕ, ◌<◌}
use Rattle.base.specs.declared.RomAddr.{RomAddr}
use Rattle.base.specs.Addresses.{rom_addr}
use Rattle.base.specs.Choice.{pick}
use Rattle.base.specs.Formula.{Formula, Holds, decide, sound, of_true}
use Rattle.certificate.specs.declared.Verdict.{Verdict}
use Rattle.certificate.specs.declared.Verdict.TheVariants.{Accepted, Refused}
use Rattle.certificate.specs.Layout.{Certificate, certificate_of}
use Rattle.safety.specs.Rules.{rule20}
use Rattle.safety.specs.Verdicts.{Rules, scan_by, verdict_on_by, verdict_by}
use Rattle.safety.specs.Verdicts.{lengths_right}
use Rattle.safety.specs.Accepted.{Every, Ascends}
use Rattle.safety.proofs.Scanned.{Scanned, scanned, number_every}

is_accepted : Verdict → ℕ
is_accepted Accepted = 0
is_accepted (Refused n a) = 1

pub never_refused : (n : ℕ) (a : RomAddr) → Refused n a ≡ Accepted → ⊥
unfolding is_accepted
never_refused n a e = let z : ◌≡◌ {A = ℕ} 1 0 = mathlib.Core.Path.ap is_accepted e in omega arith

-- w is the verdict by what a first test gives, refused where it fails: accepted, the test holds
verdict_first : (b : Bool) (f : Formula) (n : ℕ) (w : Bool → Verdict) → decide f ≡ b → w false ≡ Refused n (rom_addr 0) → w b ≡ Accepted
    → Holds f × (w true ≡ Accepted)
verdict_first true f n w e r h = (sound f (of_true (decide f) e), h)
verdict_first false f n w e r h = absurd (never_refused n (rom_addr 0) (sym r ∙ h))

-- an accepted pair has the right lengths
pub accepted_lengths : (rules : Rules) (rom : ℕ) (image cert : List ℕ) → verdict_by rules rom image cert ≡ Accepted
    → Holds (lengths_right rom image cert) × (verdict_on_by rules rom (certificate_of cert) image ≡ Accepted)
unfolding verdict_by
accepted_lengths rules rom image cert h =
    verdict_first (decide (lengths_right rom image cert)) (lengths_right rom image cert) 7
    (λ b. pick b (verdict_on_by rules rom (certificate_of cert) image) (Refused 7 (rom_addr 0))) refl refl h

-- and breaks no rule
pub accepted_rules : (rules : Rules) (rom : ℕ) (C : Certificate) (image : List ℕ) → ((a : ℕ) → Ascends 20 (rules rom C image a)) → verdict_on_by rules rom C image ≡ Accepted
    → Holds (rule20 C rom image) × ((a : ℕ) → a < rom → C.routine a ≢ 0 → Every (rules rom C image a))
unfolding verdict_on_by
accepted_rules rules rom C image up h =
    let z =
    verdict_first (decide (rule20 C rom image)) (rule20 C rom image) 20
    (λ b. elim b [ true ↦ scan_by rules rom C image rom 0 | false ↦ Refused 20 (rom_addr 0) ]) refl refl h in
    let s : Scanned rules rom C image rom 0 Accepted =
    subst (λ (v : Verdict). Scanned rules rom C image rom 0 v) z.1 (scanned rules rom C image rom 0) in
    (z.0, λ a l r. number_every rules rom C image a (up a) (s a (omega arith) (omega arith)) r)
