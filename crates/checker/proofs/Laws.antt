-- The ways of the verdict: a rule that holds or is broken, an address that goes on or stops, the tests before the scan.
-- Assumes nothing.
use Prim.Native.Nat.{ℕ, zero, suc, ◌+◌, ◌-◌, ◌<◌}
use mathlib.Core.Path.{◌≡◌, refl, sym, ap, ◌∙◌}
use mathlib.Core.Bool.{true, false, ◌&&◌}
use mathlib.Core.List.{List}
use Rattle.std.specs.Prelude.{Some, None}
use native.Mathlib.Omega.{arith}
use lib.ListN.{length, get_or}
use lib.Dec.{eqb}
use borrow.Author.Tests.{eq-eqb, ne_eqb}
use Rattle.base.specs.Addresses.{rom_addr}
use Rattle.base.specs.Formula.{decide}
use Rattle.base.specs.Lengths.{is_certificate_length}
use Rattle.base.specs.Parts.{Part, part_of, rom_fits}
use Rattle.base.specs.declared.Profile.{Profile}
use Rattle.certificate.specs.declared.Verdict.{Verdict}
use Rattle.certificate.specs.declared.Verdict.TheVariants.{Accepted, Refused}
use Rattle.certificate.specs.Layout.{Certificate, certificate_of}
use Rattle.safety.specs.Rules.{rule20}
use Rattle.safety.specs.Verdicts.{number_at, scan_by, scan, verdict_on_by, verdict_by, verdict_of, Exact}
use Rattle.safety.specs.Statement.{Demand3}
use Rattle.safety.proofs.Exact.{exact}
use Rattle.safety.proofs.Theorem.{demand3}
use Rattle.checker.specs.Broken.{number_told}

told_none : (n : ℕ) → number_told n ≡ None → n ≡ 0
told_none zero e = refl
told_none (suc n) e = absurd (grind arith)

told_some : (n k : ℕ) → number_told n ≡ Some k → (n ≡ k) × (n ≡ 0 → ⊥)
told_some zero k e = absurd (grind arith)
told_some (suc n) k e = (grind arith, λ z. absurd (omega arith))

turn : (rom a : ℕ) → a < rom → rom - a ≡ suc (rom - (a + 1))
turn rom a h = omega arith

module _ (rom : ℕ) (C : Certificate) (image : List ℕ) (a : ℕ) (h : a < rom) where
  pub scan_on : number_told (number_at rom C image a) ≡ None → scan rom C image (rom - a) a ≡ scan rom C image (rom - (a + 1)) (a + 1)
  unfolding scan_by
  scan_on z = ap (λ (n : ℕ). scan rom C image n a) (turn rom a h) ∙ rw (scan_by, eq-eqb (number_at rom C image a) 0 (told_none _ z))

  pub scan_stop : (n : ℕ) → number_told (number_at rom C image a) ≡ Some n → scan rom C image (rom - a) a ≡ Refused n (rom_addr a)
  unfolding scan_by
  scan_stop n z =
      let t = told_some (number_at rom C image a) n z in
      ap (λ (k : ℕ). scan rom C image k a) (turn rom a h) ∙ rw (scan_by, ne_eqb (number_at rom C image a) 0 t.1) (ap (λ (k : ℕ). Refused k (rom_addr a)) t.0)

module _ (rom : ℕ) (image cert : List ℕ) where
  pub wrong_length : (eqb (length image) rom && is_certificate_length (length cert)) ≡ false → Refused 7 (rom_addr 0) ≡ verdict_of rom image cert
  unfolding verdict_by
  wrong_length n = rw (verdict_by, n)

  module _ (e : eqb (length image) rom ≡ true) (k : is_certificate_length (length cert) ≡ true) where
    pub layout_broken : decide (rule20 (certificate_of cert) rom image) ≡ false → Refused 20 (rom_addr 0) ≡ verdict_of rom image cert
    unfolding verdict_by verdict_on_by
    layout_broken d = rw (verdict_by, e, k, verdict_on_by, d)

    pub layout_holds : decide (rule20 (certificate_of cert) rom image) ≡ true
        → scan rom (certificate_of cert) image rom 0 ≡ verdict_of rom image cert
    unfolding verdict_by verdict_on_by
    layout_holds d = rw (verdict_by, e, k, verdict_on_by, d)

-- what `check` promises of a verdict
abbrev Promised : Part → List ℕ → List ℕ → Verdict → Type 0
Promised P image cert v =
    (v ≡ verdict_of P.rom image cert) × (Exact P.rom image cert v × (v ≡ Accepted → Demand3 P (certificate_of cert) image))

pub verdict : (p : Profile) (image cert : List ℕ) (v : Verdict) → ((i : ℕ) → get_or image i 0 < 256) → ((i : ℕ) → get_or cert i 0 < 256)
    → v ≡ verdict_of (part_of p).rom image cert → Promised (part_of p) image cert v
verdict p image cert v image_bytes cert_bytes e =
    (e, (rw e (exact (part_of p).rom image cert), λ h. demand3 (part_of p) (rom_fits p) image cert image_bytes cert_bytes (sym e ∙ h)))
