-- Request 03: a certificate that is accepted with some cycles of an entry is accepted with fewer. A figure that was rounded up does no harm.
-- Assumes nothing.
use Rattle.std.specs.Prelude.{ℕ, ◌+◌, ◌≤◌, ◌≡◌, Bool, List, [], ◌∷◌, ◌++◌, eqb, length}
use Rattle.std.proofs.Math.Logic.{inr, ⊎_map}
use Rattle.std.proofs.Math.Bool.{true, false}
use native.Mathlib.Omega.{arith}
use Rattle.std.proofs.Common.{length-append}
use Rattle.base.specs.Cells.{Bytes}
use Rattle.base.specs.Choice.{pick}
use Rattle.base.specs.Formula.{Holds}
use Rattle.base.specs.Lengths.{largest_rom, short_certificate_length}
use Rattle.base.specs.Parts.{Part}
use Rattle.certificate.specs.declared.Verdict.TheVariants.{Accepted}
use Rattle.certificate.specs.Layout.{Certificate, certificate_from, certificate_of}
use Rattle.safety.specs.Rules.{rule20, row_rule}
use Rattle.safety.specs.Opened.{opened}
use Rattle.safety.specs.Verdicts.{rules_at, verdict_of}
use Rattle.safety.specs.Statement.{Demand3}
use Rattle.safety.specs.Accepted.{Every}
use Rattle.safety.proofs.OwnRules.{ascending}
use Rattle.safety.proofs.Accepted.{accepted_lengths, accepted_rules}
use Rattle.safety.proofs.Exact.{unbroken, accepted_when}
use Rattle.safety.proofs.Theorem.{demand3}
use Rattle.safety.specs.EntryCost.{with_cost}
use Rattle.safety.proofs.EntryCost.{byte_behind}

-- the second of two, from another
behind : {A B B' : Type 0} → (B → B') → A × B → A × B'
behind f h = (h.0, f h.1)

module _ (rom : ℕ) (image cert : List ℕ) (x y : ℕ) (short : length cert ≡ short_certificate_length) (fewer : y ≤ x) where
  abbrev C : ℕ → Certificate
  C = with_cost cert

  -- the cycles stand in rule 20's last line
  rule20_fewer : Holds (rule20 (C x) rom image) → Holds (rule20 (C y) rom image)
  unfolding opened rule20
  rule20_fewer =
      behind (behind (behind (behind (behind (behind (behind (behind (behind (behind (behind (behind (behind (λ h. omega arith)))))))))))))

  -- and in rule 27's, on a row
  row_fewer : (a : ℕ) → Holds (row_rule (C x) a) → Holds (row_rule (C y) a)
  unfolding opened
  row_fewer a = ⊎_map (λ e. e) (λ h s. on (eqb ((C x).routine a) 2) _ _ (h s))
    where
      on : (b : Bool) (w k : ℕ) → pick b x 0 + w ≤ k → pick b y 0 + w ≤ k
      on true w k h = omega arith
      on false w k h = h

  -- all else at an address is the same
  rules_fewer : (a : ℕ) → Every (rules_at rom (C x) image a) → Every (rules_at rom (C y) image a)
  unfolding opened
  rules_fewer a = behind (behind (behind (behind (behind (behind (λ h. (behind (behind (behind (row_fewer a))) h.0, h.1)))))))

  -- accepted with x cycles of an entry, it is accepted with fewer
  pub smaller_cost : verdict_of rom image (cert ++ (x ∷ [])) ≡ Accepted → verdict_of rom image (cert ++ (y ∷ [])) ≡ Accepted
  unfolding certificate_from
  smaller_cost h =
      let p = accepted_lengths rules_at rom image (cert ++ (x ∷ [])) h in
      let r = rw (byte_behind cert x short) at (accepted_rules rules_at rom _ image (ascending rom _ image) p.1) in
      accepted_when rom image _ (unbroken rom image _ (p.0.0, inr (rw (length-append cert (y ∷ []), short)))
      (rw (byte_behind cert y short) (rule20_fewer r.0)) (rw (byte_behind cert y short) (λ a l s. rules_fewer a (r.1 a l s))))

-- so demand 3 is met with fewer
pub smaller_cost_safe : (P : Part) → P.rom ≤ largest_rom → (image cert : List ℕ) (x y : ℕ) → length cert ≡ short_certificate_length → y ≤ x
    → verdict_of P.rom image (cert ++ (x ∷ [])) ≡ Accepted → Bytes image → Bytes (cert ++ (y ∷ [])) → Demand3 P (certificate_of (cert ++ (y ∷ []))) image
smaller_cost_safe P fits image cert x y short fewer h image_bytes cert_bytes =
    demand3 P fits image _ image_bytes cert_bytes (smaller_cost P.rom image cert x y short fewer h)
