-- Request 04, "The small S3C9444": what the bytes of ROM do to the verdict.
-- Assumes nothing.
use Rattle.std.specs.Prelude.{ℕ, ◌≤◌, ◌<◌, ◌≡◌, ◌≢◌, true, List, length}
use Rattle.std.proofs.Common.{⊎_elim, arith}
use Rattle.base.specs.Addresses.{rom_addr}
use Rattle.base.specs.Formula.{Holds, same?, eqb_no}
use Rattle.base.specs.Lengths.{largest_rom, is_certificate_length}
use Rattle.certificate.specs.declared.Verdict.TheVariants.{Accepted, Refused}
use Rattle.certificate.specs.Layout.{Certificate, certificate_of}
use Rattle.safety.specs.Rules.{empty_entry, address_rule, rule20}
use Rattle.safety.specs.Verdicts.{rules_at, verdict_by, verdict_of}
use Rattle.safety.proofs.OwnRules.{accepts}
use Rattle.safety.proofs.Accepted.{accepted_lengths}
use Rattle.safety.proofs.Exact.{twenty_when}
use Rattle.safety.proofs.Facts.{rule20_facts, entry_in_rom}

-- where 20 holds, it "allows no certificate entry past that": the bytes of such an address are all 0
module _ (rom : ℕ) (C : Certificate) (image : List ℕ) (h : Holds (rule20 C rom image)) (a : ℕ) (past : rom ≤ a) (below : a < largest_rom) where
  none_past_rom : C.routine a ≡ 0
  none_past_rom =
      ⊎_elim (λ (e : C.routine a ≡ 0). e)
      (λ (n : C.routine a ≢ 0). let z = entry_in_rom rom C image (rule20_facts rom C image h) a below (omega arith) in absurd (omega arith))
      (same? (C.routine a) 0)

  empty_past_rom : Holds (empty_entry C a)
  unfolding address_rule
  empty_past_rom = ((rule20_facts rom C image h).addresses a below).0 none_past_rom

module _ (rom : ℕ) (image cert : List ℕ) where
  abbrev C : Certificate
  C = certificate_of cert

  -- "7 for an image that isn't the profile's length"
  pub image_of_other_length : length image ≢ rom → verdict_of rom image cert ≡ Refused 7 (rom_addr 0)
  unfolding verdict_by
  image_of_other_length n = rw (eqb_no n)

  module _ (full : length image ≡ rom) (whole : is_certificate_length (length cert) ≡ true) (a : ℕ) (past : rom ≤ a) (below : a < largest_rom) where
    -- "20 for an entry beyond it"
    pub entry_past_rom : C.routine a ≢ 0 → verdict_of rom image cert ≡ Refused 20 (rom_addr 0)
    entry_past_rom n = twenty_when rom image cert full whole (λ h. n (none_past_rom rom C image h a past below))

    -- and for any other byte there that is not 0
    pub byte_past_rom : (Holds (empty_entry C a) → ⊥) → verdict_of rom image cert ≡ Refused 20 (rom_addr 0)
    byte_past_rom n = twenty_when rom image cert full whole (λ h. n (empty_past_rom rom C image h a past below))

  -- so an accepted certificate has no entry there, and its bytes there are 0
  pub bytes_past_rom : verdict_of rom image cert ≡ Accepted → (a : ℕ) → rom ≤ a → a < largest_rom → (C.routine a ≡ 0) × Holds (empty_entry C a)
  bytes_past_rom h a past below =
      let p = (accepts rom C image (accepted_lengths rules_at rom image cert h).1).r20 in
      (none_past_rom rom C image p a past below, empty_past_rom rom C image p a past below)
