-- The verdict on an image and a certificate, for a ROM of rom bytes (request 04): 7 for wrong lengths, then rule 20, then the lowest address and there
-- the lowest number. Below it, what a verdict reports of the rules. The verdict goes by a list of rules at each address, so that S`Formerly` can say what
-- it was with others.
-- Assumes nothing.
use Rattle.std.specs.Prelude.{ℕ, zero, suc, ◌+◌, ◌%◌, ◌≤◌, ◌<◌, ◌≡◌, ◌≢◌, ◌⊎◌, true, false, ◌&&◌, List, [], ◌∷◌, length, get_or, eqb}
use Rattle.base.specs.Addresses.{rom_addr}
use Rattle.base.specs.Choice.{pick}
use Rattle.base.specs.Outcome.{Outcome}
use Rattle.base.specs.Outcome.Outcome.{value, refused}
use Rattle.base.specs.Formula.{Formula, Holds, decide, eq, ◌&◌, ◌‖◌}
use Rattle.base.specs.Lengths.{short_certificate_length, long_certificate_length, is_certificate_length}
use Rattle.isa.specs.declared.FlagSet.{FlagSet}
use Rattle.isa.specs.declared.Instruction.{Instruction}
use Rattle.isa.specs.Map.{cycles_of}
use Rattle.decode.specs.Decode.{decode_at}
use Rattle.action.specs.Action.{action_of}
use Rattle.certificate.specs.declared.Range.{Range}
use Rattle.certificate.specs.declared.CodeAccess.{CodeAccess}
use Rattle.certificate.specs.declared.Summary.{Summary}
use Rattle.certificate.specs.declared.Verdict.{Verdict}
use Rattle.certificate.specs.declared.Verdict.TheVariants.{Accepted, Refused}
use Rattle.certificate.specs.Layout.{Certificate, certificate_of}
use Rattle.certificate.specs.Summaries.{summary_of, forbidden}
use Rattle.safety.specs.Rules.{rule20, rule21, rule22, rule23, rule24, rule25, rule26, rule27}
use Rattle.safety.specs.CodeRange.{load_range}

-- the instruction at an address: its summary, by the range of what LDC can load from where, and the address behind it (one byte where there is none)
unfoldable pub summary_from : (CodeAccess → Range) → Outcome (Instruction × ℕ × FlagSet) → ℕ → Summary
summary_from load (value d) a = summary_of load (action_of d.0 (rom_addr ((a + d.1) % 65536))) d.2
summary_from load (refused n) a = forbidden

abbrev pub size_from : Outcome (Instruction × ℕ × FlagSet) → ℕ
size_from (value d) = d.1
size_from (refused n) = 1

-- request 14: the destination gets the range of the bytes that the claims at the instruction let it reach
unfoldable pub summary_at : Certificate → List ℕ → ℕ → Summary
summary_at C image a = summary_from (load_range C image a) (decode_at image a) a

unfoldable pub next_at : List ℕ → ℕ → ℕ
next_at image a = (a + size_from (decode_at image a)) % 65536

unfoldable pub cost_at : List ℕ → ℕ → ℕ
cost_at image a = cycles_of (get_or image a 0)

-- a rule with its number
pub record Rule : Type 0 where
  pub number : ℕ
  pub formula : Formula

-- the rules on an instruction at an address, lowest number first: S its summary, next the address behind it, r24 rule 24
unfoldable pub rules_with : Formula → ℕ → Certificate → ℕ → Summary → ℕ → ℕ → List Rule
rules_with r24 rom C a S next cost =
    record { number = 21; formula = rule21 C rom a S next }
    ∷ record { number = 22; formula = rule22 C a S }
    ∷ record { number = 23; formula = rule23 C a S }
    ∷ record { number = 24; formula = r24 }
    ∷ record { number = 25; formula = rule25 C a S next }
    ∷ record { number = 26; formula = rule26 C a S next }
    ∷ record { number = 27; formula = rule27 C a S cost next }
    ∷ []

abbrev pub rules_on : ℕ → Certificate → ℕ → Summary → ℕ → ℕ → List Rule
rules_on rom C a S next cost = rules_with (rule24 C rom a S) rom C a S next cost

-- the rules at an address with an entry
abbrev pub rules_at : ℕ → Certificate → List ℕ → ℕ → List Rule
rules_at rom C image a = rules_on rom C a (summary_at C image a) (next_at image a) (cost_at image a)

-- the first rule of a list that is broken, or 0
unfoldable pub first_broken : List Rule → ℕ
first_broken [] = 0
first_broken (r ∷ rs) = elim (decide r.formula) [ true ↦ first_broken rs | false ↦ r.number ]

-- The verdict by the rules at each address --

-- rules at the addresses of an image in a ROM of so many bytes, under a certificate
abbrev pub Rules : Type 0
Rules = ℕ → Certificate → List ℕ → ℕ → List Rule

module _ (rules : Rules) (rom : ℕ) (C : Certificate) (image : List ℕ) where
  -- the lowest number that is broken at an address; where no instruction starts, none is
  unfoldable pub number_by : ℕ → ℕ
  number_by a = elim (eqb (C.routine a) 0) [ true ↦ 0 | false ↦ first_broken (rules rom C image a) ]

  -- the n addresses from a on
  unfoldable pub scan_by : ℕ → ℕ → Verdict
  scan_by zero a = Accepted
  scan_by (suc n) a = elim (eqb (number_by a) 0) [ true ↦ scan_by n (a + 1) | false ↦ Refused (number_by a) (rom_addr a) ]

  unfoldable pub verdict_on_by : Verdict
  verdict_on_by = elim (decide (rule20 C rom image)) [ true ↦ scan_by rom 0 | false ↦ Refused 20 (rom_addr 0) ]

unfoldable pub verdict_by : Rules → ℕ → List ℕ → List ℕ → Verdict
verdict_by rules rom image cert =
    pick (eqb (length image) rom && is_certificate_length (length cert)) (verdict_on_by rules rom (certificate_of cert) image)
    (Refused 7 (rom_addr 0))

abbrev pub number_at : ℕ → Certificate → List ℕ → ℕ → ℕ
number_at = number_by rules_at

abbrev pub scan : ℕ → Certificate → List ℕ → ℕ → ℕ → Verdict
scan = scan_by rules_at

abbrev pub verdict_on : ℕ → Certificate → List ℕ → Verdict
verdict_on = verdict_on_by rules_at

-- the checker's verdict
abbrev pub verdict_of : ℕ → List ℕ → List ℕ → Verdict
verdict_of = verdict_by rules_at

-- What a verdict reports: accepted, that no rule is broken; refused n a, that n is the first broken rule and a its address --

-- n is the number of a rule of the list that is broken
abbrev pub Breaks : List Rule → ℕ → Type 0
Breaks [] n = ⊥
Breaks (r ∷ rs) n = ((r.number ≡ n) × (Holds r.formula → ⊥)) ⊎ Breaks rs n

-- image and certificate have their lengths
abbrev pub lengths_right : ℕ → List ℕ → List ℕ → Formula
lengths_right rom image cert = eq (length image) rom & (eq (length cert) short_certificate_length ‖ eq (length cert) long_certificate_length)

-- the rules on the whole, which report 0000H: 7 the lengths, and 20
abbrev pub rules_on_whole : ℕ → List ℕ → List ℕ → List Rule
rules_on_whole rom image cert =
    record { number = 7; formula = lengths_right rom image cert }
    ∷ record { number = 20; formula = rule20 (certificate_of cert) rom image }
    ∷ []

-- rule n is broken at address a: 7 and 20 at 0000H; 21 to 27 at an address with an entry
abbrev pub Broken : ℕ → List ℕ → List ℕ → ℕ → ℕ → Type 0
Broken rom image cert n a =
    ((a ≡ 0) × Breaks (rules_on_whole rom image cert) n)
    ⊎ ((a < rom) × ((certificate_of cert).routine a ≢ 0) × Breaks (rules_at rom (certificate_of cert) image a) n)

-- the lowest address counts, and there the lowest number
abbrev pub Reports : ℕ → List ℕ → List ℕ → Verdict → Type 0
Reports rom image cert Accepted = (n a : ℕ) → Broken rom image cert n a → ⊥
Reports rom image cert (Refused n a) =
    Broken rom image cert n a.0
    × ((k : ℕ) → k < n → Broken rom image cert k a.0 → ⊥)
    × ((b : ℕ) → b < a.0 → (k : ℕ) → Broken rom image cert k b → ⊥)

-- a verdict that reports what is so, and the only one that does
pub record Exact (rom : ℕ) (image cert : List ℕ) (v : Verdict) : Type 0 where
  pub reports : Reports rom image cert v
  pub only : (w : Verdict) → Reports rom image cert w → w ≡ v

-- a number by which a certificate is refused
abbrev pub CheckNumber : ℕ → Type 0
CheckNumber n = (n ≡ 7) ⊎ ((20 ≤ n) × (n ≤ 27))
