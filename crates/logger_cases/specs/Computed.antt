-- A verdict, computed: where no entry stands behind the code, of rule 20's addresses only those below the code's end count. And of a certificate that is
-- given by tables, computed on the tables instead of the bytes.
-- Assumes nothing.
use Rattle.std.specs.Prelude.{◌≡◌, Bool, List, ℕ, ◌+◌, ◌≤◌, length, get_or, replicate}
use Rattle.std.proofs.Math.Path.{refl, sym}
use Rattle.std.proofs.Math.Logic.{⊎_elim}
use Rattle.std.proofs.Math.Bool.{true, false}
use Rattle.std.proofs.Math.Dec.{T, ltb}
use Rattle.base.specs.Formula.{Formula, Holds, decide, sound, decide_yes, eqb_yes, le?, ◌&◌, forall_below}
use Rattle.base.specs.Lengths.{largest_rom, is_certificate_length}
use Rattle.certificate.specs.declared.Verdict.{Verdict}
use Rattle.certificate.specs.Layout.{Certificate, certificate_from, certificate_of}
use Rattle.safety.specs.Rules.{empty_entry, address_rule, rule20}
use Rattle.safety.specs.Verdicts.{Rules, scan_by, verdict_on_by, verdict_by}
use Rattle.rule20.specs.Parts.{fixed_rule, cells_rule, starts_rule, addresses_rule, rule20_join}
use Rattle.logger_cases.specs.Gathered.{up_to, certificate_bytes, bytes_length, certificate_is}

-- rule 20 as it is computed
abbrev pub layout : ℕ → Certificate → List ℕ → ℕ → Formula
layout rom C image code_end = fixed_rule C image & cells_rule C & starts_rule C rom & forall_below code_end (address_rule C rom)

-- no address from the code's end on breaks it
abbrev pub NoneBehind : ℕ → Certificate → ℕ → Type 0
NoneBehind rom C code_end = (a : ℕ) → code_end ≤ a → T (decide (address_rule C rom a))

module _ (rules : Rules) (rom : ℕ) (C : Certificate) (image : List ℕ) (code_end : ℕ) (behind : NoneBehind rom C code_end) where
  addresses : Holds (forall_below code_end (address_rule C rom)) → Holds (addresses_rule C rom)
  unfolding addresses_rule
  addresses h a l = ⊎_elim (λ b. sound (address_rule C rom a) (behind a b)) (λ b. h a b) (le? code_end a)

  pub verdict_by_lem : {v : Verdict} → T (decide (layout rom C image code_end)) → scan_by rules rom C image rom 0 ≡ v → verdict_on_by rules rom C image ≡ v
  unfolding verdict_on_by
  verdict_by_lem t e =
      let (fixed, (cells, (starts, entries))) = sound (layout rom C image code_end) t in
      rw (verdict_on_by, sym (decide_yes (rule20 C rom image) (rule20_join C rom image fixed cells starts (addresses entries)))) e

-- A certificate given by tables, and what stands behind them --

module _ (entry cell row : ℕ → List ℕ) (ends : List ℕ)
    (entries : (k : ℕ) → length (entry k) ≡ 14) (cells : (k : ℕ) → length (cell k) ≡ 3) (rows : (k : ℕ) → length (row k) ≡ 6) where
  abbrev pub tables : Certificate
  tables = certificate_from (up_to largest_rom entry) (up_to 256 cell) (up_to 64 row) (get_or ends 0 0) (get_or ends 1 0) (get_or ends 2 0)

  abbrev pub bytes : List ℕ
  bytes = certificate_bytes entry cell row ends

  pub certificate_tables : certificate_of bytes ≡ tables
  certificate_tables = certificate_is entry cell row ends entries cells rows

  module _ (rom code_end : ℕ) (none : (a : ℕ) → code_end ≤ a → entry a ≡ replicate 14 0) where
    behind_code : NoneBehind rom tables code_end
    unfolding certificate_from address_rule empty_entry
    behind_code a h = by_end (ltb a largest_rom) refl
      where
        by_end : (b : Bool) → ltb a largest_rom ≡ b → T (decide (address_rule tables rom a))
        by_end true e = rw (e, none a h) tt
        by_end false e = rw e tt

    pub verdict_tables : (rules : Rules) (image : List ℕ) → length image ≡ rom → is_certificate_length (0xE480 + length ends) ≡ true → {v : Verdict}
        → T (decide (layout rom tables image code_end)) → scan_by rules rom tables image rom 0 ≡ v → verdict_by rules rom image bytes ≡ v
    unfolding verdict_by
    verdict_tables rules image size size' t e =
        rw (eqb_yes size, bytes_length entry cell row ends entries cells rows, size', certificate_tables) (verdict_by_lem rules rom tables image code_end behind_code t e)
