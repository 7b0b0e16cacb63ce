-- Request 14: a program whose pointer comes from a table in ROM. It is accepted, and was refused before.
-- Assumes nothing.
use Rattle.std.specs.Prelude.{◌≡◌, refl, List, [], ◌∷◌, ◌++◌, map, ℕ, ◌-◌, ◌≤◌, T, length, replicate}
use Rattle.base.specs.Addresses.{rom_addr}
use Rattle.base.specs.Choice.{from}
use Rattle.base.specs.Formula.{decide}
use Rattle.certificate.specs.declared.Verdict.{Verdict}
use Rattle.certificate.specs.declared.Verdict.TheVariants.{Accepted, Refused}
use Rattle.certificate.specs.Layout.{Certificate}
use Rattle.safety.specs.Verdicts.{Rules, rules_at, scan_by, verdict_by, verdict_of}
use Rattle.safety.specs.Formerly.{former_rules, verdict_formerly}
use Rattle.logger_cases.specs.Gathered.{listed, listed_length, listed_none, certificate_bytes}
use Rattle.logger_cases.specs.Computed.{layout, tables, verdict_tables}
use Rattle.logger_cases.specs.Program.{rom}
use Rattle.logger_cases.specs.Opened.{opened}

-- main: LD SP,#C0H; then again and again LD R2,#01H; LD R3,F8H; AND R3,#0FH; LDC R4,20H[RR2]; LD R0,@R4. At 0120H stands the table of 16 bytes, b the one
-- that R3 = 4 gives; at 0140H the service, IRET
unfoldable pub image_with : ℕ → List ℕ
image_with b =
    (0x01 ∷ 0x40 ∷ [])
    ++ (replicate 254 0xFF
    ++ ((0xE6 ∷ 0xD9 ∷ 0xC0 ∷ 0x2C ∷ 0x01 ∷ 0xE4 ∷ 0xF8 ∷ 0xC3 ∷ 0x56 ∷ 0xC3 ∷ 0x0F ∷ 0xE7 ∷ 0x42 ∷ 0x20 ∷ 0xC7 ∷ 0x04 ∷ 0x8B ∷ 0xF1 ∷ [])
    ++ (replicate 14 0xFF
    ++ ((0 ∷ 1 ∷ 3 ∷ 5 ∷ b ∷ 7 ∷ 9 ∷ 10 ∷ 11 ∷ 12 ∷ 13 ∷ 13 ∷ 14 ∷ 14 ∷ 15 ∷ 15 ∷ [])
    ++ (replicate 16 0xFF ++ (0xBF ∷ replicate (rom - 0x141) 0xFF))))))

-- an entry of main, with two claims
abbrev claiming : ℕ → ℕ → ℕ → ℕ → ℕ → ℕ → ℕ → List ℕ
claiming depth cell lo hi cell' lo' hi' = 1 ∷ depth ∷ 0 ∷ 0 ∷ 0 ∷ 0 ∷ cell ∷ lo ∷ hi ∷ cell' ∷ lo' ∷ hi' ∷ 0xFF ∷ 0 ∷ []

-- with one, with none
abbrev claiming_one : ℕ → ℕ → ℕ → List ℕ
claiming_one cell lo hi = claiming 0 cell lo hi 0xFF 0 0

abbrev bare : ℕ → List ℕ
bare depth = claiming depth 0xFF 0 0 0xFF 0 0

abbrev pub entries : List (ℕ × List ℕ)
entries =
    (0x100, bare 255) ∷ (0x103, bare 0)
    ∷ (0x105, claiming_one 0xC2 1 1) ∷ (0x108, claiming_one 0xC2 1 1) ∷ (0x10B, claiming 0 0xC2 1 1 0xC3 0 0x0F)
    ∷ (0x10E, claiming_one 0xC4 0 0x0F) ∷ (0x110, bare 0)
    ∷ (0x140, 2 ∷ 0 ∷ 0 ∷ 10 ∷ 0 ∷ 0 ∷ 0xFF ∷ 0 ∷ 0 ∷ 0xFF ∷ 0 ∷ 0 ∷ 0xFF ∷ 0 ∷ []) ∷ []

-- table 1 is 00H to 0FH; R0, R2, R3 and R4 are main's
abbrev pub cells : List (ℕ × List ℕ)
cells =
    map (λ (x : ℕ). (x, 0 ∷ 0 ∷ 1 ∷ [])) (from 16 0)
    ++ map (λ (x : ℕ). (x, 1 ∷ 1 ∷ 0 ∷ [])) (0xC0 ∷ 0xC2 ∷ 0xC3 ∷ 0xC4 ∷ [])

abbrev pub rows : List (ℕ × List ℕ)
rows = (1, 0x01 ∷ 0x00 ∷ 1 ∷ 0 ∷ 0 ∷ 0 ∷ []) ∷ (2, 0x01 ∷ 0x40 ∷ 2 ∷ 0 ∷ 0 ∷ 10 ∷ []) ∷ []

-- the certificate: the floor A0H, the top C0H
abbrev ends : List ℕ
ends = 0xA0 ∷ 0xC0 ∷ []

unfoldable pub entry : ℕ → List ℕ
entry = listed 14 entries

unfoldable pub cell : ℕ → List ℕ
cell = listed 3 cells

unfoldable pub row : ℕ → List ℕ
row = listed 6 rows

unfoldable pub certificate : List ℕ
certificate = certificate_bytes entry cell row ends

entry_length : (k : ℕ) → length (entry k) ≡ 14
unfolding entry
entry_length = listed_length 14 entries tt

cell_length_lem : (k : ℕ) → length (cell k) ≡ 3
unfolding cell
cell_length_lem = listed_length 3 cells tt

row_length : (k : ℕ) → length (row k) ≡ 6
unfolding row
row_length = listed_length 6 rows tt

image_length_lem : (b : ℕ) → length (image_with b) ≡ rom
unfolding image_with
image_length_lem b = refl

-- where the code ends, and with it the entries
abbrev code_end : ℕ
code_end = 0x141

none_behind : (a : ℕ) → code_end ≤ a → entry a ≡ replicate 14 0
unfolding entry
none_behind = listed_none 14 entries code_end refl

abbrev judged : Certificate
judged = tables entry cell row ends entry_length cell_length_lem row_length

on_tables : (rules : Rules) (b : ℕ) {v : Verdict} → T (decide (layout rom judged (image_with b) code_end)) → scan_by rules rom judged (image_with b) rom 0 ≡ v
    → verdict_by rules rom (image_with b) certificate ≡ v
unfolding certificate
on_tables rules b t e = verdict_tables entry cell row ends entry_length cell_length_lem row_length rom code_end none_behind rules (image_with b) (image_length_lem b) refl t e

-- every byte of the table is 00H to 0FH
pub linearised_accepted : verdict_of rom (image_with 6) certificate ≡ Accepted
unfolding opened image_with entry cell row
linearised_accepted = on_tables rules_at 6 tt refl

-- what LDC loads counted as 0 to 255, so R4's claim at 010EH did not follow
pub linearised_formerly : verdict_formerly rom (image_with 6) certificate ≡ Refused 26 (rom_addr 0x10B)
unfolding opened image_with entry cell row
linearised_formerly = on_tables former_rules 6 tt refl

-- a single byte too large
pub exceeding_refused : verdict_of rom (image_with 0x10) certificate ≡ Refused 26 (rom_addr 0x10B)
unfolding opened image_with entry cell row
exceeding_refused = on_tables rules_at 0x10 tt refl
