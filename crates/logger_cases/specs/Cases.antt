-- Logger cases (a) to (l) of 01: what each says, the list, and a judgement by tables.
-- Assumes nothing.
use Rattle.std.specs.Prelude.{◌≡◌, refl, Bool, true, false, List, [], ◌∷◌, ◌++◌, ℕ, ◌+◌, ◌-◌, ◌≤◌, T, length, get_or, replicate, set}
use Rattle.std.proofs.Common.{◌∙◌, ap}
use Prim.Native.Char.{code}
use Prim.Native.String.{String}
use Prim.Native.String as text
use Rattle.base.specs.Addresses.{rom_addr, sp_cell}
use Rattle.base.specs.Formula.{decide}
use Rattle.base.specs.Lengths.{is_certificate_length, record_length}
use Rattle.isa.specs.declared.Alu.{Alu}
use Rattle.isa.specs.declared.Unary.{Unary}
use Rattle.isa.specs.declared.FlagSet.{FlagSet}
use Rattle.isa.specs.Map.{alu_names, unary_names}
use Rattle.chip.specs.Registers.{kept_of}
use Rattle.alu.specs.declared.Computed.{Computed}
use Rattle.alu.specs.Flags.{carry, flags_byte, update}
use Rattle.alu.specs.Operations.{operate, modify}
use Rattle.semantics.specs.declared.Mode.TheVariants.{Running}
use Rattle.semantics.specs.declared.State.{State}
use Rattle.semantics.specs.Setup.{Setup}
use Rattle.semantics.specs.Step.{moved_to, valid_machine, step_of}
use Rattle.semantics.specs.Reset.{reset_state}
use Rattle.certificate.specs.declared.Verdict.{Verdict}
use Rattle.certificate.specs.declared.Verdict.TheVariants.{Accepted, Refused}
use Rattle.certificate.specs.Layout.{Certificate, certificate_of}
use Rattle.safety.specs.Verdicts.{rules_at, scan, verdict_of}
use Rattle.report.specs.Report.{report_text}
use Rattle.logger_cases.specs.Gathered.{listed_none}
use Rattle.logger_cases.specs.Computed.{layout, tables, certificate_tables, verdict_tables}
use Rattle.logger_cases.specs.Program.{image_for, rom, image_with, entries, entry, cell, row, certificate_for, ends, certificate_with, entry_length, cell_length_lem, row_length}

-- CALL 0521H stands at 0A47H
unfoldable pub call_image : List ℕ
call_image = replicate 0xA47 0xFF ++ (0xF6 ∷ 0x05 ∷ 0x21 ∷ replicate (rom - 0xA4A) 0xFF)

-- at an address, with SP
unfoldable pub state_at : ℕ → ℕ → State
state_at pc sp = moved_to reset_state (set (replicate 256 0) sp_cell sp) (rom_addr pc) Running 0

-- a text's characters by their numbers
abbrev pub ascii : String → List ℕ
ascii text.[] = []
ascii (text.◌∷◌ c s) = code c ∷ ascii s

pub data Case : Type 0 where
  -- an operation on two bytes, with the carry before: its value, and FLAGS behind it by FLAGS before
  operates : Alu → ℕ → ℕ → Bool → ℕ → (ℕ → ℕ) → Case
  -- on one byte
  modifies : Unary → ℕ → ℕ → (ℕ → ℕ) → Case
  -- the step at an address of the image with this SP leaves a byte at a register, on every machine that takes the image
  steps : List ℕ → ℕ → ℕ → ℕ → ℕ → Case
  -- a register that holds a byte is written: what it then holds
  stores : ℕ → ℕ → ℕ → ℕ → Case
  -- the verdict on an image and a certificate, and the whole text that is printed
  judges : List ℕ → List ℕ → Verdict → String → Case

-- an operation that names some flags has this value, and they make this of FLAGS
abbrev pub Leaves : FlagSet → Computed → ℕ → (ℕ → ℕ) → Type 0
Leaves n r v f = (r.value ≡ v) × ((before : ℕ) → update before n r.flags ≡ f before)

abbrev pub CaseHolds : Case → Type 0
CaseHolds (operates op x y c v f) = Leaves (alu_names op) (operate op x y c) v f
CaseHolds (modifies op x v f) = (c : Bool) → Leaves (unary_names op) (modify op x c) v f
CaseHolds (steps image pc sp a v) =
    (K : Setup) → valid_machine K image ≡ true
    → let r = step_of K image (state_at pc sp) (replicate record_length 0) in (r.stop ≡ 0) × (get_or r.state.regs a 0 ≡ v)
CaseHolds (stores a old v new) = kept_of a old v ≡ new
CaseHolds (judges image cert v s) = (verdict_of rom image cert ≡ v) × (report_text (verdict_of rom image cert) (certificate_of cert) ≡ ascii s)

-- what is printed of image P
abbrev pub printed_p : String
printed_p = "accepted\n1 0100 2 0\n2 0140 0 10\n3 0120 0 364\n"

-- image P with this floor is accepted
abbrev pub accepted_p : ℕ → Case
accepted_p floor = judges (image_with 0x7B) (certificate_with 364 floor) Accepted printed_p

abbrev pub AllHold : List Case → Type 0
AllHold [] = Unit {0}
AllHold (c ∷ cs) = CaseHolds c × AllHold cs

-- flags C, Z, S, V, whatever FLAGS was before; INC leaves C as it was
abbrev pub all_four : Bool → Bool → Bool → Bool → ℕ → ℕ
all_four c z s v before = flags_byte c z s v

abbrev pub but_carry : Bool → Bool → Bool → ℕ → ℕ
but_carry z s v before = flags_byte (carry before) z s v

abbrev pub cases : List Case
cases =
    -- (a) ADC 10H, 03H, C=1: 14H
    operates Alu.Adc 0x10 0x03 true 0x14 (all_four false false false false)
    -- (b) SUB 21H, 90H: 91H, C S V
    ∷ operates Alu.Sub 0x21 0x90 false 0x91 (all_four true false true true)
    -- (c) SUB 21H, 65H: BCH, C S, V=0
    ∷ operates Alu.Sub 0x21 0x65 false 0xBC (all_four true false true false)
    -- (d) INC 7FH: 80H, V
    ∷ modifies Unary.Inc 0x7F 0x80 (but_carry false true true)
    -- (e) RL AAH: 55H, C V
    ∷ modifies Unary.Rl 0xAA 0x55 (all_four true false false true)
    -- (f) SRA 9AH: CDH, C=0
    ∷ modifies Unary.Sra 0x9A 0xCD (all_four false false true false)
    -- (g) CALL 0521H at 0A47H, SP B2H: B0H holds 0AH, B1H 4AH
    ∷ steps call_image 0xA47 0xB2 0xB0 0x0A
    ∷ steps call_image 0xA47 0xB2 0xB1 0x4A
    -- (h) E8H at 0FH, written 0EH: 0EH
    ∷ stores 0xE8 0x0F 0x0E 0x0E
    -- (i) image P
    ∷ accepted_p 0xA0
    -- (j) 0128H changed to 3B
    ∷ judges (image_with 0x3B) (certificate_with 364 0xA0) (Refused 26 (rom_addr 0x128)) "refused 26 0128\n"
    -- (k) bound 363
    ∷ judges (image_with 0x7B) (certificate_with 363 0xA0) (Refused 27 (rom_addr 0x120)) "refused 27 0120\n"
    -- (l) F BBH accepted, BCH refused
    ∷ accepted_p 0xBB
    ∷ judges (image_with 0x7B) (certificate_with 364 0xBC) (Refused 25 (rom_addr 0x100)) "refused 25 0100\n"
    ∷ []

pub image_length_lem : (j : ℕ) → length (image_with j) ≡ rom
unfolding image_for
image_length_lem j = refl

-- where the code ends, and with it the entries
abbrev pub code_end : ℕ
code_end = 0x141

pub none_behind : (a : ℕ) → code_end ≤ a → entry a ≡ replicate 14 0
unfolding entry
none_behind = listed_none 14 entries code_end refl

-- the certificate by tables
abbrev tables_p : ℕ → ℕ → List ℕ → Certificate
tables_p service bound ends = tables entry cell (row service bound) ends entry_length cell_length_lem (row_length service bound)

pub on_tables : (j service bound : ℕ) (ends : List ℕ) → is_certificate_length (0xE480 + length ends) ≡ true → (v : Verdict) (s : String)
    → T (decide (layout rom (tables_p service bound ends) (image_with j) code_end)) → scan rom (tables_p service bound ends) (image_with j) rom 0 ≡ v
    → report_text v (tables_p service bound ends) ≡ ascii s → CaseHolds (judges (image_with j) (certificate_for service bound ends) v s)
unfolding certificate_for
on_tables j service bound ends size v s t e q =
    let rows = row_length service bound in
    let p = verdict_tables entry cell (row service bound) ends entry_length cell_length_lem rows rom code_end none_behind rules_at (image_with j) (image_length_lem j) size t e in
    let c = certificate_tables entry cell (row service bound) ends entry_length cell_length_lem rows in
    (p, ap (λ w. report_text w (certificate_of (certificate_for service bound ends))) p ∙ ap (report_text v) c ∙ q)
