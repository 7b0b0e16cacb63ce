-- Logger cases (a) to (l) of 01: the theorem that all hold.
-- Assumes nothing.
use Rattle.std.specs.Prelude.{◌≡◌, refl, true, false}
use Rattle.base.specs.Addresses.{rom_addr}
use Rattle.isa.specs.declared.Alu.{Alu}
use Rattle.isa.specs.declared.Unary.{Unary}
use Rattle.semantics.specs.Reset.{reset_state}
use Rattle.certificate.specs.declared.Verdict.TheVariants.{Accepted, Refused}
use Rattle.safety.specs.Verdicts.{verdict_of}
use Rattle.logger_cases.specs.Program.{rom, image_with, ends, certificate_with}
use Rattle.logger_cases.specs.Opened.{opened}
use Rattle.logger_cases.specs.Cases.{call_image, state_at, operates, modifies, steps, stores, judges, CaseHolds, printed_p, accepted_p, AllHold, all_four, but_carry, cases, on_tables}

case_i : CaseHolds (accepted_p 0xA0)
unfolding opened
case_i = on_tables 0x7B 10 364 (ends 0xA0) refl Accepted printed_p tt refl refl

case_j : CaseHolds (judges (image_with 0x3B) (certificate_with 364 0xA0) (Refused 26 (rom_addr 0x128)) "refused 26 0128\n")
unfolding opened
case_j = on_tables 0x3B 10 364 (ends 0xA0) refl (Refused 26 (rom_addr 0x128)) "refused 26 0128\n" tt refl refl

case_k : CaseHolds (judges (image_with 0x7B) (certificate_with 363 0xA0) (Refused 27 (rom_addr 0x120)) "refused 27 0120\n")
unfolding opened
case_k = on_tables 0x7B 10 363 (ends 0xA0) refl (Refused 27 (rom_addr 0x120)) "refused 27 0120\n" tt refl refl

case_l : CaseHolds (accepted_p 0xBB)
unfolding opened
case_l = on_tables 0x7B 10 364 (ends 0xBB) refl Accepted printed_p tt refl refl

case_l_refused : CaseHolds (judges (image_with 0x7B) (certificate_with 364 0xBC) (Refused 25 (rom_addr 0x100)) "refused 25 0100\n")
unfolding opened
case_l_refused = on_tables 0x7B 10 364 (ends 0xBC) refl (Refused 25 (rom_addr 0x100)) "refused 25 0100\n" tt refl refl

case_g : CaseHolds (steps call_image 0xA47 0xB2 0xB0 0x0A) × CaseHolds (steps call_image 0xA47 0xB2 0xB1 0x4A)
unfolding opened call_image state_at reset_state
case_g = (λ K h. rw h (refl, refl), λ K h. rw h (refl, refl))

case_a : CaseHolds (operates Alu.Adc 0x10 0x03 true 0x14 (all_four false false false false))
unfolding opened
case_a = (refl, λ before. refl)

case_b : CaseHolds (operates Alu.Sub 0x21 0x90 false 0x91 (all_four true false true true))
unfolding opened
case_b = (refl, λ before. refl)

case_c : CaseHolds (operates Alu.Sub 0x21 0x65 false 0xBC (all_four true false true false))
unfolding opened
case_c = (refl, λ before. refl)

case_d : CaseHolds (modifies Unary.Inc 0x7F 0x80 (but_carry false true true))
unfolding opened
case_d c = (refl, λ before. refl)

case_e : CaseHolds (modifies Unary.Rl 0xAA 0x55 (all_four true false false true))
unfolding opened
case_e c = (refl, λ before. refl)

case_f : CaseHolds (modifies Unary.Sra 0x9A 0xCD (all_four false false true false))
unfolding opened
case_f c = (refl, λ before. refl)

case_h : CaseHolds (stores 0xE8 0x0F 0x0E 0x0E)
unfolding opened
case_h = refl

-- image P with its certificate is accepted
pub accepted_p_lem : verdict_of rom (image_with 0x7B) (certificate_with 364 0xA0) ≡ Accepted
accepted_p_lem = case_i.0

-- the one theorem over the list
pub all_hold : AllHold cases
all_hold = (
  case_a,
  (
    case_b,
    (
      case_c,
      (
        case_d,
        (
          case_e,
          (
            case_f,
            (
              case_g.0,
              (
                case_g.1,
                (
                  case_h,
                  (
                    case_i,
                    (
                      case_j,
                      (
                        case_k,
                        (case_l, (case_l_refused, tt)),
                      ),
                    ),
                  ),
                ),
              ),
            ),
          ),
        ),
      ),
    ),
  ),
)
