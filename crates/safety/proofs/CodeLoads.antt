-- Request 14: what LDC, LDCI and LDCD leave in a cell, as the rules read it of the instruction that is decoded at an address.
-- Assumes nothing.
use Rattle.std.specs.Prelude.{ℕ, ◌+◌, ◌%◌, ◌≡◌, refl, ◌≢◌, ◌⊎◌, Bool, List}
use Rattle.std.proofs.Math.Path.{sym, ap}
use Rattle.std.proofs.Common.{◌∙◌, ⊎_elim}
use Rattle.base.specs.declared.RegAddr.{RegAddr}
use Rattle.base.specs.Addresses.{rom_addr}
use Rattle.base.specs.Formula.{eq, ◌‖◌, decide_yes, decide_no, eqb_yes}
use Rattle.base.specs.Outcome.Outcome.{value}
use Rattle.isa.specs.declared.FlagSet.{FlagSet}
use Rattle.isa.specs.declared.Instruction.{Instruction}
use Rattle.decode.specs.Decode.{decode_at}
use Rattle.action.specs.declared.CodeAddress.{CodeAddress}
use Rattle.action.specs.declared.Action.{Action}
use Rattle.action.specs.Action.{action_of}
use Rattle.certificate.specs.declared.NewValue.TheVariants.{Within, Unknown}
use Rattle.certificate.specs.declared.CodeAccess.{CodeAccess}
use Rattle.certificate.specs.declared.Summary.{Summary}
use Rattle.certificate.specs.Layout.{Certificate}
use Rattle.certificate.specs.Summaries.{summary_of, code_access}
use Rattle.safety.specs.Rules.{change_of}
use Rattle.safety.specs.Rules.Change.{changed}
use Rattle.safety.specs.CodeRange.{load_range}
use Rattle.safety.specs.Verdicts.{summary_at}
use Rattle.safety.proofs.Instruction.{summary_decoded}

module _ (C : Certificate) (image : List ℕ) (a : ℕ) (d : Instruction × ℕ × FlagSet) (found : decode_at image a ≡ value d) where
  abbrev action_there : Action
  action_there = action_of d.0 (rom_addr ((a + d.1) % 65536))

  summary_there : {act : Action} → action_there ≡ act → summary_at C image a ≡ summary_of (load_range C image a) act d.2
  summary_there e = summary_decoded C image a d found ∙ ap (λ (x : Action). summary_of (load_range C image a) x d.2) e

  -- 24 tests what LDC's operand reaches
  pub code_of_load : (r : RegAddr) (c : CodeAddress) → action_there ≡ Action.LoadCode r c → (summary_at C image a).code ≡ code_access c
  unfolding summary_of
  code_of_load r c e = ap (λ (S : Summary). S.code) (summary_there e)

  -- LDC leaves its destination a byte of the range, also where it belongs to the pair
  pub destination_of_load : (r : RegAddr) (c : CodeAddress) → action_there ≡ Action.LoadCode r c
      → change_of C a (summary_at C image a).write r.0 ≡ changed (Within (load_range C image a (code_access c)))
  unfolding summary_of
  destination_of_load r c e = rw (summary_there e, eqb_yes {a = r.0} refl)

  module _ (r p : RegAddr) (up : Bool) (e : action_there ≡ Action.LoadCodeStep r p up) where
    -- of LDCI and LDCD 24 tests what the pair reaches
    pub code_of_step : (summary_at C image a).code ≡ CodeAccess.Pair p 0 0
    unfolding summary_of
    code_of_step = ap (λ (S : Summary). S.code) (summary_there e)

    -- of both halves of the pair that LDCI and LDCD step nothing is known, whether or not one is the destination
    pub pair_of_step : (x : ℕ) → (x ≡ p.0) ⊎ (x ≡ p.0 + 1) → change_of C a (summary_at C image a).write x ≡ changed Unknown
    unfolding summary_of
    pair_of_step x h = rw (summary_there e, sym (decide_yes (eq x p.0 ‖ eq x (p.0 + 1)) h))

    -- another destination gets a byte of the range
    pub destination_of_step : r.0 ≢ p.0 → r.0 ≢ p.0 + 1
        → change_of C a (summary_at C image a).write r.0 ≡ changed (Within (load_range C image a (CodeAccess.Pair p 0 0)))
    unfolding summary_of
    destination_of_step n m = rw (summary_there e, sym (decide_no (eq r.0 p.0 ‖ eq r.0 (p.0 + 1)) (⊎_elim n m)), eqb_yes {a = r.0} refl)
