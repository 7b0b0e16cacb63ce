-- Decoded instructions have the shape that the summaries ask for.
-- Assumes nothing.
use Rattle.std.specs.Prelude.{◌≡◌, refl, Bool, true, false, List, ℕ, ◌+◌, ◌-◌, ◌*◌, ◌/◌, ◌%◌, ◌<◌, eqb, ltb, leb, length, get_or}
use Rattle.std.proofs.Common.{subst, arith}
use Rattle.base.specs.declared.RegAddr.{RegAddr}
use Rattle.base.specs.declared.RomAddr.{RomAddr}
use Rattle.base.specs.Addresses.{rom_addr}
use Rattle.base.specs.Choice.{pick}
use Rattle.base.specs.ChoiceLaws.{pick_has}
use Rattle.base.specs.Outcome.{Outcome}
use Rattle.base.specs.Outcome.Outcome.{value, refused}
use Rattle.isa.specs.Map.{Cell, cell_of, cell_length, alu_names, implied_names}
use Rattle.isa.specs.Map.Cell.{empty, unary, unary_at, pop, pop_at, push, push_at, jump_at, call_at, alu_work, alu_work_at, alu_reg, alu_reg_at, alu_imm, ldc_dec, ldc_inc, ldc_load, ldc_store}
use Rattle.isa.specs.Map.Cell.{load_reg, load_reg_at, load_imm, load_at_imm, load_at_reg, call, load_indexed, store_indexed, ldc_load_long, ldc_store_long}
use Rattle.isa.specs.Map.Cell.{load_work_at, load_at_work, ldc_load_short, ldc_store_short, load_work_reg, load_reg_work, jump_rel, load_work_imm, jump, inc_work, implied}
use Rattle.isa.specs.declared.Alu.{Alu}
use Rattle.isa.specs.declared.Alu.TheVariants.{Cp}
use Rattle.isa.specs.declared.FlagSet.{FlagSet}
use Rattle.isa.specs.Flags.{no_flags, all_flags}
use Rattle.isa.specs.declared.Implied.{Implied}
use Rattle.isa.specs.declared.Implied.TheVariants.{Idle, Stop, Di, Ei, Ret, Iret, Rcf, Scf, Ccf, Nop}
use Rattle.isa.specs.declared.Instruction.{Instruction}
use Rattle.columns.specs.Form.{naming, answer_of}
use Rattle.decode.specs.Decode.{decode_at}
use Rattle.action.specs.declared.CodeAddress.{CodeAddress}
use Rattle.action.specs.declared.CodeAddress.TheVariants.{Direct, Short, Long}
use Rattle.action.specs.declared.Action.{Action}
use Rattle.action.specs.Action.{work_of, implied_action, action_of}
use Rattle.safety.specs.Invariant.{Shaped, SmallOffset}

-- what an outcome of decoding shows: the action is shaped, with the flags that are named
abbrev Right : RomAddr → Outcome (Instruction × ℕ × FlagSet) → Type 0
Right next (value d) = Shaped d.2 (action_of d.0 next)
Right next (refused n) = Unit {0}

-- CP names all four flags
compare_names : (op : Alu) → op ≡ Cp → alu_names op ≡ all_flags
compare_names op e = rw e

-- an odd pair means LDE
code_shaped : (b : Bool) (d : RegAddr) (c : CodeAddress) → SmallOffset c → Shaped no_flags (pick b (Action.LoadCode d c) Action.External)
code_shaped true d c s = s
code_shaped false d c s = tt

step_shaped : (b : Bool) (d p : RegAddr) (up : Bool) → Shaped no_flags (pick b (Action.LoadCodeStep d p up) Action.External)
step_shaped true d p up = tt
step_shaped false d p up = tt

direct_shaped : (b : Bool) (d : RegAddr) (a : RomAddr) → Shaped no_flags (pick b Action.External (Action.LoadCode d (Direct a)))
direct_shaped true d a = tt
direct_shaped false d a = tt

implied_shaped : (i : Implied) → Shaped (implied_names i) (implied_action i)
implied_shaped Idle = tt
implied_shaped Stop = tt
implied_shaped Di = tt
implied_shaped Ei = tt
implied_shaped Ret = tt
implied_shaped Iret = refl
implied_shaped Rcf = tt
implied_shaped Scf = tt
implied_shaped Ccf = tt
implied_shaped Nop = tt

-- each cell of the opcode map
answer_right : (next : RomAddr) (c : Cell) (h b1 b2 b3 : ℕ) → b1 < 256 → b2 < 256 → Right next (answer_of c h b1 b2 b3)
unfolding action_of
answer_right next empty h b1 b2 b3 s1 s2 = tt
answer_right next (unary u) h b1 b2 b3 s1 s2 = tt
answer_right next (unary_at u) h b1 b2 b3 s1 s2 = tt
answer_right next pop h b1 b2 b3 s1 s2 = tt
answer_right next pop_at h b1 b2 b3 s1 s2 = tt
answer_right next push h b1 b2 b3 s1 s2 = tt
answer_right next push_at h b1 b2 b3 s1 s2 = tt
answer_right next jump_at h b1 b2 b3 s1 s2 = pick_has (λ o. Right next (naming no_flags o)) (eqb (b1 % 2) 0) _ (refused 12) (λ _. tt) (λ _. tt)
answer_right next call_at h b1 b2 b3 s1 s2 = pick_has (λ o. Right next (naming no_flags o)) (eqb (b1 % 2) 0) _ (refused 12) (λ _. tt) (λ _. tt)
answer_right next (alu_work a) h b1 b2 b3 s1 s2 = (tt, compare_names a)
answer_right next (alu_work_at a) h b1 b2 b3 s1 s2 = (tt, compare_names a)
answer_right next (alu_reg a) h b1 b2 b3 s1 s2 = (tt, compare_names a)
answer_right next (alu_reg_at a) h b1 b2 b3 s1 s2 = (tt, compare_names a)
answer_right next (alu_imm a) h b1 b2 b3 s1 s2 = (s2, compare_names a)
answer_right next ldc_dec h b1 b2 b3 s1 s2 = step_shaped (eqb (b1 % 16 % 2) 0) (work_of (b1 / 16)) (work_of (b1 % 16)) false
answer_right next ldc_inc h b1 b2 b3 s1 s2 = step_shaped (eqb (b1 % 16 % 2) 0) (work_of (b1 / 16)) (work_of (b1 % 16)) true
answer_right next ldc_load h b1 b2 b3 s1 s2 = code_shaped (eqb (b1 % 16 % 2) 0) (work_of (b1 / 16)) (Short (work_of (b1 % 16)) 0) (omega arith)
answer_right next ldc_store h b1 b2 b3 s1 s2 = tt
answer_right next load_reg h b1 b2 b3 s1 s2 = tt
answer_right next load_reg_at h b1 b2 b3 s1 s2 = tt
answer_right next load_imm h b1 b2 b3 s1 s2 = s2
answer_right next load_at_imm h b1 b2 b3 s1 s2 = s2
answer_right next load_at_reg h b1 b2 b3 s1 s2 = tt
answer_right next call h b1 b2 b3 s1 s2 = tt
answer_right next load_indexed h b1 b2 b3 s1 s2 = tt
answer_right next store_indexed h b1 b2 b3 s1 s2 = tt
answer_right next ldc_load_long h b1 b2 b3 s1 s2 =
    pick_has (λ o. Right next (naming no_flags o)) (ltb (b1 % 16) 2) _ _ (λ _. direct_shaped (eqb (b1 % 16) 1) (work_of (b1 / 16)) (rom_addr (b3 * 256 + b2)))
    (λ _. code_shaped (eqb (b1 % 16 % 2) 0) (work_of (b1 / 16)) (Long (work_of (b1 % 16)) (b3 * 256 + b2)) tt)
answer_right next ldc_store_long h b1 b2 b3 s1 s2 = pick_has (λ o. Right next (naming no_flags o)) (ltb (b1 % 16) 2) _ _ (λ _. tt) (λ _. tt)
answer_right next load_work_at h b1 b2 b3 s1 s2 = tt
answer_right next load_at_work h b1 b2 b3 s1 s2 = tt
answer_right next ldc_load_short h b1 b2 b3 s1 s2 = code_shaped (eqb (b1 % 16 % 2) 0) (work_of (b1 / 16)) (Short (work_of (b1 % 16)) b2) s2
answer_right next ldc_store_short h b1 b2 b3 s1 s2 = tt
answer_right next load_work_reg h b1 b2 b3 s1 s2 = tt
answer_right next load_reg_work h b1 b2 b3 s1 s2 = tt
answer_right next jump_rel h b1 b2 b3 s1 s2 = tt
answer_right next load_work_imm h b1 b2 b3 s1 s2 = s1
answer_right next jump h b1 b2 b3 s1 s2 = tt
answer_right next inc_work h b1 b2 b3 s1 s2 = tt
answer_right next (implied p) h b1 b2 b3 s1 s2 = implied_shaped p

decode_right : (image : List ℕ) → ((i : ℕ) → get_or image i 0 < 256) → (pc : ℕ) (next : RomAddr) → Right next (decode_at image pc)
unfolding decode_at
decode_right image bytes pc next =
    pick_has (Right next) (ltb pc (length image)) _ (refused 10)
    (λ _.
    pick_has (Right next) (leb (cell_length (cell_of (get_or image pc 0))) (length image - pc)) _ (refused 10)
    (λ _.
    answer_right next (cell_of (get_or image pc 0)) (get_or image pc 0 / 16) (get_or image (pc + 1) 0) (get_or image (pc + 2) 0) (get_or image (pc + 3) 0)
    (bytes (pc + 1)) (bytes (pc + 2)))
    (λ _. tt))
    (λ _. tt)

pub decoded_shaped : (image : List ℕ) → ((i : ℕ) → get_or image i 0 < 256) → (pc : ℕ) (d : Instruction × ℕ × FlagSet) → decode_at image pc ≡ value d
    → (next : RomAddr) → Shaped d.2 (action_of d.0 next)
decoded_shaped image bytes pc d q next = subst (Right next) q (decode_right image bytes pc next)
