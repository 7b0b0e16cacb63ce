-- Decoding is refused by 10, 11 or 12.
-- Assumes nothing.
use Rattle.std.specs.Prelude.{ℕ, ◌+◌, ◌-◌, ◌/◌, ◌%◌, ◌≤◌, ◌≡◌, Bool, true, false, List, length, get_or, eqb, ltb, leb}
use Rattle.std.proofs.Common.{arith}
use Rattle.base.specs.Choice.{pick}
use Rattle.base.specs.ChoiceLaws.{pick_has}
use Rattle.base.specs.Outcome.{Outcome}
use Rattle.base.specs.Outcome.Outcome.{value, refused}
use Rattle.isa.specs.declared.FlagSet.{FlagSet}
use Rattle.isa.specs.declared.Instruction.{Instruction}
use Rattle.isa.specs.Map.{Cell, cell_of, cell_length, cell_names}
use Rattle.isa.specs.Map.Cell.{empty, unary, unary_at, pop, pop_at, push, push_at, jump_at, call_at, alu_work, alu_work_at, alu_reg, alu_reg_at, alu_imm, ldc_dec, ldc_inc, ldc_load, ldc_store}
use Rattle.isa.specs.Map.Cell.{load_reg, load_reg_at, load_imm, load_at_imm, load_at_reg, call, load_indexed, store_indexed, ldc_load_long, ldc_store_long}
use Rattle.isa.specs.Map.Cell.{load_work_at, load_at_work, ldc_load_short, ldc_store_short, load_work_reg, load_reg_work, jump_rel, load_work_imm, jump, inc_work, implied}
use Rattle.columns.specs.Form.{form_of, naming, answer_of}
use Rattle.decode.specs.Decode.{decode_at}

-- a refusal has one of the decoder's numbers
abbrev Numbered : {A : Type 0} → Outcome A → Type 0
Numbered (value d) = Unit {0}
Numbered (refused n) = (10 ≤ n) × (n ≤ 12)

-- JP and CALL through a pair
even_pair_lem : (t : Bool) (d : Instruction × ℕ) → Numbered (pick t (value d) (refused 12))
even_pair_lem true d = tt
even_pair_lem false d = (omega arith, omega arith)

form_numbered : (c : Cell) (h b1 b2 b3 : ℕ) → Numbered (form_of c h b1 b2 b3)
form_numbered empty h b1 b2 b3 = (omega arith, omega arith)
form_numbered (unary u) h b1 b2 b3 = tt
form_numbered (unary_at u) h b1 b2 b3 = tt
form_numbered pop h b1 b2 b3 = tt
form_numbered pop_at h b1 b2 b3 = tt
form_numbered push h b1 b2 b3 = tt
form_numbered push_at h b1 b2 b3 = tt
form_numbered jump_at h b1 b2 b3 = even_pair_lem (eqb (b1 % 2) 0) _
form_numbered call_at h b1 b2 b3 = even_pair_lem (eqb (b1 % 2) 0) _
form_numbered (alu_work a) h b1 b2 b3 = tt
form_numbered (alu_work_at a) h b1 b2 b3 = tt
form_numbered (alu_reg a) h b1 b2 b3 = tt
form_numbered (alu_reg_at a) h b1 b2 b3 = tt
form_numbered (alu_imm a) h b1 b2 b3 = tt
form_numbered ldc_dec h b1 b2 b3 = tt
form_numbered ldc_inc h b1 b2 b3 = tt
form_numbered ldc_load h b1 b2 b3 = tt
form_numbered ldc_store h b1 b2 b3 = tt
form_numbered load_reg h b1 b2 b3 = tt
form_numbered load_reg_at h b1 b2 b3 = tt
form_numbered load_imm h b1 b2 b3 = tt
form_numbered load_at_imm h b1 b2 b3 = tt
form_numbered load_at_reg h b1 b2 b3 = tt
form_numbered call h b1 b2 b3 = tt
form_numbered load_indexed h b1 b2 b3 = tt
form_numbered store_indexed h b1 b2 b3 = tt
form_numbered ldc_load_long h b1 b2 b3 = pick_has Numbered (ltb (b1 % 16) 2) _ _ (λ t. tt) (λ t. tt)
form_numbered ldc_store_long h b1 b2 b3 = pick_has Numbered (ltb (b1 % 16) 2) _ _ (λ t. tt) (λ t. tt)
form_numbered load_work_at h b1 b2 b3 = tt
form_numbered load_at_work h b1 b2 b3 = tt
form_numbered ldc_load_short h b1 b2 b3 = tt
form_numbered ldc_store_short h b1 b2 b3 = tt
form_numbered load_work_reg h b1 b2 b3 = tt
form_numbered load_reg_work h b1 b2 b3 = tt
form_numbered jump_rel h b1 b2 b3 = tt
form_numbered load_work_imm h b1 b2 b3 = tt
form_numbered jump h b1 b2 b3 = tt
form_numbered inc_work h b1 b2 b3 = tt
form_numbered (implied p) h b1 b2 b3 = tt

-- the flags beside it do not matter
naming_numbered : (f : FlagSet) (o : Outcome (Instruction × ℕ)) → Numbered o → Numbered (naming f o)
naming_numbered f (value d) h = tt
naming_numbered f (refused n) h = h

answer_numbered : (c : Cell) (h b1 b2 b3 : ℕ) → Numbered (answer_of c h b1 b2 b3)
answer_numbered c h b1 b2 b3 = naming_numbered (cell_names c) (form_of c h b1 b2 b3) (form_numbered c h b1 b2 b3)

decode_numbered : (s : List ℕ) (at : ℕ) → Numbered (decode_at s at)
unfolding decode_at
decode_numbered s at =
    pick_has Numbered (ltb at (length s)) _ _
    (λ t. pick_has Numbered (leb (cell_length (cell_of (get_or s at 0))) (length s - at)) _ _
    (λ u. answer_numbered (cell_of (get_or s at 0)) (get_or s at 0 / 16) (get_or s (at + 1) 0) (get_or s (at + 2) 0) (get_or s (at + 3) 0))
    (λ u. (omega arith, omega arith)))
    (λ t. (omega arith, omega arith))

pub decode_number : (s : List ℕ) (at n : ℕ) → decode_at s at ≡ refused n → (10 ≤ n) × (n ≤ 12)
decode_number s at n e = rw e at (decode_numbered s at)
