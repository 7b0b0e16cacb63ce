-- PUSH and POP do what their summaries say.
-- Assumes nothing.
use Rattle.std.specs.Prelude.{◌≡◌, ◌≢◌, ◌&&◌, List, ℕ, ◌+◌, ◌%◌, ◌≤◌, ◌<◌}
use Rattle.std.proofs.Math.Path.{refl, ap}
use Rattle.std.proofs.Common.{◌∙◌}
use native.Mathlib.Omega.{arith}
use Rattle.std.proofs.Math.ListN.{set}
use Rattle.base.specs.declared.RomAddr.{RomAddr}
use Rattle.base.specs.Addresses.{flags_cell, sp_cell, sym_cell}
use Rattle.isa.specs.declared.FlagSet.{FlagSet}
use Rattle.chip.specs.Registers.{mapped_of, load_of, store_of}
use Rattle.chip.specs.Laws.{mapped_ram, store_other}
use Rattle.chip.specs.InterruptLaws.{enabled_same}
use Rattle.action.specs.declared.Operand.{Operand}
use Rattle.action.specs.declared.Operand.TheVariants.{Register, Indirect, Immediate}
use Rattle.action.specs.declared.Action.{Action}
use Rattle.semantics.specs.Operands.{place_of, fetch_of, lowered, raised, store_top}
use Rattle.semantics.specs.Execute.{execute_of, push_operand, pop_operand}
use Rattle.certificate.specs.declared.NewValue.TheVariants.{Unknown}
use Rattle.certificate.specs.declared.Access.{Access}
use Rattle.certificate.specs.declared.Range.{Range}
use Rattle.certificate.specs.declared.CodeAccess.{CodeAccess}
use Rattle.certificate.specs.declared.FlagEffect.TheVariants.{Changed}
use Rattle.certificate.specs.declared.StackEffect.TheVariants.{Pop}
use Rattle.certificate.specs.declared.Summary.{Summary}
use Rattle.certificate.specs.Layout.{Certificate}
use Rattle.safety.specs.Rules.{unloaded, rule23, rule24}
use Rattle.certificate.specs.Summaries.{summary_of, flag_effect, moving, write_to}
use Rattle.safety.specs.Invariant.{at, Registers, Claims, Before, Does, Shaped, table_of}
use Rattle.safety.proofs.Facts.{Global, EntryFacts}
use Rattle.safety.proofs.Memory.{Input, load_small, store_registers, sp_registers, sp_other, sp_same}
use Rattle.safety.proofs.RefineOperands.{HasPlace, Gives, Written, any_place, writable_place, may_read, may_write, fetch_byte, fetch_mapped}
use Rattle.safety.proofs.RefineOperands.{place_mapped, in_read_table, in_write_table, refines_beyond, does_onward, flags_kept}
use Rattle.safety.proofs.PlaceWritten.{place_written}
use Rattle.safety.specs.StepRules.{StepRules}

-- of a byte of which nothing is known
gives_unknown : (d : Operand) (r : List ℕ) (v : ℕ) → Gives d Unknown r v
gives_unknown (Register x) r v = λ l r' q. tt
gives_unknown (Indirect p o) r v = tt
gives_unknown (Immediate n) r v = tt

-- the summary of POP to an operand that has a place
abbrev popping : Operand → FlagSet → Summary
popping d ns = moving (write_to d Unknown) Access.Nothing Access.Nothing (flag_effect ns Changed) Pop

-- deep: rule 25 tells depth 255 from every other, and no depth is greater
module _ (rom : ℕ) (C : Certificate) (image : List ℕ) (gl : Global C image) (a : ℕ) (e : EntryFacts C a) (r rec : List ℕ) (pre : Before C a r) (input : Input rec) (next : RomAddr)
    (ns : FlagSet) (load : CodeAccess → Range) (deep : C.depth a ≤ unloaded) where
  -- the claims hold with another SP
  claims_kept : (s : ℕ) → Claims C a (set r sp_cell s)
  claims_kept s x h = rw (sp_other r s x (omega arith)) (pre.claims x h)

  pub does_push : (s : Operand) → Shaped ns (Action.Push s) → StepRules C rom a (summary_of load (Action.Push s) ns)
      → Does C image a (summary_of load (Action.Push s) ns) (Action.Push s) ns r rec next 0 0
  unfolding summary_of execute_of push_operand lowered store_top rule23 rule24 table_of
  does_push s h rules =
      let loaded : C.depth a < unloaded = let n = rules.stack.0 in omega arith in
      let room = rules.stack.1 in
      let least = pre.lowest loaded in
      let most = pre.highest loaded in
      let top = gl.stack_top in
      let g = pre.registers in
      let sp = (at r sp_cell + 255) % 256 in
      let r1 = set r sp_cell sp in
      let g1 : Registers r1 = sp_registers r sp g (omega arith) in
      let may = may_read C a s rules.r23.1.0 rules.r24.1.0 in
      let v = (fetch_of r1 rec s).value in
      let hv : v < 256 = fetch_byte r1 rec g1 input s h in
      let k = at r1 sp_cell in
      let is : k ≡ sp = sp_same r sp g in
      let free : C.class k ≡ 0 = gl.stack_class k (omega arith) (omega arith) in
      let other : (x : ℕ) → x ≢ k → x ≢ sp_cell → at (store_of r1 k v) x ≡ at r x = λ x n m. store_other r1 k v x n ∙ sp_other r sp x m in
      does_onward C image gl a e (summary_of load (Action.Push s) ns) (Action.Push s) ns r rec (store_of r1 k v) next ((fetch_of r1 rec s).ok && mapped_of k) refl
      (rw (fetch_mapped C image gl a e r1 rec (claims_kept sp) s may, mapped_ram k (omega arith)))
      (record {
        registers = store_registers r1 k v g1 hv (omega arith);
        cells = λ x l c. other x (λ q. let z : C.class x ≡ C.class k = ap C.class q in omega arith) (omega arith);
        stack = λ x l f u. other x (omega arith) (omega arith);
        pointer = store_other r1 k v sp_cell (omega arith) ∙ omega arith;
        flags = flags_kept ns r _ (other flags_cell (omega arith) (omega arith));
        enabled = enabled_same r (store_of r1 k v) (other sym_cell (omega arith) (omega arith));
      })
      (in_read_table C image gl a e r1 rec (claims_kept sp) any_place s 0 may)

  pop_place : (d : Operand) → HasPlace d → StepRules C rom a (popping d ns) → Does C image a (popping d ns) (Action.Pop d) ns r rec next 0 0
  unfolding execute_of pop_operand raised rule23 rule24 table_of
  pop_place d h rules =
      let loaded : C.depth a < unloaded = let n = rules.stack.0 in omega arith in
      let some = rules.stack.1 in
      let most = pre.highest loaded in
      let top = gl.stack_top in
      let g = pre.registers in
      let may = may_write C a d Unknown rules.r23.1.1.0 rules.r24.1.1.0 in
      let v = load_of r rec (at r sp_cell) in
      let x = (place_of r rec d).addr.0 in
      let r1 = store_of r x v in
      let w : Written C a (write_to d Unknown) r r1
      = place_written C image gl a e r rec g pre.claims d Unknown v h may (load_small r rec g input (at r sp_cell)) (gives_unknown d r v) in
      let sp = (at r1 sp_cell + 1) % 256 in
      let kept : at r1 sp_cell ≡ at r sp_cell = w.others sp_cell gl.sp_class in
      does_onward C image gl a e (popping d ns) (Action.Pop d) ns r rec (set r1 sp_cell sp) next ((place_of r rec d).ok && mapped_of (at r sp_cell)) refl
      (rw (place_mapped C image gl a e r rec pre.claims (writable_place C a) d h may, mapped_ram (at r sp_cell) (omega arith)))
      (refines_beyond C image gl a e (popping d ns) r r1 (set r1 sp_cell sp) w (sp_registers r1 sp w.registers (omega arith))
      (λ x l. sp_other r1 sp x (omega arith))
      (sp_same r1 sp w.registers ∙ omega arith)
      (flags_kept ns r _ (sp_other r1 sp flags_cell (omega arith) ∙ w.others flags_cell gl.flags_class))
      (enabled_same r (set r1 sp_cell sp) (sp_other r1 sp sym_cell (omega arith) ∙ w.others sym_cell gl.sym_class)))
      (in_write_table C image gl a e r rec pre.claims (writable_place C a) d Unknown 0 may)

  pub does_pop : (d : Operand) → Shaped ns (Action.Pop d) → StepRules C rom a (summary_of load (Action.Pop d) ns)
      → Does C image a (summary_of load (Action.Pop d) ns) (Action.Pop d) ns r rec next 0 0
  unfolding summary_of
  does_pop (Register x) h rules = pop_place (Register x) tt rules
  does_pop (Indirect p o) h rules = pop_place (Indirect p o) tt rules
  does_pop (Immediate n) h rules = absurd h
