-- ADD to XOR with CP, TM and TCM, INC to SRA, and LD do what their summaries say.
-- Assumes nothing.
use Rattle.std.specs.Prelude.{◌≡◌, ◌≢◌, Bool, ◌&&◌, List, ℕ, ◌<◌, eqb}
use Rattle.std.proofs.Math.Path.{refl}
use Rattle.std.proofs.Common.{sym, subst, ◌∙◌, arith, eqb→eq}
use Rattle.std.proofs.Math.Bool.{true, false}
use Rattle.base.specs.declared.RegAddr.{RegAddr}
use Rattle.base.specs.declared.RomAddr.{RomAddr}
use Rattle.base.specs.Addresses.{flags_cell, sp_cell, sym_cell}
use Rattle.base.specs.Choice.{pick}
use Rattle.base.specs.Formula.{of_true}
use Rattle.isa.specs.declared.Alu.{Alu}
use Rattle.isa.specs.declared.Alu.TheVariants.{Add, Adc, Sub, Sbc, Or, And, Tcm, Tm, Cp, Xor}
use Rattle.isa.specs.declared.Unary.{Unary}
use Rattle.isa.specs.declared.Unary.TheVariants.{Dec, Rlc, Inc, Com, Rl, Clr, Rrc, Sra, Rr}
use Rattle.isa.specs.declared.FlagSet.{FlagSet}
use Rattle.isa.specs.Flags.{all_flags}
use Rattle.chip.specs.Registers.{mapped_of, kept_bits, load_of, store_of}
use Rattle.chip.specs.Laws.{load_ram, store_other, store_full}
use Rattle.chip.specs.InterruptLaws.{enabled_same}
use Rattle.alu.specs.Flags.{carry}
use Rattle.alu.specs.Operations.{operate, modify, increment, decrement, stores}
use Rattle.alu.specs.Laws.{compare_leaves, operate_bound, modify_bound, and_source}
use Rattle.action.specs.declared.Operand.{Operand}
use Rattle.action.specs.declared.Operand.TheVariants.{Register, Indirect, Immediate}
use Rattle.action.specs.declared.Action.{Action}
use Rattle.semantics.specs.Operands.{place_of, fetch_of, with_flags}
use Rattle.semantics.specs.Execute.{store_if, binary_of, modify_of, load_into, execute_of}
use Rattle.certificate.specs.declared.NewValue.{NewValue}
use Rattle.certificate.specs.declared.NewValue.TheVariants.{Number, CopyOf, Unknown}
use Rattle.certificate.specs.declared.Write.{Write}
use Rattle.certificate.specs.declared.Access.{Access}
use Rattle.certificate.specs.declared.Range.{Range}
use Rattle.certificate.specs.declared.CodeAccess.{CodeAccess}
use Rattle.certificate.specs.declared.FlagEffect.{FlagEffect}
use Rattle.certificate.specs.declared.FlagEffect.TheVariants.{Changed, Compared}
use Rattle.certificate.specs.declared.StackEffect.TheVariants.{Same, Load}
use Rattle.certificate.specs.declared.Summary.{Summary}
use Rattle.certificate.specs.Layout.{Certificate}
use Rattle.certificate.specs.Summaries.{write_to, reading, moving, binary_value, flag_effect, binary_flags, binary_summary, modify_value, summary_of}
use Rattle.safety.specs.Rules.{rule23, rule24}
use Rattle.safety.specs.Statement.{InTable}
use Rattle.safety.specs.Invariant.{at, Registers, FlagsAfter, Refines, Before, read_table, write_table, table_of, Does, Small, Shaped}
use Rattle.safety.proofs.Facts.{Global, EntryFacts}
use Rattle.safety.proofs.Memory.{Input, load_small, store_registers, flags_all}
use Rattle.safety.specs.StepRules.{StepRules}
use Rattle.safety.proofs.RefineOperands.{HasPlace, Allowed, any_place, writable_place, Gives, Written, may_read, may_write, fetch_ram, fetch_byte, place_mapped, fetch_mapped}
use Rattle.safety.proofs.RefineOperands.{in_read_table, in_write_table, nothing_written, refines_beyond, refines_written, refines_flags, does_onward, flags_kept, flags_set}
use Rattle.safety.proofs.PlaceWritten.{place_written}

-- CP with a number compares the byte of its cell
binary_flags_lem : (r rec : List ℕ) (ns : FlagSet) (op : Alu) (x : RegAddr) (s : Operand) (c : Bool) → Registers r → (op ≡ Cp → ns ≡ all_flags)
    → FlagsAfter (flag_effect ns (binary_flags op (Register x) s)) r (with_flags r ns (operate op (load_of r rec x.0) (fetch_of r rec s).value c).flags)
unfolding fetch_of
binary_flags_lem r rec ns Cp x (Register y) c g all = flags_set ns r r _ refl
binary_flags_lem r rec ns Cp x (Indirect p o) c g all = flags_set ns r r _ refl
binary_flags_lem r rec ns Cp x (Immediate k) c g all =
    let v = (operate Cp (load_of r rec x.0) k c).flags in
    subst (λ (m : FlagSet). FlagsAfter (flag_effect m (Compared x k)) r (with_flags r m v)) (sym (all refl))
    (λ h. flags_all r v g ∙ compare_leaves (at r flags_cell) (load_of r rec x.0) k c ∙ rw (load_ram r rec x.0 h))
binary_flags_lem r rec ns Add x s c g all = flags_set ns r r _ refl
binary_flags_lem r rec ns Adc x s c g all = flags_set ns r r _ refl
binary_flags_lem r rec ns Sub x s c g all = flags_set ns r r _ refl
binary_flags_lem r rec ns Sbc x s c g all = flags_set ns r r _ refl
binary_flags_lem r rec ns Or x s c g all = flags_set ns r r _ refl
binary_flags_lem r rec ns And x s c g all = flags_set ns r r _ refl
binary_flags_lem r rec ns Tcm x s c g all = flags_set ns r r _ refl
binary_flags_lem r rec ns Tm x s c g all = flags_set ns r r _ refl
binary_flags_lem r rec ns Xor x s c g all = flags_set ns r r _ refl

-- what the summaries say of the stored values
modify_gives : (r rec : List ℕ) (op : Unary) (d : Operand) (c : Bool)
    → Gives d (modify_value op) r (modify op (load_of r rec (place_of r rec d).addr.0) c).value
unfolding modify increment decrement place_of
modify_gives r rec Dec (Register x) c = λ l r' q. q ∙ rw (load_ram r rec x.0 l)
modify_gives r rec Inc (Register x) c = λ l r' q. q ∙ rw (load_ram r rec x.0 l)
modify_gives r rec Clr (Register x) c = λ l r' q. q
modify_gives r rec Rlc (Register x) c = λ l r' q. tt
modify_gives r rec Com (Register x) c = λ l r' q. tt
modify_gives r rec Rl (Register x) c = λ l r' q. tt
modify_gives r rec Rrc (Register x) c = λ l r' q. tt
modify_gives r rec Sra (Register x) c = λ l r' q. tt
modify_gives r rec Rr (Register x) c = λ l r' q. tt
modify_gives r rec op (Indirect p o) c = tt
modify_gives r rec op (Immediate n) c = tt

binary_gives : (r rec : List ℕ) (op : Alu) (x : RegAddr) (s : Operand) (y : ℕ) (c : Bool)
    → Gives (Register x) (binary_value op s) r (operate op y (fetch_of r rec s).value c).value
unfolding fetch_of
binary_gives r rec And x (Immediate n) y c = λ l r' q. (omega arith, omega (arith, and_source y n c))
binary_gives r rec And x (Register z) y c = λ l r' q. tt
binary_gives r rec And x (Indirect p o) y c = λ l r' q. tt
binary_gives r rec Add x s y c = λ l r' q. tt
binary_gives r rec Adc x s y c = λ l r' q. tt
binary_gives r rec Sub x s y c = λ l r' q. tt
binary_gives r rec Sbc x s y c = λ l r' q. tt
binary_gives r rec Or x s y c = λ l r' q. tt
binary_gives r rec Tcm x s y c = λ l r' q. tt
binary_gives r rec Tm x s y c = λ l r' q. tt
binary_gives r rec Cp x s y c = λ l r' q. tt
binary_gives r rec Xor x s y c = λ l r' q. tt

-- b: the register is SP
abbrev loaded_number : RegAddr → ℕ → FlagEffect → Bool → Summary
loaded_number x n f b =
    pick b (moving Write.Nothing Access.Nothing Access.Nothing f (Load n))
    (moving (Write.Register x (Number n)) Access.Nothing Access.Nothing f Same)

module _ (rom : ℕ) (C : Certificate) (image : List ℕ) (gl : Global C image) (a : ℕ) (e : EntryFacts C a) (r rec : List ℕ) (pre : Before C a r) (input : Input rec) (next : RomAddr) (ns : FlagSet)
    (load : CodeAccess → Range) where
  -- what it names has changed
  abbrev named : FlagEffect
  named = flag_effect ns Changed

  -- the carry before
  abbrev carry_now : Bool
  carry_now = carry (at r flags_cell)

  written_at : (d : Operand) (n : NewValue) (v : ℕ) → HasPlace d → Allowed C a (writable_place C a) d → v < 256 → Gives d n r v
      → Written C a (write_to d n) r (store_of r (place_of r rec d).addr.0 v)
  written_at d n v s h hv k = place_written C image gl a e r rec pre.registers pre.claims d n v s h hv k

  place_ok : (d : Operand) → HasPlace d → Allowed C a (writable_place C a) d → (place_of r rec d).ok ≡ true
  place_ok d s h = place_mapped C image gl a e r rec pre.claims (writable_place C a) d s h

  fetch_ok : (s : Operand) → Allowed C a any_place s → (fetch_of r rec s).ok ≡ true
  fetch_ok s h = fetch_mapped C image gl a e r rec pre.claims s h

  read_table_lem : (s : Operand) → Allowed C a any_place s → InTable C (read_table C a (reading s) 0) r rec s
  read_table_lem s h = in_read_table C image gl a e r rec pre.claims any_place s 0 h

  write_table_lem : (d : Operand) (n : NewValue) (t : ℕ) → Allowed C a (writable_place C a) d → InTable C (write_table C a (write_to d n) t) r rec d
  write_table_lem d n t h = in_write_table C image gl a e r rec pre.claims (writable_place C a) d n t h

  fetched_byte : (s : Operand) → Small s → (fetch_of r rec s).value < 256
  fetched_byte s h = fetch_byte r rec pre.registers input s h

  -- INC to SRA
  modifies : (op : Unary) (d : Operand) → HasPlace d
      → StepRules C rom a (moving (write_to d (modify_value op)) Access.Nothing Access.Nothing named Same)
      → Does C image a (moving (write_to d (modify_value op)) Access.Nothing Access.Nothing named Same) (Action.Modify op d) ns r rec next 0 0
  unfolding execute_of modify_of table_of rule23 rule24
  modifies op d p k =
      let target = may_write C a d (modify_value op) k.r23.1.1.0 k.r24.1.1.0 in
      let x = load_of r rec (place_of r rec d).addr.0 in
      let m = modify op x carry_now in
      let bound = modify_bound op x carry_now (load_small r rec pre.registers input _) in
      let w = written_at d (modify_value op) m.value p target bound (modify_gives r rec op d carry_now) in
      does_onward C image gl a e _ (Action.Modify op d) ns r rec _ next (place_of r rec d).ok refl (place_ok d p target)
      (refines_flags C image gl a e _ r (store_of r (place_of r rec d).addr.0 m.value) ns m.flags refl refl w
      (flags_set ns r _ m.flags (w.others flags_cell gl.flags_class)))
      (write_table_lem d (modify_value op) 0 target)

  pub does_modify : (op : Unary) (d : Operand) → Shaped ns (Action.Modify op d) → StepRules C rom a (summary_of load (Action.Modify op d) ns)
      → Does C image a (summary_of load (Action.Modify op d) ns) (Action.Modify op d) ns r rec next 0 0
  unfolding summary_of
  does_modify op (Register x) h k = modifies op (Register x) tt k
  does_modify op (Indirect p o) h k = modifies op (Indirect p o) tt k
  does_modify op (Immediate n) h k = absurd h

  -- ADD to XOR store, CP, TM and TCM do not: b says which
  binary_refines : (b : Bool) (op : Alu) (x : RegAddr) (s : Operand) → Small s → (op ≡ Cp → ns ≡ all_flags) → StepRules C rom a (binary_summary b op (Register x) s ns)
      → Refines C a (binary_summary b op (Register x) s ns) r
      (with_flags (store_if r b x (operate op (load_of r rec x.0) (fetch_of r rec s).value carry_now).value) ns
      (operate op (load_of r rec x.0) (fetch_of r rec s).value carry_now).flags)
  unfolding rule23 rule24 store_if place_of
  binary_refines true op x s h all k =
      let y = load_of r rec x.0 in
      let m = operate op y (fetch_of r rec s).value carry_now in
      let bound = operate_bound op y (fetch_of r rec s).value carry_now (load_small r rec pre.registers input x.0) (fetched_byte s h) in
      let may = may_write C a (Register x) (binary_value op s) k.r23.1.1.0 k.r24.1.1.0 in
      let w = written_at (Register x) (binary_value op s) m.value tt may bound (binary_gives r rec op x s y carry_now) in
      refines_flags C image gl a e _ r (store_of r x.0 m.value) ns m.flags refl refl w
      (flags_set ns r _ m.flags (w.others flags_cell gl.flags_class))
  binary_refines false op x s h all k =
      refines_flags C image gl a e _ r r ns _ refl refl (nothing_written C a r pre.registers) (binary_flags_lem r rec ns op x s carry_now pre.registers all)

  -- its registers are mapped, its pointer in the table
  binary_facts : (b : Bool) (op : Alu) (x : RegAddr) (s : Operand) → StepRules C rom a (binary_summary b op (Register x) s ns)
      → (mapped_of x.0 ≡ true) × ((fetch_of r rec s).ok ≡ true) × InTable C (table_of C a (binary_summary b op (Register x) s ns)) r rec s
  unfolding rule23 rule24 table_of
  binary_facts true op x s k =
      let source = may_read C a s k.r23.1.0 k.r24.1.0 in
      (k.r23.1.1.0.0, fetch_ok s source, read_table_lem s source)
  binary_facts false op x s k =
      let source = may_read C a s k.r23.1.0 k.r24.1.0 in
      (k.r23.0, fetch_ok s source, read_table_lem s source)

  pub does_binary : (op : Alu) (d s : Operand) → Shaped ns (Action.Binary op d s) → StepRules C rom a (summary_of load (Action.Binary op d s) ns)
      → Does C image a (summary_of load (Action.Binary op d s) ns) (Action.Binary op d s) ns r rec next 0 0
  unfolding summary_of execute_of binary_of place_of
  does_binary op (Register x) s h k =
      let f = binary_facts (stores op) op x s k in
      does_onward C image gl a e _ (Action.Binary op (Register x) s) ns r rec _ next (mapped_of x.0 && (fetch_of r rec s).ok) refl
      (rw (f.0, f.1)) (binary_refines (stores op) op x s h.0 h.1 k) (tt, f.2)
  does_binary op (Indirect p o) s h k = absurd h
  does_binary op (Immediate n) s h k = absurd h

  -- LD, but of SP with a number; t: an address that the source's pointer gives lies in the table
  loads : (d s : Operand) (n : NewValue) → HasPlace d → Small s → Gives d n r (fetch_of r rec s).value
      → (Allowed C a any_place s → InTable C (table_of C a (moving (write_to d n) Access.Nothing (reading s) named Same)) r rec s)
      → StepRules C rom a (moving (write_to d n) Access.Nothing (reading s) named Same)
      → Does C image a (moving (write_to d n) Access.Nothing (reading s) named Same) (Action.Load d s) ns r rec next 0 0
  unfolding execute_of load_into table_of rule23 rule24
  loads d s n p small gives t k =
      let target = may_write C a d n k.r23.1.1.0 k.r24.1.1.0 in
      let source = may_read C a s k.r23.1.0 k.r24.1.0 in
      let w = written_at d n (fetch_of r rec s).value p target (fetched_byte s small) gives in
      does_onward C image gl a e _ (Action.Load d s) ns r rec _ next ((place_of r rec d).ok && (fetch_of r rec s).ok) refl
      (rw (place_ok d p target, fetch_ok s source))
      (refines_written C image gl a e _ r _ _ refl refl w w.registers (λ x q. refl) (flags_kept ns r _ (w.others flags_cell gl.flags_class)))
      (write_table_lem d n _ target, t source)

  -- LD SP,#n
  loads_sp : (x : RegAddr) (n : ℕ) → n < 256 → x.0 ≡ sp_cell
      → Does C image a (moving Write.Nothing Access.Nothing Access.Nothing named (Load n)) (Action.Load (Register x) (Immediate n)) ns r rec next 0 0
  unfolding execute_of load_into place_of fetch_of mapped_of kept_bits
  loads_sp x n h q =
      let g = pre.registers in
      let other : (z : ℕ) → z ≢ sp_cell → at (store_of r x.0 n) z ≡ at r z = λ z k. store_other r x.0 n z (λ s. k (s ∙ q)) in
      let same : at (store_of r x.0 n) sp_cell ≡ n = rw q (store_full r sp_cell n refl (let z = g.size in omega arith) h) in
      does_onward C image gl a e _ (Action.Load (Register x) (Immediate n)) ns r rec (store_of r x.0 n) next (mapped_of x.0 && true) refl (rw q)
      (refines_beyond C image gl a e _ r r (store_of r x.0 n) (nothing_written C a r g) (store_registers r x.0 n g h (omega arith))
      (λ z l. other z (omega arith)) same (flags_kept ns r _ (other flags_cell (omega arith))) (enabled_same r (store_of r x.0 n) (other sym_cell (omega arith))))
      (tt, tt)

  loads_number : (x : RegAddr) (n : ℕ) → n < 256 → (b : Bool) → eqb x.0 sp_cell ≡ b → StepRules C rom a (loaded_number x n named b)
      → Does C image a (loaded_number x n named b) (Action.Load (Register x) (Immediate n)) ns r rec next 0 0
  unfolding fetch_of
  loads_number x n h true q k = loads_sp x n h (eqb→eq x.0 sp_cell (of_true (eqb x.0 sp_cell) q))
  loads_number x n h false q k = loads (Register x) (Immediate n) (Number n) tt h (λ l r' p. p) (λ z. tt) k

  pub does_load : (d s : Operand) → Shaped ns (Action.Load d s) → StepRules C rom a (summary_of load (Action.Load d s) ns)
      → Does C image a (summary_of load (Action.Load d s) ns) (Action.Load d s) ns r rec next 0 0
  unfolding summary_of table_of
  does_load (Register x) (Immediate n) h k = loads_number x n h (eqb x.0 sp_cell) refl k
  does_load (Register x) (Register y) h k = loads (Register x) (Register y) (CopyOf y) tt h (λ l r' q m. q ∙ fetch_ram r rec y m) (λ z. tt) k
  does_load (Register x) (Indirect p o) h k = loads (Register x) (Indirect p o) Unknown tt h (λ l r' q. tt) (read_table_lem (Indirect p o)) k
  does_load (Indirect p o) (Register y) h k = loads (Indirect p o) (Register y) Unknown tt h tt (λ z. tt) k
  does_load (Indirect p o) (Indirect q y) h k = absurd h
  does_load (Indirect p o) (Immediate n) h k = loads (Indirect p o) (Immediate n) Unknown tt h tt (λ z. tt) k
  does_load (Immediate n) s h k = absurd h
