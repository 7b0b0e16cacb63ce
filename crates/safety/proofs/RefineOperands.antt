-- Operands under rules 23 and 24: their places are mapped, pointers stay in their tables, and what a store to one leaves.
-- Assumes nothing.
use Rattle.std.specs.Prelude.{◌≡◌, ◌≢◌, Bool, true, false, List, ℕ, ◌+◌, ◌%◌, ◌≤◌, ◌<◌, T, eqb}
use Rattle.std.proofs.Math.Path.{refl}
use Rattle.std.proofs.Common.{sym, subst, ◌∙◌, ap, eqb→eq}
use Rattle.std.proofs.Math.Logic.{⊎_elim}
use native.Mathlib.Omega.{arith}
use Rattle.base.specs.declared.RegAddr.{RegAddr}
use Rattle.base.specs.declared.RomAddr.{RomAddr}
use Rattle.base.specs.Addresses.{flags_cell, sp_cell, sym_cell}
use Rattle.base.specs.Choice.{pick}
use Rattle.base.specs.ChoiceLaws.{pick_has}
use Rattle.base.specs.Formula.{Formula, always, ◌&◌, Holds, of_true, eqb_yes}
use Rattle.chip.specs.Registers.{mapped_of, load_of, store_of}
use Rattle.chip.specs.Laws.{load_ram, mapped_ram, store_other, store_ram}
use Rattle.chip.specs.Interrupts.{interrupts_enabled}
use Rattle.chip.specs.InterruptLaws.{enabled_same}
use Rattle.isa.specs.declared.FlagSet.{FlagSet}
use Rattle.alu.specs.Laws.{condition_never}
use Rattle.action.specs.declared.Operand.{Operand}
use Rattle.action.specs.declared.Operand.TheVariants.{Register, Indirect, Immediate}
use Rattle.action.specs.declared.Action.{Action}
use Rattle.semantics.specs.Operands.{place_of, fetch_place, fetch_of, with_flags}
use Rattle.semantics.specs.Execute.{goes_on, execute_of}
use Rattle.certificate.specs.declared.NewValue.{NewValue}
use Rattle.certificate.specs.declared.NewValue.TheVariants.{Number, OneMore, OneLess, Within, CopyOf, Unknown}
use Rattle.certificate.specs.declared.Write.{Write}
use Rattle.certificate.specs.declared.FlagEffect.{FlagEffect}
use Rattle.certificate.specs.declared.FlagEffect.TheVariants.{Kept, Changed}
use Rattle.certificate.specs.declared.StackEffect.TheVariants.{Same}
use Rattle.certificate.specs.declared.Control.{Control}
use Rattle.certificate.specs.declared.Summary.{Summary}
use Rattle.certificate.specs.Layout.{Certificate}
use Rattle.certificate.specs.Summaries.{write_to, reading, flag_effect}
use Rattle.safety.specs.Rules.{ram_end, low, high, claimed, mapped, writable, reach, direct_read, direct_write, pointed_read, pointed_write, Change, change_of}
use Rattle.safety.specs.Rules.Change.{unchanged, changed}
use Rattle.safety.specs.Statement.{InTable, PointersRight}
use Rattle.safety.specs.Invariant.{at, Registers, Claims, Effect, FlagsAfter, sp_after, enabled_after, Refines, read_table, write_table, table_of, Does, Small}
use Rattle.safety.proofs.Facts.{Global, EntryFacts, Writable, is_writable}
use Rattle.safety.proofs.Memory.{Input, load_small, store_registers, flags_registers, flags_none, flags_other}

-- an operand that has a place
abbrev pub HasPlace : Operand → Type 0
HasPlace (Register x) = Unit {0}
HasPlace (Indirect p o) = Unit {0}
HasPlace (Immediate n) = ⊥

-- where a pointer with an offset points
abbrev pub pointed_at : List ℕ → List ℕ → ℕ → ℕ → ℕ
pointed_at r rec p o = (load_of r rec p + o) % 256

pub fetch_ram : (r rec : List ℕ) (x : RegAddr) → x.0 < ram_end → (fetch_of r rec (Register x)).value ≡ at r x.0
unfolding fetch_of fetch_place place_of
fetch_ram r rec x h = load_ram r rec x.0 h

pub fetch_byte : (r rec : List ℕ) → Registers r → Input rec → (s : Operand) → Small s → (fetch_of r rec s).value < 256
unfolding fetch_of fetch_place place_of
fetch_byte r rec g i (Register x) h = load_small r rec g i x.0
fetch_byte r rec g i (Indirect p o) h = load_small r rec g i (pointed_at r rec p.0 o)
fetch_byte r rec g i (Immediate n) h = h

-- the rule of places that are read
abbrev pub any_place : ℕ → Formula
any_place x = always

-- what the new value v says of the register that an operand names, where b is stored
abbrev pub Gives : Operand → NewValue → List ℕ → ℕ → Type 0
Gives (Register x) v r b = x.0 < ram_end → (r' : List ℕ) → at r' x.0 ≡ b → Effect (changed v) r r' x.0
Gives (Indirect p o) v r b = Unit {0}
Gives (Immediate n) v r b = Unit {0}

-- an effect on a cell that later changes leave alone
pub effect_along : (v : Change) (r r' r'' : List ℕ) (x : ℕ) → at r'' x ≡ at r' x → Effect v r r' x → Effect v r r'' x
effect_along unchanged r r' r'' x q h = q ∙ h
effect_along (changed (Number n)) r r' r'' x q h = q ∙ h
effect_along (changed OneMore) r r' r'' x q h = q ∙ h
effect_along (changed OneLess) r r' r'' x q h = q ∙ h
effect_along (changed (Within w)) r r' r'' x q h = (omega arith, omega arith)
effect_along (changed (CopyOf y)) r r' r'' x q h = λ l. q ∙ h l
effect_along (changed Unknown) r r' r'' x q h = tt

-- FLAGS that an instruction leaves alone, whatever it names
pub flags_kept : (ns : FlagSet) (r r' : List ℕ) → at r' flags_cell ≡ at r flags_cell → FlagsAfter (flag_effect ns Changed) r r'
flags_kept ns r r' k = pick_has (λ (f : FlagEffect). FlagsAfter f r r') (eqb ns.0 0) Kept Changed (λ _. k) (λ _. tt)

-- FLAGS, left alone by the write, once the flags that an instruction names are set
pub flags_set : (ns : FlagSet) (r r' : List ℕ) (v : ℕ) → at r' flags_cell ≡ at r flags_cell
    → FlagsAfter (flag_effect ns Changed) r (with_flags r' ns v)
flags_set ns r r' v k =
    pick_has (λ (f : FlagEffect). FlagsAfter f r (with_flags r' ns v)) (eqb ns.0 0) Kept Changed
    (λ e. ap (λ (l : List ℕ). at l flags_cell) (flags_none r' ns v (eqb→eq ns.0 0 (of_true (eqb ns.0 0) e))) ∙ k) (λ _. tt)

module _ (C : Certificate) (a : ℕ) where
  -- rules 23 and 24 of an operand: its register is mapped, its pointer's reach lies in one table, and a rule holds of its places
  abbrev pub Allowed : (ℕ → Formula) → Operand → Type 0
  Allowed rule (Register x) = (mapped_of x.0 ≡ true) × Holds (rule x.0)
  Allowed rule (Indirect p o) = Holds (reach C a p.0 o rule)
  Allowed rule (Immediate n) = Unit {0}

  -- the rule of places that are written
  abbrev pub writable_place : ℕ → Formula
  writable_place x = mapped x & writable C (C.routine a) x

  pub may_read : (s : Operand) → Holds (direct_read (reading s)) → Holds (pointed_read C a (reading s)) → Allowed any_place s
  may_read (Register x) m t = (m, tt)
  may_read (Indirect p o) m t = t
  may_read (Immediate n) m t = tt

  pub may_write : (d : Operand) (v : NewValue) → Holds (direct_write C (C.routine a) (write_to d v)) → Holds (pointed_write C a (write_to d v))
      → Allowed writable_place d
  may_write (Register x) v m t = (m.0, m)
  may_write (Indirect p o) v m t = t
  may_write (Immediate n) v m t = tt

  -- an address x that pointer p with offset o reaches
  pub record Reached (p o x : ℕ) (rule : ℕ → Formula) : Type 0 where
    pub pointer : p < ram_end
    pub least : low C a p + o ≤ x
    pub greatest : x ≤ high C a p + o
    pub table : C.table x ≡ C.table (low C a p + o)
    pub some : C.table (low C a p + o) ≢ 0
    pub mapped : mapped_of x ≡ true
    pub meets : Holds (rule x)

  -- r' is r after the write w; registers of class 0 (FLAGS, SP, SYM, the stack) stay
  pub record Written (w : Write) (r r' : List ℕ) : Type 0 where
    pub registers : Registers r'
    pub cells : (x : ℕ) → x < ram_end → Effect (change_of C a w x) r r' x
    pub others : (x : ℕ) → C.class x ≡ 0 → at r' x ≡ at r x

  pub nothing_written : (r : List ℕ) → Registers r → Written Write.Nothing r r
  nothing_written r g = record { registers = g; cells = λ x h. refl; others = λ x h. refl }

module _ (C : Certificate) (image : List ℕ) (gl : Global C image) (a : ℕ) (e : EntryFacts C a) where
  -- a claimed cell is RAM
  pub claimed_ram : (p : ℕ) → Holds (claimed C a p) → p < ram_end
  unfolding claimed
  claimed_ram p h =
      ⊎_elim (λ (q : p ≡ C.first_cell a). ⊎_elim (λ k. omega arith) (λ k. absurd (h.0 (q ∙ k))) e.first_cell)
      (λ (q : p ≡ C.second_cell a). ⊎_elim (λ k. omega arith) (λ k. absurd (h.0 (q ∙ k))) e.second_cell) h.1

  module _ (r rec : List ℕ) (claims : Claims C a r) where
    -- a pointer's address lies in its claim's reach
    pub reached : (p o : ℕ) (rule : ℕ → Formula) → Holds (reach C a p o rule) → Reached C a p o (pointed_at r rec p o) rule
    unfolding reach
    reached p o rule h =
        let ram = claimed_ram p h.0 in
        let small : high C a p + o < 256 = h.1.0 in
        let range = claims p ram in
        let load : load_of r rec p ≡ at r p = load_ram r rec p ram in
        let least : low C a p + o ≤ pointed_at r rec p o = omega arith in
        let greatest : pointed_at r rec p o ≤ high C a p + o = omega arith in
        let there = h.1.1.1 (pointed_at r rec p o) (omega arith) (least, greatest) in
        record {
          pointer = ram;
          least = least;
          greatest = greatest;
          table = there.0;
          some = h.1.1.0;
          mapped = gl.table_mapped (pointed_at r rec p o) (omega arith) (λ q. h.1.1.0 (sym there.0 ∙ q));
          meets = there.1;
        }

    pub place_mapped : (rule : ℕ → Formula) (d : Operand) → HasPlace d → Allowed C a rule d → (place_of r rec d).ok ≡ true
    unfolding place_of
    place_mapped rule (Register x) s h = h.0
    place_mapped rule (Indirect p o) s h =
        let t = reached p.0 o rule h in
        rw (mapped_ram p.0 t.pointer) t.mapped
    place_mapped rule (Immediate n) s h = absurd s

    pub place_rule : (rule : ℕ → Formula) (d : Operand) → HasPlace d → Allowed C a rule d → Holds (rule (place_of r rec d).addr.0)
    unfolding place_of
    place_rule rule (Register x) s h = h.1
    place_rule rule (Indirect p o) s h = (reached p.0 o rule h).meets
    place_rule rule (Immediate n) s h = absurd s

    pub place_writable : (d : Operand) → HasPlace d → Allowed C a (writable_place C a) d → Writable C a (place_of r rec d).addr.0
    place_writable d s h = is_writable C a (place_of r rec d).addr.0 e (place_rule (writable_place C a) d s h).1

    pub fetch_mapped : (s : Operand) → Allowed C a any_place s → (fetch_of r rec s).ok ≡ true
    unfolding fetch_of fetch_place
    fetch_mapped (Register x) h = place_mapped any_place (Register x) tt h
    fetch_mapped (Indirect p o) h = place_mapped any_place (Indirect p o) tt h
    fetch_mapped (Immediate n) h = refl

    -- a pointer's address lies in the table of the instruction's summary
    in_table_lem : (rule : ℕ → Formula) (p : RegAddr) (o : ℕ) → Holds (reach C a p.0 o rule)
        → InTable C (C.table (low C a p.0 + o)) r rec (Indirect p o)
    unfolding place_of
    in_table_lem rule p o h = let z = reached p.0 o rule h in (z.table, z.some)

    pub in_read_table : (rule : ℕ → Formula) (s : Operand) (t : ℕ) → Allowed C a rule s → InTable C (read_table C a (reading s) t) r rec s
    in_read_table rule (Register x) t h = tt
    in_read_table rule (Indirect p o) t h = in_table_lem rule p o h
    in_read_table rule (Immediate n) t h = tt

    pub in_write_table : (rule : ℕ → Formula) (d : Operand) (v : NewValue) (t : ℕ) → Allowed C a rule d
        → InTable C (write_table C a (write_to d v) t) r rec d
    in_write_table rule (Register x) v t h = tt
    in_write_table rule (Indirect p o) v t h = in_table_lem rule p o h
    in_write_table rule (Immediate n) v t h = tt

  -- a register of class 0 is not writable
  pub not_writable : (x y : ℕ) → Writable C a x → C.class y ≡ 0 → y ≢ x
  not_writable x y w h q = let z : C.class y ≡ C.class x = ap C.class q in omega (arith, w.own)

  -- a store to a writable register, with its effect on RAM
  pub store_written : (r : List ℕ) (w : Write) (x v : ℕ) → Registers r → Writable C a x → v < 256
      → ((z : ℕ) → z < ram_end → Effect (change_of C a w z) r (store_of r x v) z) → Written C a w r (store_of r x v)
  store_written r w x v g wr hv h = record {
    registers = store_registers r x v g hv (λ q. not_writable x flags_cell wr gl.flags_class (sym q));
    cells = h;
    others = λ z c. store_other r x v z (not_writable x z wr c);
  }

  pub register_written : (r : List ℕ) (x : RegAddr) (n : NewValue) (v : ℕ) → Registers r → Writable C a x.0 → v < 256
      → Gives (Register x) n r v → Written C a (Write.Register x n) r (store_of r x.0 v)
  register_written r x n v g wr hv h =
      store_written r (Write.Register x n) x.0 v g wr hv (λ z l. go z l (eqb z x.0) refl)
    where
      go : (z : ℕ) → z < ram_end → (b : Bool) → eqb z x.0 ≡ b → Effect (pick b (changed n) unchanged) r (store_of r x.0 v) z
      go z l true q =
          let s : z ≡ x.0 = eqb→eq z x.0 (of_true (eqb z x.0) q) in
          let lx : x.0 < ram_end = omega arith in
          subst (λ (y : ℕ). Effect (changed n) r (store_of r x.0 v) y) (sym s)
          (h lx (store_of r x.0 v) (store_ram r x.0 v lx (let y = g.size in omega arith)))
      go z l false q = store_other r x.0 v z (λ s. subst T (sym (eqb_yes s) ∙ q) tt)

  -- after its write an instruction changes no RAM
  pub refines_beyond : (S : Summary) (r r' r'' : List ℕ) → Written C a S.write r r' → Registers r'' → ((x : ℕ) → x < ram_end → at r'' x ≡ at r' x)
      → at r'' sp_cell ≡ sp_after S.stack (at r sp_cell) → FlagsAfter S.flags r r''
      → interrupts_enabled r'' ≡ enabled_after S.control (interrupts_enabled r) → Refines C a S r r''
  refines_beyond S r r' r'' w g k p f i = record {
    registers = g;
    cells = λ x h c. effect_along (change_of C a S.write x) r r' r'' x (k x h) (w.cells x h);
    stack = λ x h l u. let t = gl.stack_top in k x (omega arith) ∙ w.others x (gl.stack_class x l u);
    pointer = p;
    flags = f;
    enabled = i;
  }

  -- after its write an instruction that keeps SP and the interrupt enable changes FLAGS at most
  pub refines_written : (S : Summary) (r r' r'' : List ℕ) → S.stack ≡ Same → S.control ≡ Control.Nothing → Written C a S.write r r' → Registers r''
      → ((x : ℕ) → x ≢ flags_cell → at r'' x ≡ at r' x) → FlagsAfter S.flags r r'' → Refines C a S r r''
  refines_written S r r' r'' hs hc w g k f =
      refines_beyond S r r' r'' w g (λ x h. k x (omega arith)) (rw hs (k sp_cell (omega arith) ∙ w.others sp_cell gl.sp_class)) f
      (rw hc (enabled_same r r'' (k sym_cell (omega arith) ∙ w.others sym_cell gl.sym_class)))

  pub refines_flags : (S : Summary) (r r' : List ℕ) (ns : FlagSet) (v : ℕ) → S.stack ≡ Same → S.control ≡ Control.Nothing → Written C a S.write r r'
      → FlagsAfter S.flags r (with_flags r' ns v) → Refines C a S r (with_flags r' ns v)
  refines_flags S r r' ns v hs hc w f =
      refines_written S r r' (with_flags r' ns v) hs hc w (flags_registers r' ns v w.registers) (flags_other r' ns v) f

  -- an action that goes on behind itself and meets no unmapped register
  pub does_onward : (S : Summary) (act : Action) (ns : FlagSet) (r rec r' : List ℕ) (next : RomAddr) (ok : Bool)
      → execute_of act ns image r rec next ≡ record { regs = r'; next = goes_on ok next } → ok ≡ true → Refines C a S r r'
      → PointersRight C image (table_of C a S) r rec act → Does C image a S act ns r rec next 0 0
  does_onward S act ns r rec r' next ok q m f p = record {
    goes = rw (q, m);
    mode = rw q tt;
    counter = rw (q, condition_never (at r flags_cell));
    refines = rw q f;
    pointers = p;
  }
