-- LDC, LDCI and LDCD do what their summaries say.
-- Assumes nothing.
use Rattle.std.specs.Prelude.{◌≡◌, ◌≢◌, Bool, true, false, ◌||◌, List, ℕ, ◌+◌, ◌-◌, ◌/◌, ◌%◌, ◌≤◌, ◌<◌, eqb, ltb, length}
use Rattle.std.proofs.Math.Path.{refl}
use Rattle.std.proofs.Common.{sym, subst, ◌∙◌, ap, inl, inr, ⊎_elim, eqb→eq}
use native.Mathlib.Omega.{arith}
use Rattle.std.proofs.Math.ListN.{get_or}
use Rattle.base.specs.declared.RegAddr.{RegAddr}
use Rattle.base.specs.declared.RomAddr.{RomAddr}
use Rattle.base.specs.Addresses.{flags_cell}
use Rattle.base.specs.Choice.{pick}
use Rattle.base.specs.ChoiceLaws.{pick_has}
use Rattle.base.specs.Formula.{Holds, eq, ◌‖◌, decide_false, ltb_yes, le?, of_true}
use Rattle.base.specs.Lengths.{largest_rom}
use Rattle.isa.specs.declared.FlagSet.{FlagSet}
use Rattle.chip.specs.Registers.{load_of, store_of}
use Rattle.chip.specs.Laws.{load_ram, store_other, store_ram}
use Rattle.alu.specs.Laws.{condition_never}
use Rattle.action.specs.declared.CodeAddress.{CodeAddress}
use Rattle.action.specs.declared.CodeAddress.TheVariants.{Direct, Short, Long}
use Rattle.action.specs.declared.Action.{Action}
use Rattle.semantics.specs.Operands.{word_at}
use Rattle.semantics.specs.Execute.{execute_of, code_address, load_code_of, stepped_pair, load_code_step_of}
use Rattle.certificate.specs.declared.Range.{Range}
use Rattle.certificate.specs.declared.NewValue.TheVariants.{Within, Unknown}
use Rattle.certificate.specs.declared.Write.{Write}
use Rattle.certificate.specs.declared.CodeAccess.{CodeAccess}
use Rattle.certificate.specs.Layout.{Certificate}
use Rattle.safety.specs.Rules.{ram_end, low, high, claimed, rule23, rule24, code_in_rom, Change}
use Rattle.safety.specs.Rules.Change.{unchanged, changed}
use Rattle.certificate.specs.declared.FlagEffect.TheVariants.{Changed}
use Rattle.certificate.specs.Summaries.{summary_of, flag_effect, code_access, reaching}
use Rattle.safety.specs.Invariant.{at, Registers, Refines, Before, Effect, Does, Shaped, SmallOffset}
use Rattle.safety.proofs.Facts.{Global, EntryFacts, Writable, is_writable}
use Rattle.safety.proofs.Memory.{Input, load_small, mapped_byte, store_registers}
use Rattle.safety.proofs.RefineOperands.{Written, claimed_ram, not_writable, register_written, refines_written, flags_kept}
use Rattle.safety.specs.CodeRange.{load_range}
use Rattle.safety.specs.CodeReach.{PairReaches, Reaches}
use Rattle.safety.proofs.CodeRangeLaws.{reached_in_rom, loaded_holds}
use Rattle.safety.proofs.Edge.{beyond_ram}
use Rattle.safety.specs.StepRules.{StepRules}

-- u stored at x, v at y, w at z
abbrev three : List ℕ → ℕ → ℕ → ℕ → ℕ → ℕ → ℕ → List ℕ
three r x y z u v w = store_of (store_of (store_of r x u) y v) z w

module _ (rom : ℕ) (C : Certificate) (image : List ℕ) (gl : Global C image) (fits : rom ≤ largest_rom) (size : length image ≡ rom)
    (bytes : (i : ℕ) → get_or image i 0 < 256) (a : ℕ) (e : EntryFacts C a) (r rec : List ℕ) (pre : Before C a r) (input : Input rec) (next : RomAddr) (ns : FlagSet) where
  -- the ranges that the claims at a give
  abbrev load : CodeAccess → Range
  load = load_range C image a

  -- a half of a pair lies in its range; the low half may stand behind RAM
  half_range : (q : ℕ) → q ≤ ram_end → (low C a q ≤ load_of r rec q) × (load_of r rec q ≤ high C a q)
  half_range q h =
      ⊎_elim
      (λ (g : ram_end ≤ q).
      let z = beyond_ram C a q e g (λ n. omega arith) in
      let b = load_small r rec pre.registers input q in
      (omega arith, omega arith))
      (λ (l : q < ram_end). let c = pre.claims q l in let v = load_ram r rec q l in (omega arith, omega arith)) (le? ram_end q)

  -- an address that is the word in a pair with its offset is one that the claims let the instruction reach
  pair_reaches : (p up down t : ℕ) → Holds (claimed C a p) → t + down ≡ word_at r rec p + up → PairReaches C a p up down t
  unfolding word_at
  pair_reaches p up down t h q =
      let l = claimed_ram C image gl a e p h in
      let k : (p + 1) % 256 ≡ p + 1 = omega arith in
      let x = half_range p (omega arith) in
      let y = half_range (p + 1) (omega arith) in
      record {
        upper = load_of r rec p;
        lower = load_of r rec (p + 1);
        upper_low = x.0;
        upper_high = x.1;
        lower_low = y.0;
        lower_high = y.1;
        is = q ∙ rw k refl;
      }

  -- where 24 holds it lies in ROM, so that the machine's modulo does nothing
  offset_reaches : (p : RegAddr) (up down : ℕ) → Holds (code_in_rom C rom a (CodeAccess.Pair p up down)) → (t : ℕ)
      → (down ≤ word_at r rec p.0 + up → word_at r rec p.0 + up < rom + down → t + down ≡ word_at r rec p.0 + up)
      → PairReaches C a p.0 up down t
  offset_reaches p up down h t q =
      let w = pair_reaches p.0 0 0 (word_at r rec p.0) h.0 refl in
      pair_reaches p.0 up down t h.0 (q (omega (arith, w)) (omega (arith, w)))

  short_reaches : (p : RegAddr) (x : ℕ) (b : Bool) → x < 256
      → Holds (code_in_rom C rom a (pick b (CodeAccess.Pair p x 0) (CodeAccess.Pair p 0 (256 - x))))
      → Reaches C a (pick b (CodeAccess.Pair p x 0) (CodeAccess.Pair p 0 (256 - x)))
      (pick b ((word_at r rec p.0 + x) % 65536) ((word_at r rec p.0 + (65280 + x)) % 65536))
  short_reaches p x true s h = offset_reaches p x 0 h _ (λ l u. omega arith)
  short_reaches p x false s h = offset_reaches p 0 (256 - x) h _ (λ l u. omega arith)

  code_reaches : (c : CodeAddress) → SmallOffset c → Holds (code_in_rom C rom a (code_access c)) → Reaches C a (code_access c) (code_address c r rec)
  unfolding code_address
  code_reaches (Direct t) s h = refl
  code_reaches (Short p x) s h = short_reaches p x (ltb x 128) s h
  code_reaches (Long p x) s h = offset_reaches p x 0 h _ (λ l u. omega arith)

  -- an address that is reached lies in the image
  in_rom_lem : (c : CodeAccess) → Holds (code_in_rom C rom a c) → (t : ℕ) → Reaches C a c t → t < length image
  in_rom_lem c h t k = omega (arith, reached_in_rom C rom a c h t k)

  -- an instruction of the group changes what it writes and nothing else
  refines_reaching : (w : Write) (c : CodeAccess) (r' : List ℕ) → Written C a w r r' → Refines C a (reaching w c (flag_effect ns Changed)) r r'
  refines_reaching w c r' m =
      refines_written C image gl a e (reaching w c (flag_effect ns Changed)) r r' r' refl refl m m.registers (λ x n. refl)
      (flags_kept ns r r' (m.others flags_cell gl.flags_class))

  pub does_load_code : (d : RegAddr) (c : CodeAddress) → Shaped ns (Action.LoadCode d c) → StepRules C rom a (summary_of load (Action.LoadCode d c) ns)
      → Does C image a (summary_of load (Action.LoadCode d c) ns) (Action.LoadCode d c) ns r rec next 0 0
  unfolding summary_of execute_of load_code_of rule23 rule24
  does_load_code d c s rules =
      let A = code_address c r rec in
      let h = rules.r24.1.1.1 in
      let k = code_reaches c s h in
      let hA = in_rom_lem (code_access c) h A k in
      let v = get_or image A 0 in
      let g = loaded_holds C rom image a size (code_access c) h A k in
      let w = is_writable C a d.0 e rules.r23.1.1.0.1 in
      record {
        goes = rw (ltb_yes hA);
        mode = tt;
        counter = rw (condition_never (at r flags_cell));
        refines =
            refines_reaching (Write.Register d (Within (load (code_access c)))) (code_access c) (store_of r d.0 v)
            (register_written C image gl a e r d (Within (load (code_access c))) v pre.registers w (bytes A) (λ l r' q. (omega arith, omega arith)));
        pointers = hA;
      }

  -- three stores to registers that the routine may write
  module _ (x y z u v w : ℕ) (wx : Writable C a x) (wy : Writable C a y) (wz : Writable C a z) where
    three_other : (k : ℕ) → k ≢ x → k ≢ y → k ≢ z → at (three r x y z u v w) k ≡ at r k
    three_other k nx ny nz =
        store_other (store_of (store_of r x u) y v) z w k nz ∙ store_other (store_of r x u) y v k ny ∙ store_other r x u k nx

    -- the first store is read back where the others do not cover it
    three_first : x < ram_end → x ≢ y → x ≢ z → at (three r x y z u v w) x ≡ u
    three_first hx ny nz =
        let s = pre.registers.size in
        store_other (store_of (store_of r x u) y v) z w x nz ∙ store_other (store_of r x u) y v x ny ∙ store_ram r x u hx (omega arith)

    three_cells : (q : Range) → q.least ≤ u → u ≤ q.greatest → (k : ℕ) → k < ram_end
        → Effect (pick (eqb k y || eqb k z) (changed Unknown) (pick (eqb k x) (changed (Within q)) unchanged)) r (three r x y z u v w) k
    three_cells q l h k hk =
        pick_has Leaves (eqb k y || eqb k z) (changed Unknown) _ (λ _. tt)
        (λ other.
        let n : Holds (eq k y ‖ eq k z) → ⊥ = decide_false (eq k y ‖ eq k z) refl other in
        pick_has Leaves (eqb k x) (changed (Within q)) unchanged
        (λ same.
        let i = eqb→eq k x (of_true (eqb k x) same) in
        let b : at (three r x y z u v w) k ≡ u
        = ap (at (three r x y z u v w)) i ∙ three_first (omega arith) (λ s. n (inl (i ∙ s))) (λ s. n (inr (i ∙ s))) in
        (omega arith, omega arith))
        (λ different. three_other k (decide_false (eq k x) refl different) (λ s. n (inl s)) (λ s. n (inr s))))
      where
        Leaves : Change → Type 0
        Leaves ch = Effect ch r (three r x y z u v w) k

    three_registers : u < 256 → v < 256 → w < 256 → Registers (three r x y z u v w)
    three_registers hu hv hw =
        let no : (k : ℕ) → Writable C a k → k ≢ flags_cell = λ k m q. not_writable C image gl a e k flags_cell m gl.flags_class (sym q) in
        store_registers (store_of (store_of r x u) y v) z w
        (store_registers (store_of r x u) y v (store_registers r x u pre.registers hu (no x wx)) hv (no y wy))
        hw (no z wz)

  -- a register and both halves of a pair are written
  pair_written : (d : RegAddr) (q : Range) (p : RegAddr) (u v w : ℕ) → Writable C a d.0 → Writable C a p.0 → Writable C a (p.0 + 1)
      → q.least ≤ u → u ≤ q.greatest → u < 256 → v < 256 → w < 256
      → Written C a (Write.RegisterAndPair d q p) r (three r d.0 p.0 (p.0 + 1) u v w)
  pair_written d q p u v w wd wp wq l h hu hv hw = record {
    registers = three_registers d.0 p.0 (p.0 + 1) u v w wd wp wq hu hv hw;
    cells = three_cells d.0 p.0 (p.0 + 1) u v w wd wp wq q l h;
    others = λ x h. three_other d.0 p.0 (p.0 + 1) u v w wd wp wq x
        (not_writable C image gl a e d.0 x wd h) (not_writable C image gl a e p.0 x wp h) (not_writable C image gl a e (p.0 + 1) x wq h);
  }

  pub does_load_code_step : (d p : RegAddr) (up : Bool) → Shaped ns (Action.LoadCodeStep d p up)
      → StepRules C rom a (summary_of load (Action.LoadCodeStep d p up) ns)
      → Does C image a (summary_of load (Action.LoadCodeStep d p up) ns) (Action.LoadCodeStep d p up) ns r rec next 0 0
  unfolding summary_of execute_of load_code_step_of stepped_pair rule23 rule24
  does_load_code_step d p up s rules =
      let m = rules.r23.1.1.0 in
      let h = rules.r24.1.1.1 in
      let c = CodeAccess.Pair p 0 0 in
      let A = word_at r rec p.0 in
      let k = pair_reaches p.0 0 0 A h.0 refl in
      let hA = in_rom_lem c h A k in
      let v = get_or image A 0 in
      let g = loaded_holds C rom image a size c h A k in
      let w = (word_at (store_of r d.0 v) rec p.0 + pick up 1 65535) % 65536 in
      let hp = mapped_byte (p.0 + 1) m.1.1.1.1.0 in
      let next_cell : p.0 + 1 ≡ (p.0 + 1) % 256 = omega arith in
      let after : Written C a (Write.RegisterAndPair d (load c) p) r (three r d.0 p.0 (p.0 + 1) v (w / 256) (w % 256))
      = pair_written d (load c) p v (w / 256) (w % 256) (is_writable C a d.0 e m.1.0) (is_writable C a p.0 e m.1.1.1.0)
      (is_writable C a (p.0 + 1) e m.1.1.1.1.1) g.0 g.1 (bytes A) (omega arith) (omega arith) in
      record {
        goes = rw (ltb_yes hA);
        mode = tt;
        counter = rw (condition_never (at r flags_cell));
        refines =
            refines_reaching (Write.RegisterAndPair d (load c) p) c (three r d.0 p.0 ((p.0 + 1) % 256) v (w / 256) (w % 256))
            (subst (λ (q : ℕ). Written C a (Write.RegisterAndPair d (load c) p) r (three r d.0 p.0 q v (w / 256) (w % 256))) next_cell after);
        pointers = hA;
      }
