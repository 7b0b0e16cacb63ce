-- A flag that an instruction does not name is the same after its step, unless the instruction stores into FLAGS itself. IRET names all four, so its load
-- of FLAGS is a store.
-- Assumes nothing.
use Rattle.std.specs.Prelude.{ℕ, ◌+◌, ◌%◌, ◌≤◌, ◌<◌, ◌≡◌, ◌≢◌, Bool, ◌&&◌, ◌||◌, T, length, set}
use Rattle.std.proofs.Math.Path.{refl, ap}
use Rattle.std.proofs.Common.{sym, subst, ◌∙◌, ⊎_elim, arith, get_or-set_same, get_or-set_other}
use Rattle.std.proofs.Math.Bool.{true, false}
use mathlib.Core.List.{List, [], ◌∷◌}
use Rattle.std.proofs.Math.Dec.{eqb}
use Rattle.std.proofs.Math.ListN.{get_or}
use Rattle.std.proofs.Math.Seq.{set_out}
use Rattle.base.specs.declared.RegAddr.{RegAddr}
use Rattle.base.specs.declared.RomAddr.{RomAddr}
use Rattle.base.specs.Addresses.{rom_addr, flags_cell, sp_cell}
use Rattle.base.specs.Choice.{pick}
use Rattle.base.specs.ChoiceLaws.{pick_has}
use Rattle.base.specs.Cells.{Bytes}
use Rattle.base.specs.Lengths.{record_length}
use Rattle.base.specs.Formula.{le?, eqb_yes}
use Rattle.base.specs.Outcome.Outcome.{value}
use Rattle.isa.specs.declared.Flag.{Flag}
use Rattle.isa.specs.declared.FlagSet.{FlagSet}
use Rattle.isa.specs.declared.Implied.{Implied}
use Rattle.isa.specs.declared.Instruction.{Instruction}
use Rattle.isa.specs.Flags.{flag_in, all_flags}
use Rattle.decode.specs.Decode.{decode_at}
use Rattle.chip.specs.Registers.{among, kept_bits, inputs_of, load_of, written_of, kept_of, store_of}
use Rattle.chip.specs.Laws.{store_other}
use Rattle.chip.specs.Interrupts.{set_interrupts_of}
use Rattle.chip.specs.InterruptLaws.{set_interrupts_other, post_other}
use Rattle.alu.specs.Flags.{carry, flags_byte, updated, update}
use Rattle.alu.specs.Operations.{operate, modify, stores}
use Rattle.alu.specs.Laws.{update_flag, update_whole}
use Rattle.action.specs.declared.Action.{Action}
use Rattle.action.specs.Action.{action_of}
use Rattle.semantics.specs.Operands.{place_of, fetch_of, word_at, with_flags, sp_of, lowered, raised, store_top, push_of, push_address}
use Rattle.semantics.specs.Execute.{Executed, store_if, code_address, stepped_pair, carry_changed, execute_of}
use Rattle.semantics.specs.Opened.{actions_opened}
use Rattle.semantics.specs.declared.Mode.{Mode}
use Rattle.semantics.specs.declared.Mode.TheVariants.{Running, Idle, Stopped}
use Rattle.semantics.specs.declared.State.{State}
use Rattle.semantics.specs.Left.{Stepped}
use Rattle.semantics.specs.Setup.{Setup}
use Rattle.semantics.specs.Step.{Acted, requested, entry_due, behind, finish_of, after_decode, instruction_act, waiting_act, mode_act, act_after_requests, acted_of, settled}
use Rattle.semantics.specs.Step.{valid_machine, step_of}
use Rattle.safety.specs.Invariant.{Shaped}
use Rattle.safety.proofs.DecodedShape.{decoded_shaped}
use Rattle.flag_names.specs.Stores.{flags_in, pushed_to, stored_to, stores_flags}

-- FLAGS is none of these registers
among_head : (x : ℕ) (xs : List ℕ) → among flags_cell (x ∷ xs) ≡ false → flags_cell ≢ x
among_head x xs h e = subst T (sym (ap (λ (b : Bool). b || among flags_cell xs) (eqb_yes e)) ∙ h) tt

among_tail : (x : ℕ) (xs : List ℕ) → among flags_cell (x ∷ xs) ≡ false → among flags_cell xs ≡ false
among_tail x xs h = go (eqb flags_cell x) h
  where
    go : (b : Bool) → (b || among flags_cell xs) ≡ false → among flags_cell xs ≡ false
    go true e = absurd (subst T e tt)
    go false e = e

sp_kept : (r : List ℕ) (v : ℕ) → flags_in (set r sp_cell v) ≡ flags_in r
sp_kept r v = get_or-set_other r sp_cell flags_cell v 0 (omega arith)

raised_kept : (r : List ℕ) (k : ℕ) → flags_in (raised r k) ≡ flags_in r
unfolding raised
raised_kept r k = sp_kept r _

push_kept : (r : List ℕ) (v : ℕ) → flags_cell ≢ sp_of (lowered r) → flags_in (push_of r v).regs ≡ flags_in r
unfolding push_of store_top lowered
push_kept r v n = store_other _ _ v flags_cell n ∙ sp_kept r _

address_kept : (r : List ℕ) (a : RomAddr) → flags_cell ≢ sp_of (lowered r) → flags_cell ≢ sp_of (lowered (push_of r (a.0 % 256)).regs)
    → flags_in (push_address r a).regs ≡ flags_in r
unfolding push_address
address_kept r a n m = push_kept (push_of r (a.0 % 256)).regs _ m ∙ push_kept r _ n

-- a flag that is not named stays where the named ones are set
set_kept : (g : Flag) (r : List ℕ) (n : FlagSet) (x : ℕ) → flag_in g n.0 ≡ false → flag_in g (flags_in (with_flags r n x)) ≡ flag_in g (flags_in r)
unfolding with_flags updated
set_kept g r n x u =
    pick_has (λ (l : List ℕ). flag_in g (flags_in l) ≡ flag_in g (flags_in r)) (eqb n.0 0) _ _ (λ _. refl)
    (λ _.
    ⊎_elim
    (λ (h : length r ≤ flags_cell). ap (λ (l : List ℕ). flag_in g (flags_in l)) (set_out r flags_cell (update (flags_in r) n x) h))
    (λ (h : flags_cell < length r).
    ap (flag_in g) (get_or-set_same r flags_cell (update (flags_in r) n x) 0 h) ∙ (update_flag g (flags_in r) n x ∙ rw u))
    (le? (length r) flags_cell))

module _ (g : Flag) (n : FlagSet) (u : flag_in g n.0 ≡ false) (image regs rec : List ℕ) (next : RomAddr) where
  -- the flag is the same in these registers
  abbrev Same : List ℕ → Type 0
  Same r = flag_in g (flags_in r) ≡ flag_in g (flags_in regs)

  kept : (r : List ℕ) → flags_in r ≡ flags_in regs → Same r
  kept r e = ap (flag_in g) e

  stored : (b : Bool) (a : RegAddr) (v : ℕ) → among flags_cell (pick b (a.0 ∷ []) []) ≡ false → flags_in (store_if regs b a v) ≡ flags_in regs
  unfolding store_if
  stored true a v h = store_other regs a.0 v flags_cell (among_head a.0 [] h)
  stored false a v h = refl

  stepped_kept : (r : List ℕ) (p : ℕ) (up : Bool) → among flags_cell (p ∷ (p + 1) % 256 ∷ []) ≡ false → flags_in (stepped_pair r rec p up) ≡ flags_in r
  unfolding stepped_pair
  stepped_kept r p up k =
      let second = (p + 1) % 256 in
      store_other _ second _ flags_cell (among_head second [] (among_tail p (second ∷ []) k)) ∙ store_other r p _ flags_cell (among_head p (second ∷ []) k)

  kept_at : (a v : ℕ) → among flags_cell (a ∷ []) ≡ false → Same (store_of regs a v)
  kept_at a v h = kept (store_of regs a v) (store_other regs a v flags_cell (among_head a [] h))

  -- CALL pushes twice
  call_kept : among flags_cell (pushed_to regs next) ≡ false → flags_in (push_address regs next).regs ≡ flags_in regs
  call_kept h =
      let first = sp_of (lowered regs) in
      let second = sp_of (lowered (push_of regs (next.0 % 256)).regs) in
      address_kept regs next (among_head first (second ∷ []) h) (among_head second [] (among_tail first (second ∷ []) h))

  executed_kept : (act : Action) → stores_flags act regs rec next ≡ false → Same (execute_of act n image regs rec next).regs
  unfolding stores_flags stored_to actions_opened push_of
  executed_kept (Action.Binary op d s) h =
      let p = place_of regs rec d in
      let o = operate op (load_of regs rec p.addr.0) (fetch_of regs rec s).value (carry (flags_in regs)) in
      let r = store_if regs (stores op) p.addr o.value in
      set_kept g r n o.flags u ∙ kept r (stored (stores op) p.addr o.value h)
  executed_kept (Action.Modify op d) h =
      let p = place_of regs rec d in
      let o = modify op (load_of regs rec p.addr.0) (carry (flags_in regs)) in
      set_kept g (store_of regs p.addr.0 o.value) n o.flags u ∙ kept_at p.addr.0 o.value h
  executed_kept (Action.Load d s) h = kept_at (place_of regs rec d).addr.0 (fetch_of regs rec s).value h
  executed_kept (Action.Push s) h =
      let v = (fetch_of (lowered regs) rec s).value in
      kept (push_of regs v).regs (push_kept regs v (among_head (sp_of (lowered regs)) [] h))
  executed_kept (Action.Pop d) h =
      let a = (place_of regs rec d).addr.0 in
      let r = store_of regs a (load_of regs rec (sp_of regs)) in
      ap (flag_in g) (raised_kept r 1) ∙ kept_at a (load_of regs rec (sp_of regs)) h
  executed_kept (Action.LoadCode d c) h = kept_at d.0 (get_or image (code_address c regs rec) 0) h
  executed_kept (Action.LoadCodeStep d p up) h =
      let pair = p.0 ∷ (p.0 + 1) % 256 ∷ [] in
      let v = get_or image (word_at regs rec p.0) 0 in
      let r = store_of regs d.0 v in
      kept (stepped_pair r rec p.0 up)
      (stepped_kept r p.0 up (among_tail d.0 pair h) ∙ store_other regs d.0 v flags_cell (among_head d.0 pair h))
  executed_kept Action.External h = refl
  executed_kept (Action.Jump cc to) h = refl
  executed_kept (Action.JumpPair p) h = refl
  executed_kept (Action.Call to) h = kept (push_address regs next).regs (call_kept h)
  executed_kept (Action.CallPair p) h = kept (push_address regs next).regs (call_kept h)
  executed_kept Action.Return h = kept (raised regs 2) (raised_kept regs 2)
  executed_kept Action.InterruptReturn h =
      let w = with_flags regs n (load_of regs rec (sp_of regs)) in
      ap (flag_in g) (set_interrupts_other (raised (raised w 1) 2) true flags_cell (omega arith) ∙ (raised_kept (raised w 1) 2 ∙ raised_kept w 1))
      ∙ set_kept g regs n (load_of regs rec (sp_of regs)) u
  executed_kept (Action.Carry c) h = set_kept g regs n (flags_byte (carry_changed c (carry (flags_in regs))) false false false) u
  executed_kept (Action.Interrupts on) h = kept (set_interrupts_of regs on) (set_interrupts_other regs on flags_cell (omega arith))
  executed_kept Action.Idle h = refl
  executed_kept Action.Stop h = refl
  executed_kept Action.Nop h = refl

-- Of a step --

-- the registers after the requests have FLAGS as before
requested_kept : (s : State) (rec : List ℕ) → flags_in (requested s rec) ≡ flags_in s.regs
requested_kept s rec = post_other s.regs _ flags_cell (omega arith) (omega arith) (omega arith) (omega arith)

module _ (K : Setup) (image : List ℕ) (s : State) (rec : List ℕ) (d : Instruction × ℕ × FlagSet) (found : decode_at image s.pc.0 ≡ value d)
    (g : Flag) where
  -- the instruction at the program counter, and the address behind it
  abbrev next_here : RomAddr
  next_here = behind s.pc d.1

  abbrev action_here : Action
  action_here = action_of d.0 next_here

  abbrev inputs_here : List ℕ
  inputs_here = inputs_of K.part.grounds rec

  -- the flag is the same in this state
  abbrev SameIn : State → Type 0
  SameIn s' = flag_in g (flags_in s'.regs) ≡ flag_in g (flags_in s.regs)

  waiting_same : SameIn (waiting_act s (requested s rec) 0).state
  waiting_same = ap (flag_in g) (requested_kept s rec)

  module _ (unnamed : flag_in g d.2.0 ≡ false) (elsewhere : stores_flags action_here (requested s rec) inputs_here next_here ≡ false) where
    finished_same : (e : Executed) (cost : ℕ) → flag_in g (flags_in e.regs) ≡ flag_in g (flags_in s.regs) → SameIn (finish_of s e true cost).state
    unfolding finish_of
    finished_same e cost h = pick_has (λ (a : Acted). SameIn a.state) (eqb e.next.stop 0) _ _ (λ _. h) (λ _. refl)

    decoded_same : SameIn (instruction_act image s (requested s rec) inputs_here).state
    unfolding instruction_act after_decode
    decoded_same =
        rw found
        (finished_same _ _
        (executed_kept g d.2 unnamed image (requested s rec) inputs_here next_here action_here elsewhere ∙ ap (flag_in g) (requested_kept s rec)))

    mode_same : (m : Mode) → SameIn (mode_act m image s (requested s rec) inputs_here).state
    unfolding mode_act
    mode_same Running = decoded_same
    mode_same Idle = waiting_same
    mode_same Stopped = waiting_same

    act_same : entry_due (requested s rec) s.mode ≡ false → SameIn (acted_of K image s rec).state
    unfolding acted_of act_after_requests
    act_same e = rw e (mode_same s.mode)

    -- a flag that is not named is the same after the step, unless the step is an interrupt entry or the instruction stores into FLAGS
    pub unnamed_kept : entry_due (requested s rec) s.mode ≡ false → SameIn (step_of K image s rec).state
    unfolding step_of settled
    unnamed_kept e =
        pick_has (λ (r : Stepped). SameIn r.state) (valid_machine K image && eqb (length rec) record_length) _ _ (λ _. act_same e) (λ _. refl)

-- IRET names all four flags
pub iret_named : (s : List ℕ) → Bytes s → (at : ℕ) (d : Instruction × ℕ × FlagSet) → decode_at s at ≡ value d → d.0 ≡ Instruction.Implied Implied.Iret
    → d.2 ≡ all_flags
unfolding action_of
iret_named s bytes at d found e =
    subst (λ (i : Instruction). Shaped d.2 (action_of i (rom_addr 0))) e (decoded_shaped s bytes at d found (rom_addr 0))

-- so its load of FLAGS through the names is the store that its page has (FLAGS ← @SP)
pub iret_loads : (regs : List ℕ) (x : ℕ) → x < 256 → with_flags regs all_flags x ≡ store_of regs flags_cell x
unfolding with_flags store_of kept_of written_of kept_bits
iret_loads regs x h = ap (set regs flags_cell) (update_whole (flags_in regs) x h)
