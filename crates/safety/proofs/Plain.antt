-- The invariant over requests, and over an instruction that stays in its routine, from its summary alone.
-- Assumes nothing.
use Rattle.std.specs.Prelude.{◌≡◌, refl, ◌≢◌, Bool, true, false, List, T}
use Rattle.std.proofs.Common.{sym, subst, ◌∙◌, inl, ⊎_elim, arith}
use Rattle.std.proofs.Math.Path.{ap}
use Prim.Native.Nat.{ℕ, ◌+◌, ◌≤◌, ◌<◌}
use Rattle.base.specs.declared.RomAddr.{RomAddr}
use Rattle.base.specs.Addresses.{flags_cell, sp_cell}
use Rattle.base.specs.Choice.{pick}
use Rattle.base.specs.Formula.{Formula, Holds, eqb_yes}
use Rattle.base.specs.Lengths.{largest_rom}
use Rattle.chip.specs.Interrupts.{interrupts_enabled, post_of}
use Rattle.chip.specs.InterruptLaws.{post_length, post_other, post_bytes, post_enabled}
use Rattle.alu.specs.Flags.{condition}
use Rattle.alu.specs.Operations.{compare_flags}
use Rattle.alu.specs.Laws.{condition_never, condition_always}
use Rattle.certificate.specs.declared.StackEffect.{StackEffect}
use Rattle.certificate.specs.declared.StackEffect.TheVariants.{Same, Push, Pop, Load}
use Rattle.certificate.specs.declared.Control.{Control}
use Rattle.certificate.specs.declared.Control.TheVariants.{Enable, Disable, Wait}
use Rattle.certificate.specs.declared.Flow.{Flow}
use Rattle.certificate.specs.declared.Flow.TheVariants.{Step}
use Rattle.certificate.specs.declared.Summary.{Summary}
use Rattle.certificate.specs.Layout.{Certificate}
use Rattle.safety.specs.Rules.{no_cell, ram_end, unloaded, Edge, bound_at, control_allowed, enable_rule, stack_load, stack_rule, depth_after}
use Rattle.safety.specs.Rules.{edges, successor, change_of, edge26, edge27, rule21, rule22, rule23, rule24, rule25, rule26, rule27}
use Rattle.safety.specs.Verdicts.{summary_at, next_at, cost_at}
use Rattle.safety.specs.Statement.{Frame, spends, outward}
use Rattle.safety.specs.Invariant.{at, Registers, Claims, first_now, reserve, Chain, Stack, Invariant, Refines, Before, sp_after, enabled_after}
use Rattle.safety.specs.Accepted.{RulesHold}
use Rattle.safety.proofs.Facts.{Global, EntryFacts}
use Rattle.safety.proofs.Chain.{Keeps, chain_room, chain_top, chain_cost, chain_keep}
use Rattle.safety.proofs.Coherent.{Coherent, reads_copies}
use Rattle.safety.proofs.Transfers.{loaded_after}
use Rattle.safety.proofs.Edge.{CertificateFacts, taken, free_range, first_in, first_out, feasible_now, claims_follow_lem, compare_follows_lem, cost_follows, kept_effect, kept_cell}

-- Rules 21 to 27 for a summary at an address, the address behind it and its cost --

pub record RulesOf (C : Certificate) (rom a : ℕ) (S : Summary) (next cost : ℕ) : Type 0 where
  pub r21 : Holds (rule21 C rom a S next)
  pub r22 : Holds (rule22 C a S)
  pub r23 : Holds (rule23 C a S)
  pub r24 : Holds (rule24 C rom a S)
  pub r25 : Holds (rule25 C a S next)
  pub r26 : Holds (rule26 C a S next)
  pub r27 : Holds (rule27 C a S cost next)

pub rules_of : (rom : ℕ) (C : Certificate) (image : List ℕ) (a : ℕ) → RulesHold rom C image a
    → RulesOf C rom a (summary_at C image a) (next_at image a) (cost_at image a)
rules_of rom C image a h =
    record { r21 = h.r21; r22 = h.r22; r23 = h.r23; r24 = h.r24; r25 = h.r25; r26 = h.r26; r27 = h.r27 }

-- The edge that is taken --

pub edge_taken : (n : ℕ) (to : RomAddr) (next f : ℕ) (rule : Edge → Formula) → Holds (edges (Step n to) next rule)
    → Holds (rule (record { condition = n; outcome = condition n f; to = pick (condition n f) to.0 next }))
edge_taken n to next f rule m = go (condition n f) refl
  where
    clash : true ≡ false → ⊥
    clash e = subst T e tt

    go : (b : Bool) → condition n f ≡ b → Holds (rule (record { condition = n; outcome = b; to = pick b to.0 next }))
    go true e = m.1 (λ q. clash (sym e ∙ ap (λ (k : ℕ). condition k f) q ∙ condition_never f))
    go false e = m.0 (λ q. clash (sym (condition_always f) ∙ ap (λ (k : ℕ). condition k f) (sym q) ∙ e))

-- the same, of a flow that is known to be a step
pub edge_of : (flow : Flow) (n : ℕ) (to : RomAddr) → flow ≡ Step n to → (next : ℕ) (r : List ℕ) (rule : Edge → Formula)
    → Holds (edges flow next rule) → Holds (rule (taken n r (pick (condition n (at r flags_cell)) to.0 next)))
edge_of flow n to e next r rule m =
    edge_taken n to next (at r flags_cell) rule (subst (λ (k : Flow). Holds (edges k next rule)) e m)

-- claims stay where the cells of the routine's own class stay
pub claims_kept : (C : Certificate) (t : ℕ) (r r' : List ℕ) → EntryFacts C t → Registers r'
    → ((x : ℕ) → x < ram_end → C.class x ≡ C.side (C.routine t) → at r' x ≡ at r x) → Claims C t r → Claims C t r'
claims_kept C t r r' e regs s cl x hx =
    ⊎_elim
    (⊎_elim (λ (q : x ≡ C.first_cell t). rw (s x hx (ap C.class q ∙ e.first_class (omega arith))) (cl x hx))
    (λ (q : x ≡ C.second_cell t). rw (s x hx (ap C.class q ∙ e.second_class (omega arith))) (cl x hx)))
    (λ z. (omega arith, omega (arith, regs.bytes x))) (free_range C t x)

pub first_kept : (C : Certificate) (t : ℕ) (r r' : List ℕ) → EntryFacts C t
    → ((x : ℕ) → x < ram_end → C.class x ≡ C.side (C.routine t) → at r' x ≡ at r x) → first_now C t r' ≡ first_now C t r
first_kept C t r r' e s =
    ⊎_elim (λ (h : C.first_cell t < ram_end). first_in C t r' h ∙ s (C.first_cell t) h (e.first_class h) ∙ sym (first_in C t r h))
    (λ (h : C.first_cell t ≡ no_cell). first_out C t r' h ∙ sym (first_out C t r h)) e.first_cell

pub reserve_main : (C : Certificate) (s : ℕ) → s ≡ 1 → reserve C s ≡ 3 + C.need 2
unfolding reserve
reserve_main C s q = rw (eqb_yes q) refl

-- what an instruction may rely on
pub before_of : (C : Certificate) (ld : Bool) (r : List ℕ) (a : ℕ) (f : Frame) (fs : List Frame) → Invariant C ld r a f fs → Before C a r
before_of C true r a f fs v =
    let l = v.stack in
    let b = at r sp_cell + C.depth a in
    let h = chain_top C r b f fs l.chain in
    let k = chain_room C r b f fs l.chain in
    let n : C.need (C.routine a) ≡ C.need f.routine = ap C.need v.home in
    record { registers = v.registers; claims = v.claims; lowest = λ d. omega arith; highest = λ d. omega arith }
before_of C false r a f fs v =
    let l = v.stack.unloaded in
    record { registers = v.registers; claims = v.claims; lowest = λ d. absurd (omega arith); highest = λ d. absurd (omega arith) }

-- RAM, FLAGS, SP and the interrupt enable as they were
pub record Untouched (r r' : List ℕ) : Type 0 where
  pub registers : Registers r'
  pub cells : (x : ℕ) → x < ram_end → at r' x ≡ at r x
  pub flags : at r' flags_cell ≡ at r flags_cell
  pub pointer : at r' sp_cell ≡ at r sp_cell
  pub enabled : interrupts_enabled r' ≡ interrupts_enabled r

-- requests change only D2H, F3H, E8H and F7H
post_untouched : (r : List ℕ) (b : ℕ) → Registers r → Untouched r (post_of r b)
post_untouched r b g =
    let other : (x : ℕ) → x ≢ 0xD2 → x ≢ 0xF3 → x ≢ 0xE8 → x ≢ 0xF7 → at (post_of r b) x ≡ at r x = post_other r b in
    let flags : at (post_of r b) flags_cell ≡ at r flags_cell = other flags_cell (omega arith) (omega arith) (omega arith) (omega arith) in
    record {
      registers = record {
        size = post_length r b ∙ g.size;
        bytes = post_bytes r b g.bytes;
        flags = rw flags g.flags;
      };
      cells = λ x h. other x (omega arith) (omega arith) (omega arith) (omega arith);
      flags = flags;
      pointer = other sp_cell (omega arith) (omega arith) (omega arith) (omega arith);
      enabled = post_enabled r b;
    }

module _ (C : Certificate) (image : List ℕ) (global : Global C image) where
  pub entry_of_lem : (ld : Bool) (r : List ℕ) (a : ℕ) (f : Frame) (fs : List Frame) → Invariant C ld r a f fs → EntryFacts C a
  entry_of_lem ld r a f fs v = global.entry a v.in_entries v.used

  -- the chain of the innermost routine, after a step that keeps what it must
  pub chain_step : (c : ℕ) (r r' : List ℕ) (a : ℕ) (f : Frame) (fs : List Frame) → EntryFacts C a → C.routine a ≡ f.routine
      → Keeps C (C.side (C.routine a)) (C.routine a) (at r sp_cell + C.depth a) r r' → Chain C r (at r sp_cell + C.depth a) f fs
      → Chain C r' (at r sp_cell + C.depth a) (spends c f) (outward c fs f.opener)
  chain_step c r r' a f fs e h k ch =
      chain_cost C c r' _ f fs
      (chain_keep C image global (C.side (C.routine a)) (C.routine a) _ r r' k e.side_low e.side_high _ f fs (omega arith)
      (inl (ap C.side (sym h), omega arith)) ch)

  stack_untouched : (ld : Bool) (r r' : List ℕ) (a : ℕ) (f : Frame) (fs : List Frame) → EntryFacts C a → C.routine a ≡ f.routine
      → Untouched r r' → Stack C ld r a f fs → Stack C ld r' a f fs
  stack_untouched false r r' a f fs e h u k = k
  stack_untouched true r r' a f fs e h u k = record {
    loaded = k.loaded;
    room = k.room;
    chain =
        let kp : Keeps C (C.side (C.routine a)) (C.routine a) (at r sp_cell + C.depth a) r r'
        = record { stack = λ x h1 h2 h3. u.cells x (omega (arith, global.stack_top)); cells = λ x h1 h2 h3 h4. u.cells x h1 } in
        rw u.pointer
        (chain_keep C image global (C.side (C.routine a)) (C.routine a) _ r r' kp e.side_low e.side_high _ f fs (omega arith)
        (inl (ap C.side (sym h), omega arith)) k.chain);
  }

  pub inv_untouched : (ld : Bool) (r r' : List ℕ) (a : ℕ) (f : Frame) (fs : List Frame) → Untouched r r' → Invariant C ld r a f fs
      → Invariant C ld r' a f fs
  inv_untouched ld r r' a f fs u v =
      let e = entry_of_lem ld r a f fs v in
      let s : (x : ℕ) → x < ram_end → C.class x ≡ C.side (C.routine a) → at r' x ≡ at r x = λ x h c. u.cells x h in
      record {
        in_entries = v.in_entries;
        home = v.home;
        used = v.used;
        registers = u.registers;
        claims = claims_kept C a r r' e u.registers s v.claims;
        compare = λ h. u.flags ∙ v.compare h ∙ sym (ap (λ (n : ℕ). compare_flags n (C.compare_number a)) (u.cells (C.compare_cell a) h));
        enabled = λ h. v.enabled (sym u.enabled ∙ h);
        cost = λ n. let z = v.cost n in let y = ap (bound_at C a) (first_kept C a r r' e s) in omega arith;
        stack = stack_untouched ld r r' a f fs e v.home u v.stack;
      }

  pub inv_request : (ld : Bool) (r : List ℕ) (b a : ℕ) (f : Frame) (fs : List Frame) → Invariant C ld r a f fs → Invariant C ld (post_of r b) a f fs
  inv_request ld r b a f fs v = inv_untouched ld r (post_of r b) a f fs (post_untouched r b v.registers) v

  -- An instruction that stays in its routine --

  stack_step : (ld : Bool) (k : StackEffect) (c : ℕ) (r r' : List ℕ) (a t : ℕ) (f : Frame) (fs : List Frame) → EntryFacts C a
      → C.routine a ≡ f.routine → Keeps C (C.side (C.routine a)) (C.routine a) (at r sp_cell + C.depth a) r r'
      → Before C a r → Holds (stack_load (C.depth a) C.top k) → Holds (stack_rule (C.depth a) (C.need (C.routine a)) k) → C.routine t ≡ C.routine a
      → C.depth t ≡ depth_after k (C.depth a) → at r' sp_cell ≡ sp_after k (at r sp_cell) → Stack C ld r a f fs
      → Stack C (loaded_after k ld) r' t (spends c f) (outward c fs f.opener)
  stack_step true k c r r' a t f fs e h kp pre ml m ht hd hs l = go k ml m hd hs
    where
      ch : Chain C r' (at r sp_cell + C.depth a) (spends c f) (outward c fs f.opener)
      ch = chain_step c r r' a f fs e h kp l.chain

      nd : C.need (C.routine t) ≡ C.need (C.routine a)
      nd = ap C.need ht

      mv : {b : ℕ} → b ≡ at r sp_cell + C.depth a → Chain C r' b (spends c f) (outward c fs f.opener)
      mv q = rw q ch

      hi : at r sp_cell + C.depth a ≤ 0xC0
      hi = let z = pre.highest l.loaded in omega (arith, global.stack_top)

      lo : C.floor + C.need (C.routine a) ≤ at r sp_cell + C.depth a
      lo = pre.lowest l.loaded

      go : (k : StackEffect) → Holds (stack_load (C.depth a) C.top k) → Holds (stack_rule (C.depth a) (C.need (C.routine a)) k) → C.depth t ≡ depth_after k (C.depth a)
          → at r' sp_cell ≡ sp_after k (at r sp_cell) → Stack C (loaded_after k true) r' t (spends c f) (outward c fs f.opener)
      go Same ml m hd hs = record { loaded = omega (arith, hi, l.loaded); room = omega (arith, nd, l.room); chain = mv (omega (arith, lo)) }
      go Push ml m hd hs = record { loaded = omega (arith, hi, l.loaded); room = omega (arith, nd, l.room); chain = mv (omega (arith, lo)) }
      go Pop ml m hd hs = record { loaded = omega (arith, hi, l.loaded); room = omega (arith, nd, l.room); chain = mv (omega (arith, lo)) }
      go (Load n) ml m hd hs = let d = l.loaded in absurd (omega arith)
  stack_step false Same c r r' a t f fs e h kp pre ml m ht hd hs l =
      record { unloaded = hd ∙ l.unloaded; main = l.main; reset = l.reset; alone = rw l.alone refl }
  stack_step false Push c r r' a t f fs e h kp pre ml m ht hd hs l = absurd (m.0 l.unloaded)
  stack_step false Pop c r r' a t f fs e h kp pre ml m ht hd hs l = absurd (m.0 l.unloaded)
  stack_step false (Load n) c r r' a t f fs e h kp pre ml m ht hd hs l = record {
    loaded = omega arith;
    room = omega arith;
    chain =
        let z : C.side f.routine ≡ 1 = ap C.side l.main ∙ global.main_side in
        let w = reserve_main C (C.side f.routine) z in
        let n : C.need f.routine ≡ C.need 1 = ap C.need l.main in
        rw l.alone (l.reset, l.main, omega arith, omega (arith, global.room));
  }

  -- where depth is not 255, SP is loaded
  stack_loaded : (ld : Bool) (r : List ℕ) (a : ℕ) (f : Frame) (fs : List Frame) → Stack C ld r a f fs → C.depth a ≢ unloaded → ld ≡ true
  stack_loaded true r a f fs s h = refl
  stack_loaded false r a f fs s h = absurd (h s.unloaded)

  enabled_step : (k : StackEffect) (m : Control) (ld b : Bool) (a : ℕ) → (b ≡ true → (C.side (C.routine a) ≡ 1) × (ld ≡ true))
      → Holds (control_allowed (C.side (C.routine a)) m) → Holds (enable_rule (C.depth a) m) → (C.depth a ≢ unloaded → ld ≡ true) → enabled_after m b ≡ true
      → (C.side (C.routine a) ≡ 1) × (loaded_after k ld ≡ true)
  enabled_step k m ld b a v h1 h2 on q = let z = go m h1 h2 q in (z.0, later k z.1)
    where
      go : (m : Control) → Holds (control_allowed (C.side (C.routine a)) m) → Holds (enable_rule (C.depth a) m) → enabled_after m b ≡ true
          → (C.side (C.routine a) ≡ 1) × (ld ≡ true)
      go Control.Nothing h1 h2 q = v q
      go Enable h1 h2 q = (h1, on h2)
      go Disable h1 h2 q = absurd (subst T (sym q) tt)
      go Wait h1 h2 q = v q

      later : (k : StackEffect) → ld ≡ true → loaded_after k ld ≡ true
      later Same t = t
      later Push t = t
      later Pop t = t
      later (Load n) t = refl

  pub inv_step : {rom : ℕ} → rom ≤ largest_rom → CertificateFacts C → (ld : Bool) (r r' : List ℕ) (a : ℕ) (f : Frame) (fs : List Frame) (S : Summary) (next c n : ℕ) (to : RomAddr)
      → S.flow ≡ Step n to → Coherent S → RulesOf C rom a S next c → Invariant C ld r a f fs → Refines C a S r r'
      → Invariant C (loaded_after S.stack ld) r' (pick (condition n (at r flags_cell)) to.0 next) (spends c f) (outward c fs f.opener)
  unfolding rule21 rule22 rule23 rule24 rule25 rule26 rule27 successor edge26 edge27
  inv_step {rom} fits more ld r r' a f fs S next c n to flow co rules v ref =
      let t : ℕ = pick (condition n (at r flags_cell)) to.0 next in
      let e = entry_of_lem ld r a f fs v in
      let suc = edge_of S.flow n to flow next r (λ e. successor C rom (C.routine a) e.to) (rules.r21 rules.r22).0 in
      let deep = edge_of S.flow n to flow next r _ rules.r25.1.1.0 in
      let inside : t < largest_rom = omega (arith, suc.0) in
      let ht : C.routine t ≡ C.routine a = suc.1 in
      let u = v.used in
      let et : EntryFacts C t = global.entry t inside (omega arith) in
      let yes = feasible_now C more a e r v.registers v.claims v.compare n t in
      let e26 = edge_of S.flow n to flow next r (edge26 C a S) rules.r26.0 yes in
      let e27 = edge_of S.flow n to flow next r (edge27 C a S c) rules.r27.0 yes in
      let copies = reads_copies S.write S.second co.reads rules.r23.1.0 in
      let ct : Claims C t r'
      = claims_follow_lem C more a e r v.registers v.claims v.compare n t S.write copies r' ref.registers ref.cells et e26.0 in
      let sd : C.side (C.routine t) ≡ C.side (C.routine a) = ap C.side ht in
      record {
        in_entries = inside;
        home = ht ∙ v.home;
        used = omega arith;
        registers = ref.registers;
        claims = ct;
        compare =
            compare_follows_lem C more a e r v.registers v.claims v.compare n t S.write copies r' ref.registers ref.cells S.flags et
            co.compares ref.flags e26.1;
        enabled = λ h.
            let z =
            enabled_step S.stack S.control ld (interrupts_enabled r) a v.enabled rules.r22.0 rules.r25.1.0
            (stack_loaded ld r a f fs v.stack) (sym ref.enabled ∙ h) in
            (sd ∙ z.0, z.1);
        cost = λ k.
            let z = v.cost k in
            let y =
            cost_follows C more a e r v.registers v.claims v.compare n t S.write copies r' ref.registers ref.cells c inside et ct e27
            (λ q. k (sym v.home ∙ q)) in
            omega arith;
        stack =
            stack_step ld S.stack c r r' a t f fs e v.home
            (record {
              stack = λ x h1 h2 h3. ref.stack x (omega arith) h2 h3;
              cells = λ x h1 h2 h3 h4.
                  kept_effect (change_of C a S.write x) r r' x
                  (kept_cell C a e x h3 h4 S.write (omega arith) rules.r23.1.1.0 rules.r24.1.1.0) (ref.cells x h1 h2);
            })
            (before_of C ld r a f fs v) rules.r23.1.1.1 rules.r25.0 ht deep ref.pointer v.stack;
      }
