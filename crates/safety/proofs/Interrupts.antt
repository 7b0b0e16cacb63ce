-- The invariant over an interrupt entry and IRET.
-- Assumes nothing.
use Rattle.std.specs.Prelude.{◌≡◌, refl, ◌≢◌, Bool, List, [], ◌∷◌, ℕ, ◌+◌, ◌*◌, ◌%◌, ◌≤◌, ◌<◌}
use Rattle.std.proofs.Common.{sym, subst, ◌∙◌, inl, inr}
use Rattle.std.proofs.Math.Path.{ap}
use Rattle.std.proofs.Math.Bool.{true, false}
use native.Mathlib.Omega.{arith}
use Rattle.std.proofs.Math.Dec.{T}
use Rattle.base.specs.declared.RomAddr.{RomAddr}
use Rattle.base.specs.Addresses.{flags_cell, sp_cell, sym_cell}
use Rattle.base.specs.Formula.{Holds}
use Rattle.isa.specs.Flags.{all_flags}
use Rattle.chip.specs.Registers.{load_of}
use Rattle.chip.specs.Interrupts.{interrupts_enabled, set_interrupts_of}
use Rattle.chip.specs.Laws.{mapped_ram, load_ram}
use Rattle.chip.specs.InterruptLaws.{set_interrupts_enabled, set_interrupts_other}
use Rattle.alu.specs.Operations.{compare_flags}
use Rattle.alu.specs.Laws.{update_whole}
use Rattle.action.specs.declared.Action.{Action}
use Rattle.semantics.specs.Operands.{with_flags, raised, flags_of, push_of, push_address}
use Rattle.semantics.specs.Execute.{execute_of, return_of, interrupt_return_of}
use Rattle.semantics.specs.Step.{vector_of, enter_of}
use Rattle.certificate.specs.declared.Flow.{Flow}
use Rattle.certificate.specs.declared.Flow.TheVariants.{InterruptReturn}
use Rattle.certificate.specs.declared.Summary.{Summary}
use Rattle.certificate.specs.Layout.{Certificate}
use Rattle.safety.specs.Rules.{ram_end, plain_edge, bound_at, flow_allowed, paid, rule22}
use Rattle.safety.specs.Statement.{Opener, by_reset, by_call, by_interrupt, Frame}
use Rattle.safety.specs.Invariant.{at, Registers, Awake, Claims, reserve, InterruptLink, Link, frame_size, Chain, Invariant}
use Rattle.safety.proofs.Facts.{Global, EntryFacts, service_row}
use Rattle.safety.proofs.Memory.{sp_registers, sp_other, sp_same, interrupts_registers, flags_all, flags_other, flags_registers, high_nibble}
use Rattle.safety.proofs.Chain.{chain_room, chain_top, chain_keep}
use Rattle.safety.proofs.Edge.{CertificateFacts, in_range, now_worst}
use Rattle.safety.proofs.Plain.{RulesOf, claims_kept, first_kept, reserve_main, entry_of_lem}
use Rattle.safety.proofs.Calls.{OnePush, push_one, AddressPushed, push_address_lem, Pushed, pushed_keeps, off_stack, ReturnRight, own_cost, end_rules, word_ram}

service_reserve : (C : Certificate) → reserve C 2 ≡ 0
unfolding reserve
service_reserve C = refl

-- FLAGS as an entry pushes it is FLAGS, whose low nibble is 0
flags_pushed : (r r' : List ℕ) → Registers r → at r' flags_cell ≡ at r flags_cell → flags_of r' ≡ at r flags_cell
flags_pushed r r' g e = let z = g.flags in omega arith

-- the frame that an interrupt at pc opens
abbrev pub service_frame : Certificate → ℕ → Frame
service_frame C pc = record { routine = 2; return_to = pc; cycles = C.entry_cost; opener = by_interrupt }

-- the registers after IRET: FLAGS from @SP, SP three higher, interrupts enabled
record Resumed (r r' : List ℕ) : Type 0 where
  pub registers : Registers r'
  pub cells : (x : ℕ) → x < ram_end → at r' x ≡ at r x
  pub pointer : at r' sp_cell ≡ at r sp_cell + 3
  pub flags : at r' flags_cell ≡ at r (at r sp_cell)

resumed : (r rec : List ℕ) → Registers r → at r sp_cell + 3 ≤ 0xC0 → at r (at r sp_cell) % 16 ≡ 0
    → Resumed r (interrupt_return_of all_flags r rec).regs × ((interrupt_return_of all_flags r rec).next.stop ≡ 0)
    × ((interrupt_return_of all_flags r rec).next.pc.0 ≡ at r (at r sp_cell + 1) * 256 + at r (at r sp_cell + 2))
unfolding interrupt_return_of return_of raised
resumed r rec g hs hw =
    let s = at r sp_cell in
    let w = load_of r rec s in
    let ew : w ≡ at r s = load_ram r rec s (omega arith) in
    let hb : w < 256 = let z = g.bytes s in omega arith in
    let hn : w % 16 ≡ 0 = rw ew hw in
    let r1 = with_flags r all_flags w in
    let g1 : Registers r1 = flags_registers r all_flags w g in
    let c1 : (x : ℕ) → x ≢ flags_cell → at r1 x ≡ at r x = λ x n. flags_other r all_flags w x n in
    let s1 : at r1 sp_cell ≡ s = c1 sp_cell (omega arith) in
    let r2 = raised r1 1 in
    let g2 : Registers r2 = sp_registers r1 ((at r1 sp_cell + 1) % 256) g1 (omega arith) in
    let s2 : at r2 sp_cell ≡ s + 1 = sp_same r1 ((at r1 sp_cell + 1) % 256) g1 ∙ omega arith in
    let r3 = raised r2 2 in
    let g3 : Registers r3 = sp_registers r2 ((at r2 sp_cell + 2) % 256) g2 (omega arith) in
    let s3 : at r3 sp_cell ≡ s + 3 = sp_same r2 ((at r2 sp_cell + 2) % 256) g2 ∙ omega arith in
    let r4 = set_interrupts_of r3 true in
    let c2 : (x : ℕ) → x ≢ flags_cell → x ≢ sp_cell → at r2 x ≡ at r x = λ x n m. sp_other r1 ((at r1 sp_cell + 1) % 256) x m ∙ c1 x n in
    let c4 : (x : ℕ) → x ≢ sym_cell → at r4 x ≡ at r3 x = λ x n. set_interrupts_other r3 true x n in
    let word = word_ram r2 rec (at r2 sp_cell) (omega arith) in
    let high : at r2 (at r2 sp_cell) ≡ at r (s + 1) = ap (at r2) s2 ∙ c2 (s + 1) (omega arith) (omega arith) in
    let low : at r2 (at r2 sp_cell + 1) ≡ at r (s + 2)
    = ap (at r2) (let z : at r2 sp_cell + 1 ≡ s + 2 = omega arith in z) ∙ c2 (s + 2) (omega arith) (omega arith) in (
      record {
        registers = interrupts_registers r3 true g3;
        cells = λ x h. c4 x (omega arith) ∙ sp_other r2 ((at r2 sp_cell + 2) % 256) x (omega arith) ∙ c2 x (omega arith) (omega arith);
        pointer = c4 sp_cell (omega arith) ∙ s3;
        flags =
            c4 flags_cell (omega arith) ∙ sp_other r2 ((at r2 sp_cell + 2) % 256) flags_cell (omega arith)
            ∙ sp_other r1 ((at r1 sp_cell + 1) % 256) flags_cell (omega arith) ∙ flags_all r w g ∙ update_whole (at r flags_cell) w hb ∙ high_nibble w hb hn ∙ ew;
      },
      rw (mapped_ram s (omega arith), word.1) refl,
      word.0 ∙ omega arith,
    )

module _ (C : Certificate) (image : List ℕ) (global : Global C image) (more : CertificateFacts C) where
  -- Entry --

  -- the registers after an entry at pc
  record Entered (r r' : List ℕ) (pc : ℕ) : Type 0 where
    pub push : Pushed C r r'
    pub pointer : at r' sp_cell + 3 ≡ at r sp_cell
    pub flags : at r' (at r' sp_cell) ≡ at r flags_cell
    pub back : at r' (at r' sp_cell + 1) * 256 + at r' (at r' sp_cell + 2) ≡ pc
    pub enabled : interrupts_enabled r' ≡ false

  -- an address and FLAGS are pushed, and interrupts are disabled
  entered : (r r1 r2 : List ℕ) (pc : ℕ) → Registers r → AddressPushed r r1 pc → OnePush r1 r2 (flags_of r1) → C.floor + 3 ≤ at r sp_cell
      → at r sp_cell ≤ C.top → Entered r (set_interrupts_of r2 false) pc
  entered r r1 r2 pc g p1 p2 hl hh =
      let ht = global.stack_top in
      let r3 = set_interrupts_of r2 false in
      let s1 = p1.pointer in
      let s2 = p2.pointer in
      let last : (x : ℕ) → x ≢ sym_cell → at r3 x ≡ at r2 x = λ x n. set_interrupts_other r2 false x n in
      let s3 : at r3 sp_cell ≡ at r2 sp_cell = last sp_cell (omega arith) in
      let other : (x : ℕ) → x ≢ sp_cell → x ≢ sym_cell → x + 1 ≢ at r sp_cell → x + 2 ≢ at r sp_cell → x + 3 ≢ at r sp_cell → at r3 x ≡ at r x
      = λ x n m k1 k2 k3. last x m ∙ p2.other x n (λ q. k3 (omega arith)) ∙ p1.other x n k1 k2 in
      let off = off_stack C image global r 3 hl hh in
      let fl : flags_of r1 ≡ at r flags_cell = flags_pushed r r1 g (p1.other flags_cell (omega arith) (omega arith) (omega arith)) in
      let high : at r3 (at r3 sp_cell + 1) ≡ at r1 (at r1 sp_cell)
      = ap (λ (n : ℕ). at r3 (n + 1)) s3 ∙ last (at r2 sp_cell + 1) (omega arith) ∙ p2.other (at r2 sp_cell + 1) (omega arith) (omega arith)
      ∙ ap (at r1) s2 in
      let low : at r3 (at r3 sp_cell + 2) ≡ at r1 (at r1 sp_cell + 1)
      = ap (λ (n : ℕ). at r3 (n + 2)) s3 ∙ last (at r2 sp_cell + 2) (omega arith) ∙ p2.other (at r2 sp_cell + 2) (omega arith) (omega arith)
      ∙ ap (at r1) (let z : at r2 sp_cell + 2 ≡ at r1 sp_cell + 1 = omega arith in z) in
      record {
        push = record {
          registers = interrupts_registers r2 false p2.registers;
          cells = λ x h k.
              other x (omega arith) (omega arith) (off x k 1 (omega arith) (omega arith)) (off x k 2 (omega arith) (omega arith))
              (off x k 3 (omega arith) (omega arith));
          stack = λ x h k l. other x (omega arith) (omega arith) (omega arith) (omega arith) (omega arith);
        };
        pointer = omega arith;
        flags = ap (at r3) s3 ∙ last (at r2 sp_cell) (omega arith) ∙ p2.top ∙ fl;
        back = let z = p1.back in omega arith;
        enabled = set_interrupts_enabled r2 false (let z = p2.registers.size in omega arith);
      }

  -- what the interrupted routine relies on when the service returns
  entry_link : (r r' : List ℕ) (pc : ℕ) (f : Frame) (fs : List Frame) → Invariant C true r pc f fs → C.side (C.routine pc) ≡ 1 → Entered r r' pc
      → InterruptLink C r' (at r' sp_cell + C.depth (vector_of image)) (service_frame C pc) f
  entry_link r r' pc f fs v s1 en =
      let e = entry_of_lem C image global true r pc f fs v in
      let hm = v.home in
      let ld = v.stack in
      let rm = ld.room in
      let nf : C.need f.routine ≡ C.need (C.routine pc) = ap C.need (sym hm) in
      let vd = global.service_depth in
      let e0 : at r' sp_cell + C.depth (vector_of image) ≡ at r' sp_cell = omega arith in
      rw e0
      (record {
        back = en.back;
        flags = rw en.flags v.registers.flags;
        in_entries = v.in_entries;
        home = hm;
        used = let u = v.used in omega arith;
        service = refl;
        side = ap C.side (sym hm) ∙ s1;
        loaded = ld.loaded;
        room = omega arith;
        resumes = λ r'' ag regs.
            let same : (x : ℕ) → x < ram_end → C.class x ≡ C.side (C.routine pc) → at r'' x ≡ at r x
            = λ x h k. ag x h (k ∙ s1) ∙ en.push.cells x h (omega arith) in
            record {
              claims = claims_kept C pc r r'' e regs same v.claims;
              compare = λ h.
                  en.flags ∙ v.compare h
                  ∙ sym (ap (λ (n : ℕ). compare_flags n (C.compare_number pc)) (same (C.compare_cell pc) h (e.compare_class h)));
              cost = λ n. let z = v.cost n in let y = ap (bound_at C pc) (first_kept C pc r r'' e same) in omega arith;
            };
      })

  -- the invariant at the vector
  entered_inv : (r r' : List ℕ) (pc : ℕ) (f : Frame) (fs : List Frame) → Invariant C true r pc f fs → C.side (C.routine pc) ≡ 1 → Entered r r' pc
      → Invariant C true r' (vector_of image) (service_frame C pc) (f ∷ fs)
  entered_inv r r' pc f fs v s1 en =
      let e = entry_of_lem C image global true r pc f fs v in
      let to = vector_of image in
      let vr = global.service_routine in
      let vd = global.service_depth in
      let ev : EntryFacts C to = global.entry to global.vector_in_entries (omega arith) in
      let hm = v.home in
      let sf : C.side f.routine ≡ 1 = ap C.side (sym hm) ∙ s1 in
      let ld = v.stack in
      let rm = ld.room in
      let nf : C.need f.routine ≡ C.need (C.routine pc) = ap C.need (sym hm) in
      let room = chain_room C r (at r sp_cell + C.depth pc) f fs ld.chain in
      let ro = reserve_main C (C.side f.routine) sf in
      let rz : reserve C (C.side 2) ≡ 0 = ap (reserve C) global.service_side ∙ service_reserve C in
      let pu = en.push in
      let ssp = en.pointer in
      let cv : Claims C to r'
      = λ x hx.
      in_range C to x (at r' x) (λ q. let z = global.service_first in absurd (omega arith)) (λ q. let z = global.service_second in absurd (omega arith))
      (pu.registers.bytes x) in
      let bw = now_worst C more to r' global.vector_in_entries ev cv in
      let row = service_row C image global in
      record {
        in_entries = global.vector_in_entries;
        home = vr;
        used = omega arith;
        registers = pu.registers;
        claims = cv;
        compare = λ h. let z = global.service_compare in absurd (omega arith);
        enabled = λ h. absurd (subst T (sym h ∙ en.enabled) tt);
        cost = λ n. omega arith;
        stack = record {
          loaded = omega arith;
          room = omega arith;
          chain = (
            omega arith,
            entry_link r r' pc f fs v s1 en,
            rw (let z : at r' sp_cell + C.depth to + 3 + C.depth pc ≡ at r sp_cell + C.depth pc = omega arith in z)
                (chain_keep C image global (C.side (C.routine pc)) (C.routine pc) (at r sp_cell + C.depth pc) r r'
                (pushed_keeps C _ _ (at r sp_cell + C.depth pc) r r' (omega arith) pu) e.side_low e.side_high _ f fs (omega arith)
                (inl (ap C.side (sym hm), omega arith)) ld.chain),
          );
        };
      }

  pub record EntryRight (ld : Bool) (r : List ℕ) (pc : RomAddr) (f : Frame) (fs : List Frame) : Type 0 where
    pub goes : (enter_of image r pc).next.stop ≡ 0
    pub mode : Awake (enter_of image r pc).next.mode
    pub counter : (enter_of image r pc).next.pc.0 ≡ vector_of image
    pub invariant : Invariant C ld (enter_of image r pc).regs (vector_of image) (service_frame C pc.0) (f ∷ fs)

  pub inv_enter : (ld : Bool) (r : List ℕ) (pc : RomAddr) (f : Frame) (fs : List Frame) → Invariant C ld r pc.0 f fs
      → interrupts_enabled r ≡ true → EntryRight ld r pc f fs
  unfolding enter_of
  inv_enter false r pc f fs v on = absurd (subst T (sym (v.enabled on).1) tt)
  inv_enter true r pc f fs v on =
      let s1 = (v.enabled on).0 in
      let hm = v.home in
      let ld = v.stack in
      let rm = ld.room in
      let b = at r sp_cell + C.depth pc.0 in
      let nf : C.need f.routine ≡ C.need (C.routine pc.0) = ap C.need (sym hm) in
      let room = chain_room C r b f fs ld.chain in
      let tp = chain_top C r b f fs ld.chain in
      let ro = reserve_main C (C.side f.routine) (ap C.side (sym hm) ∙ s1) in
      let ht = global.stack_top in
      let p = push_address_lem r pc v.registers v.in_entries (omega arith) (omega arith) in
      let r1 = (push_address r pc).regs in
      let p1 : AddressPushed r r1 pc.0 = p.1 in
      let ssp = p1.pointer in
      let fl = flags_pushed r r1 v.registers (p1.other flags_cell (omega arith) (omega arith) (omega arith)) in
      let byte = v.registers.bytes flags_cell in
      let q = push_one r1 (flags_of r1) p1.registers (omega arith) (omega arith) (omega arith) in
      record {
        goes = rw (p.0, q.0) refl;
        mode = tt;
        counter = refl;
        invariant =
            entered_inv r _ pc.0 f fs v s1
            (entered r r1 (push_of r1 (flags_of r1)).regs pc.0 v.registers p1 q.1 (omega arith) (omega arith));
      }

  -- IRET, which names all four flags --

  return_interrupted : (r rec : List ℕ) (a c : ℕ) (next : RomAddr) (f g : Frame) (rest : List Frame) → Invariant C true r a f (g ∷ rest)
      → C.routine a ≡ 2 → C.depth a ≡ 0 → Holds (paid C a (plain_edge 0) c (λ v. 0)) → f.opener ≡ by_interrupt
      → InterruptLink C r (at r sp_cell + C.depth a) f g → Chain C r (at r sp_cell + C.depth a + 3 + C.depth f.return_to) g rest
      → ReturnRight C image Action.InterruptReturn all_flags by_interrupt true r rec next c f (g ∷ rest)
  unfolding execute_of interrupt_return_of
  return_interrupted r rec a c next f g rest v h2 hd m q l ch =
      let e = entry_of_lem C image global true r a f (g ∷ rest) v in
      let s = at r sp_cell in
      let ht = global.stack_top in
      let tp = chain_top C r (s + C.depth a + 3 + C.depth f.return_to) g rest ch in
      let e0 : s + C.depth a ≡ s = omega arith in
      let done = resumed r rec v.registers (omega arith) (rw e0 at l.flags) in
      let r' = (interrupt_return_of all_flags r rec).regs in
      let re : Resumed r r' = done.0 in
      let es = re.pointer in
      let hm = v.home in
      let hg = l.home in
      let bk = l.resumes r' (λ x hx k. re.cells x hx) re.registers in
      let sg : C.side (C.routine f.return_to) ≡ C.side g.routine = ap C.side hg in
      let s2 : C.side (C.routine a) ≡ 2 = ap C.side h2 ∙ global.service_side in
      let ng : C.need (C.routine f.return_to) ≡ C.need g.routine = ap C.need hg in
      record {
        goes = done.1;
        mode = tt;
        counter = done.2 ∙ (rw e0 at l.back);
        opener = q;
        own = own_cost C image global more true r a c f (g ∷ rest) v (omega arith) m;
        waiting = g;
        rest = rest;
        shape = rw q refl;
        invariant = record {
          in_entries = l.in_entries;
          home = hg;
          used = let u = l.used in omega arith;
          registers = re.registers;
          claims = bk.claims;
          compare = λ h. re.flags ∙ ap (at r) (sym e0) ∙ bk.compare h;
          enabled = λ h. (sg ∙ l.side, refl);
          cost = bk.cost;
          stack = record {
            loaded = l.loaded;
            room = let y = l.room in omega arith;
            chain =
                rw (let z : at r' sp_cell + C.depth f.return_to ≡ s + C.depth a + 3 + C.depth f.return_to = omega arith in z)
                (chain_keep C image global (C.side (C.routine a)) (C.routine a) 0 r r'
                (record { stack = λ x h1 h2 h4. re.cells x (omega arith); cells = λ x h1 h2 h4 h5. re.cells x h1 }) e.side_low e.side_high _ g rest
                (omega arith) (inr (l.side, s2)) ch);
          };
        };
      }

  -- IRET, from the rules that it must meet
  interrupt_return_now : (ld : Bool) (r rec : List ℕ) (a c : ℕ) (next : RomAddr) (f : Frame) (fs : List Frame) → Invariant C ld r a f fs
      → C.routine a ≡ 2 → C.depth a ≡ 0 → Holds (paid C a (plain_edge 0) c (λ v. 0))
      → ReturnRight C image Action.InterruptReturn all_flags by_interrupt ld r rec next c f fs
  interrupt_return_now false r rec a c next f fs v h2 hd m = let d = v.stack.unloaded in absurd (omega arith)
  interrupt_return_now true r rec a c next f [] v h2 hd m = let z = v.stack.chain.1 in let h = v.home in absurd (omega arith)
  interrupt_return_now true r rec a c next f (g ∷ rest) v h2 hd m = go f.opener refl v.stack.chain.1 v.stack.chain.2
    where
      go : (o : Opener) → f.opener ≡ o → Link C o r (at r sp_cell + C.depth a) f g
          → Chain C r (at r sp_cell + C.depth a + frame_size o + C.depth f.return_to) g rest
          → ReturnRight C image Action.InterruptReturn all_flags by_interrupt true r rec next c f (g ∷ rest)
      go by_reset q l ch = absurd l
      go by_call q l ch = let z = l.callee in let h = v.home in absurd (omega arith)
      go by_interrupt q l ch = return_interrupted r rec a c next f g rest v h2 hd m q l ch

  pub inv_interrupt_return : {rom : ℕ} (ld : Bool) (r rec : List ℕ) (a : ℕ) (f : Frame) (fs : List Frame) (S : Summary) (next : RomAddr) (c : ℕ)
      → S.flow ≡ InterruptReturn → RulesOf C rom a S next.0 c → Invariant C ld r a f fs
      → ReturnRight C image Action.InterruptReturn all_flags by_interrupt ld r rec next c f fs
  unfolding rule22
  inv_interrupt_return ld r rec a f fs S next c flow rules v =
      let z = end_rules C image global more a S next.0 c InterruptReturn flow rules in
      interrupt_return_now ld r rec a c next f fs v (subst (λ (k : Flow). Holds (flow_allowed (C.routine a) k)) flow rules.r22.1) z.0 z.1
