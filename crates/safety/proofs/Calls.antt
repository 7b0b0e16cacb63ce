-- The invariant over CALL and RET.
-- Assumes nothing.
use Rattle.std.specs.Prelude.{◌≡◌, ◌≢◌, Bool, List, [], ◌∷◌, ℕ, ◌+◌, ◌*◌, ◌/◌, ◌%◌, ◌≤◌, ◌<◌}
use Rattle.std.proofs.Math.Path.{refl, sym, subst, ap}
use Rattle.std.proofs.Common.{◌∙◌, inl, ⊎_elim}
use Rattle.std.proofs.Math.Bool.{true, false}
use native.Mathlib.Omega.{arith}
use Rattle.base.specs.declared.RomAddr.{RomAddr}
use Rattle.base.specs.Addresses.{flags_cell, sp_cell, sym_cell}
use Rattle.base.specs.Formula.{Holds, eq, ◌&◌, same?, le?}
use Rattle.base.specs.Lengths.{largest_rom}
use Rattle.isa.specs.declared.FlagSet.{FlagSet}
use Rattle.chip.specs.Registers.{store_of}
use Rattle.chip.specs.Laws.{mapped_ram, load_ram, store_other, store_ram}
use Rattle.chip.specs.InterruptLaws.{enabled_same}
use Rattle.alu.specs.Laws.{condition_always}
use Rattle.action.specs.declared.Action.{Action}
use Rattle.semantics.specs.Operands.{lowered, raised, store_top, push_of, push_address, word_at, word_mapped}
use Rattle.semantics.specs.Execute.{execute_of, call_of, return_of}
use Rattle.certificate.specs.declared.Write.{Write}
use Rattle.certificate.specs.declared.FlagEffect.{FlagEffect}
use Rattle.certificate.specs.declared.Flow.{Flow}
use Rattle.certificate.specs.declared.Flow.TheVariants.{Call, Return}
use Rattle.certificate.specs.declared.Summary.{Summary}
use Rattle.certificate.specs.Layout.{Certificate}
use Rattle.safety.specs.Rules.{no_cell, ram_end, plain_edge, Edge, flow_allowed, calls, ends, successor, call_target}
use Rattle.safety.specs.Rules.{call_depth, claims_follow, survives, call26, bound_after_call, paid, rule21, rule22, rule25, rule26, rule27}
use Rattle.safety.specs.Statement.{Opener, by_reset, by_call, by_interrupt, Frame, spends, outward}
use Rattle.safety.proofs.Coherent.{nothing_compares}
use Rattle.safety.specs.Invariant.{at, Registers, Awake, Claims, reserve, CallLink, Link, frame_size, Chain, Invariant, FlagsAfter}
use Rattle.safety.proofs.Facts.{Global, EntryFacts}
use Rattle.safety.proofs.Memory.{store_registers, sp_registers, sp_other, sp_same}
use Rattle.safety.proofs.Chain.{Keeps, chain_room, chain_top, chain_cost, chain_keep}
use Rattle.safety.proofs.Edge.{CertificateFacts, taken, in_range, now_worst, paid_now, claims_follow_lem, compare_follows_lem}
use Rattle.safety.proofs.Plain.{RulesOf, entry_of_lem, before_of, chain_step}
use Rattle.safety.proofs.CallBound.{bound_after_call_lem}

-- Pushes --

-- the registers r' after a push of v on r
pub record OnePush (r r' : List ℕ) (v : ℕ) : Type 0 where
  pub registers : Registers r'
  pub pointer : at r' sp_cell + 1 ≡ at r sp_cell
  pub top : at r' (at r' sp_cell) ≡ v
  pub other : (x : ℕ) → x ≢ sp_cell → x + 1 ≢ at r sp_cell → at r' x ≡ at r x

pub push_one : (r : List ℕ) (v : ℕ) → Registers r → v < 256 → 1 ≤ at r sp_cell → at r sp_cell ≤ 0xC0
    → ((push_of r v).ok ≡ true) × OnePush r (push_of r v).regs v
unfolding push_of store_top lowered
push_one r v g hv hl hh =
    let s = (at r sp_cell + 255) % 256 in
    let e : s + 1 ≡ at r sp_cell = omega arith in
    let r1 = lowered r in
    let g1 : Registers r1 = sp_registers r s g (omega arith) in
    let es : at r1 sp_cell ≡ s = sp_same r s g in
    let ram : at r1 sp_cell < 0xD0 = omega arith in
    let r2 = store_of r1 (at r1 sp_cell) v in
    let p2 : at r2 sp_cell ≡ at r1 sp_cell = store_other r1 (at r1 sp_cell) v sp_cell (omega arith) in (
      mapped_ram (at r1 sp_cell) ram,
      record {
        registers = store_registers r1 (at r1 sp_cell) v g1 hv (omega arith);
        pointer = omega arith;
        top = ap (at r2) p2 ∙ store_ram r1 (at r1 sp_cell) v ram (let z = g1.size in omega arith);
        other = λ x n k. store_other r1 (at r1 sp_cell) v x (λ q. k (omega arith)) ∙ sp_other r s x n;
      },
    )

-- the registers after an address is pushed: high half at SP, low half behind it
pub record AddressPushed (r r' : List ℕ) (a : ℕ) : Type 0 where
  pub registers : Registers r'
  pub pointer : at r' sp_cell + 2 ≡ at r sp_cell
  pub back : at r' (at r' sp_cell) * 256 + at r' (at r' sp_cell + 1) ≡ a
  pub other : (x : ℕ) → x ≢ sp_cell → x + 1 ≢ at r sp_cell → x + 2 ≢ at r sp_cell → at r' x ≡ at r x

pub push_address_lem : (r : List ℕ) (a : RomAddr) → Registers r → a.0 < largest_rom → 2 ≤ at r sp_cell → at r sp_cell ≤ 0xC0
    → ((push_address r a).ok ≡ true) × AddressPushed r (push_address r a).regs a.0
unfolding push_address
push_address_lem r a g ha hl hh =
    let low = push_one r (a.0 % 256) g (omega arith) (omega arith) hh in
    let r1 = (push_of r (a.0 % 256)).regs in
    let p1 : OnePush r r1 (a.0 % 256) = low.1 in
    let s1 = p1.pointer in
    let high = push_one r1 (a.0 / 256) p1.registers (omega arith) (omega arith) (omega arith) in
    let r2 = (push_of r1 (a.0 / 256)).regs in
    let p2 : OnePush r1 r2 (a.0 / 256) = high.1 in
    let s2 = p2.pointer in
    let t2 = p2.top in
    let t1 : at r2 (at r2 sp_cell + 1) ≡ a.0 % 256
    = p2.other (at r2 sp_cell + 1) (omega arith) (omega arith) ∙ ap (at r1) s2 ∙ p1.top in (
      rw (low.0, high.0) refl,
      record {
        registers = p2.registers;
        pointer = omega arith;
        back = omega arith;
        other = λ x n k1 k2. p2.other x n (λ q. k2 (omega arith)) ∙ p1.other x n k1;
      },
    )

-- the word that RET reads: two bytes of RAM
pub word_ram : (r rec : List ℕ) (s : ℕ) → s + 1 < ram_end → (word_at r rec s ≡ at r s * 256 + at r (s + 1)) × (word_mapped s ≡ true)
unfolding word_at word_mapped
word_ram r rec s h =
    let e : (s + 1) % 256 ≡ s + 1 = omega arith in (
      rw (load_ram r rec s (omega arith), e, load_ram r rec (s + 1) h) refl,
      rw (mapped_ram s (omega arith), e, mapped_ram (s + 1) h) refl,
    )

-- a step that only pushes: what it leaves alone
pub record Pushed (C : Certificate) (r r' : List ℕ) : Type 0 where
  pub registers : Registers r'
  pub cells : (x : ℕ) → x < ram_end → 1 ≤ C.class x → at r' x ≡ at r x
  pub stack : (x : ℕ) → at r sp_cell ≤ x → C.floor ≤ x → x < C.top → at r' x ≡ at r x

pub pushed_keeps : (C : Certificate) (side m b : ℕ) (r r' : List ℕ) → at r sp_cell ≤ b → Pushed C r r' → Keeps C side m b r r'
pushed_keeps C side m b r r' h p = record {
  stack = λ x h1 h2 h3. p.stack x (omega arith) h2 h3;
  cells = λ x h1 h2 h3 h4. p.cells x h1 h2;
}

-- a cell that a routine may claim or write is none of the n bytes below SP
pub off_stack : (C : Certificate) (image : List ℕ) → Global C image → (r : List ℕ) (n : ℕ) → C.floor + n ≤ at r sp_cell → at r sp_cell ≤ C.top
    → (x : ℕ) → 1 ≤ C.class x → (k : ℕ) → k ≤ n → 1 ≤ k → x + k ≢ at r sp_cell
off_stack C image global r n hl hh x hc k hk h1 q = let z = global.stack_class x (omega arith) (omega arith) in omega arith

-- the edge of an instruction that always goes there
pub plain_taken : (r : List ℕ) (t : ℕ) → plain_edge t ≡ taken 8 r t
plain_taken r t = let e = sym (condition_always (at r flags_cell)) in λ i. record { condition = 8; outcome = e i; to = t }

-- a claim behind a CALL of routine k
survives_now : (C : Certificate) (a k : ℕ) (r r'' : List ℕ) → Registers r'' → Claims C a r → (x l h : ℕ) → x < ram_end
    → (C.limit x < k → at r'' x ≡ at r x) → Holds (survives C a k x l h) → (l ≤ at r'' x) × (at r'' x ≤ h)
unfolding survives
survives_now C a k r r'' regs cl x l h hx same m =
    let m' = m (λ q. omega arith) in
    ⊎_elim (λ (z : k ≤ C.limit x). let n = m'.1 z in (omega (arith, regs.bytes x), omega (arith, regs.bytes x)))
    (λ (z : C.limit x < k).
    let n = m'.0 z in
    let c = cl x hx in
    let s = same z in
    (omega arith, omega arith))
    (le? k (C.limit x))

-- the frame that a CALL of t opens
abbrev pub called_frame : Certificate → ℕ → ℕ → Frame
called_frame C t next = record { routine = C.routine t; return_to = next; cycles = 0; opener = by_call }

module _ (C : Certificate) (image : List ℕ) where
  -- a return with action act from f, which o opened: f closes within its bound, and the next frame outward goes on at f's return address
  pub record ReturnRight (act : Action) (ns : FlagSet) (o : Opener) (ld : Bool) (r rec : List ℕ) (next : RomAddr) (c : ℕ) (f : Frame) (fs : List Frame) : Type 0 where
    pub goes : (execute_of act ns image r rec next).next.stop ≡ 0
    pub mode : Awake (execute_of act ns image r rec next).next.mode
    pub counter : (execute_of act ns image r rec next).next.pc.0 ≡ f.return_to
    pub opener : f.opener ≡ o
    pub own : f.cycles + c ≤ C.bound f.routine
    pub waiting : Frame
    pub rest : List Frame
    pub shape : outward c fs f.opener ≡ waiting ∷ rest
    pub invariant : Invariant C ld (execute_of act ns image r rec next).regs f.return_to waiting rest

module _ (C : Certificate) (image : List ℕ) (global : Global C image) (more : CertificateFacts C) where
  -- what the rules say of a CALL at a of t, with the flag effect g
  record CallRules (g : FlagEffect) (a t next c : ℕ) : Type 0 where
    pub target : Holds (successor C largest_rom (C.routine a) next) × Holds (call_target C largest_rom (C.routine a) t)
    pub depth : Holds (call_depth C (C.depth a) (C.need (C.routine a)) next t)
    pub claims : Holds (call26 C a g next t)
    pub cost : Holds (paid C a (plain_edge next) c (bound_after_call C a next t))

  call_rules : {rom : ℕ} → rom ≤ largest_rom → (a : ℕ) (S : Summary) (next c : ℕ) (to : RomAddr) → S.flow ≡ Call to → RulesOf C rom a S next c
      → CallRules S.flags a to.0 next c
  unfolding rule21 rule25 rule26 rule27 successor call_target
  call_rules {rom} fits a S next c to e rules = record {
    target =
        let z = subst (λ (k : Flow). Holds (calls k (λ t. successor C rom (C.routine a) next & call_target C rom (C.routine a) t))) e (rules.r21 rules.r22).1 in
        ((omega (arith, z.0.0), z.0.1), (omega (arith, z.1.0), z.1.1));
    depth = subst (λ (k : Flow). Holds (calls k (call_depth C (C.depth a) (C.need (C.routine a)) next))) e rules.r25.1.1.1.0;
    claims = subst (λ (k : Flow). Holds (calls k (call26 C a S.flags next))) e rules.r26.1;
    cost = subst (λ (k : Flow). Holds (calls k (λ t. paid C a (plain_edge next) c (bound_after_call C a next t)))) e rules.r27.1.0;
  }

  -- the registers after CALL
  record Called (r r' : List ℕ) (next : ℕ) : Type 0 where
    pub push : Pushed C r r'
    pub pointer : at r' sp_cell + 2 ≡ at r sp_cell
    pub back : at r' (at r' sp_cell) * 256 + at r' (at r' sp_cell + 1) ≡ next
    pub flags : at r' flags_cell ≡ at r flags_cell
    pub sym : at r' sym_cell ≡ at r sym_cell

  called : (r r' : List ℕ) (next : ℕ) → AddressPushed r r' next → C.floor + 2 ≤ at r sp_cell → at r sp_cell ≤ C.top → Called r r' next
  called r r' next p hl hh =
      let ht = global.stack_top in
      let off = off_stack C image global r 2 hl hh in
      record {
        push = record {
          registers = p.registers;
          cells = λ x h k. p.other x (omega arith) (off x k 1 (omega arith) (omega arith)) (off x k 2 (omega arith) (omega arith));
          stack = λ x h k l. p.other x (omega arith) (omega arith) (omega arith);
        };
        pointer = p.pointer;
        back = p.back;
        flags = p.other flags_cell (omega arith) (omega arith) (omega arith);
        sym = p.other sym_cell (omega arith) (omega arith) (omega arith);
      }

  -- a callee's number is at least 3
  callee_number : (a t : ℕ) → 1 ≤ C.routine a → C.routine a < C.routine t → C.side (C.routine t) ≡ C.side (C.routine a) → 3 ≤ C.routine t
  callee_number a t u up sd =
      ⊎_elim
      (λ (q : C.routine t ≡ 2).
      let x1 : C.side (C.routine t) ≡ 2 = ap C.side q ∙ global.service_side in
      let x2 : C.routine a ≡ 1 = omega arith in
      let x3 : C.side (C.routine a) ≡ 1 = ap C.side x2 ∙ global.main_side in
      absurd (omega arith))
      (λ (q : C.routine t ≢ 2). omega arith) (same? (C.routine t) 2)

  -- what the caller relies on when the callee returns
  call_link : (g : FlagEffect) (r r' : List ℕ) (a t next c : ℕ) (f : Frame) (fs : List Frame) → Invariant C true r a f fs → CallRules g a t next c
      → Called r r' next → C.depth t ≡ 0 → CallLink C r' (at r' sp_cell + C.depth t) (called_frame C t next) (spends c f)
  unfolding successor call_target call_depth call26
  call_link g r r' a t next c f fs v m ca dt =
      let e = entry_of_lem C image global true r a f fs v in
      let hm = v.home in
      let u = v.used in
      let hn : C.routine next ≡ C.routine a = m.target.0.1 in
      let nN : next < largest_rom = m.target.0.0 in
      let en : EntryFacts C next = global.entry next nN (omega arith) in
      let up : C.routine a < C.routine t = m.target.1.1.0 in
      let sd : C.side (C.routine t) ≡ C.side (C.routine a) = m.target.1.1.1.1 in
      let sf : C.side f.routine ≡ C.side (C.routine a) = ap C.side (sym hm) in
      let sn : C.side (C.routine next) ≡ C.side (C.routine a) = ap C.side hn in
      let nf : C.need f.routine ≡ C.need (C.routine a) = ap C.need (sym hm) in
      let dn : C.depth next ≡ C.depth a = m.depth.1.0 in
      let ld = v.stack in
      let dk = ld.loaded in
      let rm = ld.room in
      let e0 : at r' sp_cell + C.depth t ≡ at r' sp_cell = omega arith in
      rw e0
      (record {
        back = ca.back;
        in_entries = nN;
        home = hn ∙ hm;
        used = omega arith;
        callee = callee_number a t u up sd;
        sides = sd ∙ sym sf;
        greater = omega arith;
        loaded = omega arith;
        room = omega arith;
        no_compare = λ h. let z : C.compare_cell next ≡ no_cell = m.claims.1.1.0 in omega arith;
        resumes = λ r'' ag regs.
            let low = e.side_low in
            let same : (x : ℕ) → x < ram_end → C.class x ≡ C.side (C.routine a) → C.limit x < C.routine t → at r'' x ≡ at r x
            = λ x h k l. ag x h (k ∙ sym sf) l ∙ ca.push.cells x h (omega arith) in
            let cn : Claims C next r''
            = λ x hx.
            in_range C next x (at r'' x)
            (λ q.
            let h1 : C.first_cell next < ram_end = omega arith in
            rw q
            (survives_now C a (C.routine t) r r'' regs v.claims (C.first_cell next) (C.first_low next) (C.first_high next) h1
            (same (C.first_cell next) h1 (en.first_class h1 ∙ sn)) m.claims.0))
            (λ q.
            let h2 : C.second_cell next < ram_end = omega arith in
            rw q
            (survives_now C a (C.routine t) r r'' regs v.claims (C.second_cell next) (C.second_low next) (C.second_high next) h2
            (same (C.second_cell next) h2 (en.second_class h2 ∙ sn)) m.claims.1.0))
            (regs.bytes x) in
            record {
              claims = cn;
              cost = λ n.
                  let z = v.cost n in
                  let y =
                  paid_now C more a e r v.registers v.claims v.compare 8 next c (bound_after_call C a next t)
                  (subst (λ (k : Edge). Holds (paid C a k c (bound_after_call C a next t))) (plain_taken r next) m.cost) (λ q. n (sym hm ∙ q)) in
                  let x = bound_after_call_lem C more a t next r r'' nN e en cn (λ h l. same (C.first_cell a) h (e.first_class h) l) in
                  omega arith;
            };
      })

  -- the invariant at the callee's start, on the registers that CALL leaves
  called_inv : (g : FlagEffect) (r r' : List ℕ) (a t next c : ℕ) (f : Frame) (fs : List Frame) → Invariant C true r a f fs → CallRules g a t next c
      → Called r r' next → FlagsAfter g r r' → Invariant C true r' t (called_frame C t next) (spends c f ∷ outward c fs f.opener)
  unfolding successor call_target call_depth call26
  called_inv g r r' a t next c f fs v m ca after =
      let e = entry_of_lem C image global true r a f fs v in
      let hm = v.home in
      let u = v.used in
      let tN : t < largest_rom = m.target.1.0 in
      let up : C.routine a < C.routine t = m.target.1.1.0 in
      let st : C.start (C.routine t) ≡ t = m.target.1.1.1.0 in
      let sd : C.side (C.routine t) ≡ C.side (C.routine a) = m.target.1.1.1.1 in
      let dn : C.depth next ≡ C.depth a = m.depth.1.0 in
      let rm : C.depth a + 2 + C.need (C.routine t) ≤ C.need (C.routine a) = m.depth.1.1 in
      let dt : C.depth t ≡ 0 = more.start t tN (omega arith) st in
      let et : EntryFacts C t = global.entry t tN (omega arith) in
      let pu = ca.push in
      let edge = plain_taken r t in
      let ct : Claims C t r'
      = claims_follow_lem C more a e r v.registers v.claims v.compare 8 t Write.Nothing tt r' pu.registers pu.cells et
      (subst (λ (k : Edge). Holds (claims_follow C a k Write.Nothing)) edge m.claims.1.1.1.0) in
      let bw = now_worst C more t r' tN et ct in
      let row = global.rows t (C.routine t) tN refl (omega arith) st in
      let ssp = ca.pointer in
      let nf : C.need f.routine ≡ C.need (C.routine a) = ap C.need (sym hm) in
      let sf : C.side f.routine ≡ C.side (C.routine a) = ap C.side (sym hm) in
      let rs : reserve C (C.side (C.routine t)) ≡ reserve C (C.side f.routine) = ap (reserve C) (sd ∙ sym sf) in
      let ld = v.stack in
      let dk = ld.loaded in
      let room = chain_room C r (at r sp_cell + C.depth a) f fs ld.chain in
      let ch = chain_step C image global c r r' a f fs e hm (pushed_keeps C _ _ _ r r' (omega arith) pu) ld.chain in
      record {
        in_entries = tN;
        home = refl;
        used = omega arith;
        registers = pu.registers;
        claims = ct;
        compare =
            compare_follows_lem C more a e r v.registers v.claims v.compare 8 t Write.Nothing tt r' pu.registers pu.cells g et
            (nothing_compares g) after m.claims.1.1.1.1;
        enabled = λ h. let z = v.enabled (sym (enabled_same r r' ca.sym) ∙ h) in (sd ∙ z.0, z.1);
        cost = λ n. omega arith;
        stack = record {
          loaded = omega arith;
          room = omega arith;
          chain = (
            omega arith,
            call_link g r r' a t next c f fs v m ca dt,
            rw (let z : at r' sp_cell + C.depth t + 2 + C.depth next ≡ at r sp_cell + C.depth a = omega arith in z) ch,
          );
        };
      }

  pub record CallRight (ns : FlagSet) (ld : Bool) (r rec : List ℕ) (to next : RomAddr) (c : ℕ) (f : Frame) (fs : List Frame) : Type 0 where
    pub goes : (execute_of (Action.Call to) ns image r rec next).next.stop ≡ 0
    pub mode : Awake (execute_of (Action.Call to) ns image r rec next).next.mode
    pub counter : (execute_of (Action.Call to) ns image r rec next).next.pc.0 ≡ to.0
    pub invariant :
        Invariant C ld (execute_of (Action.Call to) ns image r rec next).regs to.0 (called_frame C to.0 next.0) (spends c f ∷ outward c fs f.opener)

  pub inv_call : {rom : ℕ} → rom ≤ largest_rom → (ns : FlagSet) (ld : Bool) (r rec : List ℕ) (a : ℕ) (f : Frame) (fs : List Frame) (S : Summary) (next to : RomAddr) (c : ℕ)
      → S.flow ≡ Call to → ((r' : List ℕ) → at r' flags_cell ≡ at r flags_cell → FlagsAfter S.flags r r') → RulesOf C rom a S next.0 c
      → Invariant C ld r a f fs → CallRight ns ld r rec to next c f fs
  unfolding execute_of call_of successor call_depth
  inv_call fits ns false r rec a f fs S next to c flow after rules v = absurd ((call_rules fits a S next.0 c to flow rules).depth.0 v.stack.unloaded)
  inv_call fits ns true r rec a f fs S next to c flow after rules v =
      let m = call_rules fits a S next.0 c to flow rules in
      let b = before_of C true r a f fs v in
      let dk = v.stack.loaded in
      let lw = b.lowest dk in
      let hg = b.highest dk in
      let rm = m.depth.1.1 in
      let ht = global.stack_top in
      let p = push_address_lem r next v.registers m.target.0.0 (omega arith) (omega arith) in
      let ca = called r (push_address r next).regs next.0 p.1 (omega arith) (omega arith) in
      record {
        goes = rw p.0 refl;
        mode = tt;
        counter = refl;
        invariant =
            called_inv S.flags r (push_address r next).regs a to.0 next.0 c f fs v m ca (after (push_address r next).regs ca.flags);
      }

  -- Returns --

  -- what a routine other than main has spent, with the cost of its return
  pub own_cost : (ld : Bool) (r : List ℕ) (a c : ℕ) (f : Frame) (fs : List Frame) → Invariant C ld r a f fs → 2 ≤ C.routine a
      → Holds (paid C a (plain_edge 0) c (λ v. 0)) → f.cycles + c ≤ C.bound f.routine
  own_cost ld r a c f fs v h m =
      let hm = v.home in
      let z = v.cost (omega arith) in
      let y =
      paid_now C more a (entry_of_lem C image global ld r a f fs v) r v.registers v.claims v.compare 8 0 c (λ k. 0)
      (subst (λ (k : Edge). Holds (paid C a k c (λ v. 0))) (plain_taken r 0) m) (omega arith) in
      omega arith

  return_called : (ns : FlagSet) (r rec : List ℕ) (a c : ℕ) (next : RomAddr) (f g : Frame) (rest : List Frame) → Invariant C true r a f (g ∷ rest)
      → 3 ≤ C.routine a → C.depth a ≡ 0 → Holds (paid C a (plain_edge 0) c (λ v. 0)) → f.opener ≡ by_call
      → CallLink C r (at r sp_cell + C.depth a) f g → Chain C r (at r sp_cell + C.depth a + 2 + C.depth f.return_to) g rest
      → ReturnRight C image Action.Return ns by_call true r rec next c f (g ∷ rest)
  unfolding execute_of return_of raised
  return_called ns r rec a c next f g rest v h3 hd m q l ch =
      let e = entry_of_lem C image global true r a f (g ∷ rest) v in
      let s = at r sp_cell in
      let ht = global.stack_top in
      let tp = chain_top C r (s + C.depth a + 2 + C.depth f.return_to) g rest ch in
      let s' = (s + 2) % 256 in
      let r' = raised r 2 in
      let regs : Registers r' = sp_registers r s' v.registers (omega arith) in
      let other : (x : ℕ) → x ≢ sp_cell → at r' x ≡ at r x = λ x n. sp_other r s' x n in
      let es : at r' sp_cell ≡ s + 2 = sp_same r s' v.registers ∙ omega arith in
      let w = word_ram r rec s (omega arith) in
      let e0 : s + C.depth a ≡ s = omega arith in
      let counter : word_at r rec s ≡ f.return_to = w.0 ∙ (rw e0 at l.back) in
      let hm = v.home in
      let hg = l.home in
      let bk = l.resumes r' (λ x hx k lx. other x (omega arith)) regs in
      let own = own_cost true r a c f (g ∷ rest) v (omega arith) m in
      let sg : C.side (C.routine f.return_to) ≡ C.side g.routine = ap C.side hg in
      let sa : C.side (C.routine a) ≡ C.side f.routine = ap C.side hm in
      let ng : C.need (C.routine f.return_to) ≡ C.need g.routine = ap C.need hg in
      record {
        goes = rw w.1 refl;
        mode = tt;
        counter = counter;
        opener = q;
        own = own;
        waiting = spends c g;
        rest = outward c rest g.opener;
        shape = rw q refl;
        invariant = record {
          in_entries = l.in_entries;
          home = hg;
          used = let u = l.used in omega arith;
          registers = regs;
          claims = bk.claims;
          compare = λ h. absurd (l.no_compare h);
          enabled = λ h.
              let z = v.enabled (sym (enabled_same r r' (other sym_cell (omega arith))) ∙ h) in
              (sg ∙ sym l.sides ∙ sym sa ∙ z.0, z.1);
          cost = λ n. let z = bk.cost n in omega arith;
          stack = record {
            loaded = l.loaded;
            room = let y = l.room in omega arith;
            chain =
                rw (let z : at r' sp_cell + C.depth f.return_to ≡ s + C.depth a + 2 + C.depth f.return_to = omega arith in z)
                (chain_cost C c r' _ g rest
                (chain_keep C image global (C.side (C.routine a)) (C.routine a) 0 r r'
                (record { stack = λ x h1 h2 h4. other x (omega arith); cells = λ x h1 h2 h4 h5. other x (omega arith) }) e.side_low e.side_high _ g
                rest (omega arith) (inl (sym l.sides ∙ sym sa, let y = l.greater in omega arith)) ch));
          };
        };
      }

  -- RET, from the rules that it must meet
  return_now : (ns : FlagSet) (ld : Bool) (r rec : List ℕ) (a c : ℕ) (next : RomAddr) (f : Frame) (fs : List Frame) → Invariant C ld r a f fs
      → 3 ≤ C.routine a → C.depth a ≡ 0 → Holds (paid C a (plain_edge 0) c (λ v. 0)) → ReturnRight C image Action.Return ns by_call ld r rec next c f fs
  return_now ns false r rec a c next f fs v h3 hd m = let d = v.stack.unloaded in absurd (omega arith)
  return_now ns true r rec a c next f [] v h3 hd m = let z = v.stack.chain.1 in let h = v.home in absurd (omega arith)
  return_now ns true r rec a c next f (g ∷ rest) v h3 hd m = go f.opener refl v.stack.chain.1 v.stack.chain.2
    where
      go : (o : Opener) → f.opener ≡ o → Link C o r (at r sp_cell + C.depth a) f g
          → Chain C r (at r sp_cell + C.depth a + frame_size o + C.depth f.return_to) g rest
          → ReturnRight C image Action.Return ns by_call true r rec next c f (g ∷ rest)
      go by_reset q l ch = absurd l
      go by_call q l ch = return_called ns r rec a c next f g rest v h3 hd m q l ch
      go by_interrupt q l ch = let z = l.service in let h = v.home in absurd (omega arith)

  -- what rules 25 and 27 say of a return
  pub end_rules : {rom : ℕ} (a : ℕ) (S : Summary) (next c : ℕ) (flow : Flow) → S.flow ≡ flow → RulesOf C rom a S next c
      → Holds (ends flow (eq (C.depth a) 0)) × Holds (ends flow (paid C a (plain_edge 0) c (λ v. 0)))
  unfolding rule25 rule27
  end_rules a S next c flow e rules = (
    subst (λ (k : Flow). Holds (ends k (eq (C.depth a) 0))) e rules.r25.1.1.1.1.0,
    subst (λ (k : Flow). Holds (ends k (paid C a (plain_edge 0) c (λ v. 0)))) e rules.r27.1.1.0,
  )

  pub inv_return : {rom : ℕ} (ns : FlagSet) (ld : Bool) (r rec : List ℕ) (a : ℕ) (f : Frame) (fs : List Frame) (S : Summary) (next : RomAddr) (c : ℕ) → S.flow ≡ Return
      → RulesOf C rom a S next.0 c → Invariant C ld r a f fs → ReturnRight C image Action.Return ns by_call ld r rec next c f fs
  unfolding rule22
  inv_return ns ld r rec a f fs S next c flow rules v =
      let z = end_rules a S next.0 c Return flow rules in
      return_now ns ld r rec a c next f fs v (subst (λ (k : Flow). Holds (flow_allowed (C.routine a) k)) flow rules.r22.1).0 z.0 z.1
