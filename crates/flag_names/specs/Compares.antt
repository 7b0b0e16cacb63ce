-- Which compares survive an instruction: elsewhere than behind a CALL those, and only those, over an instruction that names no flag and cannot write the
-- compare's cell; behind a CALL none, at the start that it goes to the one at the CALL.
-- Assumes nothing.
use Prim.Native.Nat.{ℕ, ◌+◌, ◌%◌, ◌<◌}
use Rattle.std.specs.Prelude.{◌≡◌, ◌≢◌, ◌⊎◌, Bool, true, false, List, T, eqb, get_or}
use Rattle.std.proofs.Math.Path.{refl, ap, subst}
use Rattle.std.proofs.Common.{sym, ◌∙◌, ⊎_elim, arith, eqb-true}
use Rattle.std.proofs.Math.Logic.{inl, inr}
use Rattle.std.proofs.lemmas.Bool.{eqb-false}
use Rattle.base.specs.declared.RegAddr.{RegAddr}
use Rattle.base.specs.declared.RomAddr.{RomAddr}
use Rattle.base.specs.Addresses.{rom_addr, sp_cell}
use Rattle.base.specs.Cells.{Bytes}
use Rattle.base.specs.ChoiceLaws.{pick_has}
use Rattle.base.specs.Formula.{Holds, sound, test, eq, ◌‖◌, forall_below}
use Rattle.base.specs.Outcome.Outcome.{value}
use Rattle.isa.specs.declared.Alu.{Alu}
use Rattle.isa.specs.declared.Alu.TheVariants.{Add, Adc, Sub, Sbc, Or, And, Tcm, Tm, Cp, Xor}
use Rattle.isa.specs.declared.Flag.{Flag}
use Rattle.isa.specs.declared.Flag.TheVariants.{Carry, Zero, Sign, Overflow}
use Rattle.isa.specs.declared.FlagSet.{FlagSet}
use Rattle.isa.specs.declared.Instruction.{Instruction}
use Rattle.isa.specs.Flags.{flag_in}
use Rattle.isa.specs.Map.{names_of}
use Rattle.decode.specs.Decode.{decode_at}
use Rattle.decode.specs.Names.{names_by_first}
use Rattle.alu.specs.Operations.{stores}
use Rattle.alu.specs.Laws.{not_in_none}
use Rattle.action.specs.declared.Operand.{Operand}
use Rattle.action.specs.declared.Operand.TheVariants.{Register, Indirect, Immediate}
use Rattle.action.specs.declared.Action.{Action}
use Rattle.action.specs.Action.{action_of}
use Rattle.certificate.specs.declared.Write.{Write}
use Rattle.certificate.specs.declared.Range.{Range}
use Rattle.certificate.specs.declared.CodeAccess.{CodeAccess}
use Rattle.certificate.specs.declared.FlagEffect.{FlagEffect}
use Rattle.certificate.specs.declared.FlagEffect.TheVariants.{Kept, Changed, Compared}
use Rattle.certificate.specs.declared.Flow.{Flow}
use Rattle.certificate.specs.declared.Flow.TheVariants.{Step, Call, Return, InterruptReturn, Forbidden}
use Rattle.certificate.specs.declared.Summary.{Summary}
use Rattle.certificate.specs.Layout.{Certificate}
use Rattle.certificate.specs.Summaries.{flag_effect, binary_flags, binary_summary, summary_of}
use Rattle.safety.specs.Rules.{no_cell, present, Edge, plain_edge, feasible, callee, is_unchanged, change_of, claims_follow, flags_follow, compare_follows, survives, edge26, call26, calls, rule26}
use Rattle.safety.specs.Invariant.{Shaped}
use Rattle.safety.proofs.DecodedShape.{decoded_shaped}
use Rattle.safety.proofs.Transfers.{is_call}
use Rattle.safety.specs.CodeRange.{load_range}
use Rattle.safety.specs.Verdicts.{summary_at}
use Rattle.safety.proofs.Instruction.{summary_decoded}

some_or_none : (b : ℕ) → b < 256
    → (flag_in Carry (names_of b).0 ≡ true) ⊎ ((flag_in Zero (names_of b).0 ≡ true) ⊎ ((flag_in Sign (names_of b).0 ≡ true)
    ⊎ ((flag_in Overflow (names_of b).0 ≡ true) ⊎ ((names_of b).0 ≡ 0))))
unfolding flag_in
some_or_none b h =
    sound
    (forall_below 256
    (λ b. test (flag_in Carry (names_of b).0) ‖ (test (flag_in Zero (names_of b).0) ‖ (test (flag_in Sign (names_of b).0) ‖ (test (flag_in Overflow (names_of b).0) ‖ eq (names_of b).0 0)))))
    tt b h

-- a set that the map names and that has none of the four flags is empty
none_named_of : (b : ℕ) → b < 256 → ((g : Flag) → flag_in g (names_of b).0 ≡ false) → (names_of b).0 ≡ 0
none_named_of b h u =
    ⊎_elim (λ e. absurd (has Carry e)) (⊎_elim (λ e. absurd (has Zero e)) (⊎_elim (λ e. absurd (has Sign e)) (⊎_elim (λ e. absurd (has Overflow e)) (λ e. e))))
    (some_or_none b h)
  where
    has : (g : Flag) → flag_in g (names_of b).0 ≡ true → ⊥
    has g e = subst T (sym e ∙ u g) tt

-- what the flag effect of an action that names ns tells: kept, that none is named; a compare, that the action is that CP
abbrev LeftBy : Action → FlagSet → FlagEffect → Type 0
LeftBy act ns Kept = ns.0 ≡ 0
LeftBy act ns Changed = ns.0 ≢ 0
LeftBy act ns (Compared x k) = (ns.0 ≢ 0) × (act ≡ Action.Binary Cp (Register x) (Immediate k))

none_named : (ns : FlagSet) → eqb ns.0 0 ≡ true → ns.0 ≡ 0
none_named ns e = eqb-true ns.0 0 e

some_named : (ns : FlagSet) → eqb ns.0 0 ≡ false → ns.0 ≢ 0
some_named ns e = eqb-false ns.0 0 e

changed_by : (act : Action) (ns : FlagSet) → LeftBy act ns (flag_effect ns Changed)
changed_by act ns = pick_has (LeftBy act ns) (eqb ns.0 0) Kept Changed (none_named ns) (some_named ns)

compared_by : (op : Alu) (d s : Operand) (ns : FlagSet) → LeftBy (Action.Binary op d s) ns (flag_effect ns (binary_flags op d s))
compared_by Cp (Register x) (Immediate k) ns =
    pick_has (LeftBy (Action.Binary Cp (Register x) (Immediate k)) ns) (eqb ns.0 0) Kept (Compared x k) (none_named ns) (λ e. (some_named ns e, refl))
compared_by Cp (Register x) (Register y) ns = changed_by _ ns
compared_by Cp (Register x) (Indirect p o) ns = changed_by _ ns
compared_by Cp (Indirect p o) s ns = changed_by _ ns
compared_by Cp (Immediate n) s ns = changed_by _ ns
compared_by Add d s ns = changed_by _ ns
compared_by Adc d s ns = changed_by _ ns
compared_by Sub d s ns = changed_by _ ns
compared_by Sbc d s ns = changed_by _ ns
compared_by Or d s ns = changed_by _ ns
compared_by And d s ns = changed_by _ ns
compared_by Tcm d s ns = changed_by _ ns
compared_by Tm d s ns = changed_by _ ns
compared_by Xor d s ns = changed_by _ ns

binary_left : (b : Bool) (op : Alu) (d s : Operand) (ns : FlagSet) → LeftBy (Action.Binary op d s) ns (binary_summary b op d s ns).flags
binary_left true op d s ns = changed_by (Action.Binary op d s) ns
binary_left false op d s ns = compared_by op d s ns

-- an instruction that stays in its routine, or calls another
abbrev Stays : Flow → Type 0
Stays (Step cc to) = Unit {0}
Stays (Call to) = Unit {0}
Stays Return = ⊥
Stays InterruptReturn = ⊥
Stays Forbidden = ⊥

left_by : (load : CodeAccess → Range) (act : Action) (ns : FlagSet) → Stays (summary_of load act ns).flow → LeftBy act ns (summary_of load act ns).flags
unfolding summary_of
left_by load (Action.Binary op (Register x) s) ns h = binary_left (stores op) op (Register x) s ns
left_by load (Action.Binary op (Indirect p o) s) ns h = binary_left (stores op) op (Indirect p o) s ns
left_by load (Action.Binary op (Immediate n) s) ns h = absurd h
left_by load (Action.Modify op (Register x)) ns h = changed_by _ ns
left_by load (Action.Modify op (Indirect p o)) ns h = changed_by _ ns
left_by load (Action.Modify op (Immediate n)) ns h = absurd h
left_by load (Action.Load (Register x) (Register y)) ns h = changed_by _ ns
left_by load (Action.Load (Register x) (Indirect p o)) ns h = changed_by _ ns
left_by load (Action.Load (Register x) (Immediate n)) ns h =
    pick_has (λ (S : Summary). LeftBy (Action.Load (Register x) (Immediate n)) ns S.flags) (eqb x.0 sp_cell) _ _
    (λ _. changed_by _ ns) (λ _. changed_by _ ns)
left_by load (Action.Load (Indirect p o) s) ns h = changed_by _ ns
left_by load (Action.Load (Immediate n) s) ns h = absurd h
left_by load (Action.Push s) ns h = changed_by _ ns
left_by load (Action.Pop (Register x)) ns h = changed_by _ ns
left_by load (Action.Pop (Indirect p o)) ns h = changed_by _ ns
left_by load (Action.Pop (Immediate n)) ns h = absurd h
left_by load (Action.LoadCode d c) ns h = changed_by _ ns
left_by load (Action.LoadCodeStep d p up) ns h = changed_by _ ns
left_by load Action.External ns h = absurd h
left_by load (Action.Jump cc to) ns h = changed_by _ ns
left_by load (Action.JumpPair p) ns h = absurd h
left_by load (Action.Call to) ns h = changed_by _ ns
left_by load (Action.CallPair p) ns h = absurd h
left_by load Action.Return ns h = absurd h
left_by load Action.InterruptReturn ns h = absurd h
left_by load (Action.Carry c) ns h = changed_by _ ns
left_by load (Action.Interrupts on) ns h = changed_by _ ns
left_by load Action.Idle ns h = changed_by _ ns
left_by load Action.Stop ns h = absurd h
left_by load Action.Nop ns h = changed_by _ ns

module _ (C : Certificate) (image : List ℕ) (a : ℕ) (d : Instruction × ℕ × FlagSet) where
  -- the instruction that was decoded at a
  abbrev action_there : Action
  action_there = action_of d.0 (rom_addr ((a + d.1) % 65536))

  -- the compare at t is the one at a; the instruction names no flag and cannot write its cell
  pub record Survives (t : ℕ) : Type 0 where
    pub cell : C.compare_cell t ≡ C.compare_cell a
    pub number : C.compare_number t ≡ C.compare_number a
    pub unnamed : (g : Flag) → flag_in g d.2.0 ≡ false
    pub unwritten : Holds (is_unchanged (change_of C a (summary_at C image a).write (C.compare_cell t)))

  -- the instruction is itself the CP of the compare at t
  pub record Makes (t : ℕ) : Type 0 where
    pub register : RegAddr
    pub compares : action_there ≡ Action.Binary Cp (Register register) (Immediate (C.compare_number t))
    pub cell : C.compare_cell t ≡ register.0

  -- on an edge that is not skipped the claims follow, and a compare at its end is made by the instruction or survives it
  abbrev pub EdgeFollows : Edge → Type 0
  EdgeFollows e =
      Holds (feasible C a e)
      → Holds (claims_follow C a e (summary_at C image a).write) × (Holds (present (C.compare_cell e.to)) → Makes e.to ⊎ Survives e.to)

  -- over a CALL to t: the claims behind it survive and there is no compare; at t the claims follow, and a compare is the one at a
  pub record CallFollows (next t : ℕ) : Type 0 where
    pub first : Holds (survives C a (callee C t) (C.first_cell next) (C.first_low next) (C.first_high next))
    pub second : Holds (survives C a (callee C t) (C.second_cell next) (C.second_low next) (C.second_high next))
    pub behind : C.compare_cell next ≡ no_cell
    pub claims : Holds (claims_follow C a (plain_edge t) Write.Nothing)
    pub compare : Holds (present (C.compare_cell t)) → Survives t

  module _ (bytes : Bytes image) (found : decode_at image a ≡ value d) where
    summary_there : summary_at C image a ≡ summary_of (load_range C image a) action_there d.2
    summary_there = summary_decoded C image a d found

    -- naming no flag, by the byte of the set
    none_if_unnamed : ((g : Flag) → flag_in g d.2.0 ≡ false) → d.2.0 ≡ 0
    none_if_unnamed h = ap (λ (ns : FlagSet). ns.0) e ∙ none_named_of (get_or image a 0) (bytes a) (λ g. ap (λ (ns : FlagSet). flag_in g ns.0) (sym e) ∙ h g)
      where
        e : d.2 ≡ names_of (get_or image a 0)
        e = names_by_first image a d found

    module _ (stays : Stays (summary_at C image a).flow) where
      left_there : LeftBy action_there d.2 (summary_at C image a).flags
      left_there =
          subst (λ (S : Summary). LeftBy action_there d.2 S.flags) (sym summary_there)
          (left_by (load_range C image a) action_there d.2 (subst Stays (ap (λ (S : Summary). S.flow) summary_there) stays))

      -- rule 26 lets a compare stand behind the instruction that makes it, and behind those that it survives
      follows_only : (t : ℕ) → Holds (compare_follows C a (summary_at C image a).write (summary_at C image a).flags t) → Holds (present (C.compare_cell t))
          → Makes t ⊎ Survives t
      unfolding compare_follows
      follows_only t h p = go (summary_at C image a).flags left_there (h p)
        where
          go : (f : FlagEffect) → LeftBy action_there d.2 f → Holds (flags_follow C a (summary_at C image a).write f t) → Makes t ⊎ Survives t
          go Kept l m =
              inr (record { cell = m.0; number = m.1.0; unnamed = λ g. ap (flag_in g) l ∙ not_in_none g; unwritten = m.1.1 })
          go Changed l m = absurd m
          go (Compared x k) l m =
              inl (record { register = x; compares = l.1 ∙ ap (λ (n : ℕ). Action.Binary Cp (Register x) (Immediate n)) (sym m.1); cell = m.0 })

      made_flags : (t : ℕ) (m : Makes t) → (summary_at C image a).flags ≡ Compared m.register (C.compare_number t)
      unfolding summary_of stores
      made_flags t m =
          let c = Action.Binary Cp (Register m.register) (Immediate (C.compare_number t)) in
          let all = (subst (λ (x : Action). Shaped d.2 x) m.compares (decoded_shaped image bytes a d found (rom_addr ((a + d.1) % 65536)))).1 refl in
          ap (λ (S : Summary). S.flags) summary_there
          ∙ (ap (λ (x : Action). (summary_of (load_range C image a) x d.2).flags) m.compares ∙ ap (λ (ns : FlagSet). (summary_of (load_range C image a) c ns).flags) all)

      kept_flags : (f : FlagEffect) → LeftBy action_there d.2 f → d.2.0 ≡ 0 → f ≡ Kept
      kept_flags Kept l z = refl
      kept_flags Changed l z = absurd (l z)
      kept_flags (Compared x k) l z = absurd (l.0 z)

      follows_if : (t : ℕ) → Makes t ⊎ Survives t → Holds (compare_follows C a (summary_at C image a).write (summary_at C image a).flags t)
      unfolding compare_follows
      follows_if t (inl m) p = rw (made_flags t m) (m.cell, refl)
      follows_if t (inr s) p =
          rw (kept_flags (summary_at C image a).flags left_there (none_if_unnamed s.unnamed)) (s.cell, (s.number, s.unwritten))

    -- rule 26 on an edge says that, and no more
    pub compare_survives : (cc : ℕ) (to : RomAddr) → (summary_at C image a).flow ≡ Step cc to → (e : Edge)
        → (Holds (edge26 C a (summary_at C image a) e) → EdgeFollows e) × (EdgeFollows e → Holds (edge26 C a (summary_at C image a) e))
    unfolding edge26 compare_follows
    compare_survives cc to flow e =
        let stays = subst Stays (sym flow) tt in
        ((λ h f. ((h f).0, follows_only stays e.to (h f).1)), (λ h f. ((h f).0, λ p. follows_if stays e.to ((h f).1 p) p)))

    -- rule 26 of a CALL, whose summary writes no cell, says that, and no more
    pub compare_over_call : (next : ℕ) (to : RomAddr) → (summary_at C image a).flow ≡ Call to
        → (Holds (rule26 C a (summary_at C image a) next) → CallFollows next to.0) × (CallFollows next to.0 → Holds (rule26 C a (summary_at C image a) next))
    unfolding rule26 call26 summary_of compare_follows
    compare_over_call next to flow =
        ((λ h. rule_only (subst (λ (f : Flow). Holds (calls f (call26 C a (summary_at C image a).flags next))) flow h.1)), (λ k. rw flow (tt, rule_if k)))
      where
        t : ℕ
        t = to.0

        call : action_there ≡ Action.Call to
        call = is_call (load_range C image a) action_there d.2 to (sym (ap (λ (S : Summary). S.flow) summary_there) ∙ flow)

        stays : Stays (summary_at C image a).flow
        stays = subst Stays (sym flow) tt

        unwritten : (summary_at C image a).write ≡ Write.Nothing
        unwritten = ap (λ (S : Summary). S.write) (summary_there ∙ ap (λ (x : Action). summary_of (load_range C image a) x d.2) call)

        CompareFollows : Write → Type 0
        CompareFollows w = Holds (compare_follows C a w (summary_at C image a).flags t)

        not_compare : {x : RegAddr} {k : ℕ} → Action.Call to ≡ Action.Binary Cp (Register x) (Immediate k) → ⊥
        not_compare {x} {k} e = let z : ◌≡◌ {A = ℕ} 0 1 = cc in omega arith

        rule_only : Holds (call26 C a (summary_at C image a).flags next t) → CallFollows next t
        rule_only h = record {
          first = h.0;
          second = h.1.0;
          behind = h.1.1.0;
          claims = h.1.1.1.0;
          compare = λ p.
              ⊎_elim (λ (m : Makes t). absurd (not_compare (sym call ∙ m.compares))) (λ (s : Survives t). s)
              (follows_only stays t (subst CompareFollows (sym unwritten) h.1.1.1.1) p);
        }

        rule_if : CallFollows next t → Holds (call26 C a (summary_at C image a).flags next t)
        rule_if k =
            (k.first, (k.second, (k.behind, (k.claims, subst CompareFollows unwritten (λ p. follows_if stays t (inr (k.compare p)) p)))))

-- behind a CALL no compare holds
pub none_behind_call : (C : Certificate) (image : List ℕ) (a next : ℕ) (to : RomAddr) → (summary_at C image a).flow ≡ Call to
    → Holds (rule26 C a (summary_at C image a) next) → C.compare_cell next ≡ no_cell
unfolding rule26 call26
none_behind_call C image a next to e h = (subst (λ (f : Flow). Holds (calls f (call26 C a (summary_at C image a).flags next))) e h.1).1.1.0
