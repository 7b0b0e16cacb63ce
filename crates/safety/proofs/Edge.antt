-- Rules 26 and 27 over one edge: claims, compare and bound at the successor, from the summary alone; and the cells that no write reaches.
-- Assumes nothing.
use mathlib.Core.Path.{◌≡◌, refl, sym, ◌∙◌, ap}
use Rattle.std.specs.Prelude.{◌≢◌, ◌⊎◌, Bool, ◌&&◌, ◌||◌, List, ℕ, ◌+◌, ◌-◌, ◌≤◌, ◌<◌, ltb}
use Rattle.std.proofs.Common.{inl, inr, arith, ltb→lt}
use Rattle.std.proofs.Math.Logic.{⊎_elim}
use Rattle.std.proofs.Math.Bool.{true, false, not}
use Rattle.std.proofs.Math.Dec.{T, leb, eqb, eqb→eq}
use Rattle.base.specs.declared.RegAddr.{RegAddr}
use Rattle.base.specs.Addresses.{flags_cell}
use Rattle.base.specs.Choice.{pick}
use Rattle.base.specs.ChoiceLaws.{pick_has}
use Rattle.base.specs.Formula.{Holds, sound, le, eq, ◌&◌, ◌‖◌, same?, le?, of_true, eqb_yes, eqb_no, ltb_yes, ltb_no}
use Rattle.base.specs.Lengths.{largest_rom}
use Rattle.alu.specs.Flags.{condition}
use Rattle.alu.specs.Operations.{compare_flags}
use Rattle.certificate.specs.declared.NewValue.{NewValue}
use Rattle.certificate.specs.declared.NewValue.TheVariants.{Number, OneMore, OneLess, Within, CopyOf, Unknown}
use Rattle.certificate.specs.declared.Write.{Write}
use Rattle.certificate.specs.declared.FlagEffect.{FlagEffect}
use Rattle.certificate.specs.declared.FlagEffect.TheVariants.{Kept, Changed, Compared}
use Rattle.certificate.specs.Layout.{Certificate}
use Rattle.safety.specs.Rules.{no_cell, ram_end, Edge, low, high, claimed, bound_at, worst, claim_rule, empty_entry, entry_rule, address_rule}
use Rattle.safety.specs.Rules.{start_rule, writable, direct_write, reach, pointed_write, Change, change_of, narrowed, left, feasible, follows, claim_follows}
use Rattle.safety.specs.Rules.{claims_follow, is_unchanged, flags_follow, compare_follows, first_value, same_first, bound_along, bound_after, paid}
use Rattle.safety.specs.Rules.Change.{unchanged, changed}
use Rattle.safety.proofs.CodeRangeLaws.{unclaimed}
use Rattle.safety.specs.Invariant.{at, Registers, Claims, CompareHolds, first_now, bound_now, Effect, FlagsAfter}
use Rattle.safety.specs.Accepted.{Accepts}
use Rattle.safety.proofs.Facts.{EntryFacts, is_writable, rule20_facts}
use Rattle.safety.proofs.BoundWorst.{bound_worst}
use Rattle.safety.proofs.MeetsNow.{meets_now}

-- What acceptance and the bytes give beside `EntryFacts` --

pub record CertificateFacts (C : Certificate) : Type 0 where
  pub number : (a : ℕ) → C.compare_number a < 256
  -- of an absent first claim the other bytes are 0
  pub absent : (a : ℕ) → a < largest_rom → C.first_cell a ≡ no_cell → C.first_low a ≡ 0
  -- a routine that is called starts at depth 0
  pub start : (a : ℕ) → a < largest_rom → 2 ≤ C.routine a → C.start (C.routine a) ≡ a → C.depth a ≡ 0

absent_first : (rom : ℕ) (C : Certificate) (image : List ℕ) → Accepts rom C image → (a : ℕ) → a < largest_rom → C.first_cell a ≡ no_cell → C.first_low a ≡ 0
unfolding address_rule empty_entry entry_rule claim_rule
absent_first rom C image ok a h e =
    let p = (rule20_facts rom C image ok.r20).addresses a h in
    ⊎_elim (λ (z : C.routine a ≡ 0). let q = p.0 z in absurd (let y = q.1.1.1.1.0 in omega arith))
    (λ (n : C.routine a ≢ 0). let q = (p.1 n).1 in (q.1.1.1.1.1.0.1 e).0) (same? (C.routine a) 0)

start_depth : (rom : ℕ) (C : Certificate) (image : List ℕ) → Accepts rom C image → (a : ℕ) → a < largest_rom → 2 ≤ C.routine a → C.start (C.routine a) ≡ a
    → C.depth a ≡ 0
unfolding address_rule entry_rule start_rule
start_depth rom C image ok a h u e =
    let f = rule20_facts rom C image ok.r20 in
    let p = ((f.addresses a h).1 (λ z. omega arith)).1 in
    let q = (f.starts (C.routine a) p.0 p.1.0).1.1.0 in
    let n : C.routine a ≡ 1 → ⊥ = λ z. omega arith in
    ap C.depth (sym e) ∙ q ∙ rw (eqb_no n) refl

pub certificate_facts : (rom : ℕ) (C : Certificate) (image : List ℕ) → Accepts rom C image → ((a : ℕ) → C.compare_number a < 256) → CertificateFacts C
certificate_facts rom C image ok number = record { number = number; absent = absent_first rom C image ok; start = start_depth rom C image ok }

-- Ranges and bounds --

-- the range of a cell, from its claims
pub in_range : (C : Certificate) (t x v : ℕ) → (x ≡ C.first_cell t → (C.first_low t ≤ v) × (v ≤ C.first_high t))
    → (x ≡ C.second_cell t → (C.second_low t ≤ v) × (v ≤ C.second_high t)) → v < 256 → (low C t x ≤ v) × (v ≤ high C t x)
unfolding low high
in_range C t x v h1 h2 hv = go (eqb x (C.first_cell t)) refl (eqb x (C.second_cell t)) refl
  where
    go : (b : Bool) → eqb x (C.first_cell t) ≡ b → (d : Bool) → eqb x (C.second_cell t) ≡ d
        → (pick b (C.first_low t) (pick d (C.second_low t) 0) ≤ v) × (v ≤ pick b (C.first_high t) (pick d (C.second_high t) 255))
    go true e d e2 = h1 (eqb→eq x (C.first_cell t) (of_true (eqb x (C.first_cell t)) e))
    go false e true e2 = h2 (eqb→eq x (C.second_cell t) (of_true (eqb x (C.second_cell t)) e2))
    go false e false e2 = (omega arith, omega arith)

-- a cell is claimed, or its range is 0 to 255
pub free_range : (C : Certificate) (t x : ℕ)
    → ((x ≡ C.first_cell t) ⊎ (x ≡ C.second_cell t)) ⊎ ((low C t x ≡ 0) × (high C t x ≡ 255))
free_range C t x =
    ⊎_elim (λ e. inl (inl e)) (λ n. ⊎_elim (λ e. inl (inr e)) (λ m. inr (unclaimed C t x n m)) (same? x (C.second_cell t))) (same? x (C.first_cell t))

-- no cell behind RAM is claimed
pub beyond_ram : (C : Certificate) (t x : ℕ) → EntryFacts C t → ram_end ≤ x → x ≢ no_cell → (low C t x ≡ 0) × (high C t x ≡ 255)
beyond_ram C t x e h n =
    unclaimed C t x (λ q. ⊎_elim (λ s. omega arith) (λ s. n (q ∙ s)) e.first_cell) (λ q. ⊎_elim (λ s. omega arith) (λ s. n (q ∙ s)) e.second_cell)

low_first : (C : Certificate) (t : ℕ) → low C t (C.first_cell t) ≡ C.first_low t
unfolding low
low_first C t = rw (eqb_yes {a = C.first_cell t} refl) refl

high_first : (C : Certificate) (t : ℕ) → high C t (C.first_cell t) ≡ C.first_high t
unfolding high
high_first C t = rw (eqb_yes {a = C.first_cell t} refl) refl

pub first_in : (C : Certificate) (t : ℕ) (r : List ℕ) → C.first_cell t < ram_end → first_now C t r ≡ at r (C.first_cell t)
unfolding first_now
first_in C t r h = rw (ltb_yes h) refl

pub first_out : (C : Certificate) (t : ℕ) (r : List ℕ) → C.first_cell t ≡ no_cell → first_now C t r ≡ 0
unfolding first_now
first_out C t r h = let z : ram_end ≤ C.first_cell t = omega arith in rw (ltb_no z) refl

-- the first cell's value lies in its claim
first_range : (C : Certificate) (t : ℕ) (r : List ℕ) → EntryFacts C t → (C.first_cell t ≡ no_cell → C.first_low t ≡ 0) → Claims C t r
    → (C.first_low t ≤ first_now C t r) × (first_now C t r ≤ C.first_high t)
first_range C t r e absent cl =
    ⊎_elim
    (λ (h : C.first_cell t < ram_end).
    let z = first_in C t r h in
    let k = cl (C.first_cell t) h in
    let p = low_first C t in
    let q = high_first C t in
    (omega arith, omega arith))
    (λ (h : C.first_cell t ≡ no_cell). let z = first_out C t r h in let n = absent h in (omega arith, omega arith))
    e.first_cell

pub now_worst : (C : Certificate) → CertificateFacts C → (t : ℕ) (r : List ℕ) → t < largest_rom → EntryFacts C t → Claims C t r → bound_now C t r ≤ worst C t
now_worst C more t r ht e cl =
    let c = first_range C t r e (more.absent t ht) cl in
    bound_worst C t (first_now C t r) e c.0 c.1

-- A copied register is no absent cell: rule 23 asks that it is mapped --

abbrev pub Copies : Write → Type 0
Copies Write.Nothing = Unit {0}
Copies (Write.Register x (Number n)) = Unit {0}
Copies (Write.Register x OneMore) = Unit {0}
Copies (Write.Register x OneLess) = Unit {0}
Copies (Write.Register x (Within q)) = Unit {0}
Copies (Write.Register x (CopyOf y)) = y.0 ≢ no_cell
Copies (Write.Register x Unknown) = Unit {0}
Copies (Write.Pointed p o) = Unit {0}
Copies (Write.RegisterAndPair x q p) = Unit {0}

-- what leaves a compare writes nothing
abbrev pub Compares : FlagEffect → Write → Type 0
Compares Kept w = Unit {0}
Compares Changed w = Unit {0}
Compares (Compared x k) w = w ≡ Write.Nothing

abbrev CopiesChange : Change → Type 0
CopiesChange unchanged = Unit {0}
CopiesChange (changed (Number n)) = Unit {0}
CopiesChange (changed OneMore) = Unit {0}
CopiesChange (changed OneLess) = Unit {0}
CopiesChange (changed (Within q)) = Unit {0}
CopiesChange (changed (CopyOf y)) = y.0 ≢ no_cell
CopiesChange (changed Unknown) = Unit {0}

pick_copies : (b : Bool) (ch : Change) → CopiesChange ch → CopiesChange (pick b ch unchanged)
pick_copies true ch h = h
pick_copies false ch h = tt

register_copies : (x : RegAddr) (v : NewValue) → Copies (Write.Register x v) → CopiesChange (changed v)
register_copies x (Number n) h = tt
register_copies x OneMore h = tt
register_copies x OneLess h = tt
register_copies x (Within q) h = tt
register_copies x (CopyOf y) h = h
register_copies x Unknown h = tt

change_copies : (C : Certificate) (a : ℕ) (w : Write) (x : ℕ) → Copies w → CopiesChange (change_of C a w x)
change_copies C a Write.Nothing x h = tt
change_copies C a (Write.Register y v) x h = pick_copies (eqb x y.0) (changed v) (register_copies y v h)
change_copies C a (Write.Pointed p o) x h = pick_copies (leb (low C a p.0 + o) x && leb x (high C a p.0 + o)) (changed Unknown) tt
change_copies C a (Write.RegisterAndPair y q p) x h =
    pick_has CopiesChange (eqb x p.0 || eqb x (p.0 + 1)) (changed Unknown) _ (λ _. tt) (λ _. pick_copies (eqb x y.0) (changed (Within q)) tt)

-- The edge that is taken --

abbrev pub taken : ℕ → List ℕ → ℕ → Edge
taken n r t = record { condition = n; outcome = condition n (at r flags_cell); to = t }

pub kept_effect : (ch : Change) (r r' : List ℕ) (x : ℕ) → Holds (is_unchanged ch) → Effect ch r r' x → at r' x ≡ at r x
kept_effect unchanged r r' x h e = e
kept_effect (changed v) r r' x h e = absurd h

module _ (C : Certificate) (more : CertificateFacts C) (a : ℕ) (e : EntryFacts C a) (r : List ℕ) (regs : Registers r) (cl : Claims C a r)
    (cm : CompareHolds C a r (at r flags_cell)) (n t : ℕ) where
  -- what a cell holds is left on the edge
  pub left_now : (x : ℕ) → x < ram_end → Holds (left C a (taken n r t) x (at r x))
  unfolding left narrowed
  left_now x hx = (
    (cl x hx).0,
    (
      (cl x hx).1,
      λ q.
          let z : at r flags_cell ≡ compare_flags (at r x) (C.compare_number a)
          = cm (let y = q.0 in omega arith) ∙ ap (λ (y : ℕ). compare_flags (at r y) (C.compare_number a)) (sym q.0) in
          meets_now n (at r x) (C.compare_number a) (at r flags_cell) z (regs.bytes x) (more.number a),
    ),
  )

  first_left : Holds (first_value C a (taken n r t) (first_now C a r))
  unfolding first_value
  first_left =
      ⊎_elim
      (λ (h : C.first_cell a < ram_end). (λ p. rw (first_in C a r h) (left_now (C.first_cell a) h), λ q. absurd (omega arith)))
      (λ (h : C.first_cell a ≡ no_cell). (λ p. absurd (p h), λ q. first_out C a r h)) e.first_cell

  pub feasible_now : Holds (feasible C a (taken n r t))
  unfolding feasible claimed
  feasible_now = λ h k.
      ⊎_elim (λ (l : C.compare_cell a < ram_end). k (at r (C.compare_cell a)) (regs.bytes (C.compare_cell a)) (left_now (C.compare_cell a) l))
      (λ (l : C.compare_cell a ≡ no_cell). h.0 l) e.compare_cell

  first_byte : first_now C a r < 256
  first_byte =
      ⊎_elim (λ (h : C.first_cell a < ram_end). let z = first_in C a r h in omega (arith, regs.bytes (C.first_cell a)))
      (λ (h : C.first_cell a ≡ no_cell). let z = first_out C a r h in omega arith) e.first_cell

  -- the cost rule at the value that the first cell holds
  pub paid_now : (cost : ℕ) (after : ℕ → ℕ) → Holds (paid C a (taken n r t) cost after) → C.routine a ≢ 1
      → cost + after (first_now C a r) ≤ bound_now C a r
  unfolding paid
  paid_now cost after m k = ⊎_elim (λ h. absurd (k h)) (λ h. h (first_now C a r) first_byte first_left) m

  module _ (w : Write) (copies : Copies w) (r' : List ℕ) (regs' : Registers r')
      (effect : (x : ℕ) → x < ram_end → 1 ≤ C.class x → Effect (change_of C a w x) r r' x) where
    range_copy : (y x l h : ℕ) → y ≢ no_cell → l ≤ low C a y → high C a y ≤ h → (y < ram_end → at r' x ≡ at r y)
        → (l ≤ at r' x) × (at r' x ≤ h)
    range_copy y x l h ny hl hh q =
        ⊎_elim
        (λ (z : ram_end ≤ y). let p = beyond_ram C a y e z ny in (omega arith, omega (arith, regs'.bytes x)))
        (λ (z : y < ram_end).
        let c = cl y z in
        let s = q z in
        (omega arith, omega arith))
        (le? ram_end y)

    follow : (ch : Change) (x l h : ℕ) → x < ram_end → CopiesChange ch → Holds (follows C a (taken n r t) ch x l h) → Effect ch r r' x
        → (l ≤ at r' x) × (at r' x ≤ h)
    follow unchanged x l h hx k m q = rw q (m (at r x) (regs.bytes x) (left_now x hx))
    follow (changed (Number v)) x l h hx k m q = (omega arith, omega arith)
    follow (changed OneMore) x l h hx k m q =
        let c = cl x hx in
        let b = regs.bytes x in
        ⊎_elim (λ (z : 255 ≤ high C a x). let y = m.1 z in (omega (arith, regs'.bytes x), omega (arith, regs'.bytes x)))
        (λ (z : high C a x < 255). let y = m.0 z in (omega arith, omega arith)) (le? 255 (high C a x))
    follow (changed OneLess) x l h hx k m q =
        let c = cl x hx in
        let b = regs.bytes x in
        ⊎_elim (λ (z : low C a x ≡ 0). let y = m.1 z in (omega (arith, regs'.bytes x), omega (arith, regs'.bytes x)))
        (λ (z : low C a x ≢ 0). let y = m.0 (omega arith) in (omega arith, omega arith)) (same? (low C a x) 0)
    follow (changed (Within w)) x l h hx k m q = (omega arith, omega arith)
    follow (changed (CopyOf y)) x l h hx k m q = range_copy y.0 x l h k m.0 m.1 q
    follow (changed Unknown) x l h hx k m q = (omega (arith, regs'.bytes x), omega (arith, regs'.bytes x))

    claim_follow : (x l h : ℕ) → x < ram_end → 1 ≤ C.class x → Holds (claim_follows C a (taken n r t) w x l h) → (l ≤ at r' x) × (at r' x ≤ h)
    unfolding claim_follows
    claim_follow x l h hx hc m = follow (change_of C a w x) x l h hx (change_copies C a w x copies) (m (λ q. omega arith)) (effect x hx hc)

    -- the successor's claims hold behind the step
    pub claims_follow_lem : EntryFacts C t → Holds (claims_follow C a (taken n r t) w) → Claims C t r'
    claims_follow_lem et m x hx =
        let s = et.side_low in
        in_range C t x (at r' x)
        (λ q.
        let h1 : C.first_cell t < ram_end = omega arith in
        let k = et.first_class h1 in
        rw q (claim_follow (C.first_cell t) (C.first_low t) (C.first_high t) h1 (omega arith) m.0))
        (λ q.
        let h2 : C.second_cell t < ram_end = omega arith in
        let k = et.second_class h2 in
        rw q (claim_follow (C.second_cell t) (C.second_low t) (C.second_high t) h2 (omega arith) m.1))
        (regs'.bytes x)

    flags_follow_lem : (f : FlagEffect) → EntryFacts C t → C.compare_cell t < ram_end → Compares f w → Holds (flags_follow C a w f t)
        → FlagsAfter f r r' → at r' flags_cell ≡ compare_flags (at r' (C.compare_cell t)) (C.compare_number t)
    flags_follow_lem Kept et h k m q =
        let c = et.compare_class h in
        let s = et.side_low in
        let same : at r' (C.compare_cell t) ≡ at r (C.compare_cell t)
        = kept_effect (change_of C a w (C.compare_cell t)) r r' (C.compare_cell t) m.1.1 (effect (C.compare_cell t) h (omega arith)) in
        q ∙ cm (let z = m.0 in omega arith) ∙ sym (ap (λ (v : ℕ). compare_flags v (C.compare_number t)) same ∙ rw (m.0, m.1.0) refl)
    flags_follow_lem Changed et h k m q = absurd m
    flags_follow_lem (Compared x v) et h k m q =
        let c = et.compare_class h in
        let s = et.side_low in
        let same : at r' (C.compare_cell t) ≡ at r (C.compare_cell t)
        = kept_effect (change_of C a w (C.compare_cell t)) r r' (C.compare_cell t) (rw k tt) (effect (C.compare_cell t) h (omega arith)) in
        q (let z = m.0 in omega arith) ∙ sym (ap (λ (v : ℕ). compare_flags v (C.compare_number t)) same ∙ rw (m.0, m.1) refl)

    -- and its compare
    pub compare_follows_lem : (f : FlagEffect) → EntryFacts C t → Compares f w → FlagsAfter f r r' → Holds (compare_follows C a w f t)
        → CompareHolds C t r' (at r' flags_cell)
    unfolding compare_follows
    compare_follows_lem f et k q m h = flags_follow_lem f et h k (m (λ z. omega arith)) q

    bound_along_lem : (ch : Change) → t < largest_rom → EntryFacts C t → Claims C t r' → C.first_cell t ≡ C.first_cell a → C.first_cell a < ram_end
        → Effect ch r r' (C.first_cell a) → bound_now C t r' ≤ bound_along C ch t (first_now C a r)
    bound_along_lem unchanged ht et ct q h k =
        let z : first_now C t r' ≡ first_now C a r = first_in C t r' (omega arith) ∙ ap (at r') q ∙ k ∙ sym (first_in C a r h) in
        rw z (omega arith)
    bound_along_lem (changed (Number v)) ht et ct q h k = now_worst C more t r' ht et ct
    bound_along_lem (changed OneMore) ht et ct q h k = go (ltb (first_now C a r) 255) refl
      where
        go : (b : Bool) → ltb (first_now C a r) 255 ≡ b → bound_now C t r' ≤ pick b (bound_at C t (first_now C a r + 1)) (worst C t)
        go true s =
            let l = ltb→lt (first_now C a r) 255 (of_true (ltb (first_now C a r) 255) s) in
            let y = first_in C a r h in
            let z : first_now C t r' ≡ first_now C a r + 1 = first_in C t r' (omega arith) ∙ ap (at r') q ∙ k ∙ omega arith in
            rw z (omega arith)
        go false s = now_worst C more t r' ht et ct
    bound_along_lem (changed OneLess) ht et ct q h k = go (ltb 0 (first_now C a r)) refl
      where
        go : (b : Bool) → ltb 0 (first_now C a r) ≡ b → bound_now C t r' ≤ pick b (bound_at C t (first_now C a r - 1)) (worst C t)
        go true s =
            let l = ltb→lt 0 (first_now C a r) (of_true (ltb 0 (first_now C a r)) s) in
            let y = first_in C a r h in
            let b = first_byte in
            let z : first_now C t r' ≡ first_now C a r - 1 = first_in C t r' (omega arith) ∙ ap (at r') q ∙ k ∙ omega arith in
            rw z (omega arith)
        go false s = now_worst C more t r' ht et ct
    bound_along_lem (changed (Within w)) ht et ct q h k = now_worst C more t r' ht et ct
    bound_along_lem (changed (CopyOf y)) ht et ct q h k = now_worst C more t r' ht et ct
    bound_along_lem (changed Unknown) ht et ct q h k = now_worst C more t r' ht et ct

    pub bound_after_lem : t < largest_rom → EntryFacts C t → Claims C t r' → bound_now C t r' ≤ bound_after C a w t (first_now C a r)
    unfolding bound_after same_first
    bound_after_lem ht et ct = go (eqb (C.first_cell t) (C.first_cell a)) refl (eqb (C.first_cell a) no_cell) refl
      where
        go : (b : Bool) → eqb (C.first_cell t) (C.first_cell a) ≡ b → (d : Bool) → eqb (C.first_cell a) no_cell ≡ d
            → bound_now C t r' ≤ pick (b && not d) (bound_along C (change_of C a w (C.first_cell a)) t (first_now C a r)) (worst C t)
        go false e1 d e2 = now_worst C more t r' ht et ct
        go true e1 true e2 = now_worst C more t r' ht et ct
        go true e1 false e2 =
            let q = eqb→eq (C.first_cell t) (C.first_cell a) (of_true (eqb (C.first_cell t) (C.first_cell a)) e1) in
            ⊎_elim
            (λ (h : C.first_cell a < ram_end).
            let k = e.first_class h in
            let s = e.side_low in
            bound_along_lem (change_of C a w (C.first_cell a)) ht et ct q h (effect (C.first_cell a) h (omega arith)))
            (λ (h : C.first_cell a ≡ no_cell). absurd (mathlib.Core.Path.subst T (sym (eqb_yes h) ∙ e2) tt)) e.first_cell

    -- the bound at the successor, with the cost of the step
    pub cost_follows : (cost : ℕ) → t < largest_rom → EntryFacts C t → Claims C t r' → Holds (paid C a (taken n r t) cost (bound_after C a w t))
        → C.routine a ≢ 1 → cost + bound_now C t r' ≤ bound_now C a r
    cost_follows cost ht et ct m k =
        let h = paid_now cost (bound_after C a w t) m k in
        let z = bound_after_lem ht et ct in
        omega arith

-- A cell that the routine at a may not write keeps its value --

module _ (C : Certificate) (a : ℕ) (e : EntryFacts C a) (x : ℕ) (own : C.class x ≤ 2) (limited : C.class x ≡ C.side (C.routine a) → C.limit x < C.routine a) where
  not_writable : (y : ℕ) → x ≡ y → Holds (writable C (C.routine a) y) → ⊥
  not_writable y z m =
      let w = is_writable C a y e m in
      let lm : C.limit x ≡ C.limit y = ap C.limit z in
      let cx : C.class x ≡ C.class y = ap C.class z in
      let wl = w.limit in
      ⊎_elim (λ s. let k = limited (cx ∙ s) in omega arith) (λ s. omega arith) w.who

  abbrev Unchanged : Change → Type 0
  Unchanged ch = Holds (is_unchanged ch)

  -- a write to a register that the routine may write does not reach x
  kept_register : (y : RegAddr) (v : NewValue) → Holds (writable C (C.routine a) y.0) → Unchanged (pick (eqb x y.0) (changed v) unchanged)
  kept_register y v m =
      pick_has Unchanged (eqb x y.0) (changed v) unchanged (λ q. not_writable y.0 (eqb→eq x y.0 (of_true (eqb x y.0) q)) m) (λ _. tt)

  pub kept_cell : (w : Write) → x < 256 → Holds (direct_write C (C.routine a) w) → Holds (pointed_write C a w) → Holds (is_unchanged (change_of C a w x))
  unfolding reach
  kept_cell Write.Nothing hx m p = tt
  kept_cell (Write.Register y v) hx m p = kept_register y v m.1
  kept_cell (Write.Pointed y o) hx m p = go (leb (low C a y.0 + o) x && leb x (high C a y.0 + o)) refl
    where
      go : (b : Bool) → (leb (low C a y.0 + o) x && leb x (high C a y.0 + o)) ≡ b → Holds (is_unchanged (pick b (changed Unknown) unchanged))
      go false q = tt
      go true q =
          let z =
          sound (le (low C a y.0 + o) x & le x (high C a y.0 + o))
          (of_true (leb (low C a y.0 + o) x && leb x (high C a y.0 + o)) q) in
          not_writable x refl (p.1.1.1 x hx z).1.1
  kept_cell (Write.RegisterAndPair y w d) hx m p =
      pick_has Unchanged (eqb x d.0 || eqb x (d.0 + 1)) (changed Unknown) _
      (λ q.
      ⊎_elim (λ z. not_writable d.0 z m.1.1.1.0) (λ z. not_writable (d.0 + 1) z m.1.1.1.1.1)
      (sound (eq x d.0 ‖ eq x (d.0 + 1)) (of_true (eqb x d.0 || eqb x (d.0 + 1)) q)))
      (λ _. kept_register y (Within w) m.1.0)
