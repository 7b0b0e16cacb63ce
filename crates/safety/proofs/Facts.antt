-- What the rules say of the whole certificate, of one entry and of one cell, as records of facts.
-- Assumes nothing.
use Rattle.std.specs.Prelude.{◌≡◌, ◌≢◌, ◌⊎◌, true, List, ℕ, ◌+◌, ◌≤◌, ◌<◌}
use Rattle.std.proofs.Math.Path.{ap}
use Rattle.std.proofs.Common.{sym, ◌∙◌}
use Rattle.std.proofs.Math.Logic.{inl, inr, ⊎_elim}
use Rattle.std.proofs.Math.Bool.{false≢true}
use native.Mathlib.Omega.{arith}
use Rattle.base.specs.Addresses.{flags_cell, sp_cell, sym_cell}
use Rattle.base.specs.Formula.{Holds, same?, case_bool}
use Rattle.base.specs.Lengths.{largest_rom, greatest_entry_cost}
use Rattle.chip.specs.Registers.{mapped_of}
use Rattle.certificate.specs.declared.Summary.{Summary}
use Rattle.certificate.specs.Layout.{Certificate}
use Rattle.safety.specs.Rules.{ram_end, unloaded, no_cell, worst, used, cell_rule, claimable, claim_rule, compare_rule}
use Rattle.safety.specs.Rules.{entry_rule, address_rule, start_rule, bare_rule, rule20, opening_cost, row_rule, rule27, writable}
use Rattle.semantics.specs.Step.{vector_of}

-- rule 20 at an entry
pub record EntryFacts (C : Certificate) (a : ℕ) : Type 0 where
  pub side_low : 1 ≤ C.side (C.routine a)
  pub side_high : C.side (C.routine a) ≤ 2
  pub first_cell : (C.first_cell a < ram_end) ⊎ (C.first_cell a ≡ no_cell)
  pub second_cell : (C.second_cell a < ram_end) ⊎ (C.second_cell a ≡ no_cell)
  pub compare_cell : (C.compare_cell a < ram_end) ⊎ (C.compare_cell a ≡ no_cell)
  pub first_class : C.first_cell a < ram_end → C.class (C.first_cell a) ≡ C.side (C.routine a)
  pub second_class : C.second_cell a < ram_end → C.class (C.second_cell a) ≡ C.side (C.routine a)
  pub compare_class : C.compare_cell a < ram_end → C.class (C.compare_cell a) ≡ C.side (C.routine a)
  pub still : C.direction a ≡ 0 → C.slope a ≡ 0

-- rules 20, 25 at 0100H and 27 for rows, of the whole certificate
pub record Global (C : Certificate) (image : List ℕ) : Type 0 where
  pub stack_top : C.top ≤ 0xC0
  pub stack_class : (x : ℕ) → C.floor ≤ x → x < C.top → C.class x ≡ 0
  pub flags_class : C.class flags_cell ≡ 0
  pub sp_class : C.class sp_cell ≡ 0
  pub sym_class : C.class sym_cell ≡ 0
  pub table_mapped : (x : ℕ) → x < 256 → C.table x ≢ 0 → mapped_of x ≡ true
  pub main_side : C.side 1 ≡ 1
  pub service_side : C.side 2 ≡ 2
  pub main_routine : C.routine 0x100 ≡ 1
  pub main_depth : C.depth 0x100 ≡ unloaded
  pub main_first : C.first_cell 0x100 ≡ no_cell
  pub main_second : C.second_cell 0x100 ≡ no_cell
  pub main_compare : C.compare_cell 0x100 ≡ no_cell
  pub vector_in_entries : vector_of image < largest_rom
  pub service_routine : C.routine (vector_of image) ≡ 2
  pub service_depth : C.depth (vector_of image) ≡ 0
  pub service_first : C.first_cell (vector_of image) ≡ no_cell
  pub service_second : C.second_cell (vector_of image) ≡ no_cell
  pub service_compare : C.compare_cell (vector_of image) ≡ no_cell
  pub service_start : C.start 2 ≡ vector_of image
  pub room : C.need 1 + 3 + C.need 2 + C.floor ≤ C.top
  pub entry : (a : ℕ) → a < largest_rom → 1 ≤ C.routine a → EntryFacts C a
  -- a row's bound covers what opening costs and its start's worst
  pub rows : (a n : ℕ) → a < largest_rom → C.routine a ≡ n → 2 ≤ n → C.start n ≡ a → opening_cost C n + worst C a ≤ C.bound n

-- a cell that may be claimed if there is one
claimed_cell : (C : Certificate) (a x : ℕ) → (x ≢ no_cell → Holds (claimable C a x))
    → ((x < ram_end) × (C.class x ≡ C.side (C.routine a))) ⊎ (x ≡ no_cell)
unfolding claimable
claimed_cell C a x p = ⊎_elim (λ (e : x ≡ no_cell). inr e) (λ (n : x ≢ no_cell). let z = p n in inl (z.0, z.1.1)) (same? x no_cell)

entry_facts : (C : Certificate) (a : ℕ) → (1 ≤ C.side (C.routine a)) × (C.side (C.routine a) ≤ 2) → Holds (entry_rule C a) → EntryFacts C a
unfolding entry_rule claim_rule compare_rule
entry_facts C a s p =
    let claims = p.1.1.1.1.1 in
    let f = claimed_cell C a (C.first_cell a) (λ n. (claims.0.0 n).1) in
    let g = claimed_cell C a (C.second_cell a) (λ n. (claims.1.0.0 n).1) in
    let k = claimed_cell C a (C.compare_cell a) claims.1.1.1.0.0 in
    record {
      side_low = s.0;
      side_high = s.1;
      first_cell = ⊎_elim (λ z. inl z.0) inr f;
      second_cell = ⊎_elim (λ z. inl z.0) inr g;
      compare_cell = ⊎_elim (λ z. inl z.0) inr k;
      first_class = λ h. ⊎_elim (λ z. z.1) (λ z. absurd (omega arith)) f;
      second_class = λ h. ⊎_elim (λ z. z.1) (λ z. absurd (omega arith)) g;
      compare_class = λ h. ⊎_elim (λ z. z.1) (λ z. absurd (omega arith)) k;
      still = p.1.1.1.0;
    }

-- a register that the routine at a may write
pub record Writable (C : Certificate) (a x : ℕ) : Type 0 where
  pub own : 1 ≤ C.class x
  pub who : (C.class x ≡ C.side (C.routine a)) ⊎ (C.class x ≡ 3)
  pub limit : C.routine a ≤ C.limit x

pub is_writable : (C : Certificate) (a x : ℕ) → EntryFacts C a → Holds (writable C (C.routine a) x) → Writable C a x
unfolding writable
is_writable C a x e t =
    let s = e.side_low in
    record { own = ⊎_elim (λ h. omega arith) (λ h. omega arith) t.0; who = t.0; limit = t.1 }

-- the parts of rule 20 by name
pub record Rule20Facts (rom : ℕ) (C : Certificate) (image : List ℕ) : Type 0 where
  pub stack_top : C.top ≤ 0xC0
  pub cells : (x : ℕ) → x < 256 → Holds (cell_rule C x)
  pub main_start : C.start 1 ≡ 0x100
  pub main_side : C.side 1 ≡ 1
  pub service_start : C.start 2 ≡ vector_of image
  pub service_side : C.side 2 ≡ 2
  pub starts : (n : ℕ) → n < 64 → Holds (start_rule C rom n)
  pub main_bare : Holds (bare_rule C (C.start 1))
  pub service_bare : Holds (bare_rule C (C.start 2))
  pub addresses : (a : ℕ) → a < largest_rom → Holds (address_rule C rom a)
  pub entry_cost : C.entry_cost ≤ greatest_entry_cost

pub rule20_facts : (rom : ℕ) (C : Certificate) (image : List ℕ) → Holds (rule20 C rom image) → Rule20Facts rom C image
unfolding rule20
rule20_facts rom C image p =
    let main = p.1.1.1.1 in
    let service = main.1.1.1 in
    let rest = service.1.1 in
    record {
      stack_top = p.1.0;
      cells = p.1.1.0;
      main_start = main.0;
      main_side = main.1.0;
      service_start = service.0;
      service_side = service.1.0;
      starts = rest.0;
      main_bare = rest.1.0;
      service_bare = rest.1.1.0;
      addresses = rest.1.1.1.0;
      entry_cost = rest.1.1.1.1;
    }

module _ (rom : ℕ) (C : Certificate) (image : List ℕ) (parts : Rule20Facts rom C image) where
  sides : (n : ℕ) → n < 64 → Holds (used C n) → (1 ≤ C.side n) × (C.side n ≤ 2)
  unfolding start_rule
  sides n h u = let z = parts.starts n h u in ⊎_elim (λ e. (omega arith, omega arith)) (λ e. (omega arith, omega arith)) z.1.1.1

  -- an entry lies in ROM, and is right
  entry_rule_lem : (a : ℕ) → a < largest_rom → 1 ≤ C.routine a → (a < rom) × Holds (entry_rule C a)
  unfolding address_rule
  entry_rule_lem a h u = (parts.addresses a h).1 (λ e. omega arith)

  pub entry_in_rom : (a : ℕ) → a < largest_rom → 1 ≤ C.routine a → a < rom
  entry_in_rom a h u = (entry_rule_lem a h u).0

  pub entry_at : (a : ℕ) → a < largest_rom → 1 ≤ C.routine a → EntryFacts C a
  unfolding entry_rule
  entry_at a h u =
      let p = (entry_rule_lem a h u).1 in
      entry_facts C a (sides (C.routine a) p.0 p.1.0) p

  pub used_main : Holds (used C 1)
  unfolding used
  used_main z = let s = parts.main_side in omega arith

  pub used_service : Holds (used C 2)
  unfolding used
  used_service z = let s = parts.service_side in omega arith

  -- the service starts in ROM, and its entry there names it
  pub service_start_lem : (vector_of image < rom) × (C.routine (vector_of image) ≡ 2)
  unfolding start_rule
  service_start_lem =
      let z = parts.starts 2 (omega arith) used_service in
      let e = parts.service_start in
      (omega arith, ap C.routine (sym e) ∙ z.1.0)

  pub special : (x : ℕ) → x < 256 → (x ≡ flags_cell) ⊎ (x ≡ sp_cell) ⊎ (x ≡ sym_cell) → C.class x ≡ 0
  unfolding cell_rule
  special x h e = ((parts.cells x h).1 (inr (⊎_elim inl (λ q. inr (⊎_elim inl (λ q. inr (inl q)) q)) e))).0

  pub in_stack : (x : ℕ) → C.floor ≤ x → x < C.top → C.class x ≡ 0
  unfolding cell_rule
  in_stack x l u = let t = parts.stack_top in ((parts.cells x (omega arith)).1 (inl (l, u))).0

  -- an unmapped cell lies in no table
  pub table_mapped_lem : (x : ℕ) → x < 256 → C.table x ≢ 0 → mapped_of x ≡ true
  unfolding cell_rule
  table_mapped_lem x h n =
      ⊎_elim (λ t. t) (λ f. absurd (n ((parts.cells x h).1 (inr (inr (inr (inr (λ t. false≢true (sym f ∙ t))))))).1)) (case_bool (mapped_of x))

-- the row of a routine whose start keeps 27
pub row_at : (C : Certificate) (a n : ℕ) (S : Summary) (cost next : ℕ) → Holds (rule27 C a S cost next) → C.routine a ≡ n → 2 ≤ n → C.start n ≡ a
    → opening_cost C n + worst C a ≤ C.bound n
unfolding rule27 row_rule
row_at C a n S cost next h r u e = ⊎_elim (λ q. absurd (omega arith)) (λ q. q e) (rw r at h.1.1.1)

-- the service's bound covers the cycles of an entry and its start's worst
pub service_row : (C : Certificate) (image : List ℕ) → Global C image → C.entry_cost + worst C (vector_of image) ≤ C.bound 2
service_row C image g = g.rows (vector_of image) 2 g.vector_in_entries g.service_routine (omega arith) g.service_start
