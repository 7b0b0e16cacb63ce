-- Parts of rule 20, as the checker's code goes through them.
-- Assumes nothing.
use Rattle.std.specs.Prelude.{◌≡◌, ◌&&◌, ℕ, ◌+◌, ◌*◌, List, get_or}
use Rattle.base.specs.Formula.{Formula, Holds, decide, le, lt, eq, neg, ◌&◌, ◌⇒◌, forall_below}
use Rattle.base.specs.Lengths.{largest_rom, greatest_entry_cost}
use Rattle.certificate.specs.Layout.{Certificate}
use Rattle.claims.specs.Laws.{decide_same}
use Rattle.safety.specs.Rules.{unloaded, present, used, cell_rule, claim_rule, compare_rule, entry_rule, start_rule, bare_rule, address_rule, rule20}

module _ (C : Certificate) (a : ℕ) where
  unfoldable pub routine_rule : Formula
  routine_rule = lt (C.routine a) 64 & used C (C.routine a) & (eq (C.depth a) unloaded ⇒ eq (C.routine a) 1)

  unfoldable pub bound_rule : Formula
  bound_rule =
      le (C.direction a) 2
      & (eq (C.direction a) 0 ⇒ eq (C.slope a) 0)
      & (neg (eq (C.direction a) 0) ⇒ present (C.first_cell a))
      & (eq (C.routine a) 1 ⇒ eq (C.base a) 0 & eq (C.slope a) 0 & eq (C.direction a) 0)

  unfoldable pub claims_rule : Formula
  claims_rule =
      claim_rule C a (C.first_cell a) (C.first_low a) (C.first_high a)
      & claim_rule C a (C.second_cell a) (C.second_low a) (C.second_high a)
      & (present (C.first_cell a) ⇒ neg (eq (C.first_cell a) (C.second_cell a)))
      & compare_rule C a

  -- `entry_rule` is these parts
  pub entry_split : Holds (entry_rule C a) → Holds routine_rule × Holds bound_rule × Holds claims_rule
  unfolding entry_rule routine_rule bound_rule claims_rule
  entry_split (lim, (u, (dir, (m, (d, (c1, (c2, (two, (k, (deep, main)))))))))) =
      ((lim, (u, deep)), (dir, (m, (d, main))), (c1, (c2, (two, k))))

  pub entry_join : Holds routine_rule → Holds bound_rule → Holds claims_rule → Holds (entry_rule C a)
  unfolding entry_rule routine_rule bound_rule claims_rule
  entry_join (lim, (u, deep)) (dir, (m, (d, main))) (c1, (c2, (two, k))) =
      (lim, (u, (dir, (m, (d, (c1, (c2, (two, (k, (deep, main))))))))))

  pub entry_parts : decide (entry_rule C a) ≡ (decide routine_rule && decide bound_rule && decide claims_rule)
  entry_parts =
      decide_same (entry_rule C a) ((routine_rule & bound_rule) & claims_rule) (λ m. let h = entry_split m in ((h.0, h.1), h.2))
      (λ m. entry_join m.0.0 m.0.1 m.1)

module _ (C : Certificate) where
  unfoldable pub cells_rule : Formula
  cells_rule = forall_below 256 (cell_rule C)

  unfoldable pub starts_rule : ℕ → Formula
  starts_rule rom = forall_below 64 (start_rule C rom)

  unfoldable pub addresses_rule : ℕ → Formula
  addresses_rule rom = forall_below largest_rom (address_rule C rom)

  unfoldable pub main_rule : Formula
  main_rule = neg (used C 0) & (eq (C.start 1) 0x100 & eq (C.side 1) 1 & eq (C.bound 1) 0) & bare_rule C (C.start 1)

  unfoldable pub service_rule : List ℕ → Formula
  service_rule image =
      eq (C.start 2) (get_or image 0 0 * 256 + get_or image 1 0) & eq (C.side 2) 2 & bare_rule C (C.start 2)

  unfoldable pub fixed_rule : List ℕ → Formula
  fixed_rule image = lt C.floor C.top & le C.top 0xC0 & le C.entry_cost greatest_entry_cost & main_rule & service_rule image

  -- rule 20 is its parts
  pub rule20_split : (rom : ℕ) (image : List ℕ) → Holds (rule20 C rom image)
      → Holds (fixed_rule image) × Holds cells_rule × Holds (starts_rule rom) × Holds (addresses_rule rom)
  unfolding rule20 fixed_rule main_rule service_rule cells_rule starts_rule addresses_rule
  rule20_split rom image (f, (t, (cells, (zero, (s1, (d1, (b1, (s2, (d2, (starts, (bare1, (bare2, (addresses, cost))))))))))))) =
      ((f, (t, (cost, ((zero, ((s1, (d1, b1)), bare1)), (s2, (d2, bare2)))))), cells, starts, addresses)

  pub rule20_join : (rom : ℕ) (image : List ℕ) → Holds (fixed_rule image) → Holds cells_rule → Holds (starts_rule rom) → Holds (addresses_rule rom)
      → Holds (rule20 C rom image)
  unfolding rule20 fixed_rule main_rule service_rule cells_rule starts_rule addresses_rule
  rule20_join rom image (f, (t, (cost, ((zero, ((s1, (d1, b1)), bare1)), (s2, (d2, bare2)))))) cells starts addresses =
      (f, (t, (cells, (zero, (s1, (d1, (b1, (s2, (d2, (starts, (bare1, (bare2, (addresses, cost)))))))))))))

  pub rule20_parts : (rom : ℕ) (image : List ℕ)
      → decide (rule20 C rom image)
      ≡ (decide (fixed_rule image) && decide cells_rule && decide (starts_rule rom) && decide (addresses_rule rom))
  rule20_parts rom image =
      decide_same (rule20 C rom image) (((fixed_rule image & cells_rule) & starts_rule rom) & addresses_rule rom)
      (λ m. let h = rule20_split rom image m in (((h.0, h.1), h.2), h.3)) (λ m. rule20_join rom image m.0.0.0 m.0.0.1 m.0.1 m.1)
