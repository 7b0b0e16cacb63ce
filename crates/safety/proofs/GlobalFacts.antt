-- What acceptance says of the whole certificate.
-- Assumes nothing.
use Rattle.std.specs.Prelude.{◌≡◌, List, ℕ, ◌+◌, ◌≤◌}
use Rattle.std.proofs.Math.Path.{refl, ap}
use Rattle.std.proofs.Common.{sym, ◌∙◌}
use Rattle.std.proofs.Math.Logic.{inl, inr}
use native.Mathlib.Omega.{arith}
use Rattle.base.specs.Addresses.{flags_cell, sp_cell, sym_cell}
use Rattle.base.specs.Lengths.{largest_rom}
use Rattle.certificate.specs.Layout.{Certificate}
use Rattle.safety.specs.Rules.{start_rule, bare_rule, rule25}
use Rattle.safety.specs.Accepted.{Accepts}
use Rattle.safety.proofs.Facts.{Global, Rule20Facts, rule20_facts, entry_in_rom, entry_at, used_main, used_service, service_start_lem, special, in_stack, table_mapped_lem, row_at}

module _ (rom : ℕ) (C : Certificate) (image : List ℕ) (fits : rom ≤ largest_rom) (ok : Accepts rom C image) where
  parts : Rule20Facts rom C image
  parts = rule20_facts rom C image ok.r20

  room_rule : C.need 1 + 3 + C.need 2 + C.floor ≤ C.top
  unfolding rule25 start_rule
  room_rule =
      let z = parts.starts 1 (omega arith) (used_main rom C image parts) in
      let e = parts.main_start in
      let r : C.routine 0x100 ≡ 1 = ap C.routine (sym e) ∙ z.1.0 in
      (ok.rules 0x100 (omega arith) (λ q. omega arith)).r25.1.1.1.1.1 refl

  pub global : Global C image
  unfolding start_rule bare_rule
  global =
      let p = parts in
      let m = p.starts 1 (omega arith) (used_main rom C image p) in
      let v = p.starts 2 (omega arith) (used_service rom C image p) in
      let s = service_start_lem rom C image p in
      let em = p.main_start in
      let ev = p.service_start in
      let bm = p.main_bare in
      let bv = p.service_bare in
      record {
        stack_top = p.stack_top;
        stack_class = in_stack rom C image p;
        flags_class = special rom C image p flags_cell (omega arith) (inl refl);
        sp_class = special rom C image p sp_cell (omega arith) (inr (inl refl));
        sym_class = special rom C image p sym_cell (omega arith) (inr (inr refl));
        table_mapped = table_mapped_lem rom C image p;
        main_side = p.main_side;
        service_side = p.service_side;
        main_routine = ap C.routine (sym em) ∙ m.1.0;
        main_depth = ap C.depth (sym em) ∙ m.1.1.0;
        main_first = ap C.first_cell (sym em) ∙ bm.0;
        main_second = ap C.second_cell (sym em) ∙ bm.1.0;
        main_compare = ap C.compare_cell (sym em) ∙ bm.1.1;
        vector_in_entries = omega arith;
        service_routine = s.1;
        service_depth = ap C.depth (sym ev) ∙ v.1.1.0;
        service_first = ap C.first_cell (sym ev) ∙ bv.0;
        service_second = ap C.second_cell (sym ev) ∙ bv.1.0;
        service_compare = ap C.compare_cell (sym ev) ∙ bv.1.1;
        service_start = ev;
        room = room_rule;
        entry = entry_at rom C image p;
        rows = λ a n h r u e. row_at C a n _ _ _ (ok.rules a (entry_in_rom rom C image p a h (omega arith)) (λ q. omega arith)).r27 r u e;
      }
