-- What the number at an address says of the rules there, and what a scan says of the numbers.
-- Assumes nothing.
use mathlib.Core.Path.{◌≡◌, refl, sym, subst}
use Rattle.std.specs.Prelude.{◌≢◌, Bool, List, [], ◌∷◌}
use Rattle.std.proofs.Common.{⊎_elim, arith}
use Rattle.std.proofs.Math.Bool.{true, false}
use Prim.Native.Nat.{ℕ, zero, suc, ◌+◌, ◌≤◌, ◌<◌}
use Rattle.std.proofs.Math.Dec.{eqb}
use borrow.Author.Tests.{eqb-true, eqb-false}
use Rattle.base.specs.Addresses.{rom_addr}
use Rattle.base.specs.Formula.{Formula, Holds, decide, sound, of_true, same?}
use Rattle.certificate.specs.declared.Verdict.{Verdict}
use Rattle.certificate.specs.declared.Verdict.TheVariants.{Accepted, Refused}
use Rattle.certificate.specs.Layout.{Certificate}
use Rattle.safety.specs.Verdicts.{Rule, Rules, first_broken, number_by, scan_by}
use Rattle.safety.specs.Accepted.{Every, Ascends}

none_first : (b : Bool) (f : Formula) (m n k : ℕ) → decide f ≡ b → m < n → ◌≡◌ {A = ℕ} (elim b [ true ↦ k | false ↦ n ]) 0 → Holds f × (k ≡ 0)
none_first true f m n k e p h = (sound f (of_true (decide f) e), h)
none_first false f m n k e p h = absurd (omega arith)

none_broken : (qs : List Rule) (m : ℕ) → Ascends m qs → first_broken qs ≡ 0 → Every qs
unfolding first_broken
none_broken [] m p h = tt
none_broken (q ∷ qs) m p h =
    let z = none_first (decide q.formula) q.formula m q.number (first_broken qs) refl p.0 h in
    (z.0, none_broken qs q.number p.1 z.1)

module _ (rules : Rules) (rom : ℕ) (C : Certificate) (image : List ℕ) where
  -- where the number at an address with an entry is 0, every rule holds
  pub number_every : (a : ℕ) → Ascends 20 (rules rom C image a) → number_by rules rom C image a ≡ 0 → C.routine a ≢ 0 → Every (rules rom C image a)
  unfolding number_by
  number_every a up z r = on (eqb (C.routine a) 0) refl z
    where
      on : (b : Bool) → eqb (C.routine a) 0 ≡ b → ◌≡◌ {A = ℕ} (elim b [ true ↦ 0 | false ↦ first_broken (rules rom C image a) ]) 0
          → Every (rules rom C image a)
      on true e z = absurd (r (eqb-true (C.routine a) 0 e))
      on false e z = none_broken (rules rom C image a) 20 up z

  -- the first of n addresses from a on whose number is not 0: it is b, with number m
  pub record First (n a m b : ℕ) : Type 0 where
    pub from : a ≤ b
    pub upto : b < a + n
    pub number : number_by rules rom C image b ≡ m
    pub some : m ≢ 0
    pub lower : (k : ℕ) → a ≤ k → k < b → number_by rules rom C image k ≡ 0

  -- what a scan of n addresses from a on says
  abbrev pub Scanned : ℕ → ℕ → Verdict → Type 0
  Scanned n a Accepted = (k : ℕ) → a ≤ k → k < a + n → number_by rules rom C image k ≡ 0
  Scanned n a (Refused m b) = First n a m b.0

  -- one more address in front, with number 0
  with_front : (a k : ℕ) → number_by rules rom C image a ≡ 0 → (k ≢ a → number_by rules rom C image k ≡ 0) → number_by rules rom C image k ≡ 0
  with_front a k z h = ⊎_elim (λ (e : k ≡ a). subst (λ (j : ℕ). number_by rules rom C image j ≡ 0) (sym e) z) h (same? k a)

  in_front_lem : (n a : ℕ) (v : Verdict) → number_by rules rom C image a ≡ 0 → Scanned n (a + 1) v → Scanned (suc n) a v
  in_front_lem n a Accepted z h = λ k l u. with_front a k z (λ ne. h k (omega arith) (omega arith))
  in_front_lem n a (Refused m b) z h =
      let l : a + 1 ≤ b.0 = h.from in
      let u : b.0 < a + 1 + n = h.upto in
      record {
        from = omega arith;
        upto = omega arith;
        number = h.number;
        some = h.some;
        lower = λ k l u. with_front a k z (λ ne. h.lower k (omega arith) u);
      }

  pub scanned : (n a : ℕ) → Scanned n a (scan_by rules rom C image n a)
  unfolding scan_by
  scanned zero a = λ k l u. absurd (omega arith)
  scanned (suc n) a = on (scanned n (a + 1)) (eqb (number_by rules rom C image a) 0) refl
    where
      on : Scanned n (a + 1) (scan_by rules rom C image n (a + 1)) → (b : Bool) → eqb (number_by rules rom C image a) 0 ≡ b
          → Scanned (suc n) a (elim b [ true ↦ scan_by rules rom C image n (a + 1) | false ↦ Refused (number_by rules rom C image a) (rom_addr a) ])
      on rest true e = in_front_lem n a (scan_by rules rom C image n (a + 1)) (eqb-true (number_by rules rom C image a) 0 e) rest
      on rest false e =
          record {
            from = omega arith;
            upto = omega arith;
            number = refl;
            some = eqb-false (number_by rules rom C image a) 0 e;
            lower = λ k l u. absurd (omega arith);
          }
