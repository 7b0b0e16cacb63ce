-- What each answer of `lowest_of` says of the certificate and the map, and which answer they give.
-- Assumes nothing.
use Prim.Native.Nat.{ℕ, zero, suc, ◌+◌, ◌≤◌, ◌<◌, zero-le}
use Rattle.std.specs.Prelude.{◌≡◌, refl, ◌≢◌, Bool, true, false, List, length}
use Rattle.std.proofs.Common.{◌∙◌, sym, subst, ⊎_elim, arith, ne_eqb, le-ltb}
use Rattle.std.proofs.lemmas.Bool.{false≢true}
use Rattle.std.proofs.Math.Bool.{not-eq-not}
use Rattle.base.specs.Addresses.{rom_addr}
use Rattle.base.specs.Choice.{from}
use Rattle.base.specs.ChoiceLaws.{pick_has}
use Rattle.base.specs.Formula.{Formula, neg, eq, test, ◌&◌, decide_true, decide_no, same?, le?}
use Rattle.base.specs.Lengths.{largest_rom, is_certificate_length}
use Rattle.base.specs.declared.RomAddr.{RomAddr}
use Rattle.certificate.specs.Layout.{Certificate, certificate_of, certificate_from, part}
use Rattle.coverage.specs.Map.{marked}
use Rattle.uncovered.specs.Lowest.{unmarked_start, first_of, lowest_of, LowestStart, Lowest}
use Rattle.uncovered.specs.Lowest.Lowest.{At, AllMarked, Refused}

-- a test fails from i up to j
abbrev Fails : (ℕ → Bool) → ℕ → ℕ → Type 0
Fails f i j = (b : ℕ) → i ≤ b → b < j → f b ≡ false

-- what the first of n numbers from i on is
abbrev IsFirst : (ℕ → Bool) → ℕ → ℕ → Lowest → Type 0
IsFirst f n i (At a) = (f a.0 ≡ true) × Fails f i a.0
IsFirst f n i AllMarked = Fails f i (i + n)
IsFirst f n i (Refused x) = ⊥

module _ (f : ℕ → Bool) where
  fails_more : (i j : ℕ) → f i ≡ false → Fails f (suc i) j → Fails f i j
  fails_more i j e h b l g = ⊎_elim (λ (q : i ≡ b). rw q at e) (λ (q : i ≢ b). h b (omega arith) g) (same? i b)

  first_more : (n i : ℕ) (r : Lowest) → f i ≡ false → IsFirst f n (suc i) r → IsFirst f (suc n) i r
  first_more n i (At a) e h = (h.0, fails_more i a.0 e h.1)
  first_more n i AllMarked e h = fails_more i (i + suc n) e (λ b l g. h b l (omega arith))
  first_more n i (Refused x) e h = h

  first_is : (n i : ℕ) → IsFirst f n i (first_of f (from n i))
  first_is zero i = λ b l g. absurd (omega arith)
  first_is (suc n) i =
      pick_has (IsFirst f (suc n) i) (f i) (At (rom_addr i)) (first_of f (from n (suc i))) (λ e. (e, λ b l g. absurd (omega arith)))
      (λ e. first_more n i (first_of f (from n (suc i))) e (first_is n (suc i)))

  first_at : (n i a : ℕ) → i ≤ a → a < i + n → f a ≡ true → Fails f i a → first_of f (from n i) ≡ At (rom_addr a)
  first_at zero i a l g e h = absurd (omega arith)
  first_at (suc n) i a l g e h =
      ⊎_elim (λ (q : i ≡ a). rw (q, e))
      (λ (q : i ≢ a). rw (h i (omega arith) (omega arith)) (first_at n (suc i) a (omega arith) (omega arith) e (λ b o. h b (omega arith)))) (same? i a)

  first_none : (n i : ℕ) → Fails f i (i + n) → first_of f (from n i) ≡ AllMarked
  first_none zero i h = refl
  first_none (suc n) i h = rw (h i (omega arith) (omega arith)) (first_none n (suc i) (λ b l g. h b (omega arith) (omega arith)))

-- the test of an address, and its meaning
module _ (C : Certificate) (m : List ℕ) (a : ℕ) where
  abbrev formula : Formula
  formula = neg (eq (C.routine a) 0) & neg (test (marked m a))

  unmarked_yes : C.routine a ≢ 0 → marked m a ≡ false → unmarked_start C m a ≡ true
  unmarked_yes s u = rw (ne_eqb (C.routine a) 0 s, u)

  unmarked_no : (C.routine a ≢ 0 → marked m a ≡ true) → unmarked_start C m a ≡ false
  unmarked_no h = sym (decide_no formula (λ g. g.1 (h g.0)))

  pub unmarked_not : unmarked_start C m a ≡ false → C.routine a ≢ 0 → marked m a ≡ true
  unmarked_not e s = not-eq-not.0 (λ u. false≢true (sym e ∙ unmarked_yes s u))

  pub unmarked_lowest : unmarked_start C m a ≡ true → ((b : ℕ) → b < a → C.routine b ≢ 0 → marked m b ≡ true) → LowestStart C m a
  unmarked_lowest e h =
      let p = decide_true formula refl e in
      record { start = p.0; unmarked = not-eq-not.0 p.1; lower = h }

-- a start is an address of ROM: past it the entry's part is empty
pub start_in_rom : (cert : List ℕ) (a : ℕ) → (certificate_of cert).routine a ≢ 0 → a < largest_rom
unfolding certificate_of certificate_from part
start_in_rom cert a s = ⊎_elim (λ (l : largest_rom ≤ a). absurd (s (rw (part, le-ltb a largest_rom l)))) (λ (l : a < largest_rom). l) (le? largest_rom a)

module _ (cert m : List ℕ) where
  abbrev passes : ℕ → Bool
  passes = unmarked_start (certificate_of cert) m

  -- what an answer says
  abbrev Says : Lowest → Type 0
  Says (At a) = LowestStart (certificate_of cert) m a.0
  Says AllMarked = (a : ℕ) → (certificate_of cert).routine a ≢ 0 → marked m a ≡ true
  Says (Refused n) = (n ≡ 7) × (is_certificate_length (length cert) ≡ false)

  first_says : (r : Lowest) → IsFirst passes largest_rom 0 r → Says r
  first_says (At a) h =
      unmarked_lowest (certificate_of cert) m a.0 h.0 (λ b l. unmarked_not (certificate_of cert) m b (h.1 b zero-le l))
  first_says AllMarked h = λ a s. unmarked_not (certificate_of cert) m a (h a zero-le (start_in_rom cert a s)) s
  first_says (Refused x) h = absurd h

  lowest_says : Says (lowest_of cert m)
  unfolding lowest_of
  lowest_says =
      let r = first_of passes (from largest_rom 0) in
      pick_has Says (is_certificate_length (length cert)) r (Refused 7) (λ _. first_says r (first_is passes largest_rom 0))
      (λ e. (refl, e))

  pub lowest_at : (a : RomAddr) → lowest_of cert m ≡ At a → LowestStart (certificate_of cert) m a.0
  lowest_at a e = subst Says e lowest_says

  pub all_marked : lowest_of cert m ≡ AllMarked → (a : ℕ) → (certificate_of cert).routine a ≢ 0 → marked m a ≡ true
  all_marked e = subst Says e lowest_says

  pub lowest_refused : (n : ℕ) → lowest_of cert m ≡ Refused n → (n ≡ 7) × (is_certificate_length (length cert) ≡ false)
  lowest_refused n e = subst Says e lowest_says

  -- which answer there is
  pub at_lowest : (a : ℕ) → is_certificate_length (length cert) ≡ true → LowestStart (certificate_of cert) m a → lowest_of cert m ≡ At (rom_addr a)
  unfolding lowest_of
  at_lowest a e h =
      rw e
      (first_at passes largest_rom 0 a zero-le (start_in_rom cert a h.start)
      (unmarked_yes (certificate_of cert) m a h.start h.unmarked) (λ b _ l. unmarked_no (certificate_of cert) m b (h.lower b l)))

  pub marked_all : is_certificate_length (length cert) ≡ true → ((a : ℕ) → (certificate_of cert).routine a ≢ 0 → marked m a ≡ true) → lowest_of cert m ≡ AllMarked
  unfolding lowest_of
  marked_all e h =
      rw e
      (first_none passes largest_rom 0 (λ b _ _. unmarked_no (certificate_of cert) m b (h b)))

  pub refused_length : is_certificate_length (length cert) ≡ false → lowest_of cert m ≡ Refused 7
  unfolding lowest_of
  refused_length h = rw h
