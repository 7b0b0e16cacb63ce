-- Demand 2, the checker: its verdict reports the first broken rule, or that none is broken, and no other verdict does.
-- Assumes nothing.
use Rattle.std.specs.Prelude.{◌≡◌, ◌⊎◌, Bool, List, [], ◌∷◌, ℕ, ◌≤◌, ◌<◌, length}
use Rattle.std.proofs.Math.Path.{refl, sym}
use Rattle.std.proofs.Common.{subst, ◌∙◌, ap, arith}
use Rattle.std.proofs.Math.Logic.{◌≢◌, inl, inr, ⊎_elim}
use Rattle.std.proofs.Math.Bool.{true, false}
use Rattle.std.proofs.Math.Dec.{eqb}
use Rattle.std.proofs.lemmas.Bool.{eqb-false}
use Rattle.base.specs.declared.RomAddr.{RomAddr}
use Rattle.base.specs.Addresses.{rom_addr}
use Rattle.base.specs.Choice.{pick}
use Rattle.base.specs.Formula.{Formula, Holds, decide, sound, of_true, same?, le?, eqb_yes, decide_no, decide_false}
use Rattle.base.specs.Lengths.{is_certificate_length}
use Rattle.certificate.specs.declared.Verdict.{Verdict}
use Rattle.certificate.specs.declared.Verdict.TheVariants.{Accepted, Refused}
use Rattle.certificate.specs.Layout.{Certificate, certificate_of}
use Rattle.safety.specs.Rules.{rule20}
use Rattle.safety.specs.Accepted.{Every, Ascends}
use Rattle.safety.proofs.OwnRules.{ascending}
use Rattle.safety.proofs.Scanned.{number_every, Scanned, scanned}
use Rattle.safety.specs.Verdicts.{Rule, rules_with, rules_at, first_broken, number_by, verdict_on_by, verdict_by, number_at, scan, verdict_on, verdict_of}
use Rattle.safety.specs.Verdicts.{Breaks, rules_on_whole, Broken, Reports, Exact, lengths_right}
use Rattle.safety.specs.Verdicts.{CheckNumber}

-- The lowest broken rule of a list --

above : (qs : List Rule) (m : ℕ) → Ascends m qs → (k : ℕ) → Breaks qs k → m < k
above [] m p k b = absurd b
above (q ∷ qs) m p k b =
    let l : m < q.number = p.0 in
    ⊎_elim (λ (h : (q.number ≡ k) × (Holds q.formula → ⊥)). let e : q.number ≡ k = h.0 in omega arith)
    (λ (h : Breaks qs k). let u : q.number < k = above qs q.number p.1 k h in omega arith) b

-- n is broken, and no lower number is
record Lowest (qs : List Rule) (n : ℕ) : Type 0 where
  broken : Breaks qs n
  least : (k : ℕ) → k < n → Breaks qs k → ⊥

holds : (f : Formula) → decide f ≡ true → Holds f
holds f e = sound f (of_true (decide f) e)

first_lowest : (qs : List Rule) (m : ℕ) → Ascends m qs → first_broken qs ≢ 0 → Lowest qs (first_broken qs)
unfolding first_broken
first_lowest [] m p ne = absurd (ne refl)
first_lowest (q ∷ qs) m p ne = on (first_lowest qs q.number p.1) (decide q.formula) refl ne
  where
    on : (first_broken qs ≢ 0 → Lowest qs (first_broken qs)) → (b : Bool) → decide q.formula ≡ b
        → ◌≢◌ {A = ℕ} (elim b [ true ↦ first_broken qs | false ↦ q.number ]) 0
        → Lowest (q ∷ qs) (elim b [ true ↦ first_broken qs | false ↦ q.number ])
    on rest true e ne =
        let z = rest ne in
        record { broken = inr z.broken; least = λ k l b. ⊎_elim (λ h. h.1 (holds q.formula e)) (λ h. z.least k l h) b }
    on rest false e ne =
        record {
          broken = inl (refl, decide_false q.formula refl e);
          least =
              λ k l b.
              ⊎_elim (λ (h : (q.number ≡ k) × (Holds q.formula → ⊥)). let d : q.number ≡ k = h.0 in omega arith)
              (λ (h : Breaks qs k). let u : q.number < k = above qs q.number p.1 k h in omega arith) b;
        }

every_none : (qs : List Rule) → Every qs → (k : ℕ) → Breaks qs k → ⊥
every_none [] e k b = b
every_none (q ∷ qs) e k b = ⊎_elim (λ h. h.1 e.0) (λ h. every_none qs e.1 k h) b

-- P holds of the number of each rule, so of each number that is broken
abbrev Numbers : (ℕ → Type 0) → List Rule → Type 0
Numbers P [] = Unit {0}
Numbers P (q ∷ qs) = P q.number × Numbers P qs

one_of : (P : ℕ → Type 0) (qs : List Rule) → Numbers P qs → (k : ℕ) → Breaks qs k → P k
one_of P [] e k b = absurd b
one_of P (q ∷ qs) e k b = ⊎_elim (λ h. subst P h.0 e.0) (λ h. one_of P qs e.1 k h) b

module _ (rom : ℕ) (C : Certificate) (image : List ℕ) where
  number_none : (a : ℕ) → number_at rom C image a ≡ 0 → C.routine a ≢ 0 → (k : ℕ) → Breaks (rules_at rom C image a) k → ⊥
  number_none a z r = every_none (rules_at rom C image a) (number_every rules_at rom C image a (ascending rom C image a) z r)

  number_lowest : (a : ℕ) → number_at rom C image a ≢ 0 → (C.routine a ≢ 0) × Lowest (rules_at rom C image a) (number_at rom C image a)
  unfolding number_by
  number_lowest a n = on (eqb (C.routine a) 0) refl n
    where
      on : (b : Bool) → eqb (C.routine a) 0 ≡ b → ◌≢◌ {A = ℕ} (elim b [ true ↦ 0 | false ↦ first_broken (rules_at rom C image a) ]) 0
          → (C.routine a ≢ 0) × Lowest (rules_at rom C image a) (elim b [ true ↦ 0 | false ↦ first_broken (rules_at rom C image a) ])
      on true e n = absurd (n refl)
      on false e n = (eqb-false (C.routine a) 0 e, first_lowest (rules_at rom C image a) 20 (ascending rom C image a) n)

-- The verdict --

same_refusal : {n m : ℕ} {a b : RomAddr} → n ≡ m → a.0 ≡ b.0 → Refused n a ≡ Refused m b
same_refusal {n} {m} {a} {b} e d = ap (λ (k : ℕ). Refused k a) e ∙ ap (λ (j : ℕ). Refused m (rom_addr j)) d

module _ (rom : ℕ) (image cert : List ℕ) where
  abbrev C : Certificate
  C = certificate_of cert

  -- on the whole nothing is broken
  whole_none : Holds (lengths_right rom image cert) → Holds (rule20 C rom image) → (k : ℕ) → Breaks (rules_on_whole rom image cert) k → ⊥
  whole_none p q = every_none (rules_on_whole rom image cert) (p, (q, tt))

  -- nor anywhere, where every rule at each address with an entry holds
  pub unbroken : Holds (lengths_right rom image cert) → Holds (rule20 C rom image)
      → ((a : ℕ) → a < rom → C.routine a ≢ 0 → Every (rules_at rom C image a)) → (n a : ℕ) → Broken rom image cert n a → ⊥
  unbroken p q e n a b = ⊎_elim (λ g. whole_none p q n g.1) (λ g. every_none (rules_at rom C image a) (e a g.0 g.1) n g.2) b

  -- every number that is broken at 0000H is at least m, where those on the whole are
  lowest_there : (m : ℕ) → m ≤ 20 → ((k : ℕ) → Breaks (rules_on_whole rom image cert) k → m ≤ k) → (k : ℕ) → k < m → Broken rom image cert k 0 → ⊥
  lowest_there m s f k l b =
      ⊎_elim (λ h. let u : m ≤ k = f k h.1 in omega arith)
      (λ h. let u : 20 < k = above (rules_at rom C image 0) 20 (ascending rom C image 0) k h.2 in omega arith) b

  from_scan : Holds (lengths_right rom image cert) → Holds (rule20 C rom image) → (v : Verdict) → Scanned rules_at rom C image rom 0 v → Reports rom image cert v
  from_scan p q Accepted h =
      unbroken p q (λ a l r. number_every rules_at rom C image a (ascending rom C image a) (h a (omega arith) (omega arith)) r)
  from_scan p q (Refused m a) h =
      let z = number_lowest rom C image a.0 (λ e. h.some (sym h.number ∙ e)) in
      let low : Lowest (rules_at rom C image a.0) m = subst (λ (j : ℕ). Lowest (rules_at rom C image a.0) j) h.number z.1 in (
        inr (omega (arith, h.upto), z.0, low.broken),
        λ k l b. ⊎_elim (λ g. whole_none p q k g.1) (λ g. low.least k l g.2) b,
        λ b l k r.
            ⊎_elim (λ g. whole_none p q k g.1) (λ g. number_none rom C image b (h.lower b (omega arith) l) g.1 k g.2) r,
      )

  pub verdict_reports : Reports rom image cert (verdict_of rom image cert)
  unfolding verdict_by verdict_on_by
  verdict_reports = lengths (decide (lengths_right rom image cert)) refl
    where
      whole : Holds (lengths_right rom image cert) → (b : Bool) → decide (rule20 C rom image) ≡ b
          → Reports rom image cert (elim b [ true ↦ scan rom C image rom 0 | false ↦ Refused 20 (rom_addr 0) ])
      whole p true e = from_scan p (holds (rule20 C rom image) e) (scan rom C image rom 0) (scanned rules_at rom C image rom 0)
      whole p false e = (
        inl (refl, inr (inl (refl, decide_false (rule20 C rom image) refl e))),
        lowest_there 20 (omega arith)
            (λ k b. ⊎_elim (λ h. absurd (h.1 p)) (λ b. ⊎_elim (λ h. let d : 20 ≡ k = h.0 in omega arith) (λ h. absurd h) b) b),
        λ b l k r. absurd (omega arith),
      )

      lengths : (b : Bool) → decide (lengths_right rom image cert) ≡ b → Reports rom image cert (pick b (verdict_on rom C image) (Refused 7 (rom_addr 0)))
      lengths true e = whole (holds (lengths_right rom image cert) e) (decide (rule20 C rom image)) refl
      lengths false e = (
        inl (refl, inl (refl, decide_false (lengths_right rom image cert) refl e)),
        lowest_there 7 (omega arith)
            (λ k b. let u : 6 < k = above (rules_on_whole rom image cert) 6 (omega arith, (omega arith, tt)) k b in omega arith),
        λ b l k r. absurd (omega arith),
      )

  -- two verdicts that report what is so are one
  pub reports_once : (v w : Verdict) → Reports rom image cert v → Reports rom image cert w → v ≡ w
  reports_once Accepted Accepted t u = refl
  reports_once Accepted (Refused m b) t u = absurd (t m b.0 u.0)
  reports_once (Refused n a) Accepted t u = absurd (u n a.0 t.0)
  reports_once (Refused n a) (Refused m b) t u = on (same? a.0 b.0)
    where
      lowest : a.0 ≡ b.0 → (n ≡ m) ⊎ (n ≢ m) → Refused n a ≡ Refused m b
      lowest e (inl d) = same_refusal d e
      lowest e (inr d) =
          ⊎_elim (λ (l : n ≤ m). absurd (u.1 n (omega arith) (subst (λ (j : ℕ). Broken rom image cert n j) e t.0)))
          (λ (l : m < n). absurd (t.1 m l (subst (λ (j : ℕ). Broken rom image cert m j) (sym e) u.0))) (le? n m)

      on : (a.0 ≡ b.0) ⊎ (a.0 ≢ b.0) → Refused n a ≡ Refused m b
      on (inl e) = lowest e (same? n m)
      on (inr d) =
          ⊎_elim (λ (l : a.0 ≤ b.0). absurd (u.2 a.0 (omega arith) n t.0))
          (λ (l : b.0 < a.0). absurd (t.2 b.0 l m u.0)) (le? a.0 b.0)

  -- the checker's verdict is exact
  pub exact : Exact rom image cert (verdict_of rom image cert)
  exact = record { reports = verdict_reports; only = λ w t. reports_once w (verdict_of rom image cert) t verdict_reports }

  -- accepted exactly when no rule is broken
  pub accepted_only_when : verdict_of rom image cert ≡ Accepted → (n a : ℕ) → Broken rom image cert n a → ⊥
  accepted_only_when e = rw e at verdict_reports

  pub accepted_when : ((n a : ℕ) → Broken rom image cert n a → ⊥) → verdict_of rom image cert ≡ Accepted
  accepted_when h = reports_once (verdict_of rom image cert) Accepted verdict_reports h

  -- refused by n at a exactly when that is the first broken rule
  pub refused_only_when : (n : ℕ) (a : RomAddr) → verdict_of rom image cert ≡ Refused n a → Reports rom image cert (Refused n a)
  refused_only_when n a e = rw e at verdict_reports

  pub refused_when : (n : ℕ) (a : RomAddr) → Reports rom image cert (Refused n a) → verdict_of rom image cert ≡ Refused n a
  refused_when n a h = reports_once (verdict_of rom image cert) (Refused n a) verdict_reports h

  -- 20 where the lengths are right and rule 20 does not hold
  pub twenty_when : length image ≡ rom → is_certificate_length (length cert) ≡ true → (Holds (rule20 C rom image) → ⊥)
      → verdict_of rom image cert ≡ Refused 20 (rom_addr 0)
  unfolding verdict_by verdict_on_by
  twenty_when full whole n = rw (eqb_yes full, whole, sym (decide_no (rule20 C rom image) n), verdict_on_by)

rule_numbers : (rom : ℕ) (C : Certificate) (image : List ℕ) (a : ℕ) → Numbers CheckNumber (rules_at rom C image a)
unfolding rules_with
rule_numbers rom C image a = (
  inr (omega arith, omega arith),
  (
    inr (omega arith, omega arith),
    (
      inr (omega arith, omega arith),
      (
        inr (omega arith, omega arith),
        (inr (omega arith, omega arith), (inr (omega arith, omega arith), (inr (omega arith, omega arith), tt))),
      ),
    ),
  ),
)

pub verdict_number : (rom : ℕ) (image cert : List ℕ) (n : ℕ) (a : RomAddr) → verdict_of rom image cert ≡ Refused n a → CheckNumber n
verdict_number rom image cert n a e =
    ⊎_elim (λ h. one_of CheckNumber (rules_on_whole rom image cert) (inl refl, (inr (omega arith, omega arith), tt)) n h.1)
    (λ h. one_of CheckNumber (rules_at rom (certificate_of cert) image a.0) (rule_numbers rom (certificate_of cert) image a.0) n h.2)
    (refused_only_when rom image cert n a e).0
