-- Request 03, "Interrupt entry takes time": what its byte, the cycles of an entry, does to the verdict and to the open routines.
-- Assumes nothing.
use Rattle.std.specs.Prelude.{ℕ, ◌+◌, ◌*◌, ◌≤◌, ◌<◌, ◌≡◌, ◌≢◌, Bool, ◌&&◌, List, [], ◌∷◌, ◌++◌, ltb, eqb, length, get_or, take, drop}
use Rattle.std.proofs.Math.Path.{refl, fun_ext}
use Rattle.std.proofs.Common.{sym, ◌∙◌, ap, inl, arith, length-append, length-drop, ltb-true}
use Rattle.std.proofs.Math.Logic.{inr}
use Rattle.std.proofs.Math.Bool.{true, false}
use Rattle.std.proofs.Math.ListN.{get_or-append, get_or-eq_default}
use Rattle.std.proofs.lemmas.List.{take-append-le, drop-append-le}
use Rattle.std.proofs.Math.Seq.{get_or-append_seam}
use Rattle.base.specs.Addresses.{rom_addr}
use Rattle.base.specs.Choice.{pick}
use Rattle.base.specs.Formula.{Holds, eqb_no}
use Rattle.base.specs.Lengths.{largest_rom, is_certificate_length, short_certificate_length, greatest_entry_cost}
use Rattle.semantics.specs.declared.State.{State}
use Rattle.semantics.specs.Step.{vector_of}
use Rattle.certificate.specs.declared.Verdict.TheVariants.{Accepted, Refused}
use Rattle.certificate.specs.Layout.{Certificate, certificate_from, part, certificate_of}
use Rattle.safety.specs.Rules.{worst, rule20, opening_cost}
use Rattle.safety.specs.Verdicts.{rules_with, rules_at, verdict_on_by, verdict_by, verdict_of, Broken}
use Rattle.safety.specs.Statement.{Open, entered, spent}
use Rattle.safety.proofs.OwnRules.{accepts}
use Rattle.safety.proofs.Accepted.{accepted_lengths}
use Rattle.safety.proofs.Exact.{twenty_when}
use Rattle.safety.proofs.Facts.{rule20_facts, service_start_lem, row_at, service_row}
use Rattle.safety.proofs.GlobalFacts.{global}
use Rattle.safety.specs.EntryCost.{with_cost}

-- "The entry step costs that much" --

module _ (C : Certificate) (image : List ℕ) (s : State) (o : Open) where
  -- the service opens with it
  pub entry_opens : (spent C image entered s o).inner.cycles ≡ C.entry_cost
  entry_opens = refl

  -- nobody else is charged
  pub nobody_else : (spent C image entered s o).outer ≡ o.inner ∷ o.outer
  nobody_else = refl

-- and no other row has to cover it
pub others_open_free : (C : Certificate) (n : ℕ) → n ≢ 2 → opening_cost C n ≡ 0
others_open_free C n h = ap (λ (b : Bool). pick b C.entry_cost 0) (eqb_no h)

-- "A certificate of 58,498 bytes means 0" --

pub short_means_zero : (cert : List ℕ) → length cert ≡ short_certificate_length → (certificate_of cert).entry_cost ≡ 0
unfolding certificate_of certificate_from
short_means_zero cert h = get_or-eq_default cert 0 (omega arith)

-- parts that lie in b are the same parts of a longer list
part_longer : (b c : List ℕ) (i w m : ℕ) → ((k : ℕ) → k < m → i + w * k + w ≤ length b) → part (b ++ c) i w m ≡ part b i w m
unfolding part
part_longer b c i w m fits = fun_ext (λ k. on k (ltb k m) refl)
  where
    inside : (k : ℕ) → k < m → take w (drop (w * k) (drop i (b ++ c))) ≡ take w (drop (w * k) (drop i b))
    inside k l =
        let z = fits k l in
        rw (drop-append-le i b c (omega arith), drop-append-le (w * k) (drop i b) c (simp length-drop (omega arith)))
        (take-append-le w (drop (w * k) (drop i b)) c (simp length-drop (omega arith)))

    on : (k : ℕ) (t : Bool) → ltb k m ≡ t → pick t (take w (drop (w * k) (drop i (b ++ c)))) [] ≡ pick t (take w (drop (w * k) (drop i b))) []
    on k true e = inside k (ltb-true k m e)
    on k false e = refl

-- one byte more is the cycles of an entry, and the rest stays
pub byte_behind : (cert : List ℕ) (x : ℕ) → length cert ≡ short_certificate_length → certificate_of (cert ++ (x ∷ [])) ≡ with_cost cert x
unfolding certificate_of
byte_behind cert x h =
    let more = x ∷ [] in
    let last : get_or (cert ++ more) 0xE482 0 ≡ x = ap (λ (n : ℕ). get_or (cert ++ more) n 0) (sym h) ∙ get_or-append_seam cert x [] 0 in
    rw (
      part_longer cert more 0 14 largest_rom (λ k l. omega arith),
      part_longer cert more 0xE000 3 256 (λ k l. omega arith),
      part_longer cert more 0xE300 6 64 (λ k l. omega arith),
      get_or-append cert more 0 0xE480 (omega arith),
      get_or-append cert more 0 0xE481 (omega arith),
      last,
    )

pub same_certificate : (cert : List ℕ) → length cert ≡ short_certificate_length → certificate_of (cert ++ (0 ∷ [])) ≡ certificate_of cert
unfolding certificate_of certificate_from
same_certificate cert h = byte_behind cert 0 h ∙ sym (ap (with_cost cert) (short_means_zero cert h))

module _ (rom : ℕ) (image cert : List ℕ) where
  abbrev C : Certificate
  C = certificate_of cert

  -- so the byte 0 changes no verdict
  pub zero_byte_same : length cert ≡ short_certificate_length → verdict_of rom image (cert ++ (0 ∷ [])) ≡ verdict_of rom image cert
  unfolding verdict_by
  zero_byte_same h = rw (length-append cert (0 ∷ []), h, same_certificate cert h)

  -- "and the service's bound covers it, its row's bound being at least this byte plus its start's bound, else 27 at the start" --

  pub service_bound_covers : rom ≤ largest_rom → verdict_of rom image cert ≡ Accepted → C.entry_cost + worst C (vector_of image) ≤ C.bound 2
  service_bound_covers fits h = service_row C image (global rom C image fits (accepts rom C image (accepted_lengths rules_at rom image cert h).1))

  pub bound_too_small : Holds (rule20 C rom image) → (C.entry_cost + worst C (vector_of image) ≤ C.bound 2 → ⊥) → Broken rom image cert 27 (vector_of image)
  unfolding rules_with
  bound_too_small p small =
      let f = rule20_facts rom C image p in
      let s = service_start_lem rom C image f in
      inr (
        s.0,
        λ e. omega (arith, s.1),
        inr (inr (inr (inr (inr (inr (inl (refl, λ h. small (row_at C (vector_of image) 2 _ _ _ h s.1 (omega arith) f.service_start)))))))),
      )

  -- "20 also for a byte above 63; 7 for any other certificate length" --

  pub cost_above_63 : length image ≡ rom → is_certificate_length (length cert) ≡ true → (C.entry_cost ≤ greatest_entry_cost → ⊥)
      → verdict_of rom image cert ≡ Refused 20 (rom_addr 0)
  cost_above_63 full whole h = twenty_when rom image cert full whole (λ p. h (rule20_facts rom C image p).entry_cost)

  pub other_length : is_certificate_length (length cert) ≡ false → verdict_of rom image cert ≡ Refused 7 (rom_addr 0)
  unfolding verdict_by
  other_length h = on (eqb (length image) rom) (is_certificate_length (length cert)) h
    where
      on : (b c : Bool) → c ≡ false → pick (b && c) (verdict_on_by rules_at rom C image) (Refused 7 (rom_addr 0)) ≡ Refused 7 (rom_addr 0)
      on true c e = rw e
      on false c e = refl
