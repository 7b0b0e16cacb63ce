-- What the pairs of a line decide: it is refused by 1, or its fields stand in the pairs that were kept.
-- Assumes nothing.
use Rattle.std.specs.Prelude.{ℕ, ◌+◌, ◌-◌, ◌*◌, ◌/◌, ◌≤◌, ◌<◌, ◌≡◌, ◌≢◌, List, get_or, eqb}
use Rattle.std.proofs.Math.Path.{sym}
use Rattle.std.proofs.Common.{⊎_elim}
use native.Mathlib.Omega.{arith}
use Rattle.std.proofs.Math.ListN.{length}
use borrow.Author.Tests.{eqb-true, eqb-false, eq-eqb, ne_eqb, lt-ltb, le-ltb}
use Rattle.base.specs.ChoiceLaws.{pick_has, pick_same}
use Rattle.base.specs.Formula.{same?}
use Rattle.base.specs.Outcome.{Outcome}
use Rattle.base.specs.Outcome.Outcome.{refused}
use Rattle.hex_line.specs.declared.Fields.{Fields}
use Rattle.hex_line.specs.Record.{digit_of, pair_at, sum_of, count_of, address_of, parse_body, address_by, count_by, fields_by, parse_by}
use Rattle.hex_line.specs.Line.{stored, stored_by}
use Rattle.hex_line.specs.Pairs.{Kept, count_in, address_in, fields_in, stored_from, KeptUnless}
use Rattle.hex_line.proofs.SumLaws.{sum_none, none_or_pair}
use Rattle.hex_line.proofs.PairLaws.{pair_none, pair_none_low, kept_data}

-- no colon; another length than the length byte calls for; a pair that is none
pub refused_colon : (l : List ℕ) → get_or l 0 0 ≢ 58 → parse_body l ≡ refused 1
unfolding parse_by
refused_colon l h = rw (ne_eqb _ _ h)

pub refused_length : (l : List ℕ) → length l ≢ count_of l * 2 + 11 → parse_body l ≡ refused 1
unfolding parse_by
refused_length l h = rw (ne_eqb _ _ h) (pick_same (eqb (get_or l 0 0) 58) (refused 1))

refused_pair : (l : List ℕ) → 256 ≤ sum_of l (count_of l + 5) → parse_body l ≡ refused 1
unfolding parse_by
refused_pair l h =
    rw (le-ltb _ _ h, pick_same {A = Outcome Fields} (eqb (length l) (count_of l * 2 + 11)) (refused 1)) (pick_same (eqb (get_or l 0 0) 58) (refused 1))

-- a line of n pairs, with one that is none
pub refused_sum : (l : List ℕ) (n : ℕ) → length l ≡ n * 2 + 1 → 256 ≤ sum_of l n → parse_body l ≡ refused 1
refused_sum l n e h =
    ⊎_elim (λ (d : n ≡ count_of l + 5). refused_pair l (rw d at h))
    (λ (d : n ≢ count_of l + 5). refused_length l (λ (q : length l ≡ count_of l * 2 + 11). d (omega arith)))
    (same? n (count_of l + 5))

-- more characters than any length byte calls for
pub refused_long : (l : List ℕ) → 521 < length l → parse_body l ≡ refused 1
unfolding count_by
refused_long l h =
    ⊎_elim (λ (none : pair_at l 1 ≡ 256). refused_pair l (omega (arith, sum_none l 0 (count_of l + 5) (omega arith) none)))
    (λ (there : pair_at l 1 < 256). refused_length l (λ (q : length l ≡ count_of l * 2 + 11). absurd (omega arith)))
    (none_or_pair l 1)

-- a character behind the colon that is no digit
pub refused_character : (l : List ℕ) (i : ℕ) → 0 < i → i < length l → 16 ≤ digit_of (get_or l i 0) → parse_body l ≡ refused 1
refused_character l i p b h =
    let j = (i - 1) / 2 in
    let none : pair_at l (j * 2 + 1) ≡ 256 =
    ⊎_elim (λ (e : i ≡ j * 2 + 1). pair_none l j (rw (← e) h))
    (λ (d : i ≢ j * 2 + 1). let e : i ≡ j * 2 + 2 = omega arith in pair_none_low l j (rw (← e) h))
    (same? i (j * 2 + 1)) in
    ⊎_elim (λ (e : length l ≡ count_of l * 2 + 11). refused_pair l (omega (arith, sum_none l j (count_of l + 5) (omega arith) none)))
    (λ (d : length l ≢ count_of l * 2 + 11). refused_length l d)
    (same? (length l) (count_of l * 2 + 11))

count_kept : (l pairs : List ℕ) (n : ℕ) → Kept l n pairs → 0 < n → count_in pairs ≡ count_of l
unfolding count_by
count_kept l pairs n kept h = kept.1 0 h

module _ (l : List ℕ) (n : ℕ) (pairs : List ℕ) (size : length l ≡ n * 2 + 1) (kept : Kept l n pairs) where
  called_for_lem : count_in pairs + 5 ≡ n → n ≡ count_of l + 5
  called_for_lem e = omega (arith, count_kept l pairs n kept (omega arith))

  pub kept_fields : (s : ℕ) → KeptUnless (fields_in pairs n s) l pairs
  kept_fields s =
      pick_has (λ (o : Outcome Fields). KeptUnless o l pairs) (eqb (count_in pairs + 5) n) _ _
      (λ e. rw (called_for_lem (eqb-true _ _ e)) at kept) (λ _. tt)

  pub parsed : (s : ℕ) → get_or l 0 0 ≡ 58 → s ≡ sum_of l n → s < 256 → fields_in pairs n s ≡ parse_body l
  unfolding parse_by fields_by address_by
  parsed s colon e small =
      pick_has (λ (o : Outcome Fields). o ≡ parse_body l) (eqb (count_in pairs + 5) n) _ _
      (λ t. let k = called_for_lem (eqb-true _ _ t) in
      let long : length l ≡ count_of l * 2 + 11 = omega arith in
      let whole : sum_of l (count_of l + 5) ≡ s = rw (← k, e) in
      rw (
        eq-eqb _ _ colon,
        eq-eqb _ _ long,
        whole,
        lt-ltb _ _ small,
        count_kept l pairs n kept (omega arith),
        kept.1 1 (omega arith),
        kept.1 2 (omega arith),
        kept.1 3 (omega arith),
      ))
      (λ f. sym
      (refused_length l (λ (q : length l ≡ count_of l * 2 + 11). eqb-false (count_in pairs + 5) n f (omega (arith, count_kept l pairs n kept (omega arith))))))

-- the count, the address and the data of a line, in its pairs
module _ (l pairs : List ℕ) (kept : Kept l (count_of l + 5) pairs) where
  count_in_lem : count_in pairs ≡ count_of l
  count_in_lem = count_kept l pairs (count_of l + 5) kept (omega arith)

  address_in_lem : address_in pairs ≡ address_of l
  unfolding address_by
  address_in_lem = rw (kept.1 1 (omega arith), kept.1 2 (omega arith))

  pub kept_fits : (size : ℕ) → address_of l + count_of l ≤ size → address_in pairs + count_in pairs ≤ size
  kept_fits size h = rw (address_in_lem, count_in_lem) h

  pub kept_stored : (m : List ℕ) → length pairs ≡ 260 → stored_from pairs m ≡ stored l m
  unfolding stored_by count_by
  kept_stored m size =
      let n = count_of l in
      let front : Kept l (n + 4) pairs = ((λ i b. kept.0 i (omega arith)), (λ i b. kept.1 i (omega arith))) in
      rw (count_in_lem, address_in_lem, kept_data l pairs n front (omega (arith, kept.0 0 (omega arith))))
