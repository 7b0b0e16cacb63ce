-- Laws on the text that is printed: the recursions one step on, lengths, and a text that was stored whole.
-- Assumes nothing.
use Rattle.std.specs.Prelude.{ℕ, zero, suc, ◌+◌, ◌-◌, ◌*◌, ◌/◌, ◌%◌, ◌≤◌, ◌<◌, ◌≡◌, refl, Bool, true, false, List, [], ◌∷◌, ◌++◌, ltb, length}
use Rattle.std.proofs.Common.{add-one, not-suc-le-zero, arith, length-append, lt-ltb, le-ltb}
use Rattle.base.specs.Choice.{pick}
use Rattle.base.specs.Formula.{decide}
use Rattle.base.specs.Outcome.Outcome.{value}
use Rattle.base.specs.Lengths.{is_certificate_length}
use Rattle.certificate.specs.declared.Verdict.{Verdict}
use Rattle.certificate.specs.declared.Verdict.TheVariants.{Accepted, Refused}
use Rattle.certificate.specs.Layout.{Certificate, certificate_of}
use Rattle.safety.specs.Rules.{used}
use Rattle.report.specs.Report.{decimal, number_text, address_text, space, line_end}
use Rattle.report.specs.Report.{row_text, routine_text, rows_text, accepted_word, accepted_text, refused_text, longest_report, report_text, report_answer, report_buffer}
use Rattle.report.specs.Stored.{Stored, stored_front}

pub rows_text_more : (C : Certificate) (n : ℕ) → rows_text C (n + 1) ≡ rows_text C n ++ routine_text C (n + 1)
unfolding rows_text
rows_text_more C n = rw (add-one n)

-- the last digit, and what stands before it
pub decimal_last : (k x : ℕ) → 0 < k → x < 10 → decimal k x ≡ (x + 48) ∷ []
unfolding decimal
decimal_last zero x p h = absurd (not-suc-le-zero p)
decimal_last (suc k) x p h = rw (lt-ltb _ _ h)

pub decimal_more : (k x : ℕ) → 0 < k → 10 ≤ x → decimal k x ≡ decimal (k - 1) (x / 10) ++ ((x % 10 + 48) ∷ [])
unfolding decimal
decimal_more zero x p h = absurd (not-suc-le-zero p)
decimal_more (suc k) x p h = let e : suc k - 1 ≡ k = omega arith in rw (e, le-ltb _ _ h)

-- at most k digits
pub decimal_length : (k x : ℕ) → length (decimal k x) ≤ k
unfolding decimal
decimal_length zero x = omega arith
decimal_length (suc k) x = by_test (ltb x 10) (decimal_length k (x / 10))
  where
    by_test : (t : Bool) → length (decimal k (x / 10)) ≤ k → length (pick t ((x + 48) ∷ []) (decimal k (x / 10) ++ ((x % 10 + 48) ∷ []))) ≤ suc k
    by_test true h = omega arith
    by_test false h = omega (arith, length-append (decimal k (x / 10)) ((x % 10 + 48) ∷ []))

pub number_length : (k x end : ℕ) → length (number_text k x end) ≤ k + 1
unfolding number_text
number_length k x end = omega (arith, length-append (decimal k x) (end ∷ []), decimal_length k x)

row_length : (C : Certificate) (n : ℕ) → length (row_text C n) ≤ 18
unfolding row_text
row_length C n =
    let need = number_text 3 (C.need n) space in
    let bound = number_text 5 (C.bound n) line_end in
    omega (
      arith,
      length-append (number_text 2 n space) (address_text (C.start n) space ++ (need ++ bound)),
      length-append need bound,
      number_length 2 n space,
      number_length 3 (C.need n) space,
      number_length 5 (C.bound n) line_end,
    )

routine_length : (C : Certificate) (n : ℕ) → length (routine_text C n) ≤ 18
routine_length C n = by_test (decide (used C n))
  where
    by_test : (t : Bool) → length (pick t (row_text C n) []) ≤ 18
    by_test true = row_length C n
    by_test false = omega arith

pub rows_length : (C : Certificate) (n : ℕ) → length (rows_text C n) ≤ n * 18
unfolding rows_text
rows_length C zero = omega arith
rows_length C (suc n) =
    omega (arith, length-append (rows_text C n) (routine_text C (suc n)), rows_length C n, routine_length C (suc n))

-- the longest text has room
accepted_length : (C : Certificate) → length (accepted_text C) ≤ longest_report
unfolding accepted_text
accepted_length C = omega (arith, length-append accepted_word (rows_text C 63), rows_length C 63)

refused_length : (number address : ℕ) → length (refused_text number address) ≤ longest_report
unfolding refused_text
refused_length number address =
    omega (arith, length-append (number_text 3 number space) (address_text address line_end), number_length 3 number space)

pub report_length : (verdict : Verdict) (C : Certificate) → length (report_text verdict C) ≤ longest_report
report_length Accepted C = accepted_length C
report_length (Refused number address) C = refused_length number address.0

-- a report's text that was stored from the front on is what the report answers and leaves
pub report_stored : (verdict : Verdict) (cert : List ℕ) {next : ℕ} {out after : List ℕ} → is_certificate_length (length cert) ≡ true
    → longest_report ≤ length out → Stored (report_text verdict (certificate_of cert)) 0 next out after
    → (value next ≡ report_answer verdict cert (length out)) × (after ≡ report_buffer verdict cert out)
unfolding report_answer report_buffer
report_stored verdict cert {next} {out} {after} c h p =
    let text = report_text verdict (certificate_of cert) in
    let e : length text ≡ next = omega (arith, p.position) in
    let fits : length text ≤ length out = omega (arith, report_length verdict (certificate_of cert), h) in
    rw (c, le-ltb _ _ h, e) (refl, stored_front fits p)
