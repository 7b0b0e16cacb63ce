-- The reader refuses small letters: no line that has one is read, and no text (request 13).
-- Assumes nothing.
use Rattle.std.specs.Prelude.{ℕ, zero, suc, ◌-◌, ◌≤◌, ◌<◌, ◌≡◌, refl, ◌≢◌, Bool, true, false, List, [], ◌∷◌, eqb, length, get_or}
use Rattle.std.proofs.Common.{sym, ap, ◌∙◌, ⊎_elim, arith, get_or-take, eqb-true}
use Rattle.std.proofs.lemmas.Bool.{false≢true}
use Rattle.std.proofs.Math.ListN.{get_or-eq_default}
use Rattle.base.specs.Choice.{pick}
use Rattle.base.specs.ChoiceLaws.{pick_has}
use Rattle.base.specs.Formula.{same?, le?, case_bool}
use Rattle.base.specs.Outcome.{Outcome, and_then, on_outcome}
use Rattle.base.specs.Outcome.Outcome.{value, refused}
use Rattle.hex_line.specs.declared.Reader.{Reader}
use Rattle.hex_line.specs.Record.{body_length, body_of}
use Rattle.hex_line.specs.Line.{buffer_length, begun, read_by, read_line}
use Rattle.hex_line.proofs.LineLaws.{read_parsed}
use Rattle.hex_line.proofs.ParseLaws.{refused_colon, refused_character}
use Rattle.hex_text.specs.Text.{onto, lines, lines_answer, text_answer}
use Rattle.hex_upper.specs.Former.{small_letter, NoSmall}
use Rattle.hex_upper.proofs.UpperLaws.{digit_none}

-- a small letter stands in a line, and not in its end
inside : (l : List ℕ) (i : ℕ) → small_letter (get_or l i 0) ≡ true → i < length l
inside l i e =
    ⊎_elim (λ (h : length l ≤ i). absurd (false≢true (rw (get_or-eq_default l 0 {n = i} h) at e))) (λ (h : i < length l). h) (le? (length l) i)

before_end : (l : List ℕ) (i : ℕ) → small_letter (get_or l i 0) ≡ true → i < body_length l
unfolding body_length
before_end l i e =
    let b = inside l i e in
    pick_has (λ (n : ℕ). i < n) (eqb (get_or l (length l - 1) 0) 10) _ _
    (λ feed. let d = other (length l - 1) 10 refl (eqb-true _ _ feed) in
    pick_has (λ (n : ℕ). i < n) (eqb (get_or l (length l - 2) 0) 13) _ _
    (λ return. let r = other (length l - 2) 13 refl (eqb-true _ _ return) in omega (arith, d, r)) (λ _. omega (arith, d)))
    (λ _. b)
  where
    other : (k c : ℕ) → small_letter c ≡ false → get_or l k 0 ≡ c → i ≢ k
    other k c none q p = false≢true (sym none ∙ rw (p, q) at e)

-- the reader refuses a line with a small letter by 1, unless 7 or 6 stands before it
pub small_refused : (reader : Reader) (size : ℕ) (l : List ℕ) (i : ℕ) → buffer_length size ≡ true → reader.ended ≡ false
    → small_letter (get_or l i 0) ≡ true → read_line reader size l ≡ refused 1
small_refused reader size l i b d e =
    let body = body_of l in
    let kept : small_letter (get_or body i 0) ≡ true = rw (get_or-take (body_length l) l i 0 (before_end l i e)) e in
    let none = digit_none (get_or body i 0) kept in
    sym
    (read_parsed reader size l (refused 1) b d
    (⊎_elim (λ (z : i ≡ 0). refused_colon body (λ q. false≢true (rw (z, q) at kept)))
    (λ (p : i ≢ 0). refused_character body i (omega (arith, p)) (inside body i kept) (omega (arith, none)))
    (same? i 0)))

not_read : {A : Type 0} {n : ℕ} {a : A} → ◌≡◌ {A = Outcome A} (refused n) (value a) → ⊥
not_read {A} e = false≢true (ap (λ (o : Outcome A). on_outcome o (λ _. true) (λ _. false)) e)

-- in a line that is read
line_without : (reader : Reader) (size : ℕ) (l : List ℕ) (next : Reader) → read_line reader size l ≡ value next → NoSmall l
unfolding read_by
line_without reader size l next e i =
    ⊎_elim (λ s. absurd (refuted (buffer_length size) reader.ended refl refl s)) (λ s. s) (case_bool (small_letter (get_or l i 0)))
  where
    refuted : (b d : Bool) → buffer_length size ≡ b → reader.ended ≡ d → small_letter (get_or l i 0) ≡ true → ⊥
    refuted true false b d s = not_read (sym (small_refused reader size l i b d s) ∙ e)
    refuted true true b d s = not_read (rw (b, d) at e)
    refuted false d b _ s = not_read (rw b at e)

-- in lines that are read in turn
abbrev EachNoSmall : List (List ℕ) → Type 0
EachNoSmall [] = Unit {0}
EachNoSmall (l ∷ ls) = NoSmall l × EachNoSmall ls

lines_without : (ls : List (List ℕ)) (reader : Reader) (size : ℕ) → lines_answer ls reader size ≡ value tt → EachNoSmall ls
unfolding lines_answer
lines_without [] reader size e = tt
lines_without (l ∷ ls) reader size e = by_answer (read_line reader size l) refl (λ next. lines_without ls next size) e
  where
    by_answer : (o : Outcome Reader) → read_line reader size l ≡ o → ((next : Reader) → lines_answer ls next size ≡ value tt → EachNoSmall ls)
        → and_then o (λ next. lines_answer ls next size) ≡ value tt → EachNoSmall (l ∷ ls)
    by_answer (value next) q rest r = (line_without reader size l next q, rest next r)
    by_answer (refused n) q rest r = absurd (not_read r)

-- the lines of a text are all of it
one_more_without : (c : ℕ) (t : List ℕ) → small_letter c ≡ false → NoSmall t → NoSmall (c ∷ t)
one_more_without c t h none zero = h
one_more_without c t h none (suc i) = none i

whole_without : (t : List ℕ) → EachNoSmall (lines t) → NoSmall t
unfolding lines
whole_without [] each = λ i. refl
whole_without (c ∷ t) each = by_test (eqb c 10) (lines t) (whole_without t) each
  where
    by_test : (b : Bool) (ls : List (List ℕ)) → (EachNoSmall ls → NoSmall t) → EachNoSmall (pick b ((c ∷ []) ∷ ls) (onto c ls)) → NoSmall (c ∷ t)
    by_test true ls rest e = one_more_without c t (e.0 0) (rest e.1)
    by_test false [] rest e = one_more_without c t (e.0 0) (rest tt)
    by_test false (l ∷ ls) rest e = one_more_without c t (e.0 0) (rest ((λ i. e.0 (suc i)), e.1))

-- in a text that is read
pub text_without : (text : List ℕ) (size : ℕ) → text_answer text size ≡ value tt → NoSmall text
unfolding text_answer
text_without text size e = whole_without text (lines_without (lines text) begun size (by_length (buffer_length size) e))
  where
    by_length : (b : Bool) → pick b (lines_answer (lines text) begun size) (refused 7) ≡ value tt → lines_answer (lines text) begun size ≡ value tt
    by_length true q = q
    by_length false q = absurd (not_read q)
