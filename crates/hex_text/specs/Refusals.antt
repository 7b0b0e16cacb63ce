-- A text, or a file fed in pieces, is refused by a number of 01's table for HEX; a refused text leaves the lent buffer as it was; neither a text nor a
-- piece changes the buffer's length.
-- Assumes nothing.
use Rattle.std.specs.Prelude.{ℕ, ◌≤◌, ◌≡◌, refl, Bool, true, false, List, [], ◌∷◌, eqb, leb, length}
use Rattle.std.proofs.Common.{◌∙◌, arith, leb-true}
use Rattle.std.proofs.lemmas.Bool.{eqb-false}
use Rattle.base.specs.Choice.{pick}
use Rattle.base.specs.ChoiceLaws.{pick_has}
use Rattle.base.specs.Outcome.{Outcome, and_then, on_outcome}
use Rattle.base.specs.Outcome.Outcome.{value, refused}
use Rattle.hex_line.specs.Line.{buffer_length, begun, read_line, line_buffer}
use Rattle.hex_line.proofs.LineLaws.{numeral}
use Rattle.hex_line.proofs.Refusals.{line_number, length_line_buffer}
use Rattle.hex_line.specs.declared.Reader.{Reader}
use Rattle.hex_text.specs.declared.Stream.{Stream}
use Rattle.hex_text.specs.Text.{lines, end_answer, lines_answer, lines_buffer, text_answer, text_buffer}
use Rattle.hex_text.specs.Stream.{longest, long_number, held_line, appended, push_stream, push_buffer, feed_buffer, told_number, finish_answer}

-- a refusal has a number of 01's table for HEX
abbrev Numbered : {A : Type 0} → Outcome A → Type 0
Numbered (value a) = Unit {0}
Numbered (refused n) = (1 ≤ n) × (n ≤ 7)

line_numbered : (reader : Reader) (size : ℕ) (line : List ℕ) → Numbered (read_line reader size line)
line_numbered reader size line = by_answer (read_line reader size line) refl
  where
    by_answer : (o : Outcome Reader) → read_line reader size line ≡ o → Numbered o
    by_answer (value next) e = tt
    by_answer (refused n) e = line_number reader size line n e

then_numbered : {A B : Type 0} (o : Outcome A) (f : A → Outcome B) → Numbered o → ((a : A) → Numbered (f a)) → Numbered (and_then o f)
then_numbered (value a) f p q = q a
then_numbered (refused n) f p q = p

end_numbered : (reader : Reader) → Numbered (end_answer reader)
end_numbered reader = pick_has Numbered reader.ended _ _ (λ d. tt) (λ d. numeral tt)

lines_numbered : (ls : List (List ℕ)) (reader : Reader) (size : ℕ) → Numbered (lines_answer ls reader size)
unfolding lines_answer
lines_numbered [] reader size = end_numbered reader
lines_numbered (l ∷ ls) reader size =
    then_numbered (read_line reader size l) (λ next. lines_answer ls next size) (line_numbered reader size l)
    (λ next. lines_numbered ls next size)

text_numbered : (text : List ℕ) (size : ℕ) → Numbered (text_answer text size)
unfolding text_answer
text_numbered text size =
    pick_has Numbered (buffer_length size) _ _ (λ b. lines_numbered (lines text) begun size) (λ b. numeral tt)

-- the number of a line that is longer than any valid one, and that by which a refused file is told
pub long_number_lem : (reader : Reader) (size : ℕ) → (1 ≤ long_number reader size) × (long_number reader size ≤ 7)
long_number_lem reader size = by_test (buffer_length size) reader.ended
  where
    by_test : (a b : Bool) → (1 ≤ pick a (pick b 6 1) 7) × (pick a (pick b 6 1) 7 ≤ 7)
    by_test true true = numeral tt
    by_test true false = numeral tt
    by_test false b = numeral tt

told_number_lem : (n : ℕ) → (n ≡ 0 → ⊥) → (1 ≤ told_number n) × (told_number n ≤ 7)
told_number_lem n h =
    pick_has (λ (k : ℕ). (1 ≤ k) × (k ≤ 7)) (leb n 7) n 1 (λ e. (omega (arith, h), leb-true n 7 e)) (λ e. numeral tt)

finish_numbered : (size : ℕ) (s : Stream) → Numbered (finish_answer size s)
unfolding finish_answer
finish_numbered size s =
    pick_has Numbered (eqb s.number 0) _ _
    (λ z. pick_has Numbered (buffer_length size) _ _
    (λ b. pick_has Numbered (eqb s.count 0) _ _ (λ e. end_numbered s.reader)
    (λ e. pick_has Numbered (leb s.count longest) _ _
    (λ l. then_numbered (read_line s.reader size (held_line s)) end_answer (line_numbered s.reader size (held_line s)) end_numbered)
    (λ l. long_number_lem s.reader size)))
    (λ b. numeral tt))
    (λ z. told_number_lem s.number (eqb-false s.number 0 z))

pub text_number : (text : List ℕ) (size n : ℕ) → text_answer text size ≡ refused n → (1 ≤ n) × (n ≤ 7)
text_number text size n e = rw e at (text_numbered text size)

pub finish_number : (size : ℕ) (s : Stream) (n : ℕ) → finish_answer size s ≡ refused n → (1 ≤ n) × (n ≤ 7)
finish_number size s n e = rw e at (finish_numbered size s)

pub text_unchanged : (text m : List ℕ) (n : ℕ) → text_answer text (length m) ≡ refused n → text_buffer text m ≡ m
unfolding text_buffer
text_unchanged text m n e = rw e

length_lines_buffer : (ls : List (List ℕ)) (reader : Reader) (m : List ℕ) → length (lines_buffer ls reader m) ≡ length m
unfolding lines_buffer
length_lines_buffer [] reader m = refl
length_lines_buffer (l ∷ ls) reader m =
    by_answer (read_line reader (length m) l) (λ next. length_lines_buffer ls next (line_buffer reader l m) ∙ length_line_buffer reader l m)
  where
    by_answer : (o : Outcome Reader) → ((next : Reader) → length (lines_buffer ls next (line_buffer reader l m)) ≡ length m)
        → length (on_outcome o (λ next. lines_buffer ls next (line_buffer reader l m)) (λ number. m)) ≡ length m
    by_answer (value next) ih = ih next
    by_answer (refused n) ih = refl

pub length_text_buffer : (text m : List ℕ) → length (text_buffer text m) ≡ length m
unfolding text_buffer
length_text_buffer text m = by_answer (text_answer text (length m))
  where
    by_answer : (o : Outcome (Unit {0})) → length (on_outcome o (λ u. lines_buffer (lines text) begun m) (λ number. m)) ≡ length m
    by_answer (value u) = length_lines_buffer (lines text) begun m
    by_answer (refused n) = refl

pub length_push_buffer : (s : Stream) (c : ℕ) (m : List ℕ) → length (push_buffer s c m) ≡ length m
unfolding push_buffer
length_push_buffer s c m = by_test (eqb s.number 0) (leb longest s.count) (eqb c 10)
  where
    by_test : (a b d : Bool)
        → length (pick a (pick b m (pick d (line_buffer s.reader (held_line (appended s c)) m) m)) m) ≡ length m
    by_test false b d = refl
    by_test true true d = refl
    by_test true false true = length_line_buffer s.reader (held_line (appended s c)) m
    by_test true false false = refl

pub length_feed_buffer : (s : Stream) (t m : List ℕ) → length (feed_buffer s t m) ≡ length m
unfolding feed_buffer
length_feed_buffer s [] m = refl
length_feed_buffer s (c ∷ t) m = length_feed_buffer (push_stream (length m) s c) t (push_buffer s c m) ∙ length_push_buffer s c m
