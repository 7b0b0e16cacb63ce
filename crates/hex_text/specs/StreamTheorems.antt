-- A file fed in pieces, whatever the cuts, is read as its lines are in turn.
-- Assumes nothing.
use Prim.Native.Nat.{ℕ, zero, suc, ◌+◌, ◌-◌, ◌≤◌, ◌<◌}
use Rattle.std.specs.Prelude.{◌≡◌, Bool, true, false, ◌≢◌, ◌⊎◌, eqb, get_or, drop, set, replicate}
use Rattle.std.proofs.Math.Path.{refl}
use Rattle.std.proofs.Common.{sym, ap, ◌∙◌, add-one, arith, inl, inr, length-set, take-suc-set}
use mathlib.Core.List.{List, [], ◌∷◌, ◌++◌, append_assoc}
use Rattle.std.proofs.Math.ListN.{length, take, length-append}
use Rattle.std.proofs.lemmas.List.{length-replicate}
use Rattle.std.proofs.Math.Seq.{length-take-le}
use borrow.Author.Tests.{eq-eqb, ne_eqb, le-leb, lt-leb}
use Rattle.base.specs.Choice.{pick}
use Rattle.base.specs.Formula.{le?, same?}
use Rattle.base.specs.Outcome.{Outcome, and_then, on_outcome}
use Rattle.base.specs.Outcome.Outcome.{value, refused}
use Rattle.hex_line.specs.Record.{parse_body, body_length, body_of}
use Rattle.hex_line.proofs.ParseLaws.{refused_long}
use Rattle.hex_line.specs.Line.{buffer_length, begun, read_fields, read_line, line_buffer, read_by}
use Rattle.hex_line.proofs.LineLaws.{end_keeps}
use Rattle.hex_line.proofs.Refusals.{line_number, length_line_buffer}
use Rattle.hex_line.specs.declared.Reader.{Reader}
use Rattle.hex_text.specs.declared.Stream.{Stream}
use Rattle.hex_text.specs.Text.{lines, first_length, end_answer, lines_answer, lines_buffer, text_answer, text_buffer}
use Rattle.hex_text.specs.TextLaws.{Plain, plain_append, first_line_of, first_line, no_line, last_line, first_behind, first_positive, first_within}
use Rattle.hex_text.specs.Stream.{longest, stream_of, started, long_number, push_stream, push_buffer, feed_stream, feed_buffer, finish_answer, Leaves}
use Rattle.hex_text.specs.StreamLaws.{feed_refused}
use Rattle.hex_text.specs.Refusals.{long_number_lem, length_push_buffer, length_feed_buffer}

-- feeding a ++ b is feeding a, then b
pub feed_append : (n : ℕ) (s : Stream) (a b : List ℕ) → feed_stream n s (a ++ b) ≡ feed_stream n (feed_stream n s a) b
unfolding feed_stream
feed_append n s [] b = refl
feed_append n s (c ∷ a) b = feed_append n (push_stream n s c) a b

pub feed_append_buffer : (s : Stream) (a b m : List ℕ)
    → feed_buffer s (a ++ b) m ≡ feed_buffer (feed_stream (length m) s a) b (feed_buffer s a m)
unfolding feed_stream feed_buffer
feed_append_buffer s [] b m = refl
feed_append_buffer s (c ∷ a) b m =
    feed_append_buffer (push_stream (length m) s c) a b (push_buffer s c m) ∙ rw (length_push_buffer s c m)

-- the end of a line has at most two characters
body_bounds : (l : List ℕ) → (length l ≤ body_length l + 2) × (body_length l ≤ length l)
unfolding body_length
body_bounds l = by_test (eqb (get_or l (length l - 1) 0) 10) (eqb (get_or l (length l - 2) 0) 13)
  where
    by_test : (a b : Bool) → (length l ≤ pick a (pick b (length l - 2) (length l - 1)) (length l) + 2)
        × (pick a (pick b (length l - 2) (length l - 1)) (length l) ≤ length l)
    by_test true true = (omega arith, omega arith)
    by_test true false = (omega arith, omega arith)
    by_test false b = (omega arith, omega arith)

-- a line longer than any valid one
pub long_refused : (reader : Reader) (n : ℕ) (l : List ℕ) → longest < length l → read_line reader n l ≡ refused (long_number reader n)
unfolding read_by
long_refused reader n l h =
    let b = body_bounds l in
    let w : 521 < length (take (body_length l) l) = rw (length-take-le (body_length l) l b.1) (omega arith) in
    rw (refused_long (body_of l) w) (by_test (buffer_length n) reader.ended)
  where
    by_test : (a d : Bool) → ◌≡◌ {A = Outcome Reader} (pick a (pick d (refused 6) (refused 1)) (refused 7)) (refused (pick a (pick d 6 1) 7))
    by_test true true = refl
    by_test true false = refl
    by_test false d = refl

-- a refusal of a line stands, since 7 is tested first
refused_stands : (reader : Reader) (n : ℕ) (l : List ℕ) (k : ℕ) → read_line reader n l ≡ refused k
    → ◌≡◌ {A = Outcome (Unit {0})} (pick (buffer_length n) (refused k) (refused 7)) (refused k)
unfolding read_by
refused_stands reader n l k e = by_test (buffer_length n) e
  where
    by_test : (b : Bool) → pick b (pick reader.ended (refused 6) (and_then (parse_body (body_of l)) (read_fields reader n))) (refused 7) ≡ refused k
        → ◌≡◌ {A = Outcome (Unit {0})} (pick b (refused k) (refused 7)) (refused k)
    by_test true q = refl
    by_test false q = ap (λ (o : Outcome Reader). on_outcome o (λ next. refused 7) (λ j. refused j)) q

-- behind the last LF nothing is written: a line there is the end line, or the file is refused
last_leaves : (reader : Reader) (l m : List ℕ)
    → Leaves (pick (buffer_length (length m)) (and_then (read_line reader (length m) l) end_answer) (refused 7))
    (on_outcome (read_line reader (length m) l) (λ next. line_buffer reader l m) (λ k. m)) m
last_leaves reader l m = by_answer (buffer_length (length m)) (read_line reader (length m) l) refl
  where
    by_end : (next : Reader) → read_line reader (length m) l ≡ value next → (d : Bool) → next.ended ≡ d
        → Leaves (pick d (value tt) (refused 6)) (line_buffer reader l m) m
    by_end next e true d = sym (end_keeps reader l m next e d)
    by_end next e false d = tt

    by_answer : (b : Bool) (o : Outcome Reader) → read_line reader (length m) l ≡ o
        → Leaves (pick b (and_then o end_answer) (refused 7)) (on_outcome o (λ next. line_buffer reader l m) (λ k. m)) m
    by_answer true (value next) e = by_end next e next.ended refl
    by_answer true (refused k) e = tt
    by_answer false o e = tt

pub leaves_same : (o : Outcome (Unit {0})) {expected after : List ℕ} → after ≡ expected → Leaves o expected after
leaves_same (value u) e = e
leaves_same (refused k) e = tt

-- a refused file
ends_refused : (n : ℕ) (s : Stream) (t : List ℕ) → (1 ≤ s.number) × (s.number ≤ 7) → finish_answer n (feed_stream n s t) ≡ refused s.number
unfolding finish_answer
ends_refused n s t h =
    let z : s.number ≡ 0 → ⊥ = omega (arith, h.0) in
    rw (feed_refused n s t h.0, ne_eqb s.number 0 z, le-leb s.number 7 h.1)

-- one more character is held
pub held_more : (held : List ℕ) (count c : ℕ) → count < length held → take (count + 1) (set held count c) ≡ take count held ++ (c ∷ [])
held_more held count c h = rw add-one (take-suc-set held count c h)

-- the answer to a text, the first lines of which are read
abbrev answer_from : Reader → ℕ → List ℕ → Outcome (Unit {0})
answer_from reader n t = pick (buffer_length n) (lines_answer (lines t) reader n) (refused 7)

-- a stream with an unfinished line reads what is left of the text as the lines of both
abbrev Same : ℕ → List ℕ → Reader → List ℕ → ℕ → List ℕ → Type 0
Same n t reader held count m =
    (finish_answer n (feed_stream n (stream_of reader held count 0) t) ≡ answer_from reader n (take count held ++ t))
    × Leaves (answer_from reader n (take count held ++ t)) (lines_buffer (lines (take count held ++ t)) reader m)
    (feed_buffer (stream_of reader held count 0) t m)

same_end : (n : ℕ) (reader : Reader) (held : List ℕ) (count : ℕ) (m : List ℕ) → length m ≡ n → length held ≡ longest → count ≤ longest
    → Plain (take count held) → Same n [] reader held count m
unfolding feed_stream feed_buffer finish_answer lines_answer lines_buffer
same_end n reader held zero m e w h p = rw no_line (refl, leaves_same (pick (buffer_length n) (end_answer reader) (refused 7)) refl)
same_end n reader [] (suc count) m e w h p = let z : ⊥ = omega arith in absurd z
same_end n reader (x ∷ held) (suc count) m e w h p =
    let z : suc count ≡ 0 → ⊥ = omega arith in
    rw (← e, last_line x (take count held) p, le-leb (suc count) longest h, ne_eqb (suc count) 0 z)
    (refl, last_leaves reader (x ∷ take count held) m)

module _ (n : ℕ) (t : List ℕ) (c : ℕ) (reader : Reader) (held : List ℕ) (count : ℕ) (m : List ℕ) (e : length m ≡ n)
    (w : length held ≡ longest) (p : Plain (take count held)) where
  -- the line is as long as a valid one can be, and goes on
  same_long : longest ≤ count → count ≤ longest → Same n (c ∷ t) reader held count m
  unfolding feed_stream feed_buffer push_stream push_buffer lines_answer lines_buffer
  same_long a h =
      let x = take count held ++ (c ∷ t) in
      let l = take (first_length x) x in
      let f : first_length x ≡ length (take count held) + first_length (c ∷ t) = first_behind (take count held) (c ∷ t) p in
      let k : length (take count held) ≡ count = length-take-le count held (omega arith) in
      let long : longest < length l = rw (length-take-le (first_length x) x (first_within x)) (omega (arith, first_positive c t)) in
      let g : read_line reader n l ≡ refused (long_number reader n) = long_refused reader n l long in
      let r = ends_refused n (stream_of reader held count (long_number reader n)) t (long_number_lem reader n) in
      let b = refused_stands reader n l (long_number reader n) g in
      let o : lines x ≡ l ∷ lines (drop (first_length x) x) =
      first_line_of x (omega (arith, length-append (take count held) (c ∷ t))) in
      rw (e, le-leb longest count a, o, e, g, b) (r, tt)

  -- any other character than LF
  same_character : count < longest → (c ≡ 10 → ⊥) → Same n t reader (set held count c) (count + 1) m → Same n (c ∷ t) reader held count m
  unfolding feed_stream feed_buffer push_stream push_buffer
  same_character a d ih =
      let o : take (count + 1) (set held count c) ++ t ≡ take count held ++ (c ∷ t) =
      rw (held_more held count c (omega arith)) (append_assoc (take count held) (c ∷ []) t) in
      rw (e, lt-leb longest count a, ne_eqb c 10 d) (rw o at ih)

  -- LF
  same_line : count < longest → c ≡ 10 → ((next : Reader) (m : List ℕ) → length m ≡ n → Same n t next (set held count c) 0 m)
      → Same n (c ∷ t) reader held count m
  unfolding feed_stream feed_buffer push_stream push_buffer lines_answer lines_buffer
  same_line a d ih = by_answer (read_line reader n (take (count + 1) (set held count c))) refl
    where
      l : List ℕ
      l = take (count + 1) (set held count c)

      o : lines (take count held ++ (c ∷ t)) ≡ take (count + 1) (set held count c) ∷ lines t
      o = rw (held_more held count c (omega arith), d) (first_line (take count held) t p)

      by_answer : (x : Outcome Reader) → read_line reader n (take (count + 1) (set held count c)) ≡ x → Same n (c ∷ t) reader held count m
      by_answer (value next) g =
          rw (e, lt-leb longest count a, eq-eqb c 10 d, o, e, g)
          (ih next (line_buffer reader l m) (length_line_buffer reader l m ∙ e))
      by_answer (refused k) g =
          let r = ends_refused n (stream_of reader (set held count c) (count + 1) k) t (line_number reader n l k g) in
          rw (e, lt-leb longest count a, eq-eqb c 10 d, o, e, g, refused_stands reader n l k g) (r, tt)

abbrev Follows : ℕ → List ℕ → Type 0
Follows n t =
    (reader : Reader) (held : List ℕ) (count : ℕ) (m : List ℕ) → length m ≡ n → length held ≡ longest → count ≤ longest
    → Plain (take count held) → Same n t reader held count m

same : (n : ℕ) (t : List ℕ) (reader : Reader) (held : List ℕ) (count : ℕ) (m : List ℕ) → length m ≡ n → length held ≡ longest
    → count ≤ longest → Plain (take count held) → Same n t reader held count m
same n [] reader held count m e w h p = same_end n reader held count m e w h p
same n (c ∷ t) reader held count m e w h p = by_room (le? longest count) (same? c 10) (same n t)
  where
    more : count < longest → length (set held count c) ≡ longest
    more a = length-set held count c ∙ w

    by_room : (longest ≤ count) ⊎ (count < longest) → (c ≡ 10) ⊎ (c ≢ 10) → Follows n t → Same n (c ∷ t) reader held count m
    by_room (inl a) d ih = same_long n t c reader held count m e w p a h
    by_room (inr a) (inl d) ih =
        same_line n t c reader held count m e w p a d (λ next m₁ e₁. ih next (set held count c) 0 m₁ e₁ (more a) (omega arith) tt)
    by_room (inr a) (inr d) ih =
        same_character n t c reader held count m e w p a d
        (ih reader (set held count c) (count + 1) m e (more a) (omega arith)
        (rw (held_more held count c (omega arith)) (plain_append (take count held) (c ∷ []) p (d, tt))))

-- the pieces of a file in turn, and the whole file
unfoldable pub pieces_stream : ℕ → Stream → List (List ℕ) → Stream
pieces_stream n s [] = s
pieces_stream n s (p ∷ ps) = pieces_stream n (feed_stream n s p) ps

unfoldable pub pieces_buffer : Stream → List (List ℕ) → List ℕ → List ℕ
pieces_buffer s [] m = m
pieces_buffer s (p ∷ ps) m = pieces_buffer (feed_stream (length m) s p) ps (feed_buffer s p m)

unfoldable pub whole_of : List (List ℕ) → List ℕ
whole_of [] = []
whole_of (p ∷ ps) = p ++ whole_of ps

-- wherever a file is cut, the pieces in turn make of the stream and the buffer what the whole file makes of them
pub pieces_whole : (s : Stream) (ps : List (List ℕ)) (m : List ℕ)
    → (pieces_stream (length m) s ps ≡ feed_stream (length m) s (whole_of ps)) × (pieces_buffer s ps m ≡ feed_buffer s (whole_of ps) m)
unfolding pieces_stream pieces_buffer whole_of feed_stream feed_buffer
pieces_whole s [] m = (refl, refl)
pieces_whole s (p ∷ ps) m =
    let ih = pieces_whole (feed_stream (length m) s p) ps (feed_buffer s p m) in (
      rw (length_feed_buffer s p m) at ih.0 ∙ sym (feed_append (length m) s p (whole_of ps)),
      ih.1 ∙ sym (feed_append_buffer s p (whole_of ps) m),
    )

-- a text that is read leaves what its lines leave
leaves_text : (o : Outcome (Unit {0})) (t m after : List ℕ) → text_answer t (length m) ≡ o → Leaves o (lines_buffer (lines t) begun m) after
    → Leaves o (text_buffer t m) after
unfolding text_buffer
leaves_text (value u) t m after e q = rw e q
leaves_text (refused k) t m after e q = tt

-- start, feed and finish over any pieces answer as `read_text` does of the whole file, and where it is read the buffer is the same
pub stream_reads_text : (ps : List (List ℕ)) (m : List ℕ)
    → (finish_answer (length m) (pieces_stream (length m) started ps) ≡ text_answer (whole_of ps) (length m))
    × Leaves (text_answer (whole_of ps) (length m)) (text_buffer (whole_of ps) m) (pieces_buffer started ps m)
unfolding text_answer
stream_reads_text ps m =
    let w = pieces_whole started ps m in
    let t = whole_of ps in
    let r = same (length m) t begun (replicate longest 0) 0 m refl (length-replicate {A = ℕ} longest 0) (omega arith) tt in
    rw (w.0, w.1) (r.0, leaves_text (text_answer t (length m)) t m (feed_buffer started t m) refl r.1)
