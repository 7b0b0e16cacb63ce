-- What a file fed in pieces has written, whatever its answer: the data of the lines that LF ends, up to the first that is refused.
-- Assumes nothing.
use Prim.Native.Nat.{ℕ, ◌+◌, ◌≤◌, ◌<◌}
use Rattle.std.specs.Prelude.{◌≡◌, Bool, true, false, ◌≢◌, ◌⊎◌, eqb, set, replicate}
use Rattle.std.proofs.Math.Path.{refl}
use Rattle.std.proofs.Common.{◌∙◌, inl, inr, arith, length-set, length-append}
use mathlib.Core.List.{List, [], ◌∷◌, ◌++◌, append_assoc}
use Rattle.std.proofs.Math.ListN.{length, take}
use Rattle.std.proofs.lemmas.List.{length-replicate}
use Rattle.std.proofs.Math.Seq.{length-take-le}
use borrow.Author.Tests.{eq-eqb, ne_eqb, le-leb, lt-leb}
use Rattle.base.specs.Choice.{pick}
use Rattle.base.specs.Formula.{le?, same?}
use Rattle.base.specs.Outcome.{Outcome}
use Rattle.base.specs.Outcome.Outcome.{value, refused}
use Rattle.hex_line.specs.Line.{begun, read_line, line_buffer}
use Rattle.hex_line.proofs.Refusals.{line_number, line_unchanged}
use Rattle.hex_line.specs.declared.Reader.{Reader}
use Rattle.hex_text.specs.Text.{onto_first, ended_lines, lines_buffer}
use Rattle.hex_text.specs.TextLaws.{Plain, plain_append}
use Rattle.hex_text.specs.Stream.{longest, stream_of, started, long_number, push_stream, push_buffer, feed_buffer}
use Rattle.hex_text.specs.StreamLaws.{feed_refused_buffer}
use Rattle.hex_text.specs.Refusals.{long_number_lem}
use Rattle.hex_text.specs.StreamTheorems.{long_refused, held_more, pieces_buffer, whole_of, pieces_whole}

-- what stands in front of the first line
abbrev in_front : List ℕ → List (List ℕ) → List (List ℕ)
in_front a [] = []
in_front a (l ∷ ls) = (a ++ l) ∷ ls

in_front_lem : (a t : List ℕ) → Plain a → ended_lines (a ++ t) ≡ in_front a (ended_lines t)
unfolding ended_lines
in_front_lem [] t p = by_lines (ended_lines t)
  where
    by_lines : (ls : List (List ℕ)) → ls ≡ in_front [] ls
    by_lines [] = refl
    by_lines (l ∷ ls) = refl
in_front_lem (c ∷ a) t p = rw (ne_eqb _ _ p.0, in_front_lem a t p.1) (by_lines (ended_lines t))
  where
    by_lines : (ls : List (List ℕ)) → onto_first c (in_front a ls) ≡ in_front (c ∷ a) ls
    by_lines [] = refl
    by_lines (l ∷ ls) = refl

-- a line longer than any valid one in front: nothing is written
long_keeps : (reader : Reader) (a m : List ℕ) (c : ℕ) (t : List ℕ) → longest ≤ length a → lines_buffer (in_front a (ended_lines (c ∷ t))) reader m ≡ m
unfolding ended_lines lines_buffer
long_keeps reader a m c t h = by_test (eqb c 10) (ended_lines t)
  where
    first : (l : List ℕ) (ls : List (List ℕ)) → lines_buffer ((a ++ (c ∷ l)) ∷ ls) reader m ≡ m
    first l ls =
        let long : longest < length (a ++ (c ∷ l)) = omega (arith, length-append a (c ∷ l)) in
        rw (long_refused reader (length m) (a ++ (c ∷ l)) long)

    by_test : (b : Bool) (ls : List (List ℕ)) → lines_buffer (in_front a (pick b ((c ∷ []) ∷ ls) (onto_first c ls))) reader m ≡ m
    by_test true ls = first [] ls
    by_test false [] = refl
    by_test false (l ∷ ls) = first l ls

-- a stream with an unfinished line writes what the ended lines of both write
abbrev Writes : List ℕ → Reader → List ℕ → ℕ → List ℕ → Type 0
Writes t reader held count m =
    feed_buffer (stream_of reader held count 0) t m ≡ lines_buffer (ended_lines (take count held ++ t)) reader m

module _ (t : List ℕ) (c : ℕ) (reader : Reader) (held : List ℕ) (count : ℕ) (m : List ℕ) (w : length held ≡ longest)
    (p : Plain (take count held)) where
  writes_long : longest ≤ count → count ≤ longest → Writes (c ∷ t) reader held count m
  unfolding feed_buffer push_stream push_buffer
  writes_long a h =
      let k : length (take count held) ≡ count = length-take-le count held (omega arith) in
      rw (le-leb longest count a, in_front_lem (take count held) (c ∷ t) p, long_keeps reader (take count held) m c t (omega arith))
      (feed_refused_buffer (stream_of reader held count (long_number reader (length m))) t m (long_number_lem reader (length m)).0)

  writes_character : count < longest → (c ≡ 10 → ⊥) → Writes t reader (set held count c) (count + 1) m → Writes (c ∷ t) reader held count m
  unfolding feed_buffer push_stream push_buffer
  writes_character a d ih =
      let o : take (count + 1) (set held count c) ++ t ≡ take count held ++ (c ∷ t) =
      rw (held_more held count c (omega arith)) (append_assoc (take count held) (c ∷ []) t) in
      rw (lt-leb longest count a, ne_eqb c 10 d) (rw o at ih)

  writes_line : count < longest → c ≡ 10 → ((next : Reader) (m : List ℕ) → Writes t next (set held count c) 0 m) → Writes (c ∷ t) reader held count m
  unfolding feed_buffer push_stream push_buffer lines_buffer ended_lines
  writes_line a d ih = by_answer (read_line reader (length m) (take (count + 1) (set held count c))) refl
    where
      l : List ℕ
      l = take (count + 1) (set held count c)

      o : ended_lines (take count held ++ (c ∷ t)) ≡ take (count + 1) (set held count c) ∷ ended_lines t
      o = rw (held_more held count c (omega arith), d) (in_front_lem (take count held) (10 ∷ t) p)

      by_answer : (x : Outcome Reader) → read_line reader (length m) (take (count + 1) (set held count c)) ≡ x → Writes (c ∷ t) reader held count m
      by_answer (value next) g = rw (lt-leb longest count a, eq-eqb c 10 d, o, g) (ih next (line_buffer reader l m))
      by_answer (refused k) g =
          rw (lt-leb longest count a, eq-eqb c 10 d, o, g, line_unchanged reader l m k g)
          (feed_refused_buffer (stream_of reader (set held count c) (count + 1) k) t m (line_number reader (length m) l k g).0)

abbrev Follows : List ℕ → Type 0
Follows t = (reader : Reader) (held : List ℕ) (count : ℕ) (m : List ℕ) → length held ≡ longest → count ≤ longest → Plain (take count held) → Writes t reader held count m

writes : (t : List ℕ) → Follows t
unfolding feed_buffer lines_buffer ended_lines
writes [] reader held count m w h p = rw (in_front_lem (take count held) [] p)
writes (c ∷ t) reader held count m w h p = by_room (le? longest count) (same? c 10) (writes t)
  where
    more : count < longest → length (set held count c) ≡ longest
    more a = length-set held count c ∙ w

    by_room : (longest ≤ count) ⊎ (count < longest) → (c ≡ 10) ⊎ (c ≢ 10) → Follows t → Writes (c ∷ t) reader held count m
    by_room (inl a) d ih = writes_long t c reader held count m w p a h
    by_room (inr a) (inl d) ih =
        writes_line t c reader held count m w p a d (λ next m₁. ih next (set held count c) 0 m₁ (more a) (omega arith) tt)
    by_room (inr a) (inr d) ih =
        writes_character t c reader held count m w p a d
        (ih reader (set held count c) (count + 1) m (more a) (omega arith)
        (rw (held_more held count c (omega arith)) (plain_append (take count held) (c ∷ []) p (d, tt))))

pub stream_writes_lines : (ps : List (List ℕ)) (m : List ℕ) → pieces_buffer started ps m ≡ lines_buffer (ended_lines (whole_of ps)) begun m
stream_writes_lines ps m =
    (pieces_whole started ps m).1
    ∙ writes (whole_of ps) begun (replicate longest 0) 0 m (length-replicate {A = ℕ} longest 0) (omega arith) tt
