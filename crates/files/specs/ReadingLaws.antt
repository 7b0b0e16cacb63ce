-- A file that is read in pieces is read as some text; two such files are judged as their texts.
-- Assumes nothing.
use Rattle.std.specs.Prelude.{ℕ, zero, suc, ◌+◌, ◌-◌, ◌≤◌, ◌<◌, ◌≡◌, refl, List, [], ◌∷◌, ◌++◌, eqb, ltb, length, get_or, take, drop, Bool, true, false}
use Rattle.std.proofs.Common.{sym, ap, ◌∙◌, append-nil, not-suc-le-zero, arith, length-drop, drop-cons, get_or-drop, length-take-le, eqb-true}
use Rattle.std.proofs.lemmas.List.{get_or-take}
use Rattle.base.specs.Choice.{pick}
use Rattle.base.specs.ChoiceLaws.{pick_has}
use Rattle.base.specs.Outcome.{Outcome}
use Rattle.base.specs.Outcome.Outcome.{value, refused}
use Rattle.hex_line.specs.Line.{buffer_length}
use Rattle.hex_text.specs.declared.Stream.{Stream}
use Rattle.hex_text.specs.Text.{first_length, lines, lines_answer, text_answer, text_buffer}
use Rattle.hex_text.specs.Stream.{started, feed_stream, feed_buffer, finish_answer, Leaves}
use Rattle.hex_text.specs.TextLaws.{first_positive, first_within}
use Rattle.hex_text.specs.StreamLaws.{feed_refused}
use Rattle.hex_text.specs.Refusals.{length_feed_buffer}
use Rattle.hex_text.specs.StreamTheorems.{feed_append, feed_append_buffer, pieces_stream, pieces_buffer, whole_of, stream_reads_text}
use Rattle.certificate.specs.declared.Verdict.{Verdict}
use Rattle.safety.specs.Verdicts.{verdict_of}
use Rattle.report.specs.Report.{report_answer, report_buffer}
use Rattle.judge.specs.Judgement.{judgement, image_length, blank_image, blank_certificate}
use Rattle.judge.specs.JudgementLaws.{ReadFrom, judged}
use Rattle.judge.specs.Refusals.{printed_within}
use Rattle.files.specs.Reading.{line_end, line_ends, counted, Fed, Turned, turns_left, answer_of, Reads, Judges}

counted_more : (n a b : ℕ) → counted (counted n a) b ≡ counted n (a + b)
unfolding counted
counted_more n zero b = let e : 0 + b ≡ b = omega arith in rw e
counted_more n (suc a) b = let e : suc a + b ≡ suc (a + b) = omega arith in rw e (counted_more (pick (ltb n 4294967295) (n + 1) n) a b)

ends_append : (a b : List ℕ) → line_ends (a ++ b) ≡ line_ends a + line_ends b
unfolding line_ends
ends_append [] b = omega arith
ends_append (c ∷ a) b = omega (arith, ends_append a b)

-- the line ends of a first line: its last character is the only one that may be LF
pub first_ends : (t : List ℕ) → 0 < length t → line_ends (take (first_length t) t) ≡ line_end (get_or t (first_length t - 1) 0)
unfolding line_ends first_length
first_ends [] h = absurd (not-suc-le-zero h)
first_ends (c ∷ []) h = by_test (eqb c 10)
  where
    by_test : (b : Bool) → line_ends (take (pick b 1 1) (c ∷ [])) ≡ line_end (get_or (c ∷ []) (pick b 1 1 - 1) 0)
    by_test true = omega arith
    by_test false = omega arith
first_ends (c ∷ d ∷ t) h = by_test (eqb c 10) refl (first_ends (d ∷ t) (omega arith))
  where
    by_test : (b : Bool) → eqb c 10 ≡ b
        → line_ends (take (first_length (d ∷ t)) (d ∷ t)) ≡ line_end (get_or (d ∷ t) (first_length (d ∷ t) - 1) 0)
        → line_ends (take (pick b 1 (suc (first_length (d ∷ t)))) (c ∷ d ∷ t)) ≡ line_end (get_or (c ∷ d ∷ t) (pick b 1 (suc (first_length (d ∷ t))) - 1) 0)
    by_test true e ih = omega arith
    by_test false e ih =
        let k : suc (first_length (d ∷ t)) - 1 ≡ suc (first_length (d ∷ t) - 1) = omega (arith, first_positive d t) in
        rw (e, k, ih) (omega arith)

-- a first line is one line
first_single : (t : List ℕ) → first_length (take (first_length t) t) ≡ first_length t
unfolding first_length
first_single [] = refl
first_single (c ∷ t) = by_test (eqb c 10) refl (first_single t)
  where
    by_test : (b : Bool) → eqb c 10 ≡ b → first_length (take (first_length t) t) ≡ first_length t
        → first_length (take (pick b 1 (suc (first_length t))) (c ∷ t)) ≡ pick b 1 (suc (first_length t))
    by_test true e ih = rw e
    by_test false e ih = rw (e, ih)

-- where a line ends that starts within a text
pub line_bounds : (s : List ℕ) (at e : ℕ) → at < length s → e ≡ at + first_length (drop at s) → (at < e) × (e ≤ length s)
line_bounds s at e h q =
    let p : 0 < first_length (drop at s) = rw (drop-cons s at 0 h) (first_positive (get_or s at 0) (drop (suc at) s)) in
    let w : first_length (drop at s) ≤ length (drop at s) = first_within (drop at s) in
    let n : length (drop at s) ≡ length s - at = length-drop at s in
    (omega arith, omega arith)

-- nothing was read
pub fed_none : {s : Stream} {n : ℕ} {m : List ℕ} → Fed s s n n m m
unfolding feed_stream feed_buffer line_ends counted
fed_none = record { text = []; stream = refl; buffer = refl; lines = refl }

-- a line of a text was fed, and counted by its last character
pub fed_line : {s next : Stream} {n : ℕ} {m after : List ℕ} (t : List ℕ) (at e : ℕ) → at < length t → e ≡ at + first_length (drop at t)
    → next ≡ feed_stream (length m) s (take (e - at) (drop at t)) → after ≡ feed_buffer s (take (e - at) (drop at t)) m
    → Fed s next n (counted n (line_end (get_or t (e - 1) 0))) m after
fed_line {n = n} t at e h q p b =
    let w = line_bounds t at e h q in
    let l : length (drop at t) ≡ length t - at = length-drop at t in
    let k : first_length (drop at t) ≡ e - at = omega arith in
    let last : at + (e - at - 1) ≡ e - 1 = omega arith in
    let ends = first_ends (drop at t) (omega arith) in
    record { text = take (e - at) (drop at t); stream = p; buffer = b; lines = rw (rw (k, get_or-drop at t (e - at - 1) 0, last) at ends) }

first_some : (t : List ℕ) → 0 < length t → 0 < first_length t
first_some [] h = absurd (not-suc-le-zero h)
first_some (c ∷ t) h = first_positive c t

-- the same of the first line of a text, on its own
module _ (t line : List ℕ) (h : 0 < length t) (e : line ≡ take (first_length t) t) where
  line_length : length line ≡ first_length t
  line_length = rw e (length-take-le (first_length t) t (first_within t))

  line_last : line_end (get_or line (length line - 1) 0) ≡ line_ends line
  line_last =
      let p : first_length t - 1 < first_length t = omega (arith, first_some t h) in
      rw (line_length, e, get_or-take (first_length t) t (first_length t - 1) 0 p) (sym (first_ends t h))

  pub fed_first : {s next : Stream} {n : ℕ} {m after : List ℕ} → next ≡ feed_stream (length m) s line → after ≡ feed_buffer s line m
      → Fed s next n (counted n (line_end (get_or line (length line - 1) 0))) m after
  fed_first p b = record { text = line; stream = p; buffer = b; lines = rw line_last }

  pub turned_first : {s b next : Stream} {n k : ℕ} {m m₁ after : List ℕ} → Fed s b n k m m₁ → b.number ≡ 0
      → next ≡ feed_stream (length m₁) b line → after ≡ feed_buffer b line m₁ → 1 ≤ next.number → Turned s next n k 3 m after
  turned_first {b = b} {m₁ = m₁} f z p w r = record {
    between = b;
    middle = m₁;
    fed = f;
    right = z;
    line = line;
    single = rw e (first_single t) ∙ sym line_length;
    none = λ x. absurd (x refl);
    stream = p;
    buffer = w;
    settled = record { stops = λ _. r; goes = λ x. absurd (x refl) };
  }

-- the buffer keeps its length
fed_length : {s next : Stream} {n k : ℕ} {m m₁ : List ℕ} → Fed s next n k m m₁ → length m₁ ≡ length m
fed_length {s} {next} {n} {k} {m} {m₁} p = rw p.buffer (length_feed_buffer s p.text m)

-- lines were fed, and none is refused
pub turned_none : {s next : Stream} {n k : ℕ} {m m₁ : List ℕ} (state : ℕ) → (state ≡ 3 → ⊥) → next.number ≡ 0 → Fed s next n k m m₁
    → Turned s next n k state m m₁
unfolding feed_stream feed_buffer first_length
turned_none {next = next} {m₁ = m₁} state h z p = record {
  between = next;
  middle = m₁;
  fed = p;
  right = z;
  line = [];
  single = refl;
  none = λ _. refl;
  stream = refl;
  buffer = refl;
  settled = record { stops = λ e. absurd (h e); goes = λ _. z };
}

-- and then a refused line
pub turned_line : {s b next : Stream} {n k : ℕ} {m m₁ after : List ℕ} (t : List ℕ) (at e : ℕ) → at < length t → e ≡ at + first_length (drop at t)
    → Fed s b n k m m₁ → b.number ≡ 0
    → next ≡ feed_stream (length m₁) b (take (e - at) (drop at t)) → after ≡ feed_buffer b (take (e - at) (drop at t)) m₁
    → 1 ≤ next.number → Turned s next n k 3 m after
turned_line {b = b} {m₁ = m₁} t at e h q f z p w r =
    let k : e - at ≡ first_length (drop at t) = omega arith in
    let l = length-take-le (first_length (drop at t)) (drop at t) (first_within (drop at t)) in
    record {
      between = b;
      middle = m₁;
      fed = f;
      right = z;
      line = take (e - at) (drop at t);
      single = rw k (first_single (drop at t) ∙ sym l);
      none = λ x. absurd (x refl);
      stream = p;
      buffer = w;
      settled = record { stops = λ _. r; goes = λ x. absurd (x refl) };
    }

-- one text, and another behind it
pub fed_more : {s s₁ s₂ : Stream} {n n₁ n₂ : ℕ} {m m₁ m₂ : List ℕ} → length m₁ ≡ length m → Fed s s₁ n n₁ m m₁ → Fed s₁ s₂ n₁ n₂ m₁ m₂
    → Fed s s₂ n n₂ m m₂
fed_more {s} {s₁} {s₂} {n} {n₁} {n₂} {m} {m₁} {m₂} e p q = record {
  text = p.text ++ q.text;
  stream = q.stream ∙ rw (e, p.stream) (sym (feed_append (length m) s p.text q.text));
  buffer = q.buffer ∙ rw (p.stream, p.buffer) (sym (feed_append_buffer s p.text q.text m));
  lines = q.lines ∙ rw (p.lines, ends_append p.text q.text) (counted_more n (line_ends p.text) (line_ends q.text));
}

-- the turns become fewer, and any are left only where the reading goes on
pub turns_less : (turns state : ℕ) → 0 < turns → turns_left turns state < turns
turns_less turns state h = pick_has (λ k. k < turns) (eqb state 0) _ _ (λ _. omega arith) (λ _. h)

pub turns_going : (turns state : ℕ) → 0 < turns_left turns state → state ≡ 0
turns_going turns state = pick_has (λ k. 0 < k → state ≡ 0) (eqb state 0) _ _ (λ e _. eqb-true state 0 e) (λ _ h. absurd (not-suc-le-zero h))

-- lines before a turn
pub turned_more : {s s₁ s₂ : Stream} {n n₁ n₂ state : ℕ} {m m₁ m₂ : List ℕ} → Fed s s₁ n n₁ m m₁ → Turned s₁ s₂ n₁ n₂ state m₁ m₂
    → Turned s s₂ n n₂ state m m₂
turned_more p t = record {
  between = t.between;
  middle = t.middle;
  fed = fed_more (fed_length p) p t.fed;
  right = t.right;
  line = t.line;
  single = t.single;
  none = t.none;
  stream = t.stream;
  buffer = t.buffer;
  settled = t.settled;
}

-- where none is refused, lines were fed
pub turned_fed : {s next : Stream} {n k state : ℕ} {m m₁ : List ℕ} → (state ≡ 3 → ⊥) → Turned s next n k state m m₁ → Fed s next n k m m₁
unfolding feed_stream feed_buffer
turned_fed h t = rw (t.stream, t.buffer, t.none h) t.fed

-- all that was fed
turned_text : {s next : Stream} {n k state : ℕ} {m m₁ : List ℕ} (t : Turned s next n k state m m₁)
    → (next ≡ feed_stream (length m) s (t.fed.text ++ t.line)) × (m₁ ≡ feed_buffer s (t.fed.text ++ t.line) m)
turned_text {s} {next} {n} {k} {state} {m} {m₁} t =
    let f = t.fed in (
      t.stream ∙ rw (fed_length f, f.stream) (sym (feed_append (length m) s f.text t.line)),
      t.buffer ∙ rw (f.stream, f.buffer) (sym (feed_append_buffer s f.text t.line m)),
    )

-- one piece is the whole file
one_piece : (t m : List ℕ)
    → (finish_answer (length m) (feed_stream (length m) started t) ≡ text_answer t (length m))
    × Leaves (text_answer t (length m)) (text_buffer t m) (feed_buffer started t m)
unfolding pieces_stream pieces_buffer whole_of
one_piece t m = rw (append-nil t) at (stream_reads_text (t ∷ []) m)

-- the end of the file
reads_finish : {s : Stream} {o : Outcome (Unit {0})} {m m₁ : List ℕ} (t : List ℕ) → s ≡ feed_stream (length m) started t → m₁ ≡ feed_buffer started t m
    → length m₁ ≡ length m → o ≡ finish_answer (length m₁) s → Reads o m m₁
reads_finish {s} {o} {m} {m₁} t p q e a =
    let w = one_piece t m in
    let answers : o ≡ text_answer t (length m) = a ∙ rw (e, p) w.0 in
    record { text = t; answers = answers; leaves = rw (answers, q) w.1; part = t; buffer = q }

-- an empty file is refused
empty_answer : (n : ℕ) → text_answer [] n ≡ refused (pick (buffer_length n) 6 7)
unfolding text_answer lines lines_answer
empty_answer n = by_test (buffer_length n)
  where
    by_test : (t : Bool) → ◌≡◌ {A = Outcome (Unit {0})} (pick t (refused 6) (refused 7)) (refused (pick t 6 7))
    by_test true = refl
    by_test false = refl

-- a file that cannot be read counts as empty, whatever part was read before
pub reads_none : {o : Outcome (Unit {0})} {m m₁ : List ℕ} (t : List ℕ) → m₁ ≡ feed_buffer started t m → length m₁ ≡ length m
    → o ≡ finish_answer (length m₁) started → Reads o m m₁
unfolding feed_stream
reads_none {o} {m} {m₁} t q e a =
    let f : text_answer [] (length m) ≡ refused (pick (buffer_length (length m)) 6 7) = empty_answer (length m) in
    let g : finish_answer (length m₁) started ≡ refused (pick (buffer_length (length m)) 6 7) = rw e ((one_piece [] m).0 ∙ f) in
    rw (a ∙ g) (record { text = []; answers = sym f; leaves = tt; part = t; buffer = q })

-- one that cannot be opened leaves the buffer
pub reads_missing : {o : Outcome (Unit {0})} (m : List ℕ) → o ≡ finish_answer (length m) started → Reads o m m
unfolding feed_buffer
reads_missing m a = reads_none [] refl refl a

-- the end of the reading
pub reads_turn : {s : Stream} {o : Outcome (Unit {0})} {n k state : ℕ} {m m₁ : List ℕ} → length m₁ ≡ length m → Turned started s n k state m m₁
    → o ≡ answer_of s state (length m₁) → Reads o m m₁
reads_turn {s} {o} {n} {k} {state} {m} {m₁} e t a = by_test (eqb state 2) a
  where
    by_test : (b : Bool) → o ≡ pick b (finish_answer (length m₁) started) (finish_answer (length m₁) s) → Reads o m m₁
    by_test true q = reads_none (t.fed.text ++ t.line) (turned_text t).1 e q
    by_test false q = let w = turned_text t in reads_finish (t.fed.text ++ t.line) w.0 w.1 e q

-- what stands behind a refused line cannot change the answer, so it is not read
pub settled_answer : {s : Stream} {n k : ℕ} {m m₁ : List ℕ} (t : Turned started s n k 3 m m₁) (rest : List ℕ)
    → text_answer ((t.fed.text ++ t.line) ++ rest) (length m) ≡ text_answer (t.fed.text ++ t.line) (length m)
settled_answer {s} {n} {k} {m} {m₁} t rest =
    let size = length m in
    let text = t.fed.text ++ t.line in
    let w = (turned_text t).0 in
    let f : feed_stream size started (text ++ rest) ≡ feed_stream size started text =
    feed_append size started text rest ∙ (rw w at (feed_refused size s rest (t.settled.stops refl))) in
    sym (one_piece (text ++ rest) m).0 ∙ (ap (finish_answer size) f ∙ (one_piece text m).0)

read_from : {o : Outcome (Unit {0})} {m m₁ : List ℕ} (p : Reads o m m₁) → ReadFrom p.text o m m₁
read_from p = record { answers = p.answers; leaves = p.leaves }

-- two files that were read into blank buffers, and what is written of their judgement
pub judges : {i c : Outcome (Unit {0})} {image cert : List ℕ} {answer : Outcome ℕ} {verdict : Verdict} {out after : List ℕ}
    → Reads i blank_image image → Reads c blank_certificate cert → length cert ≡ length blank_certificate → verdict ≡ verdict_of image_length image cert
    → answer ≡ report_answer (judgement i c verdict) cert (length out) → after ≡ report_buffer (judgement i c verdict) cert out
    → Judges answer out after
judges {out = out} p q n v a w =
    let e = judged out (read_from p) (read_from q) n v in
    record { image = p.text; certificate = q.text; answers = a ∙ e.0; writes = w ∙ e.1 }

-- what is written is within the buffer
pub judges_within : {n : ℕ} {out after : List ℕ} → Judges (value n) out after → n ≤ length out
judges_within {n} {out} {after} p = printed_within p.image p.certificate (length out) n (sym p.answers)
