-- Laws on a file that is fed in pieces: one character of a piece, and a piece behind a refusal.
-- Assumes nothing.
use Rattle.std.specs.Prelude.{ℕ, ◌+◌, ◌≤◌, ◌<◌, ◌≡◌, refl, List, [], ◌∷◌, length, get_or, drop}
use Rattle.std.proofs.Common.{sym, ap, ◌∙◌, add-one, arith, drop_of_length-le, drop-cons, ne_eqb}
use Rattle.hex_text.specs.declared.Stream.{Stream}
use Rattle.hex_text.specs.Stream.{stream_of, push_stream, push_buffer, feed_stream, feed_buffer}

-- the characters from a position on make of a stream and a buffer what the whole piece makes of the first ones
pub record FedUpTo (n : ℕ) (s₀ : Stream) (t m₀ : List ℕ) (s : Stream) (at : ℕ) (m : List ℕ) : Type 0 where
  pub stream : feed_stream n s₀ t ≡ feed_stream n s (drop at t)
  pub buffer : feed_buffer s₀ t m₀ ≡ feed_buffer s (drop at t) m

-- one character more
pub fed_one : {n : ℕ} {s₀ : Stream} {t m₀ : List ℕ} {s : Stream} {at : ℕ} {m : List ℕ} {s₁ : Stream} {m₁ : List ℕ}
    → FedUpTo n s₀ t m₀ s at m → at < length t → length m ≡ n → push_stream n s (get_or t at 0) ≡ s₁ → push_buffer s (get_or t at 0) m ≡ m₁
    → FedUpTo n s₀ t m₀ s₁ (at + 1) m₁
unfolding feed_stream feed_buffer
fed_one {n} {s₀} {t} {m₀} {s} {at} {m} f h e p q =
    let w = drop-cons t at 0 h in
    let c = get_or t at 0 in
    let stream_one : feed_stream n s (drop at t) ≡ feed_stream n (push_stream n s c) (drop (at + 1) t) = rw (w, add-one at) in
    let buffer_one : feed_buffer s (drop at t) m ≡ feed_buffer (push_stream (length m) s c) (drop (at + 1) t) (push_buffer s c m) =
    rw (w, add-one at) in
    record { stream = f.stream ∙ (stream_one ∙ rw p); buffer = f.buffer ∙ (buffer_one ∙ rw (e, p, q)) }

-- no character is left
pub fed_all : {n : ℕ} {s₀ : Stream} {t m₀ : List ℕ} {s : Stream} {at : ℕ} {m : List ℕ} → FedUpTo n s₀ t m₀ s at m → length t ≤ at
    → (s ≡ feed_stream n s₀ t) × (m ≡ feed_buffer s₀ t m₀)
unfolding feed_stream feed_buffer
fed_all {t = t} f h =
    let w = drop_of_length-le t h in
    (sym (f.stream ∙ rw w), sym (f.buffer ∙ rw w))

-- behind a refusal all is ignored
pub feed_refused : (n : ℕ) (s : Stream) (t : List ℕ) → 0 < s.number → feed_stream n s t ≡ s
unfolding feed_stream push_stream
feed_refused n s [] h = refl
feed_refused n s (c ∷ t) h =
    let z : s.number ≡ 0 → ⊥ = omega arith in
    rw (ne_eqb s.number 0 z) (feed_refused n s t h)

pub feed_refused_buffer : (s : Stream) (t m : List ℕ) → 0 < s.number → feed_buffer s t m ≡ m
unfolding feed_buffer push_stream push_buffer
feed_refused_buffer s [] m h = refl
feed_refused_buffer s (c ∷ t) m h =
    let z : s.number ≡ 0 → ⊥ = omega arith in
    rw (ne_eqb s.number 0 z) (feed_refused_buffer s t m h)

pub fed_refused : {n : ℕ} {s₀ : Stream} {t m₀ : List ℕ} {s : Stream} {at : ℕ} {m : List ℕ} → FedUpTo n s₀ t m₀ s at m → 0 < s.number
    → (s ≡ feed_stream n s₀ t) × (m ≡ feed_buffer s₀ t m₀)
fed_refused {n} {s₀} {t} {m₀} {s} {at} {m} f h =
    (sym (f.stream ∙ feed_refused n s (drop at t) h), sym (f.buffer ∙ feed_refused_buffer s (drop at t) m h))

-- a stream without a refusal
pub open_stream : (s : Stream) → s.number ≡ 0 → s ≡ stream_of s.reader s.held s.count 0
open_stream s e = ap (stream_of s.reader s.held s.count) e
