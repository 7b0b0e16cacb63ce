-- Laws on the characters at which `feed` ends: one behind a full line, and the LF of a line that is refused.
-- Assumes nothing.
use Rattle.std.proofs.Common.{ℕ, ◌+◌, ◌<◌, ◌≤◌, ◌≡◌, List, refl, le-leb, eq-eqb, length, take, set, get_or}
use Rattle.std.proofs.lemmas.Bool.{lt-leb}
use Rattle.base.specs.Outcome.Outcome.{refused}
use Rattle.hex_line.specs.declared.Reader.{Reader}
use Rattle.hex_line.specs.Line.{read_line, line_buffer}
use Rattle.hex_line.proofs.Refusals.{line_number}
use Rattle.hex_text.specs.declared.Stream.{Stream}
use Rattle.hex_text.specs.Stream.{longest, long_number, stream_of, push_stream, push_buffer, feed_stream, feed_buffer}
use Rattle.hex_text.specs.StreamLaws.{FedUpTo, fed_one, fed_refused}
use Rattle.hex_text.specs.Refusals.{long_number_lem}

module _ {n : ℕ} {s₀ : Stream} {t m₀ : List ℕ} {reader : Reader} {held : List ℕ} {count at : ℕ} {m : List ℕ}
    (f : FedUpTo n s₀ t m₀ (stream_of reader held count 0) at m) (inside : at < length t) (size : length m ≡ n) where
  pub fed_long : longest ≤ count
      → (stream_of reader held count (long_number reader n) ≡ feed_stream n s₀ t) × (m ≡ feed_buffer s₀ t m₀)
  unfolding push_stream push_buffer
  fed_long full =
      let long = le-leb _ _ full in
      let r = fed_refused (fed_one f inside size refl refl) (rw long (long_number_lem reader n).0) in
      (rw long at r.0, rw long at r.1)

  pub fed_fault : {k : ℕ} → count < longest → get_or t at 0 ≡ 10
      → read_line reader n (take (count + 1) (set held count (get_or t at 0))) ≡ refused k
      → (stream_of reader (set held count (get_or t at 0)) (count + 1) k ≡ feed_stream n s₀ t)
      × (line_buffer reader (take (count + 1) (set held count (get_or t at 0))) m ≡ feed_buffer s₀ t m₀)
  unfolding push_stream push_buffer
  fed_fault space ends g =
      let room = lt-leb _ _ space in
      let end = eq-eqb _ _ ends in
      let r = fed_refused (fed_one f inside size refl refl) (rw (room, end, g) (line_number reader _ _ _ g).0) in
      (rw (room, end, g) at r.0, rw (room, end) at r.1)
