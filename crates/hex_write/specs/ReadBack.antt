-- An image written as Intel HEX reads back to itself, whatever the buffer held before. It goes by the bytes of a part's ROM, rom.
-- Assumes nothing.
use Prim.Native.Nat.{ℕ, zero, suc, ◌+◌, ◌-◌, ◌*◌, ◌/◌, ◌%◌, ◌≤◌, ◌<◌}
use Rattle.std.specs.Prelude.{◌≡◌, true, false, eqb, ltb}
use Rattle.std.proofs.Math.Path.{refl, ap}
use Rattle.std.proofs.Common.{sym, ◌∙◌, not-suc-le-zero, length-append, get_or-append-add, take_all}
use Rattle.std.proofs.Math.Bool.{Bool}
use mathlib.Core.List.{List, [], ◌∷◌, ◌++◌, append_assoc, append-nil}
use native.Mathlib.Omega.{arith}
use Rattle.std.proofs.Math.ListN.{length, get_or, take, drop, length-drop, get_or-append, drop_of_length-le}
use Rattle.std.proofs.lemmas.List.{get_or_at}
use Rattle.std.proofs.Math.Seq.{take_at, drop_at, drop-drop, take-suc, get_or-drop, take-add, length-take-le}
use borrow.Author.Tests.{eqb-true, eq-eqb, ltb-true, ltb-false, ne_eqb, lt-ltb, le-ltb, le-leb}
use Rattle.base.specs.Choice.{pick}
use Rattle.base.specs.ChoiceLaws.{pick_has}
use Rattle.base.specs.Outcome.{Outcome, on_outcome}
use Rattle.base.specs.Outcome.Outcome.{value, refused}
use Rattle.base.specs.Parts.{part_of}
use Rattle.base.specs.declared.Profile.{Profile}
use Rattle.base.specs.declared.Profile.TheVariants.{Rom4K, Rom2K}
use Rattle.hex_line.specs.Record.{digit_of, joined, pair_at, sum_of, data_of, parse_body, body_length, body_of, address_by, count_by, data_by, fields_by, pair_by, parse_by, sum_by}
use Rattle.hex_line.specs.Line.{buffer_length, begun, read_line, line_buffer, buffer_by, read_by, stored_by}
use Rattle.hex_line.proofs.LineLaws.{sum_of_more}
use Rattle.hex_line.specs.declared.Reader.{Reader}
use Rattle.hex_line.specs.declared.Fields.{Fields}
use Rattle.hex_text.specs.Text.{lines, lines_answer, lines_buffer, text_answer, text_buffer}
use Rattle.hex_text.specs.TextLaws.{Plain, plain_append, first_line}
use Rattle.hex_write.specs.ImageText.{hex_digit, head_byte, head_sum, record_byte, digits, record_line, records, end_line, addressable, record_count, image_text, text_length, write_answer, write_buffer}
use Rattle.hex_write.specs.ImageTextLaws.{digits_more, length_digits, length_image_text}

-- a digit is read as it was written
digit_hex : (x : ℕ) → x < 16 → digit_of (hex_digit x) ≡ x
digit_hex x h = by_test (ltb x 10) refl
  where
    by_test : (t : Bool) → ltb x 10 ≡ t → digit_of (hex_digit x) ≡ x
    by_test true e =
        let p : x < 10 = ltb-true _ _ e in
        let a : 48 ≤ x + 48 = omega arith in
        let b : x + 48 < 58 = omega arith in
        let z : x + 48 - 48 ≡ x = omega arith in
        rw (e, le-ltb _ _ a, lt-ltb _ _ b, z)
    by_test false e =
        let p : 10 ≤ x = ltb-false _ _ e in
        let a : 48 ≤ x + 55 = omega arith in
        let b : 58 ≤ x + 55 = omega arith in
        let d : 65 ≤ x + 55 = omega arith in
        let f : x + 55 < 71 = omega arith in
        let z : x + 55 - 55 ≡ x = omega arith in
        rw (e, le-ltb _ _ a, le-ltb _ _ b, le-ltb _ _ d, lt-ltb _ _ f, z)

-- a written digit is neither LF nor CR
hex_above : (x : ℕ) → 47 < hex_digit x
hex_above x = by_test (ltb x 10) refl
  where
    by_test : (t : Bool) → ltb x 10 ≡ t → 47 < hex_digit x
    by_test true e = rw e (omega arith)
    by_test false e = rw e (omega arith)

-- so is a byte
byte_hex : (b : ℕ) → b < 256 → joined (digit_of (hex_digit (b / 16))) (digit_of (hex_digit (b % 16))) ≡ b
byte_hex b h =
    let hi : b / 16 < 16 = omega arith in
    let lo : b % 16 < 16 = omega arith in
    let z : b / 16 * 16 + b % 16 ≡ b = omega arith in
    rw (digit_hex (b / 16) hi, digit_hex (b % 16) lo, lt-ltb _ _ hi, lt-ltb _ _ lo, z)

-- two digits behind p
pair_behind : (p rest : List ℕ) (h l i : ℕ) → length p ≡ i → pair_at (p ++ (h ∷ l ∷ rest)) i ≡ joined (digit_of h) (digit_of l)
unfolding pair_by
pair_behind p rest h l i e =
    let n : i + 1 ≡ length p + 1 = omega arith in
    rw (get_or_at p h (l ∷ rest) 0 i e, n, get_or-append-add p (h ∷ l ∷ rest) 1 0)

-- a line without its LF
body_of_lem : (a : List ℕ) → 0 < length a → (get_or a (length a - 1) 0 ≡ 13 → ⊥) → body_of (a ++ (10 ∷ [])) ≡ a
unfolding body_length
body_of_lem a p q =
    let n : length (a ++ (10 ∷ [])) ≡ length a + 1 = length-append a (10 ∷ []) in
    let i : length a + 1 - 1 ≡ length a = omega arith in
    let j : length a + 1 - 2 ≡ length a - 1 = omega arith in
    let lt : length a - 1 < length a = omega arith in
    rw (n, i, j, get_or_at a 10 [] 0 (length a) refl, get_or-append a (10 ∷ []) 0 (length a - 1) lt, ne_eqb _ _ q)
    (take_at a (10 ∷ []) (length a) refl)

-- a buffer that holds the first n bytes of m
mixed_length : (m m₀ : List ℕ) (size n : ℕ) → length m ≡ size → length m₀ ≡ size → n ≤ size → length (take n m ++ drop n m₀) ≡ size
mixed_length m m₀ size n s s₀ h =
    omega (arith, length-append (take n m) (drop n m₀), length-drop n m₀, length-take-le n m (omega arith))

module _ (m : List ℕ) (k : ℕ) (low : k * 16 < addressable) (byte : (i : ℕ) → get_or m i 0 < 256) where
  head_small : (j : ℕ) → head_byte m k j < 256
  unfolding head_byte
  head_small j =
      let Small : ℕ → Type 0 = λ (x : ℕ). x < 256 in
      pick_has Small (eqb j 0) 16 _ (λ _. omega arith)
      (λ _. pick_has Small (eqb j 1) (k * 16 / 256) _ (λ _. omega arith)
      (λ _. pick_has Small (eqb j 2) (k * 16 % 256) _ (λ _. omega arith)
      (λ _. pick_has Small (eqb j 3) 0 _ (λ _. omega arith) (λ _. byte (k * 16 + (j - 4))))))

  record_small : (j : ℕ) → record_byte m k j < 256
  unfolding record_byte
  record_small j =
      pick_has (λ (x : ℕ). x < 256) (ltb j 20) (head_byte m k j) ((256 - head_sum m k 20) % 256) (λ _. head_small j) (λ _. omega arith)

  head_sum_small : (n : ℕ) → head_sum m k n < 256
  unfolding head_sum
  head_sum_small zero = omega arith
  head_sum_small (suc n) = omega arith

  -- pair j of the digits is byte j
  pair_digit : (n j : ℕ) (rest : List ℕ) → j < n → pair_at ((58 ∷ digits m k n) ++ rest) (j * 2 + 1) ≡ record_byte m k j
  unfolding digits
  pair_digit zero j rest h = absurd (not-suc-le-zero h)
  pair_digit (suc n) j rest h = by_test (ltb j n) refl (pair_digit n j (hex_digit (record_byte m k n / 16) ∷ hex_digit (record_byte m k n % 16) ∷ rest))
    where
      re : (58 ∷ digits m k (suc n)) ++ rest ≡ (58 ∷ digits m k n) ++ (hex_digit (record_byte m k n / 16) ∷ hex_digit (record_byte m k n % 16) ∷ rest)
      re = append_assoc (58 ∷ digits m k n) (hex_digit (record_byte m k n / 16) ∷ hex_digit (record_byte m k n % 16) ∷ []) rest

      by_test : (t : Bool) → ltb j n ≡ t
          → (j < n → pair_at ((58 ∷ digits m k n) ++ (hex_digit (record_byte m k n / 16) ∷ hex_digit (record_byte m k n % 16) ∷ rest)) (j * 2 + 1) ≡ record_byte m k j)
          → pair_at ((58 ∷ digits m k (suc n)) ++ rest) (j * 2 + 1) ≡ record_byte m k j
      by_test true e ih = ap (λ (l : List ℕ). pair_at l (j * 2 + 1)) re ∙ ih (ltb-true _ _ e)
      by_test false e ih =
          let p : n ≤ j = ltb-false _ _ e in
          let q : j ≡ n = omega arith in
          let len : length (58 ∷ digits m k n) ≡ n * 2 + 1 = omega (arith, length_digits m k n) in
          ap (λ (l : List ℕ). pair_at l (j * 2 + 1)) re
          ∙ rw q (pair_behind (58 ∷ digits m k n) rest _ _ (n * 2 + 1) len ∙ byte_hex (record_byte m k n) (record_small n))

  -- record k without its LF
  body : List ℕ
  body = 58 ∷ digits m k 21

  pair : (j : ℕ) → j < 21 → pair_at body (j * 2 + 1) ≡ record_byte m k j
  unfolding body
  pair j h = ap (λ (l : List ℕ). pair_at l (j * 2 + 1)) (sym (append-nil (58 ∷ digits m k 21))) ∙ pair_digit 21 j [] h

  record_head : (j : ℕ) → j < 20 → record_byte m k j ≡ head_byte m k j
  unfolding record_byte
  record_head j h = rw (lt-ltb _ _ h)

  sum_head : (n : ℕ) → n ≤ 20 → sum_of body n ≡ head_sum m k n
  unfolding sum_by head_sum
  sum_head zero h = refl
  sum_head (suc n) h =
      let p : n < 20 = omega arith in
      rw (sum_head n (omega arith), pair n (omega arith), record_head n p, lt-ltb _ _ (head_sum_small n), lt-ltb _ _ (head_small n))

  whole_sum : sum_of body 21 ≡ 0
  whole_sum =
      let s = head_sum m k 20 in
      let b : (256 - s) % 256 < 256 = omega arith in
      let z : (s + (256 - s) % 256) % 256 ≡ 0 = omega (arith, head_sum_small 20) in
      let r : record_byte m k 20 ≡ (256 - s) % 256 = last_byte in
      sum_of_more body 20 ∙ rw (sum_head 20 (omega arith), pair 20 (omega arith), r, lt-ltb _ _ (head_sum_small 20), lt-ltb _ _ b) z
    where
      last_byte : record_byte m k 20 ≡ (256 - head_sum m k 20) % 256
      last_byte = unfold record_byte in refl

  field : (j v : ℕ) → j < 20 → head_byte m k j ≡ v → pair_at body (j * 2 + 1) ≡ v
  field j v h e = pair j (omega arith) ∙ (record_head j h ∙ e)

  count_16 : pair_at body 1 ≡ 16
  unfolding head_byte
  count_16 = field 0 16 (omega arith) refl

  address_high : pair_at body 3 ≡ k * 16 / 256
  unfolding head_byte
  address_high = field 1 (k * 16 / 256) (omega arith) refl

  address_low : pair_at body 5 ≡ k * 16 % 256
  unfolding head_byte
  address_low = field 2 (k * 16 % 256) (omega arith) refl

  type_0 : pair_at body 7 ≡ 0
  unfolding head_byte
  type_0 = field 3 0 (omega arith) refl

  address : k * 16 / 256 * 256 + k * 16 % 256 ≡ k * 16
  address = omega arith

  length_body : length body ≡ 43
  unfolding body
  length_body = ap suc (length_digits m k 21)

  colon : get_or body 0 0 ≡ 58
  unfolding body
  colon = refl

  abbrev fields : Fields
  fields = record { count = 16; address = k * 16; kind = 0; sum = 0 }

  parsed : parse_body body ≡ value fields
  unfolding parse_by fields_by count_by address_by
  parsed = rw (colon, length_body, count_16, whole_sum, address_high, address_low, type_0, address)

  -- data byte n
  data_byte : (n : ℕ) → n < 16 → pair_at body (n * 2 + 9) % 256 ≡ get_or m (k * 16 + n) 0
  unfolding head_byte
  data_byte n h =
      let e : n * 2 + 9 ≡ (n + 4) * 2 + 1 = omega arith in
      let c0 : n + 4 ≡ 0 → ⊥ = omega arith in
      let c1 : n + 4 ≡ 1 → ⊥ = omega arith in
      let c2 : n + 4 ≡ 2 → ⊥ = omega arith in
      let c3 : n + 4 ≡ 3 → ⊥ = omega arith in
      let d : n + 4 - 4 ≡ n = omega arith in
      let s : get_or m (k * 16 + n) 0 % 256 ≡ get_or m (k * 16 + n) 0 = omega (arith, byte (k * 16 + n)) in
      rw (e, pair (n + 4) (omega arith), record_head (n + 4) (omega arith), ne_eqb _ _ c0, ne_eqb _ _ c1, ne_eqb _ _ c2, ne_eqb _ _ c3, d) s

  data_part : k * 16 + 16 ≤ length m → (n : ℕ) → n ≤ 16 → data_of body n ≡ take n (drop (k * 16) m)
  unfolding data_by
  data_part r zero h = refl
  data_part r (suc n) h =
      let l : n < length (drop (k * 16) m) = omega (arith, length-drop (k * 16) m) in
      rw (data_part r n (omega arith), data_byte n (omega arith), take-suc (drop (k * 16) m) n 0 l, get_or-drop (k * 16) m n 0)

  -- the line is the body and LF
  body_line : body_of (record_line m k) ≡ body
  unfolding record_line body
  body_line =
      let p : List ℕ = 58 ∷ digits m k 20 in
      let high = hex_digit (record_byte m k 20 / 16) in
      let low = hex_digit (record_byte m k 20 % 16) in
      let n : length (58 ∷ digits m k 21) ≡ 43 = ap suc (length_digits m k 21) in
      let i : 42 ≡ length p + 1 = omega (arith, length_digits m k 20) in
      let g : get_or (58 ∷ digits m k 21) 42 0 ≡ low =
      ap (λ (d : List ℕ). get_or (58 ∷ d) 42 0) (digits_more m k 20) ∙ rw i (get_or-append-add p (high ∷ low ∷ []) 1 0) in
      body_of_lem (58 ∷ digits m k 21) (omega arith) (rw (n, g) (λ e. omega (arith, hex_above (record_byte m k 20 % 16), e)))

  abbrev before : Reader
  before = record { next = k * 16; ended = false }

  abbrev after : Reader
  after = record { next = k * 16 + 16; ended = false }

  module _ (size : ℕ) (good : buffer_length size ≡ true) (fits : k * 16 + 16 ≤ size) where
    answered : read_line before size (record_line m k) ≡ value after
    unfolding read_by
    answered =
        let p : k * 16 ≤ k * 16 = omega arith in
        rw (good, body_line, parsed, le-leb _ _ p, le-leb _ _ fits)

    placed : (m₀ : List ℕ) → length m ≡ size → length m₀ ≡ size
        → line_buffer before (record_line m k) (take (k * 16) m ++ drop (k * 16) m₀) ≡ take (k * 16 + 16) m ++ drop (k * 16 + 16) m₀
    unfolding buffer_by stored_by count_by address_by
    placed m₀ s s₀ =
        let t : length (take (k * 16) m) ≡ k * 16 = length-take-le (k * 16) m (omega arith) in
        rw (
          mixed_length m m₀ size (k * 16) s s₀ (omega arith),
          answered,
          body_line,
          count_16,
          address_high,
          address_low,
          address,
          data_part (omega arith) 16 (omega arith),
          take_at (take (k * 16) m) (drop (k * 16) m₀) (k * 16) t,
          drop_at (take (k * 16) m) (drop (k * 16) m₀) (k * 16) t,
          drop-drop 16 (k * 16) m₀,
          take-add (k * 16) 16 m,
        )
        (sym (append_assoc (take (k * 16) m) (take 16 (drop (k * 16) m)) (drop (k * 16 + 16) m₀)))

plain_digits : (m : List ℕ) (k n : ℕ) → Plain (digits m k n)
unfolding digits
plain_digits m k zero = tt
plain_digits m k (suc n) =
    let high = hex_digit (record_byte m k n / 16) in
    let low = hex_digit (record_byte m k n % 16) in
    plain_append (digits m k n) (high ∷ low ∷ []) (plain_digits m k n)
    ((λ e. omega (arith, hex_above (record_byte m k n / 16), e)), ((λ e. omega (arith, hex_above (record_byte m k n % 16), e)), tt))

record_lines : List ℕ → ℕ → List (List ℕ)
record_lines m zero = []
record_lines m (suc k) = record_lines m k ++ (record_line m k ∷ [])

lines_records : (m : List ℕ) (k : ℕ) (t : List ℕ) → lines (records m k ++ t) ≡ record_lines m k ++ lines t
unfolding records record_lines record_line
lines_records m zero t = refl
lines_records m (suc k) t =
    let a : List ℕ = 58 ∷ digits m k 21 in
    let p : Plain a = ((λ e. omega (arith, e)), plain_digits m k 21) in
    rw (append_assoc (records m k) (a ++ (10 ∷ [])) t, append_assoc a (10 ∷ []) t, lines_records m k (a ++ (10 ∷ t)), first_line a t p)
    (sym (append_assoc (record_lines m k) ((a ++ (10 ∷ [])) ∷ []) (lines t)))

-- the end line is read, and leaves the buffer
read_end : (r : Reader) → r.ended ≡ false → (size : ℕ) → buffer_length size ≡ true → lines_answer (lines end_line) r size ≡ value tt
unfolding lines lines_answer read_by parse_by fields_by count_by address_by pair_by sum_by data_by body_length
read_end r e size good = rw (good, e)

end_buffer : (r : Reader) → r.ended ≡ false → (x : List ℕ) → buffer_length (length x) ≡ true → lines_buffer (lines end_line) r x ≡ x
unfolding lines lines_buffer read_by buffer_by stored_by parse_by fields_by count_by address_by pair_by sum_by data_by body_length
end_buffer r e x good = rw (good, e)

module _ (m m₀ : List ℕ) (size : ℕ) (reach : size ≤ addressable) (good : buffer_length size ≡ true) (s : length m ≡ size) (s₀ : length m₀ ≡ size)
    (byte : (i : ℕ) → get_or m i 0 < 256) where
  -- the first k records of an image, with any lines behind them
  read_records : (k : ℕ) → k * 16 ≤ size → (ls : List (List ℕ))
      → (lines_answer (record_lines m k ++ ls) begun size ≡ lines_answer ls (record { next = k * 16; ended = false }) size)
      × (lines_buffer (record_lines m k ++ ls) begun m₀
      ≡ lines_buffer ls (record { next = k * 16; ended = false }) (take (k * 16) m ++ drop (k * 16) m₀))
  unfolding record_lines lines_answer lines_buffer
  read_records zero r ls = (refl, refl)
  read_records (suc k) r ls =
      let low : k * 16 < addressable = omega arith in
      let fits : k * 16 + 16 ≤ size = omega arith in
      let e : suc k * 16 ≡ k * 16 + 16 = omega arith in
      let n = mixed_length m m₀ size (k * 16) s s₀ (omega arith) in
      let ih = read_records k (omega arith) (record_line m k ∷ ls) in
      let g = answered m k low byte size good fits in
      rw (append_assoc (record_lines m k) (record_line m k ∷ []) ls, e)
      (ih.0 ∙ rw g, ih.1 ∙ rw (n, g, placed m k low byte size good fits m₀ s s₀))

-- where n bytes were written to the front of a buffer, they read back to the image
abbrev pub ReadsBack : ℕ → Outcome ℕ → List ℕ → List ℕ → Type 0
ReadsBack rom (value n) m out =
    (m₀ : List ℕ) → length m₀ ≡ rom → (text_answer (take n out) (length m₀) ≡ value tt) × (text_buffer (take n out) m₀ ≡ m)
ReadsBack rom (refused k) m out = Unit {0}

-- a ROM of whole records within reach, whose length the reader takes
module _ (rom : ℕ) (whole : rom % 16 ≡ 0) (reach : rom ≤ addressable) (good : buffer_length rom ≡ true) where
  -- the text of an image is read to its end, and leaves the image in the buffer
  pub read_back : (m m₀ : List ℕ) → length m ≡ rom → length m₀ ≡ rom → ((i : ℕ) → get_or m i 0 < 256)
      → (text_answer (image_text rom m) (length m₀) ≡ value tt) × (text_buffer (image_text rom m) m₀ ≡ m)
  unfolding image_text text_answer text_buffer
  read_back m m₀ s s₀ byte =
      let n = record_count rom in
      let e : n * 16 ≡ rom = omega (arith, whole) in
      let r = rw e at (read_records m m₀ rom reach good s s₀ byte n (omega (arith, whole)) (lines end_line)) in
      let all : take rom m ++ drop rom m₀ ≡ m =
      rw (take_all rom m (omega arith), drop_of_length-le m₀ {i = rom} (omega arith)) (append-nil m) in
      let a : lines_answer (lines (records m n ++ end_line)) begun rom ≡ value tt =
      rw (lines_records m n end_line) (r.0 ∙ read_end _ refl rom good) in
      let b : lines_buffer (lines (records m n ++ end_line)) begun m₀ ≡ m =
      rw (lines_records m n end_line) (r.1 ∙ rw all (end_buffer _ refl m (rw s good))) in
      rw (s₀, good, a) (refl, b)

  pub reads_back : (m rest : List ℕ) → length m ≡ rom → ((i : ℕ) → get_or m i 0 < 256)
      → ReadsBack rom (value (text_length rom)) m (image_text rom m ++ rest)
  reads_back m rest s byte m₀ s₀ =
      rw (take_at (image_text rom m) rest (text_length rom) (length_image_text rom m)) (read_back m m₀ s s₀ byte)

  written_reads_back : (m out : List ℕ) → ((i : ℕ) → get_or m i 0 < 256)
      → ReadsBack rom (write_answer rom (length m) (length out)) m (write_buffer rom m out)
  unfolding write_answer write_buffer
  written_reads_back m out byte = on (eqb (length m) rom) (ltb (length out) (text_length rom)) refl
    where
      answer : Bool → Bool → Outcome ℕ
      answer t u = pick t (pick u (refused 7) (value (text_length rom))) (refused 7)

      on : (t u : Bool) → eqb (length m) rom ≡ t
          → ReadsBack rom (answer t u) m (on_outcome (answer t u) (λ n. image_text rom m ++ drop n out) (λ number. out))
      on true true e = tt
      on true false e = reads_back m (drop (text_length rom) out) (eqb-true (length m) rom e) byte
      on false u e = tt

-- each part's ROM is such a one
pub rom_reads_back : (p : Profile) → ((part_of p).rom % 16 ≡ 0) × ((part_of p).rom ≤ addressable) × (buffer_length (part_of p).rom ≡ true)
rom_reads_back Rom4K = (refl, omega arith, refl)
rom_reads_back Rom2K = (refl, omega arith, refl)

-- what `write_image` answers and leaves in a buffer
pub write_reads_back : (p : Profile) (m out : List ℕ) → ((i : ℕ) → get_or m i 0 < 256)
    → ReadsBack (part_of p).rom (write_answer (part_of p).rom (length m) (length out)) m (write_buffer (part_of p).rom m out)
write_reads_back p m out byte = let (whole, reach, good) = rom_reads_back p in written_reads_back (part_of p).rom whole reach good m out byte

-- an image is written where its text has room
pub written_whole : (rom size room : ℕ) → size ≡ rom → text_length rom ≤ room → write_answer rom size room ≡ value (text_length rom)
unfolding write_answer
written_whole rom size room e h = rw (eq-eqb size rom e, le-ltb room (text_length rom) h)
