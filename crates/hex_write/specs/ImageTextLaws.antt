-- Laws on the text of an image: the recursions one step on, lengths, and stores that write it from the front.
-- Assumes nothing.
use Rattle.std.specs.Prelude.{ℕ, zero, suc, ◌+◌, ◌*◌, ◌/◌, ◌%◌, ◌<◌, ◌≡◌, refl, List, [], ◌∷◌, ◌++◌, length, drop, set}
use Rattle.std.proofs.Common.{append_assoc, add-one, arith, length-append, not-suc-le-zero}
use Rattle.base.specs.Lists.{store_next}
use Rattle.hex_write.specs.ImageText.{hex_digit, head_byte, head_sum, record_byte, digits, record_line, records, end_line, record_count, image_text, text_length}

pub head_sum_more : (m : List ℕ) (k i : ℕ) → head_sum m k (i + 1) ≡ (head_sum m k i + head_byte m k i) % 256
unfolding head_sum
head_sum_more m k i = rw (add-one i)

pub digits_more : (m : List ℕ) (k i : ℕ) → digits m k (i + 1) ≡ digits m k i ++ (hex_digit (record_byte m k i / 16) ∷ hex_digit (record_byte m k i % 16) ∷ [])
unfolding digits
digits_more m k i = rw (add-one i)

pub records_more : (m : List ℕ) (k : ℕ) → records m (k + 1) ≡ records m k ++ record_line m k
unfolding records
records_more m k = rw (add-one k)

pub length_digits : (m : List ℕ) (k n : ℕ) → length (digits m k n) ≡ n * 2
unfolding digits
length_digits m k zero = refl
length_digits m k (suc n) =
    let e : length (digits m k n) ≡ n * 2 = length_digits m k n in
    omega (arith, length-append (digits m k n) (hex_digit (record_byte m k n / 16) ∷ hex_digit (record_byte m k n % 16) ∷ []), e)

pub length_record_line : (m : List ℕ) (k : ℕ) → length (record_line m k) ≡ 44
unfolding record_line
length_record_line m k = omega (arith, length-append (58 ∷ digits m k 21) (10 ∷ []), length_digits m k 21)

pub length_records : (m : List ℕ) (k : ℕ) → length (records m k) ≡ k * 44
unfolding records
length_records m zero = refl
length_records m (suc k) = omega (arith, length-append (records m k) (record_line m k), length_records m k, length_record_line m k)

pub length_image_text : (rom : ℕ) (m : List ℕ) → length (image_text rom m) ≡ text_length rom
unfolding image_text
length_image_text rom m =
    omega (arith, length-append (records m (record_count rom)) end_line, length_records m (record_count rom))

-- two stores right behind what is written
pub store_two : (done p : List ℕ) (i i₁ i₂ v w : ℕ) → length done ≡ i → i₁ ≡ i + 1 → i₂ ≡ i + 2 → i + 1 < length p
    → set (set (done ++ drop i p) i v) i₁ w ≡ (done ++ (v ∷ w ∷ [])) ++ drop i₂ p
store_two done p i i₁ i₂ v w e e₁ e₂ h =
    let n : length (done ++ (v ∷ [])) ≡ i + 1 = omega (arith, length-append done (v ∷ [])) in
    let s : i₂ ≡ i + 1 + 1 = omega arith in
    rw (e₁, s, store_next done p i v e (omega arith), store_next (done ++ (v ∷ [])) p (i + 1) w n h, append_assoc done (v ∷ []) (w ∷ []))

-- the first store
pub store_front : (l : List ℕ) (v : ℕ) → 0 < length l → set l 0 v ≡ (v ∷ []) ++ drop 1 (set l 0 v)
store_front [] v h = absurd (not-suc-le-zero h)
store_front (x ∷ l) v h = refl
