-- Laws on the records from a seed: lengths, n records and then m more, record k of n, bits 5 to 7 of its byte 0, its bytes.
-- Assumes nothing.
use Rattle.std.specs.Prelude.{ℕ, zero, suc, ◌+◌, ◌-◌, ◌*◌, ◌<◌, ◌≡◌, refl, List, [], ◌∷◌, ◌++◌, length, get_or, take, drop}
use Rattle.std.proofs.Common.{◌∙◌, append_assoc, append-nil, suc-add, zero-add, arith, length-append, take_at, drop_at}
use Rattle.std.specs.Int.Bits.{bit_and, and_zero_r}
use Rattle.std.proofs.lemmas.Nat.{and_le_r}
use Rattle.base.specs.Bits.{and_assoc}
use Rattle.base.specs.Cells.{Bytes, bytes_cons, bytes_append, bytes_map}
use Rattle.base.specs.Choice.{from}
use Rattle.base.specs.Lengths.{record_length}
use Rattle.xorshift.specs.Xorshift.{round, byte_of, four_bytes, cleared, next_state, record_from, records_from, state_after}

pub length_record : (x : ℕ) → length (record_from x) ≡ record_length
unfolding record_from
length_record x = refl

pub length_records : (n x : ℕ) → length (records_from n x) ≡ n * record_length
unfolding records_from
length_records zero x = refl
length_records (suc n) x =
    omega
    (arith, length-append (record_from x) (records_from n (next_state x)), length_record x, length_records n (next_state x))

-- n records and then m, from the state after n
pub records_add : (n m x : ℕ) → records_from (n + m) x ≡ records_from n x ++ records_from m (state_after n x)
unfolding records_from state_after
records_add zero m x = rw (zero-add m)
records_add (suc n) m x =
    rw (suc-add n m, records_add n m (next_state x))
    (rw (append_assoc (record_from x) (records_from n (next_state x)) (records_from m (state_after n (next_state x)))) refl)

pub state_add : (n m x : ℕ) → state_after (n + m) x ≡ state_after m (state_after n x)
unfolding state_after
state_add zero m x = rw (zero-add m)
state_add (suc n) m x = rw (suc-add n m) (state_add n m (next_state x))

-- one more
pub records_more : (n x : ℕ) → records_from (n + 1) x ≡ records_from n x ++ record_from (state_after n x)
unfolding records_from
records_more n x = records_add n 1 x ∙ rw (append-nil (record_from (state_after n x)))

pub state_more : (n x : ℕ) → state_after (n + 1) x ≡ next_state (state_after n x)
unfolding state_after
state_more n x = state_add n 1 x

-- record k of n
pub record_made : (n k x : ℕ) → k < n → take record_length (drop (k * record_length) (records_from n x)) ≡ record_from (state_after k x)
unfolding records_from
record_made n k x h =
    let m = n - suc k in
    let e : n ≡ k + suc m = omega arith in
    let s = state_after k x in
    rw (e, records_add k (suc m) x, drop_at (records_from k x) (records_from (suc m) s) (k * record_length) (length_records k x))
    (take_at (record_from s) (records_from m (next_state s)) record_length (length_record s))

-- bits 5 to 7 of byte 0 are 0
pub no_other_bit : (x : ℕ) → bit_and (get_or (record_from x) 0 0) 0xE0 ≡ 0
unfolding record_from
no_other_bit x = and_assoc (byte_of (round x) 0) 0x1F 0xE0 ∙ and_zero_r (byte_of (round x) 0)

-- every cell of a record holds a byte
cleared_bytes : (l : List ℕ) → Bytes l → Bytes (cleared l)
cleared_bytes [] p = p
cleared_bytes (b ∷ r) p = bytes_cons (bit_and b 0x1F) r (omega (arith, and_le_r b 0x1F)) (λ (k : ℕ). p (suc k))

state_bytes : (x : ℕ) → Bytes (four_bytes x)
state_bytes x = bytes_map (byte_of x) (λ (i : ℕ). omega arith) (from 4 0)

record_bytes : (x : ℕ) → Bytes (record_from x)
unfolding record_from
record_bytes x =
    let a = four_bytes (round x) in
    let b = four_bytes (next_state x) in
    cleared_bytes (a ++ b) (bytes_append a b (state_bytes (round x)) (state_bytes (next_state x)))

pub records_bytes : (n x : ℕ) → Bytes (records_from n x)
unfolding records_from
records_bytes zero x = λ (k : ℕ). omega arith
records_bytes (suc n) x = bytes_append (record_from x) (records_from n (next_state x)) (record_bytes x) (records_bytes n (next_state x))
