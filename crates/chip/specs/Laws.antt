-- Laws of the register map, loads and stores.
-- Assumes nothing.
use Rattle.std.specs.Prelude.{◌≡◌, refl, ◌≢◌, Bool, true, false, not, ◌&&◌, List, [], ◌∷◌, ℕ, ◌<◌, ◌≤◌, ◌%◌, ◌/◌, ltb, leb, eqb, length, get_or}
use Rattle.std.proofs.Common.{◌∙◌, sym, lt_of_le_of_lt, arith, lt-ltb, le-leb, eq-eqb, ne_eqb, length-set, get_or-set_same, get_or-set_other}
use Rattle.std.specs.Int.Bits.{bit_and, bit_or, or_zero_r}
use Rattle.std.proofs.lemmas.Nat.{and_le_l, and_le_r}
use Rattle.std.proofs.Math.ListN.{get_or-append}
use Rattle.std.proofs.lemmas.List.{get_or_at}
use Rattle.base.specs.Bits.{and_assoc, and_or, and_byte}
use Rattle.base.specs.Cells.{Bytes, set_cells, bytes_cons, bytes_append}
use Rattle.base.specs.Choice.{pick, choose, from, count}
use Rattle.base.specs.ChoiceLaws.{pick_has, choose_has, choose_other}
use Rattle.base.specs.Lengths.{record_length}
use Rattle.chip.specs.Registers.{kept_rows, kept_bits, mapped_of, inputs_of, grounded_now, input_rows, load_of, written_rows, written_of, kept_of, store_of}

-- The map

-- "the 22 other addresses are unmapped"
pub unmapped_count : count (λ (a : ℕ). not (mapped_of a)) (from 256 0) ≡ 22
unfolding mapped_of
unmapped_count = refl

pub mapped_ram : (a : ℕ) → a < 0xD0 → mapped_of a ≡ true
unfolding mapped_of
mapped_ram a h = rw (lt-ltb a 0xD0 h)

pub kept_bits_byte : (a : ℕ) → kept_bits a < 256
unfolding kept_bits
kept_bits_byte a =
    pick_has (λ (m : ℕ). m < 256) (ltb a 0xD0) 0xFF (choose a kept_rows 0) (λ _. omega arith)
    (λ _. choose_has (λ (m : ℕ). m < 256) a kept_rows 0 (omega arith) (omega arith))

-- Loads

pub load_ram : (regs r : List ℕ) (a : ℕ) → a < 0xD0 → load_of regs r a ≡ get_or regs a 0
unfolding load_of
load_ram regs r a h = rw (lt-ltb a 0xD0 h)

converted_byte : (b : Bool) (v : ℕ) → v < 256 → pick b 0 v < 256
converted_byte true v h = omega arith
converted_byte false v h = h

pub load_byte : (regs r : List ℕ) (a : ℕ) → Bytes regs → Bytes r → load_of regs r a < 256
unfolding load_of
load_byte regs r a h hr =
    pick_has (λ (x : ℕ). x < 256) (ltb a 0xD0) (get_or regs a 0) _ (λ _. h a)
    (λ _. choose_has (λ (x : ℕ). x < 256) a (input_rows regs r) (bit_and (get_or regs a 0) (kept_bits a))
    (omega (
      arith,
      hr 1,
      hr 2,
      hr 3,
      hr 4,
      hr 5,
      converted_byte (grounded_now regs r) (get_or r 6 0) (hr 6),
      converted_byte (grounded_now regs r) (get_or r 7 0 % 4) (omega arith),
    ))
    (lt_of_le_of_lt (and_le_l (get_or regs a 0) (kept_bits a)) (h a)))

last_byte : (g : Bool) → pick g 1 0 < 256
last_byte true = omega arith
last_byte false = omega arith

pub inputs_bytes : (g : Bool) (r : List ℕ) → Bytes r → Bytes (inputs_of g r)
inputs_bytes g r h = bytes_append r (pick g 1 0 ∷ []) h (bytes_cons (pick g 1 0) [] (last_byte g) (λ (k : ℕ). omega arith))

-- request 04: the byte behind the record says whether the inputs from 3 on are grounded
last_is : (g : Bool) (r : List ℕ) → length r ≡ record_length → get_or (inputs_of g r) 8 0 ≡ pick g 1 0
last_is g r h = get_or_at r (pick g 1 0) [] 0 8 h

record_kept : (g : Bool) (r : List ℕ) (i : ℕ) → length r ≡ record_length → i < 8 → get_or (inputs_of g r) i 0 ≡ get_or r i 0
record_kept g r i h l = get_or-append r (pick g 1 0 ∷ []) 0 i (omega arith)

grounded_is : (g : Bool) (regs r : List ℕ) → length r ≡ record_length → grounded_now regs (inputs_of g r) ≡ (g && leb 3 (get_or regs 0xF7 0 / 16))
unfolding grounded_now
grounded_is true regs r h = rw (last_is true r h)
grounded_is false regs r h = rw (last_is false r h)

-- such an input is 0
pub grounded_reads_0 : (regs r : List ℕ) → length r ≡ record_length → 3 ≤ get_or regs 0xF7 0 / 16
    → (load_of regs (inputs_of true r) 0xF8 ≡ 0) × (load_of regs (inputs_of true r) 0xF9 ≡ 0)
unfolding load_of
grounded_reads_0 regs r h l =
    let e : grounded_now regs (inputs_of true r) ≡ true = rw (grounded_is true regs r h, le-leb 3 (get_or regs 0xF7 0 / 16) l) in
    (rw e, rw e)

-- another input is the record's, and on a part that grounds none every input
pub ungrounded_reads_record : (g : Bool) (regs r : List ℕ) → length r ≡ record_length → (g && leb 3 (get_or regs 0xF7 0 / 16)) ≡ false
    → (load_of regs (inputs_of g r) 0xF8 ≡ get_or r 6 0) × (load_of regs (inputs_of g r) 0xF9 ≡ get_or r 7 0 % 4)
unfolding load_of
ungrounded_reads_record g regs r h n =
    let e : grounded_now regs (inputs_of g r) ≡ false = grounded_is g regs r h ∙ n in
    (rw (e, record_kept g r 6 h (omega arith)), rw (e, record_kept g r 7 h (omega arith)))

-- every other register reads the same
pub other_reads_same : (regs r : List ℕ) (a : ℕ) → length r ≡ record_length → a ≢ 0xF8 → a ≢ 0xF9
    → load_of regs (inputs_of true r) a ≡ load_of regs (inputs_of false r) a
unfolding load_of
other_reads_same regs r a h n m =
    rw (ne_eqb a 0xF8 n, ne_eqb a 0xF9 m) (rw (same 1 (omega arith), same 2 (omega arith), same 3 (omega arith), same 4 (omega arith), same 5 (omega arith)))
  where
    same : (i : ℕ) → i < 8 → get_or (inputs_of true r) i 0 ≡ get_or (inputs_of false r) i 0
    same i l = record_kept true r i h l ∙ sym (record_kept false r i h l)

-- Stores

pub store_length : (regs : List ℕ) (a v : ℕ) → length (store_of regs a v) ≡ length regs
unfolding store_of
store_length regs a v = simp length-set

pub store_other : (regs : List ℕ) (a v k : ℕ) → k ≢ a → get_or (store_of regs a v) k 0 ≡ get_or regs k 0
unfolding store_of
store_other regs a v k n = get_or-set_other regs a k (kept_of a (get_or regs a 0) v) 0 n

pub store_same : (regs : List ℕ) (a v : ℕ) → a < length regs → get_or (store_of regs a v) a 0 ≡ kept_of a (get_or regs a 0) v
unfolding store_of
store_same regs a v h = get_or-set_same regs a (kept_of a (get_or regs a 0) v) 0 h

pub store_ram : (regs : List ℕ) (a v : ℕ) → a < 0xD0 → a < length regs → get_or (store_of regs a v) a 0 ≡ v
unfolding kept_of
store_ram regs a v h l = store_same regs a v l ∙ rw (lt-ltb a 0xD0 h)

pub kept_byte : (a old v : ℕ) → old < 256 → v < 256 → kept_of a old v < 256
unfolding kept_of
kept_byte a old v ho hv =
    pick_has (λ (x : ℕ). x < 256) (ltb a 0xD0) v _ (λ _. hv)
    (λ _. pick_has (λ (x : ℕ). x < 256) (eqb (kept_bits a) 0) old _ (λ _. ho)
    (λ _. lt_of_le_of_lt (and_le_r (written_of a old v) (kept_bits a)) (kept_bits_byte a)))

pub store_bytes : (regs : List ℕ) (a v : ℕ) → Bytes regs → v < 256 → Bytes (store_of regs a v)
unfolding store_of
store_bytes regs a v h hv = set_cells (λ (k x : ℕ). x < 256) regs a _ h (kept_byte a (get_or regs a 0) v (h a) hv)

-- a register that keeps all eight bits takes what is written
written_full : (a old v : ℕ) → kept_bits a ≡ 0xFF → written_of a old v ≡ v
unfolding written_of kept_bits
written_full a old v e = choose_other (λ (b : ℕ). eqb (kept_bits b) 0xFF) a (written_rows old v) v (eq-eqb (kept_bits a) 0xFF e) refl

-- RAM and the registers that keep all eight bits hold what was stored
pub store_full : (regs : List ℕ) (a v : ℕ) → kept_bits a ≡ 0xFF → a < length regs → v < 256 → get_or (store_of regs a v) a 0 ≡ v
unfolding kept_of
store_full regs a v e l hv =
    store_same regs a v l
    ∙ pick_has (λ (x : ℕ). x ≡ v) (ltb a 0xD0) v _ (λ _. refl)
    (λ _. rw (e, written_full a (get_or regs a 0) v e) (and_byte v hv))

-- Pending bits

-- of a mask's bits that are kept: old AND written
old_and_written : (old v m k p : ℕ) → bit_and k p ≡ p → bit_and m p ≡ 0
    → bit_and (bit_and (bit_and v (bit_or old m)) k) p ≡ bit_and (bit_and v old) p
old_and_written old v m k p hk hm =
    rw (and_assoc (bit_and v (bit_or old m)) k p, hk, and_assoc v (bit_or old m) p, and_or old m p, hm, or_zero_r, and_assoc v old p)

pub store_pending : (old v : ℕ)
    → (bit_and (kept_of 0xD2 old v) 0x01 ≡ bit_and (bit_and v old) 0x01)
    × (bit_and (kept_of 0xF3 old v) 0x01 ≡ bit_and (bit_and v old) 0x01)
    × (bit_and (kept_of 0xE8 old v) 0x05 ≡ bit_and (bit_and v old) 0x05)
unfolding kept_of written_of kept_bits
store_pending old v = (
  old_and_written old v 0xFE 0xCB 0x01 refl refl,
  old_and_written old v 0xFE 0xDF 0x01 refl refl,
  old_and_written old v 0xFA 0x0F 0x05 refl refl,
)
