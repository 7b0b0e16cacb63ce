-- Decoding and then encoding restores the bytes, wherever they stand in a list of bytes.
-- Assumes nothing.
use Rattle.std.specs.Prelude.{ℕ, zero, suc, ◌+◌, ◌-◌, ◌*◌, ◌/◌, ◌%◌, ◌≤◌, ◌<◌, ◌≡◌, Bool, true, false, List, [], ◌∷◌, ◌++◌, map, eqb, ltb, leb, get_or, take, drop, replicate}
use Rattle.std.proofs.Math.Path.{refl, sym}
use Rattle.std.proofs.Common.{ap, ◌∙◌, arith, not-suc-le-zero, le_of_suc-le-suc, drop-cons, lt-ltb, ne_eqb, ltb-true, leb-true, eqb-true}
use Rattle.std.proofs.Math.ListN.{length, length-drop}
use Rattle.std.proofs.lemmas.List.{get_or-replicate}
use Rattle.std.proofs.Math.Seq.{length-take-le}
use Rattle.base.specs.Addresses.{reg_addr, rom_addr}
use Rattle.base.specs.Choice.{pick, from}
use Rattle.base.specs.Outcome.{Outcome, and_then}
use Rattle.base.specs.Outcome.Outcome.{value, refused}
use Rattle.base.specs.Table.{table_at}
use Rattle.isa.specs.Map.{Cell, cell_of, cell_length}
use Rattle.isa.specs.Map.Cell.{empty, unary, unary_at, pop, pop_at, push, push_at, jump_at, call_at, alu_work, alu_work_at, alu_reg, alu_reg_at, alu_imm, ldc_dec, ldc_inc, ldc_load, ldc_store}
use Rattle.isa.specs.Map.Cell.{load_reg, load_reg_at, load_imm, load_at_imm, load_at_reg, call, load_indexed, store_indexed, ldc_load_long, ldc_store_long}
use Rattle.isa.specs.Map.Cell.{load_work_at, load_at_work, ldc_load_short, ldc_store_short, load_work_reg, load_reg_work, jump_rel, load_work_imm, jump, inc_work, implied}
use Rattle.isa.specs.declared.FlagSet.{FlagSet}
use Rattle.isa.specs.declared.Instruction.{Instruction}
use Rattle.columns.specs.Form.{form_of, answer_of}
use Rattle.decode.specs.Decode.{decode_at, without_flags}
use Rattle.decode.specs.Names.{without_naming}
use Rattle.coded.specs.Operands.{even_pair, long_offset, nibbles}
use Rattle.instruction_bytes.specs.Bytes.{alu_code, unary_code, implied_code, lde_bit, bytes_of}
use Rattle.encode.specs.Encode.{size_of, encode_answer, encode_into}
use Rattle.encode.specs.Laws.{size_of_bytes}

-- the first byte of a cell in row h
abbrev first_byte : Cell → ℕ → ℕ
first_byte empty h = 0
first_byte (unary u) h = unary_code u * 16
first_byte (unary_at u) h = unary_code u * 16 + 1
first_byte pop h = 0x50
first_byte pop_at h = 0x51
first_byte push h = 0x70
first_byte push_at h = 0x71
first_byte jump_at h = 0x30
first_byte call_at h = 0xF4
first_byte (alu_work a) h = alu_code a * 16 + 2
first_byte (alu_work_at a) h = alu_code a * 16 + 3
first_byte (alu_reg a) h = alu_code a * 16 + 4
first_byte (alu_reg_at a) h = alu_code a * 16 + 5
first_byte (alu_imm a) h = alu_code a * 16 + 6
first_byte ldc_dec h = 0xE2
first_byte ldc_inc h = 0xE3
first_byte ldc_load h = 0xC3
first_byte ldc_store h = 0xD3
first_byte load_reg h = 0xE4
first_byte load_reg_at h = 0xE5
first_byte load_imm h = 0xE6
first_byte load_at_imm h = 0xD6
first_byte load_at_reg h = 0xF5
first_byte call h = 0xF6
first_byte load_indexed h = 0x87
first_byte store_indexed h = 0x97
first_byte ldc_load_long h = 0xA7
first_byte ldc_store_long h = 0xB7
first_byte load_work_at h = 0xC7
first_byte load_at_work h = 0xD7
first_byte ldc_load_short h = 0xE7
first_byte ldc_store_short h = 0xF7
first_byte load_work_reg h = h * 16 + 8
first_byte load_reg_work h = h * 16 + 9
first_byte jump_rel h = h * 16 + 11
first_byte load_work_imm h = h * 16 + 12
first_byte jump h = h * 16 + 13
first_byte inc_work h = h * 16 + 14
first_byte (implied p) h = implied_code p * 16 + 15

-- one test over all 256 first bytes: no cell is longer than 4, and one that has a length has the first byte that it was found at
abbrev right : Cell → ℕ → ℕ → Bool
right c h b = pick (ltb (cell_length c) 5) (pick (eqb (cell_length c) 0) true (eqb (first_byte c h) b)) false

all : replicate 256 true ≡ map (λ b. right (cell_of b) (b / 16) b) (from 256 0)
all = refl

right_at : (b : ℕ) → b < 256 → right (cell_of b) (b / 16) b ≡ true
right_at b h =
    sym (table_at (λ b. right (cell_of b) (b / 16) b) true 256 (replicate 256 true) all b h) ∙ get_or-replicate 256 b true true h

-- operands
split : (op b : ℕ) (rest : List ℕ) → b < 256 → nibbles op (b / 16) (b % 16) rest ≡ value (op ∷ b ∷ rest)
split op b rest h =
    let lo : b % 16 < 16 = omega arith in
    let hi : b / 16 < 16 = omega arith in
    let e : b / 16 * 16 + b % 16 ≡ b = omega arith in
    rw (lt-ltb _ _ hi, lt-ltb _ _ lo, e)

high : (x y : ℕ) → y < 256 → (x * 256 + y) / 256 ≡ x
high x y h = omega arith

low : (x y : ℕ) → y < 256 → (x * 256 + y) % 256 ≡ y
low x y h = omega arith

-- where x is below 2, it is its own test against 1
bit : (x : ℕ) → x < 2 → lde_bit (eqb x 1) ≡ x
bit zero h = refl
bit (suc zero) h = refl
bit (suc (suc x)) h = absurd (not-suc-le-zero (le_of_suc-le-suc (le_of_suc-le-suc h)))

-- a decoded instruction's bytes with its length, and a mark that there is one
abbrev recode : Outcome (Instruction × ℕ) → Outcome (List ℕ × ℕ × Bool)
recode o = and_then o (λ p. and_then (bytes_of p.0) (λ bs. value (bs, p.1, true)))

-- these, where an instruction was decoded
abbrev only : Outcome (Instruction × ℕ) → List ℕ × ℕ × Bool → Outcome (List ℕ × ℕ × Bool)
only o x = and_then o (λ p. value x)

-- an even pair is kept
pair : (op b : ℕ) (f : Instruction) (t : Bool) → eqb (b % 2) 0 ≡ t → bytes_of f ≡ even_pair op b
    → recode (pick t (value (f, 2)) (refused 12)) ≡ only (pick t (value (f, 2)) (refused 12)) (op ∷ b ∷ [], 2, true)
pair op b f true e g = rw (g, e)
pair op b f false e g = refl

-- A7H and B7H
far : (op b b2 b3 : ℕ) (d l : Instruction) (t : Bool) → ltb (b % 16) 2 ≡ t → b < 256 → b2 < 256
    → bytes_of d ≡ nibbles op (b / 16) (lde_bit (eqb (b % 16) 1)) ((b3 * 256 + b2) % 256 ∷ (b3 * 256 + b2) / 256 ∷ [])
    → bytes_of l ≡ long_offset op (b / 16) (b % 16) (b3 * 256 + b2)
    → recode (pick t (value (d, 4)) (value (l, 4))) ≡ only (pick t (value (d, 4)) (value (l, 4))) (op ∷ b ∷ b2 ∷ b3 ∷ [], 4, true)
far op b b2 b3 d l true e h h2 g k =
    rw (g, bit (b % 16) (ltb-true _ _ e), low b3 b2 h2, high b3 b2 h2, split op b (b2 ∷ b3 ∷ []) h)
far op b b2 b3 d l false e h h2 g k = rw (k, e, low b3 b2 h2, high b3 b2 h2, split op b (b2 ∷ b3 ∷ []) h)

-- a cell's instruction has the cell's first byte and the bytes that it was made of
law : (c : Cell) (h b1 b2 b3 : ℕ) → h < 16 → b1 < 256 → b2 < 256
    → recode (form_of c h b1 b2 b3)
    ≡ only (form_of c h b1 b2 b3) (take (cell_length c) (first_byte c h ∷ b1 ∷ b2 ∷ b3 ∷ []), cell_length c, ltb 0 (cell_length c))
law empty h b1 b2 b3 q p1 p2 = refl
law (unary u) h b1 b2 b3 q p1 p2 = refl
law (unary_at u) h b1 b2 b3 q p1 p2 = refl
law pop h b1 b2 b3 q p1 p2 = refl
law pop_at h b1 b2 b3 q p1 p2 = refl
law push h b1 b2 b3 q p1 p2 = refl
law push_at h b1 b2 b3 q p1 p2 = refl
law jump_at h b1 b2 b3 q p1 p2 = pair 0x30 b1 (Instruction.JumpAt (reg_addr b1)) (eqb (b1 % 2) 0) refl refl
law call_at h b1 b2 b3 q p1 p2 = pair 0xF4 b1 (Instruction.CallAt (reg_addr b1)) (eqb (b1 % 2) 0) refl refl
law (alu_work a) h b1 b2 b3 q p1 p2 = rw (split (alu_code a * 16 + 2) b1 [] p1)
law (alu_work_at a) h b1 b2 b3 q p1 p2 = rw (split (alu_code a * 16 + 3) b1 [] p1)
law (alu_reg a) h b1 b2 b3 q p1 p2 = refl
law (alu_reg_at a) h b1 b2 b3 q p1 p2 = refl
law (alu_imm a) h b1 b2 b3 q p1 p2 = refl
law ldc_dec h b1 b2 b3 q p1 p2 = rw (split 0xE2 b1 [] p1)
law ldc_inc h b1 b2 b3 q p1 p2 = rw (split 0xE3 b1 [] p1)
law ldc_load h b1 b2 b3 q p1 p2 = rw (split 0xC3 b1 [] p1)
law ldc_store h b1 b2 b3 q p1 p2 = rw (split 0xD3 b1 [] p1)
law load_reg h b1 b2 b3 q p1 p2 = refl
law load_reg_at h b1 b2 b3 q p1 p2 = refl
law load_imm h b1 b2 b3 q p1 p2 = refl
law load_at_imm h b1 b2 b3 q p1 p2 = refl
law load_at_reg h b1 b2 b3 q p1 p2 = refl
law call h b1 b2 b3 q p1 p2 = rw (high b1 b2 p2, low b1 b2 p2)
law load_indexed h b1 b2 b3 q p1 p2 = rw (split 0x87 b1 (b2 ∷ []) p1)
law store_indexed h b1 b2 b3 q p1 p2 = rw (split 0x97 b1 (b2 ∷ []) p1)
law ldc_load_long h b1 b2 b3 q p1 p2 =
    far 0xA7 b1 b2 b3 (Instruction.LdcLoadDirect (b1 / 16) (eqb (b1 % 16) 1) (rom_addr (b3 * 256 + b2)))
    (Instruction.LdcLoadLong (b1 / 16) (b1 % 16) (b3 * 256 + b2)) (ltb (b1 % 16) 2) refl p1 p2 refl refl
law ldc_store_long h b1 b2 b3 q p1 p2 =
    far 0xB7 b1 b2 b3 (Instruction.LdcStoreDirect (b1 / 16) (eqb (b1 % 16) 1) (rom_addr (b3 * 256 + b2)))
    (Instruction.LdcStoreLong (b1 / 16) (b1 % 16) (b3 * 256 + b2)) (ltb (b1 % 16) 2) refl p1 p2 refl refl
law load_work_at h b1 b2 b3 q p1 p2 = rw (split 0xC7 b1 [] p1)
law load_at_work h b1 b2 b3 q p1 p2 = rw (split 0xD7 b1 [] p1)
law ldc_load_short h b1 b2 b3 q p1 p2 = rw (split 0xE7 b1 (b2 ∷ []) p1)
law ldc_store_short h b1 b2 b3 q p1 p2 = rw (split 0xF7 b1 (b2 ∷ []) p1)
law load_work_reg h b1 b2 b3 q p1 p2 = rw (lt-ltb _ _ q)
law load_reg_work h b1 b2 b3 q p1 p2 = rw (lt-ltb _ _ q)
law jump_rel h b1 b2 b3 q p1 p2 = rw (lt-ltb _ _ q)
law load_work_imm h b1 b2 b3 q p1 p2 = rw (lt-ltb _ _ q)
law jump h b1 b2 b3 q p1 p2 = rw (lt-ltb _ _ q, high b1 b2 p2, low b1 b2 p2)
law inc_work h b1 b2 b3 q p1 p2 = rw (lt-ltb _ _ q)
law (implied p) h b1 b2 b3 q p1 p2 = refl

-- two constructors are not equal
no_value : {A : Type 0} {k : ℕ} {x : A} → refused k ≡ value x → ⊥
no_value {A} {k} {x} e = let z : ◌≡◌ {A = ℕ} 0 1 = cc in omega arith

same_value : {A : Type 0} {x y : A} → value x ≡ value y → x ≡ y
same_value {A} {x} {y} e = cc

-- what an equation of `recode` says of the bytes, the length and the mark
parts : (o : Outcome (List ℕ)) (n m : ℕ) (bs : List ℕ) (t : Bool)
    → and_then {B = List ℕ × ℕ × Bool} o (λ cs. value (cs, n, true)) ≡ value (bs, m, t) → (o ≡ value bs) × (n ≡ m) × (t ≡ true)
parts (value cs) n m bs t e =
    let q = same_value e in
    (ap value (ap (λ (p : List ℕ × ℕ × Bool). p.0) q), ap (λ (p : List ℕ × ℕ × Bool). p.1) q, sym (ap (λ (p : List ℕ × ℕ × Bool). p.2) q))
parts (refused k) n m bs t e = absurd (no_value e)

passed : (a b c : Bool) → pick a (pick b true c) false ≡ true → b ≡ false → (a ≡ true) × (c ≡ true)
passed true true c e f = (refl, cc)
passed true false c e f = (refl, e)
passed false b c e f = (e, cc)

record Restored (i : Instruction) (n m b0 b1 b2 b3 : ℕ) : Type 0 where
  pub bytes : bytes_of i ≡ value (take n (b0 ∷ b1 ∷ b2 ∷ b3 ∷ []))
  pub same : n ≡ m
  pub some : 0 < n
  pub most : n ≤ 4

core : (c : Cell) (h b0 b1 b2 b3 : ℕ) (i : Instruction) (n : ℕ) → h < 16 → b1 < 256 → b2 < 256
    → right c h b0 ≡ true → form_of c h b1 b2 b3 ≡ value (i, n) → Restored i n (cell_length c) b0 b1 b2 b3
core c h b0 b1 b2 b3 i n p p1 p2 r e =
    let q = parts (bytes_of i) n (cell_length c) (take (cell_length c) (first_byte c h ∷ b1 ∷ b2 ∷ b3 ∷ [])) (ltb 0 (cell_length c)) (rw e at (law c h b1 b2 b3 p p1 p2)) in
    let same : n ≡ cell_length c = q.1 in
    let pos : 0 < cell_length c = ltb-true 0 (cell_length c) q.2 in
    let ok = passed _ _ _ r (ne_eqb (cell_length c) 0 (omega arith)) in
    let up : cell_length c < 5 = ltb-true _ _ ok.0 in
    let first : first_byte c h ≡ b0 = eqb-true _ _ ok.1 in
    record {
      bytes = q.0 ∙ rw (first, same);
      same = same;
      some = omega arith;
      most = omega arith;
    }

-- what stands at j, j + 1, .., k of them
abbrev places : ℕ → ℕ → List ℕ → List ℕ
places zero j l = []
places (suc k) j l = get_or l j 0 ∷ places k (suc j) l

front : (m k j : ℕ) (l : List ℕ) → m ≤ k → j + m ≤ length l → take m (places k j l) ≡ take m (drop j l)
front zero k j l p q = refl
front (suc m) zero j l p q = absurd (not-suc-le-zero p)
front (suc m) (suc k) j l p q =
    let h : j < length l = omega arith in
    rw (drop-cons l j 0 h, front m k (suc j) l (le_of_suc-le-suc p) (omega arith))

-- i and its length n were decoded at a position of s: there are n bytes, 1 to 4, and they are i's
pub record RoundTrip (s : List ℕ) (at : ℕ) (i : Instruction) (n : ℕ) : Type 0 where
  pub bytes : bytes_of i ≡ value (take n (drop at s))
  pub within : at + n ≤ length s
  pub some : 0 < n
  pub most : n ≤ 4

module _ (s : List ℕ) (at₀ : ℕ) (byte : (k : ℕ) → get_or s k 0 < 256) (i : Instruction) (n : ℕ) (f : FlagSet) where
  whole : (t u : Bool) → ltb at₀ (length s) ≡ t → leb (cell_length (cell_of (get_or s at₀ 0))) (length s - at₀) ≡ u
      → pick t
      (pick u (answer_of (cell_of (get_or s at₀ 0)) (get_or s at₀ 0 / 16) (get_or s (at₀ + 1) 0) (get_or s (at₀ + 2) 0) (get_or s (at₀ + 3) 0)) (refused 10))
      (refused 10)
      ≡ value (i, n, f)
      → RoundTrip s at₀ i n
  whole true true e u q =
      let lt : at₀ < length s = ltb-true _ _ e in
      let row : get_or s at₀ 0 / 16 < 16 = omega (arith, byte at₀) in
      let r = core (cell_of (get_or s at₀ 0)) (get_or s at₀ 0 / 16) (get_or s at₀ 0) (get_or s (at₀ + 1) 0) (get_or s (at₀ + 2) 0) (get_or s (at₀ + 3) 0) i n
      row (byte (at₀ + 1)) (byte (at₀ + 2)) (right_at (get_or s at₀ 0) (byte at₀)) (sym (without_naming _ _) ∙ ap without_flags q) in
      let le : n ≤ length s - at₀ = rw r.same (leb-true _ _ u) in
      let e1 : suc at₀ ≡ at₀ + 1 = omega arith in
      let e2 : suc (at₀ + 1) ≡ at₀ + 2 = omega arith in
      let e3 : suc (at₀ + 2) ≡ at₀ + 3 = omega arith in
      let k = front n 4 at₀ s r.most (omega arith) in
      record { bytes = r.bytes ∙ ap value (rw (e1, e2, e3) at k); within = omega arith; some = r.some; most = r.most }
  whole true false e u q = absurd (no_value q)
  whole false u e v q = absurd (no_value q)

  pub round_trip : decode_at s at₀ ≡ value (i, n, f) → RoundTrip s at₀ i n
  unfolding decode_at
  round_trip e = whole (ltb at₀ (length s)) (leb (cell_length (cell_of (get_or s at₀ 0))) (length s - at₀)) refl refl e

  -- so encoding what was decoded answers its length and puts back the bytes read, where the buffer has room for them
  pub re_encoded : (out : List ℕ) → decode_at s at₀ ≡ value (i, n, f)
      → (encode_answer i (length out) ≡ pick (ltb (length out) n) (refused 7) (value n))
      × (encode_into i out ≡ pick (ltb (length out) n) out (take n (drop at₀ s) ++ drop n out))
  unfolding encode_answer encode_into
  re_encoded out e =
      let r = round_trip e in
      let d : length (drop at₀ s) ≡ length s - at₀ = length-drop at₀ s in
      let k : length (take n (drop at₀ s)) ≡ n = length-take-le n (drop at₀ s) (omega (arith, r.within)) in
      let size : size_of i ≡ n = sym (size_of_bytes i (take n (drop at₀ s)) (sym r.bytes)) ∙ k in
      rw (r.bytes, size, k) (refl, refl)
