-- An instruction has as many bytes as its form says, or is refused by 8 or 12; and what encoding does once the room is tested.
-- Assumes nothing.
use Rattle.std.proofs.Common.{arith, inl, inr, le-ltb}
use Rattle.std.proofs.Math.Nat.{zero-add}
use Rattle.std.specs.Prelude.{ℕ, suc, ◌≤◌, ◌+◌, ◌*◌, ◌/◌, ◌%◌, ◌≡◌, refl, ◌⊎◌, Bool, true, false, List, [], ◌∷◌, length, eqb, ltb}
use Rattle.std.proofs.lemmas.List.Edits.{sets, sets-eq}
use Rattle.base.specs.Choice.{pick}
use Rattle.base.specs.Outcome.{Outcome, and_then, on_outcome}
use Rattle.base.specs.Outcome.Outcome.{value, refused}
use Rattle.isa.specs.declared.Instruction.{Instruction}
use Rattle.coded.specs.Operands.{nibbles, even_pair, long_offset}
use Rattle.instruction_bytes.specs.Bytes.{alu_code, in_row, lde_bit, bytes_of}
use Rattle.encode.specs.Encode.{size_of, encode_answer, encode_into}

-- the numbers of a refusal: 8 a field too wide, or an offset on pair 0 or 1; 12 an odd pair
abbrev pub TooWideOrOdd : ℕ → Type 0
TooWideOrOdd k = (k ≡ 8) ⊎ (k ≡ 12)

-- n is the number of the bytes, if there are any; else the refusal is by 8 or 12
abbrev HasSize : ℕ → Outcome (List ℕ) → Type 0
HasSize n (value bs) = length bs ≡ n
HasSize n (refused k) = TooWideOrOdd k

tested : (t : Bool) (bs : List ℕ) (k : ℕ) → TooWideOrOdd k → HasSize (length bs) (pick t (value bs) (refused k))
tested true bs k h = refl
tested false bs k h = h

nibbles_size : (op hi lo : ℕ) (rest : List ℕ) → HasSize (suc (suc (length rest))) (nibbles op hi lo rest)
nibbles_size op hi lo rest = on (ltb hi 16) (ltb lo 16)
  where
    on : (t u : Bool)
        → HasSize (suc (suc (length rest))) (and_then (pick t (pick u (value (hi * 16 + lo)) (refused 8)) (refused 8)) (λ b. value (op ∷ b ∷ rest)))
    on true true = refl
    on true false = inl refl
    on false u = inl refl

row_size : (col row : ℕ) (rest : List ℕ) → HasSize (suc (length rest)) (in_row col row rest)
row_size col row rest = tested (ltb row 16) (_ ∷ rest) 8 (inl refl)

pair_size : (op r : ℕ) → HasSize 2 (even_pair op r)
pair_size op r = tested (eqb (r % 2) 0) (op ∷ r ∷ []) 12 (inr refl)

unless : (t : Bool) (n : ℕ) (o : Outcome (List ℕ)) → HasSize n o → HasSize n (pick t (refused 8) o)
unless true n o h = inl refl
unless false n o h = h

long_size : (op r p x : ℕ) → HasSize 4 (long_offset op r p x)
long_size op r p x = unless (ltb p 2) 4 (nibbles op r p (x % 256 ∷ x / 256 ∷ [])) (nibbles_size op r p (x % 256 ∷ x / 256 ∷ []))

has_size : (i : Instruction) → HasSize (size_of i) (bytes_of i)
has_size (Instruction.UnaryReg u r) = refl
has_size (Instruction.UnaryAt u r) = refl
has_size (Instruction.Pop r) = refl
has_size (Instruction.PopAt r) = refl
has_size (Instruction.Push r) = refl
has_size (Instruction.PushAt r) = refl
has_size (Instruction.IncWork r) = row_size 14 r []
has_size (Instruction.AluWork a d s) = nibbles_size (alu_code a * 16 + 2) d s []
has_size (Instruction.AluWorkAt a d s) = nibbles_size (alu_code a * 16 + 3) d s []
has_size (Instruction.AluReg a d s) = refl
has_size (Instruction.AluRegAt a d s) = refl
has_size (Instruction.AluImm a d x) = refl
has_size (Instruction.LoadReg d s) = refl
has_size (Instruction.LoadRegAt d s) = refl
has_size (Instruction.LoadAtReg d s) = refl
has_size (Instruction.LoadImm d x) = refl
has_size (Instruction.LoadAtImm d x) = refl
has_size (Instruction.LoadWorkAt d s) = nibbles_size 0xC7 d s []
has_size (Instruction.LoadAtWork d s) = nibbles_size 0xD7 d s []
has_size (Instruction.LoadIndexed r b x) = nibbles_size 0x87 r b (x ∷ [])
has_size (Instruction.StoreIndexed r b x) = nibbles_size 0x97 r b (x ∷ [])
has_size (Instruction.LoadWorkReg r s) = row_size 8 r (s.0 ∷ [])
has_size (Instruction.LoadRegWork d r) = row_size 9 r (d.0 ∷ [])
has_size (Instruction.LoadWorkImm r x) = row_size 12 r (x ∷ [])
has_size (Instruction.LdcLoad r p) = nibbles_size 0xC3 r p []
has_size (Instruction.LdcStore r p) = nibbles_size 0xD3 r p []
has_size (Instruction.LdcDec r p) = nibbles_size 0xE2 r p []
has_size (Instruction.LdcInc r p) = nibbles_size 0xE3 r p []
has_size (Instruction.LdcLoadShort r p x) = nibbles_size 0xE7 r p (x ∷ [])
has_size (Instruction.LdcStoreShort r p x) = nibbles_size 0xF7 r p (x ∷ [])
has_size (Instruction.LdcLoadLong r p x) = long_size 0xA7 r p x
has_size (Instruction.LdcStoreLong r p x) = long_size 0xB7 r p x
has_size (Instruction.LdcLoadDirect r e at) = nibbles_size 0xA7 r (lde_bit e) (at.0 % 256 ∷ at.0 / 256 ∷ [])
has_size (Instruction.LdcStoreDirect r e at) = nibbles_size 0xB7 r (lde_bit e) (at.0 % 256 ∷ at.0 / 256 ∷ [])
has_size (Instruction.JumpRel c x) = row_size 11 c (x ∷ [])
has_size (Instruction.Jump c to) = row_size 13 c (to.0 / 256 ∷ to.0 % 256 ∷ [])
has_size (Instruction.JumpAt r) = pair_size 0x30 r.0
has_size (Instruction.Call to) = refl
has_size (Instruction.CallAt r) = pair_size 0xF4 r.0
has_size (Instruction.Implied p) = refl

pub size_of_bytes : (i : Instruction) (bs : List ℕ) → value bs ≡ bytes_of i → length bs ≡ size_of i
size_of_bytes i bs e = rw (← e) at (has_size i)

pub bytes_number : (i : Instruction) (k : ℕ) → bytes_of i ≡ refused k → TooWideOrOdd k
bytes_number i k e = rw e at (has_size i)

-- where the form's size n has room in l: the bytes, if there are any, fit,
module _ (i : Instruction) (n : ℕ) (l : List ℕ) (size : n ≡ size_of i) (room : n ≤ length l) where
  pub bytes_fit : (o : Outcome (List ℕ)) → o ≡ bytes_of i → on_outcome o length (λ k. 0) ≤ length l
  bytes_fit (value bs) e = omega (arith, size_of_bytes i bs e)
  bytes_fit (refused k) e = omega arith

  -- and encoding answers their number and stores them from the front; a refusal leaves the buffer
  pub stored : (o : Outcome (List ℕ)) → o ≡ bytes_of i
      → (and_then o (λ bs. value (length bs)) ≡ encode_answer i (length l)) × (on_outcome o (sets l 0) (λ k. l) ≡ encode_into i l)
  unfolding encode_answer encode_into
  stored (value bs) e =
      rw (le-ltb _ _ (rw size at room), ← e) (refl, rw zero-add at (sets-eq bs l 0 (rw zero-add (bytes_fit (value bs) e))))
  stored (refused k) e = rw (le-ltb _ _ (rw size at room), ← e) (refl, refl)
