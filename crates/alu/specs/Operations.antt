-- The operations on one and two bytes: the value, and a FLAGS byte with the flags that their pages give (chapter 6, and 01 where a page is
-- misprinted). Which of the four an instruction names, the decoder tells (`isa` S`Map` `cell_names`); one that is not named is 0 here, and not used.
-- 01: V is set when the signed result leaves -128 to 127; C after SUB, SBC, CP is borrow; RL, RLC, RR, RRC set V when bit 7 changes.
-- Assumes nothing.
use Rattle.std.specs.Prelude.{ℕ, ◌+◌, ◌-◌, ◌*◌, ◌/◌, ◌%◌, Bool, true, false, not, ◌||◌, ◌==◌, bit_and, bit_or, bit_xor, nat_le, nat_lt}
use Rattle.base.specs.Choice.{pick}
use Rattle.isa.specs.declared.Alu.{Alu}
use Rattle.isa.specs.declared.Alu.TheVariants.{Add, Adc, Sub, Sbc, Or, And, Tcm, Tm, Cp, Xor}
use Rattle.isa.specs.declared.Unary.{Unary}
use Rattle.isa.specs.declared.Unary.TheVariants.{Dec, Rlc, Inc, Com, Rl, Clr, Rrc, Sra, Rr}
use Rattle.alu.specs.declared.Computed.{Computed}
use Rattle.alu.specs.Flags.{flags_byte}

-- Z and S of a result: it is 0; its bit 7 is 1
abbrev pub is_zero : ℕ → Bool
is_zero value = value == 0

abbrev pub is_negative : ℕ → Bool
is_negative value = nat_le 128 value

-- the signed value of a byte, plus 128: -128 (80H) is 0, -1 (FFH) is 127, 0 is 128, 127 (7FH) is 255
unfoldable pub biased : ℕ → ℕ
biased x = (x + 128) % 256

-- a signed result, plus 256, leaves -128 to 127
unfoldable pub overflows : ℕ → Bool
overflows n = nat_lt n 128 || nat_le 384 n

-- x + y + k; C is the carry out of bit 7. V by the signed values: biased x + biased y + k is their sum plus 256.
unfoldable pub addition : ℕ → ℕ → ℕ → Computed
addition x y k =
    let value = (x + y + k) % 256 in
    record { value = value; flags = flags_byte (nat_le 256 (x + y + k)) (is_zero value) (is_negative value) (overflows (biased x + biased y + k)) }

-- x - y - k modulo 256 (512 keeps it a number); C is the borrow. V by the signed values: biased x + 256 - (biased y + k) is their difference plus 256.
unfoldable pub subtraction : ℕ → ℕ → ℕ → Computed
subtraction x y k =
    let value = (x + 512 - (y + k)) % 256 in
    record { value = value; flags = flags_byte (nat_lt x (y + k)) (is_zero value) (is_negative value) (overflows (biased x + 256 - (biased y + k))) }

-- a logical operation's result (pages AND, OR, XOR, TM, TCM, COM): V is 0
unfoldable pub logical : ℕ → Computed
logical value = record { value = value; flags = flags_byte false (is_zero value) (is_negative value) false }

-- an operation on two bytes: x the destination's, y the source's, c the carry before
unfoldable pub operate : Alu → ℕ → ℕ → Bool → Computed
operate Add x y c = addition x y 0
operate Adc x y c = addition x y (pick c 1 0)
operate Sub x y c = subtraction x y 0
operate Sbc x y c = subtraction x y (pick c 1 0)
operate Or x y c = logical (bit_or x y)
operate And x y c = logical (bit_and x y)
operate Tcm x y c = logical (bit_and (255 - x) y)
operate Tm x y c = logical (bit_and x y)
operate Cp x y c = subtraction x y 0
operate Xor x y c = logical (bit_xor x y)

-- whether it stores its value: TCM, TM and CP only set flags
unfoldable pub stores : Alu → Bool
stores Add = true
stores Adc = true
stores Sub = true
stores Sbc = true
stores Or = true
stores And = true
stores Tcm = false
stores Tm = false
stores Cp = false
stores Xor = true

-- INC and DEC: V of INC where 7FH becomes 80H (01; its page repeats DEC's), of DEC where 80H becomes 7FH
unfoldable pub increment : ℕ → Computed
increment x =
    let value = (x + 1) % 256 in
    record { value = value; flags = flags_byte false (is_zero value) (is_negative value) (x == 127) }

unfoldable pub decrement : ℕ → Computed
decrement x =
    let value = (x + 255) % 256 in
    record { value = value; flags = flags_byte false (is_zero value) (is_negative value) (x == 128) }

-- a rotation of x that gives value: C is the bit that left; V where bit 7 changes
unfoldable pub rotation : ℕ → ℕ → Bool → Computed
rotation x value c =
    record { value = value; flags = flags_byte c (is_zero value) (is_negative value) (not (value / 128 == x / 128)) }

-- SRA: bit 7 stays; C is bit 0, V is 0
unfoldable pub shift_right : ℕ → Computed
shift_right x =
    let value = x / 2 + x / 128 * 128 in
    record { value = value; flags = flags_byte (x % 2 == 1) (is_zero value) (is_negative value) false }

-- an operation on one byte
unfoldable pub modify : Unary → ℕ → Bool → Computed
modify Dec x c = decrement x
modify Rlc x c = rotation x (x * 2 % 256 + pick c 1 0) (nat_le 128 x)
modify Inc x c = increment x
modify Com x c = logical (255 - x)
modify Rl x c = rotation x (x * 2 % 256 + x / 128) (nat_le 128 x)
modify Clr x c = record { value = 0; flags = 0 }
modify Rrc x c = rotation x (x / 2 + pick c 128 0) (x % 2 == 1)
modify Sra x c = shift_right x
modify Rr x c = rotation x (x / 2 + x % 2 * 128) (x % 2 == 1)

-- FLAGS as CP leaves it, v compared with k: it names all four flags, so what they stood at does not matter
unfoldable pub compare_flags : ℕ → ℕ → ℕ
compare_flags v k = (operate Cp v k false).flags
