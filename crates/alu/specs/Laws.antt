-- Laws of the operations, the flags and the conditions.
-- Assumes nothing.
use Rattle.std.specs.Prelude.{◌≡◌, ℕ, ◌+◌, ◌-◌, ◌%◌, ◌<◌, ◌≤◌, Bool, true, false, not, ◌&&◌, ◌||◌, ltb, ◌≢◌, ◌==◌, bit_and, nat_eq, nat_le, nat_lt, refl}
use Rattle.std.proofs.Common.{sym, ap, ◌∙◌, ⊎_elim, add-zero, arith, eqb-true, ltb-true, lt-ltb, le-ltb, le-leb, eq-eqb, ne_eqb}
use Rattle.std.specs.Bool.{beq}
use Rattle.std.proofs.Math.Bool.{or-true, or-false}
use Rattle.std.proofs.lemmas.Nat.{and_le_l, and_le_r, or_lt, xor_lt}
use Rattle.std.proofs.lemmas.Bool.{lt-leb}
use Rattle.base.specs.Choice.{pick}
use Rattle.base.specs.ChoiceLaws.{pick_has}
use Rattle.base.specs.Formula.{sound, same?, le?}
use Rattle.base.specs.Formula.Formula.{test, eq, forall_below}
use Rattle.isa.specs.declared.Alu.{Alu}
use Rattle.isa.specs.declared.Alu.TheVariants.{Add, Adc, Sub, Sbc, Or, And, Tcm, Tm, Cp, Xor}
use Rattle.isa.specs.declared.Unary.{Unary}
use Rattle.isa.specs.declared.Unary.TheVariants.{Dec, Rlc, Inc, Com, Rl, Clr, Rrc, Sra, Rr}
use Rattle.isa.specs.declared.Flag.{Flag}
use Rattle.isa.specs.declared.Flag.TheVariants.{Carry, Zero, Sign, Overflow}
use Rattle.isa.specs.declared.FlagSet.{FlagSet}
use Rattle.isa.specs.Flags.{flag_in, all_flags}
use Rattle.alu.specs.Flags.{carry, zero_flag, sign_flag, overflow_flag, flags_byte, updated, update, condition_on, condition}
use Rattle.alu.specs.Operations.{operate, addition, subtraction, logical, modify, increment, decrement, rotation, shift_right, compare_flags}

-- a test of four flags that holds at all 16 settings, which antt computes, holds at each
abbrev both : (Bool → Bool) → Bool
both f = f true && f false

abbrev pub every_setting : (Bool → Bool → Bool → Bool → Bool) → Bool
every_setting f = both (λ c. both (λ z. both (λ s. both (λ v. f c z s v))))

and_first : (a b : Bool) → (a && b) ≡ true → a ≡ true
and_first true b e = refl
and_first false b e = e

and_second : (a b : Bool) → (a && b) ≡ true → b ≡ true
and_second true b e = e
and_second false true e = refl
and_second false false e = e

both_at : (f : Bool → Bool) → both f ≡ true → (b : Bool) → f b ≡ true
both_at f e true = and_first (f true) (f false) e
both_at f e false = and_second (f true) (f false) e

pub at_setting : (f : Bool → Bool → Bool → Bool → Bool) → every_setting f ≡ true → (c z s v : Bool) → f c z s v ≡ true
at_setting f e c z s v =
    both_at (λ v. f c z s v)
    (both_at (λ s. both (λ v. f c z s v))
    (both_at (λ z. both (λ s. both (λ v. f c z s v)))
    (both_at (λ c. both (λ z. both (λ s. both (λ v. f c z s v)))) e c) z) s) v

same_bool : (a b : Bool) → beq a b ≡ true → a ≡ b
same_bool true true e = refl
same_bool true false e = sym e
same_bool false true e = e
same_bool false false e = refl

-- a FLAGS byte holds each flag, is a byte, and has 0 in bits 3 to 0
abbrev by_flag : Flag → Bool → Bool → Bool → Bool → Bool
by_flag Carry c z s v = c
by_flag Zero c z s v = z
by_flag Sign c z s v = s
by_flag Overflow c z s v = v

held : Flag → Bool → Bool → Bool → Bool → Bool
held g c z s v = beq (flag_in g (flags_byte c z s v)) (by_flag g c z s v)

all_held : (g : Flag) → every_setting (held g) ≡ true
unfolding held flag_in flags_byte
all_held Carry = refl
all_held Zero = refl
all_held Sign = refl
all_held Overflow = refl

byte_flag : (g : Flag) (c z s v : Bool) → flag_in g (flags_byte c z s v) ≡ by_flag g c z s v
unfolding held
byte_flag g c z s v = same_bool _ _ (at_setting (held g) (all_held g) c z s v)

byte_bound : (c z s v : Bool) → flags_byte c z s v < 256
unfolding flags_byte
byte_bound c z s v = ltb-true _ _ (at_setting (λ c z s v. ltb (flags_byte c z s v) 256) refl c z s v)

byte_low : (c z s v : Bool) → flags_byte c z s v % 16 ≡ 0
unfolding flags_byte
byte_low c z s v = eqb-true _ _ (at_setting (λ c z s v. nat_eq (flags_byte c z s v % 16) 0) refl c z s v)

-- a flag that is named is as in x, another stays
pub not_in_none : (g : Flag) → flag_in g 0 ≡ false
unfolding flag_in
not_in_none Carry = refl
not_in_none Zero = refl
not_in_none Sign = refl
not_in_none Overflow = refl

by_flag_lem : (g : Flag) (f : ℕ) (n : FlagSet) (x : ℕ)
    → by_flag g (updated Carry f n x) (updated Zero f n x) (updated Sign f n x) (updated Overflow f n x) ≡ updated g f n x
by_flag_lem Carry f n x = refl
by_flag_lem Zero f n x = refl
by_flag_lem Sign f n x = refl
by_flag_lem Overflow f n x = refl

pub update_flag : (g : Flag) (f : ℕ) (n : FlagSet) (x : ℕ) → flag_in g (update f n x) ≡ updated g f n x
unfolding update
update_flag g f n x = byte_flag g _ _ _ _ ∙ by_flag_lem g f n x

-- FLAGS is a byte, with 0 in bits 3 to 0
pub update_bound : (f : ℕ) (n : FlagSet) (x : ℕ) → update f n x < 256
unfolding update
update_bound f n x = byte_bound _ _ _ _

pub update_low : (f : ℕ) (n : FlagSet) (x : ℕ) → update f n x % 16 ≡ 0
unfolding update
update_low f n x = byte_low _ _ _ _

-- where all four are named FLAGS has those of x, whatever it had
in_all : (g : Flag) → flag_in g all_flags.0 ≡ true
unfolding flag_in
in_all Carry = refl
in_all Zero = refl
in_all Sign = refl
in_all Overflow = refl

update_named : (f x : ℕ) → update f all_flags x ≡ flags_byte (flag_in Carry x) (flag_in Zero x) (flag_in Sign x) (flag_in Overflow x)
unfolding update updated
update_named f x = rw (in_all Carry, in_all Zero, in_all Sign, in_all Overflow)

update_all : (f : ℕ) (c z s v : Bool) → update f all_flags (flags_byte c z s v) ≡ flags_byte c z s v
update_all f c z s v =
    update_named f (flags_byte c z s v) ∙ rw (byte_flag Carry c z s v, byte_flag Zero c z s v, byte_flag Sign c z s v, byte_flag Overflow c z s v)

-- the flags of a byte are its bits 7 to 4
pub upper : (x : ℕ) → x < 256 → bit_and x 0xF0 ≡ flags_byte (flag_in Carry x) (flag_in Zero x) (flag_in Sign x) (flag_in Overflow x)
unfolding flag_in flags_byte
upper x h =
    sound (forall_below 256 (λ x. eq (bit_and x 0xF0) (flags_byte (flag_in Carry x) (flag_in Zero x) (flag_in Sign x) (flag_in Overflow x)))) tt x h

pub update_whole : (f x : ℕ) → x < 256 → update f all_flags x ≡ bit_and x 0xF0
update_whole f x h = update_named f x ∙ sym (upper x h)

-- conditions: F never holds, T always does, and the opposite of a condition below 8 is 8 above it
pub condition_never : (f : ℕ) → condition 0 f ≡ false
unfolding condition condition_on
condition_never f = refl

pub condition_always : (f : ℕ) → condition 8 f ≡ true
unfolding condition condition_on
condition_always f = refl

opposite : ℕ → Bool → Bool → Bool → Bool → Bool
opposite n c z s v = beq (condition_on (n + 8) c z s v) (not (condition_on n c z s v))

opposites : (n : ℕ) → n < 8 → every_setting (opposite n) ≡ true
unfolding opposite condition_on
opposites n h = sound (forall_below 8 (λ n. test (every_setting (opposite n)))) tt n h

pub condition_opposite : (cc f : ℕ) → cc < 8 → condition (cc + 8) f ≡ not (condition cc f)
unfolding condition opposite
condition_opposite cc f h =
    let e : cc % 16 ≡ cc = omega arith in
    let e8 : (cc + 8) % 16 ≡ cc + 8 = omega arith in
    rw (e, e8) (same_bool _ _ (at_setting (opposite cc) (opposites cc h) (carry f) (zero_flag f) (sign_flag f) (overflow_flag f)))

-- CP: the flags that it leaves, whatever they were, and the unsigned comparisons that they tell
pub compare_leaves : (f v k : ℕ) (c : Bool) → update f all_flags (operate Cp v k c).flags ≡ compare_flags v k
unfolding compare_flags operate subtraction
compare_leaves f v k c = update_all f _ _ _ _

pub compare_carry : (v k : ℕ) → carry (compare_flags v k) ≡ nat_lt v k
unfolding compare_flags operate subtraction carry
compare_carry v k = byte_flag Carry _ _ _ _ ∙ ap (ltb v) (add-zero k)

difference_zero : (v k : ℕ) → v < 256 → k < 256 → ((v + 512 - (k + 0)) % 256 == 0) ≡ (v == k)
difference_zero v k hv hk =
    ⊎_elim
    (λ (e : v ≡ k). let d : (v + 512 - (k + 0)) % 256 ≡ 0 = omega arith in eq-eqb _ _ d ∙ sym (eq-eqb v k e))
    (λ (n : v ≢ k). ne_eqb _ _ (λ (d : (v + 512 - (k + 0)) % 256 ≡ 0). n (omega arith)) ∙ sym (ne_eqb v k n))
    (same? v k)

pub compare_zero : (v k : ℕ) → v < 256 → k < 256 → zero_flag (compare_flags v k) ≡ (v == k)
unfolding compare_flags operate subtraction zero_flag
compare_zero v k hv hk = byte_flag Zero _ _ _ _ ∙ difference_zero v k hv hk

not_le : (a b : ℕ) → not (nat_le a b) ≡ nat_lt b a
not_le a b = ⊎_elim (λ (h : a ≤ b). rw (le-leb a b h, le-ltb b a h)) (λ (h : b < a). rw (lt-leb a b h, lt-ltb b a h)) (le? a b)

not_lt : (a b : ℕ) → not (nat_lt a b) ≡ nat_le b a
not_lt a b = ⊎_elim (λ (h : b ≤ a). rw (le-ltb a b h, le-leb b a h)) (λ (h : a < b). rw (lt-ltb a b h, lt-leb b a h)) (le? b a)

lt_or_eq : (a b : ℕ) → (nat_lt a b || a == b) ≡ nat_le a b
lt_or_eq a b =
    ⊎_elim (λ (e : a ≡ b). let l : a ≤ b = omega arith in rw (eq-eqb a b e, le-leb a b l) (or-true (nat_lt a b)))
    (λ (n : a ≢ b).
    rw (ne_eqb a b n)
    (or-false (nat_lt a b)
    ∙ ⊎_elim (λ (h : a ≤ b). let l : a < b = omega arith in rw (lt-ltb a b l, le-leb a b h)) (λ (h : b < a). let l : b ≤ a = omega arith in rw (le-ltb a b l, lt-leb a b h)) (le? a b)))
    (same? a b)

-- C, NC, Z, NZ, ULE, UGT behind CP v,k
pub compare_lt : (v k : ℕ) → condition 7 (compare_flags v k) ≡ nat_lt v k
unfolding condition condition_on
compare_lt v k = compare_carry v k

pub compare_ge : (v k : ℕ) → condition 15 (compare_flags v k) ≡ nat_le k v
unfolding condition condition_on
compare_ge v k = ap not (compare_carry v k) ∙ not_lt v k

pub compare_eq : (v k : ℕ) → v < 256 → k < 256 → condition 6 (compare_flags v k) ≡ (v == k)
unfolding condition condition_on
compare_eq v k hv hk = compare_zero v k hv hk

pub compare_ne : (v k : ℕ) → v < 256 → k < 256 → condition 14 (compare_flags v k) ≡ not (v == k)
unfolding condition condition_on
compare_ne v k hv hk = ap not (compare_zero v k hv hk)

pub compare_le : (v k : ℕ) → v < 256 → k < 256 → condition 3 (compare_flags v k) ≡ nat_le v k
unfolding condition condition_on
compare_le v k hv hk = rw (compare_carry v k, compare_zero v k hv hk) (lt_or_eq v k)

pub compare_gt : (v k : ℕ) → v < 256 → k < 256 → condition 11 (compare_flags v k) ≡ nat_lt k v
compare_gt v k hv hk =
    condition_opposite 3 (compare_flags v k) (omega arith) ∙ (ap not (compare_le v k hv hk) ∙ not_le v k)

-- values are bytes
pub operate_bound : (op : Alu) (x y : ℕ) (c : Bool) → x < 256 → y < 256 → (operate op x y c).value < 256
unfolding operate addition subtraction logical
operate_bound Add x y c hx hy = omega arith
operate_bound Adc x y c hx hy = omega arith
operate_bound Sub x y c hx hy = omega arith
operate_bound Sbc x y c hx hy = omega arith
operate_bound Or x y c hx hy = or_lt 8 x y hx hy
operate_bound And x y c hx hy = omega (arith, and_le_l x y)
operate_bound Tcm x y c hx hy = omega (arith, and_le_r (255 - x) y)
operate_bound Tm x y c hx hy = omega (arith, and_le_l x y)
operate_bound Cp x y c hx hy = omega arith
operate_bound Xor x y c hx hy = xor_lt 8 x y hx hy

pick_bound : (b : Bool) (w : ℕ) → pick b w 0 ≤ w
pick_bound b w = pick_has (λ (n : ℕ). n ≤ w) b w 0 (λ _. omega arith) (λ _. omega arith)

pub modify_bound : (op : Unary) (x : ℕ) (c : Bool) → x < 256 → (modify op x c).value < 256
unfolding modify decrement increment logical rotation shift_right
modify_bound Dec x c h = omega arith
modify_bound Rlc x c h = omega (arith, pick_bound c 1)
modify_bound Inc x c h = omega arith
modify_bound Com x c h = omega arith
modify_bound Rl x c h = omega arith
modify_bound Clr x c h = omega arith
modify_bound Rrc x c h = omega (arith, pick_bound c 128)
modify_bound Sra x c h = omega arith
modify_bound Rr x c h = omega arith

-- AND leaves no more than its source
pub and_source : (x y : ℕ) (c : Bool) → (operate And x y c).value ≤ y
unfolding operate logical
and_source x y c = and_le_r x y
