-- The FLAGS register (D5H; its page in chapter 4, and chapter 6) and the flags that an instruction names; the 16 conditions of table 6-6.
-- Assumes nothing.
use Rattle.std.specs.Prelude.{ℕ, ◌+◌, ◌%◌, Bool, true, false, not, ◌&&◌, ◌||◌, List, [], ◌∷◌}
use Rattle.std.specs.Bool.{beq}
use Rattle.base.specs.Choice.{pick, choose}
use Rattle.isa.specs.declared.Flag.{Flag}
use Rattle.isa.specs.declared.Flag.TheVariants.{Carry, Zero, Sign, Overflow}
use Rattle.isa.specs.declared.FlagSet.{FlagSet}
use Rattle.isa.specs.Flags.{weight_of, flag_in}

unfoldable pub carry : ℕ → Bool
carry f = flag_in Carry f

unfoldable pub zero_flag : ℕ → Bool
zero_flag f = flag_in Zero f

unfoldable pub sign_flag : ℕ → Bool
sign_flag f = flag_in Sign f

unfoldable pub overflow_flag : ℕ → Bool
overflow_flag f = flag_in Overflow f

-- the byte with these flags; bits 3 to 0 are 0
unfoldable pub flags_byte : Bool → Bool → Bool → Bool → ℕ
flags_byte c z s v = pick c (weight_of Carry) 0 + pick z (weight_of Zero) 0 + pick s (weight_of Sign) 0 + pick v (weight_of Overflow) 0

-- a flag of FLAGS f once those that n names are as in x: a flag that is not named stays (02, request 07)
unfoldable pub updated : Flag → ℕ → FlagSet → ℕ → Bool
updated g f n x = pick (flag_in g n.0) (flag_in g x) (flag_in g f)

-- FLAGS f once the flags that n names are as in x; bits 3 to 0 are 0
unfoldable pub update : ℕ → FlagSet → ℕ → ℕ
update f n x = flags_byte (updated Carry f n x) (updated Zero f n x) (updated Sign f n x) (updated Overflow f n x)

-- the conditions of C, Z, S, V by number (table 6-6; GE, LT, GT, LE as 01 settles them)
abbrev pub conditions : Bool → Bool → Bool → Bool → List (ℕ × Bool)
conditions c z s v =
    (0, false)  -- F
    ∷ (1, not (beq s v))  -- LT
    ∷ (2, z || not (beq s v))  -- LE
    ∷ (3, c || z)  -- ULE
    ∷ (4, v)  -- OV
    ∷ (5, s)  -- MI
    ∷ (6, z)  -- Z, EQ
    ∷ (7, c)  -- C, ULT
    ∷ (8, true)  -- T
    ∷ (9, beq s v)  -- GE
    ∷ (10, not z && beq s v)  -- GT
    ∷ (11, not c && not z)  -- UGT
    ∷ (12, not v)  -- NOV
    ∷ (13, not s)  -- PL
    ∷ (14, not z)  -- NZ, NE
    ∷ (15, not c)  -- NC, UGE
    ∷ []

unfoldable pub condition_on : ℕ → Bool → Bool → Bool → Bool → Bool
condition_on number c z s v = choose number (conditions c z s v) false

-- the condition with this number, of a FLAGS byte
unfoldable pub condition : ℕ → ℕ → Bool
condition cc f = condition_on (cc % 16) (carry f) (zero_flag f) (sign_flag f) (overflow_flag f)
