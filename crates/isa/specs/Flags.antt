-- The flags of FLAGS (D5H; its page in chapter 4) and sets of them: bit 7 is C, bit 6 Z, bit 5 S, bit 4 V.
-- Assumes nothing.
use Rattle.std.specs.Prelude.{ℕ, ◌+◌, ◌/◌, ◌%◌, Bool, eqb}
use Rattle.isa.specs.declared.Flag.{Flag}
use Rattle.isa.specs.declared.Flag.TheVariants.{Carry, Zero, Sign, Overflow}
use Rattle.isa.specs.declared.FlagSet.{FlagSet}

abbrev pub weight_of : Flag → ℕ
weight_of Carry = 128
weight_of Zero = 64
weight_of Sign = 32
weight_of Overflow = 16

-- a flag of a FLAGS byte; of a set's byte, whether the flag is in it
unfoldable pub flag_in : Flag → ℕ → Bool
flag_in g f = eqb (f / weight_of g % 2) 1

abbrev flag_set : ℕ → FlagSet
flag_set f = record { 0 = f }

-- the sets that the pages name: none; C; Z, S and V; all four
abbrev pub no_flags : FlagSet
no_flags = flag_set 0

abbrev pub carry_flag : FlagSet
carry_flag = flag_set (weight_of Carry)

abbrev pub result_flags : FlagSet
result_flags = flag_set (weight_of Zero + weight_of Sign + weight_of Overflow)

abbrev pub all_flags : FlagSet
all_flags = flag_set (weight_of Carry + weight_of Zero + weight_of Sign + weight_of Overflow)
