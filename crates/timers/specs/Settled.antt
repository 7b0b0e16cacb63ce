-- The timers in the registers: T0's count is D0H, T0CON D2H, BTCON DCH, CLKCON D4H, T0DATA D1H.
-- Assumes nothing.
use Rattle.std.specs.Prelude.{ℕ, ◌+◌, ◌*◌, ◌/◌, ◌%◌, Bool, not, List, get_or, set, eqb}
use Rattle.std.specs.Int.Bits.{bit_or}
use Rattle.base.specs.Choice.{pick}
use Rattle.timers.specs.declared.Before.{Before}
use Rattle.timers.specs.declared.Count.{Count}
use Rattle.timers.specs.declared.Timers.{Timers}
use Rattle.timers.specs.Periods.{advanced}

-- what the timers go by, from the registers before a step
abbrev pub before_of : List ℕ → Before
before_of regs = record { clkcon = get_or regs 0xD4 0; t0data = get_or regs 0xD1 0; t0con = get_or regs 0xD2 0; btcon = get_or regs 0xDC 0 }

-- "while T0CON.3 is 1"
abbrev pub held : List ℕ → Bool
held regs = eqb (get_or regs 0xD2 0 / 8 % 2) 1

-- "writing 1 to BTCON.0": until the step's end such a write leaves the bit inverted (`chip` S`Registers` `kept_of`)
abbrev pub clears_divider : Before → List ℕ → Bool
clears_divider before regs = not (eqb (get_or regs 0xDC 0 % 2) (before.btcon % 2))

-- the timers behind a step of so many cycles, from the registers and the divider that its act left
unfoldable pub timers_after : Before → List ℕ → ℕ → ℕ → Timers
timers_after before regs divider cycles =
    advanced before (held regs) (pick (clears_divider before regs) 0 divider) (get_or regs 0xD0 0) cycles

-- the registers with T0 in them: a match sets T0CON.0
abbrev pub with_count : List ℕ → Count → List ℕ
with_count regs c = set (set regs 0xD0 c.count) 0xD2 (pick c.matched (bit_or (get_or regs 0xD2 0) 1) (get_or regs 0xD2 0))

-- and BTCON.1 and .0 are as they were
unfoldable pub registers_with : Before → List ℕ → Timers → List ℕ
registers_with before regs t = set (with_count regs t.t0) 0xDC (get_or regs 0xDC 0 / 4 * 4 + before.btcon % 4)
