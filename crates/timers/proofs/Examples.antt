-- Worked cases, computed period by period.
-- Assumes nothing.
use Rattle.std.specs.Prelude.{◌≡◌, refl, true, false}
use Rattle.timers.specs.Periods.{tick, period, periods, advanced}

-- CLKCON 00 and T0CON.7-.6 = 11: 16 ticks in one cycle
pub sixteen_ticks : advanced (record { clkcon = 0x00; t0data = 0xFF; t0con = 0xC0; btcon = 0 }) false 0 0 1
    ≡ record { divider = 16; t0 = record { count = 16; matched = false } }
unfolding advanced periods period tick
sixteen_ticks = refl

-- T0DATA 0AH: a match at the tenth, and six ticks more
pub match_within : advanced (record { clkcon = 0x00; t0data = 0x0A; t0con = 0xC0; btcon = 0 }) false 0 0 1
    ≡ record { divider = 16; t0 = record { count = 6; matched = true } }
unfolding advanced periods period tick
match_within = refl

-- T0DATA 00H matches where 255 goes to 0
pub match_at_zero : advanced (record { clkcon = 0x18; t0data = 0x00; t0con = 0xC0; btcon = 0 }) false 7 255 1
    ≡ record { divider = 8; t0 = record { count = 0; matched = true } }
unfolding advanced periods period tick
match_at_zero = refl

-- T0CON.3: the count stands at 0, the divider goes on
pub held_at_zero : advanced (record { clkcon = 0x00; t0data = 0x0A; t0con = 0xC0; btcon = 0 }) true 0 9 1
    ≡ record { divider = 16; t0 = record { count = 0; matched = false } }
unfolding advanced periods period tick
held_at_zero = refl

-- a divider of a lent state counts modulo 4096
pub lent_divider : advanced (record { clkcon = 0x08; t0data = 0xFF; t0con = 0x80; btcon = 0 }) false 65535 0 2
    ≡ record { divider = 15; t0 = record { count = 2; matched = false } }
unfolding advanced periods period tick
lent_divider = refl
