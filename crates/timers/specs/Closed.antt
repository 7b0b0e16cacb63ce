-- Any number of periods in closed form.
-- Assumes nothing.
use Rattle.std.specs.Prelude.{ℕ, ◌+◌, ◌-◌, ◌*◌, ◌/◌, ◌%◌, ◌^◌, Bool, false}
use Rattle.base.specs.Choice.{pick}
use Rattle.timers.specs.declared.Before.{Before}
use Rattle.timers.specs.declared.Count.{Count}
use Rattle.timers.specs.declared.Passed.{Passed}
use Rattle.timers.specs.Periods.{periods_of}
use Rattle.timers.specs.Counting.{ticks}
use Rattle.timers.specs.Dividing.{tick_shift}

-- T0 over n of the divider's multiples: at 0 while it is held
abbrev pub timer0 : Bool → ℕ → ℕ → ℕ → Count
timer0 hold c limit n = pick hold (record { count = 0; matched = false }) (ticks limit n (record { count = c; matched = false }))

-- where the divider comes to over so many cycles, and T0's ticks on the way, as a difference of quotients
abbrev pub passed_of : Before → ℕ → ℕ → Passed
passed_of before divider cycles =
    let d = divider % 4096 in
    let e = d + cycles * periods_of before.clkcon in
    let m = 2 ^ tick_shift before.t0con in
    record { end = e; ticks = e / m - d / m }
