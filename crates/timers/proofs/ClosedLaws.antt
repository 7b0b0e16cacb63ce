-- Laws of any number of periods in closed form.
-- Assumes nothing.
use Rattle.std.specs.Prelude.{ℕ, zero, suc, ◌+◌, ◌-◌, ◌*◌, ◌/◌, ◌%◌, ◌^◌, ◌≡◌, refl, Bool, true, false, ◌&&◌, not}
use Rattle.std.proofs.Common.{◌∙◌, arith}
use Rattle.base.specs.Choice.{pick}
use Rattle.timers.specs.declared.Before.{Before}
use Rattle.timers.specs.declared.Timers.{Timers}
use Rattle.timers.specs.Periods.{periods_of, ticks_at, tick, period, periods, started, advanced}
use Rattle.timers.specs.Counting.{ticks}
use Rattle.timers.specs.Dividing.{passes, tick_shift, shift_le, t0_passes, quiet}
use Rattle.timers.specs.Closed.{timer0}

-- one period more of T0: a tick where the test holds
t0_more : (b hold : Bool) (c limit k : ℕ)
    → pick (b && not hold) (tick limit (timer0 hold c limit k)) (timer0 hold c limit k) ≡ timer0 hold c limit (k + pick b 1 0)
unfolding ticks
t0_more true true c limit k = refl
t0_more false true c limit k = refl
t0_more true false c limit k = let z : k + 1 ≡ suc k = omega arith in rw z refl
t0_more false false c limit k = let z : k + 0 ≡ k = omega arith in rw z refl

pub periods_passes : (before : Before) (hold : Bool) (divider c n : ℕ)
    → periods before hold n (started hold divider c)
    ≡ record { divider = (divider % 4096 + n) % 4096; t0 = timer0 hold c before.t0data (passes (ticks_at before.t0con) (divider % 4096) n) }
unfolding periods period passes ticks
periods_passes before true divider c zero = let z : (divider % 4096 + 0) % 4096 ≡ divider % 4096 = omega arith in rw z refl
periods_passes before false divider c zero = let z : (divider % 4096 + 0) % 4096 ≡ divider % 4096 = omega arith in rw z refl
periods_passes before hold divider c (suc n) =
    let i = periods_passes before hold divider c n in
    let z : ((divider % 4096 + n) % 4096 + 1) % 4096 ≡ (divider % 4096 + suc n) % 4096 = omega arith in
    let m = t0_more (ticks_at before.t0con ((divider % 4096 + suc n) % 4096)) hold c before.t0data (passes (ticks_at before.t0con) (divider % 4096) n) in
    rw (i, z, m) refl

-- the same with that number of ticks
pub periods_closed : (before : Before) (hold : Bool) (divider c n : ℕ)
    → periods before hold n (started hold divider c)
    ≡ record {
      divider = (divider % 4096 + n) % 4096;
      t0 = timer0 hold c before.t0data
          ((divider % 4096 + n) / 2 ^ tick_shift before.t0con - divider % 4096 / 2 ^ tick_shift before.t0con);
    }
periods_closed before hold divider c n =
    let p = t0_passes before.t0con (divider % 4096) n in
    let z : (divider % 4096 + n) / 2 ^ tick_shift before.t0con - divider % 4096 / 2 ^ tick_shift before.t0con
    ≡ passes (ticks_at before.t0con) (divider % 4096) n = omega arith in
    rw z (periods_passes before hold divider c n)

-- where no multiple of T0's power of two is passed, only the divider goes on
pub periods_quiet : (before : Before) (hold : Bool) (divider c n : ℕ)
    → (divider % 4096 + n) / 2 ^ tick_shift before.t0con ≡ divider % 4096 / 2 ^ tick_shift before.t0con
    → periods before hold n (started hold divider c)
    ≡ record { divider = divider % 4096 + n; t0 = record { count = pick hold 0 c; matched = false } }
unfolding ticks
periods_quiet before hold divider c n h =
    let t = t0_passes before.t0con (divider % 4096) n in
    let x : passes (ticks_at before.t0con) (divider % 4096) n ≡ 0 = omega arith in
    let l = shift_le before.t0con in
    let f : (divider % 4096 + n) / 4096 ≡ divider % 4096 / 4096 = quiet (divider % 4096) (divider % 4096 + n) (tick_shift before.t0con) 12 l h in
    let g : (divider % 4096 + n) % 4096 ≡ divider % 4096 + n = omega arith in
    periods_passes before hold divider c n ∙ rw (x, g) (go hold)
  where
    go : (b : Bool)
        → ◌≡◌ {A = Timers} (record { divider = divider % 4096 + n; t0 = timer0 b c before.t0data 0 })
        (record { divider = divider % 4096 + n; t0 = record { count = pick b 0 c; matched = false } })
    go true = refl
    go false = refl

-- a step's timers in closed form: what a computed case opens in the place of `advanced`
pub advanced_closed : (before : Before) (hold : Bool) (divider c cycles : ℕ)
    → advanced before hold divider c cycles
    ≡ record {
      divider = (divider % 4096 + cycles * periods_of before.clkcon) % 4096;
      t0 = timer0 hold c before.t0data
          ((divider % 4096 + cycles * periods_of before.clkcon) / 2 ^ tick_shift before.t0con - divider % 4096 / 2 ^ tick_shift before.t0con);
    }
unfolding advanced
advanced_closed before hold divider c cycles = periods_closed before hold divider c (cycles * periods_of before.clkcon)
