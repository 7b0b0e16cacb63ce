-- `timers::settle` meets its contract.
-- Assumes nothing.
use Rattle.std.proofs.Common.{◌/◌, ◌%◌, get_or, sym, ap, ◌∙◌}
use Rattle.timers.specs.declared.Passed.{Passed}
use Rattle.timers.proofs.SettledLaws.{neither_acts, running_timers, running_registers, quiet_timers}
use Rattle.timers.proofs.settle.Goals as goal

pub returns-then-p-eq0 : goal.returns-then-p-eq0
returns-then-p-eq0 c =
    let a = c.args in
    let acts = neither_acts (get_or a.regs.now 0xDC 0 % 4) (a.before.btcon % 4) (get_or a.regs.now 0xD2 0 / 8 % 2) c.if-regs-before.false in
    let none = sym (ap (λ (p : Passed). p.ticks) c.over_cycles-p.ensures) ∙ c.if-p-eq0.true in
    let q = quiet_timers a.before a.regs.now a.divider a.cycles acts.0 acts.1 none in
    record { regs = q.0; divider = rw c.over_cycles-p.ensures q.1 }

pub returns : goal.returns
returns c =
    let a = c.args in
    let acts = neither_acts (get_or a.regs.now 0xDC 0 % 4) (a.before.btcon % 4) (get_or a.regs.now 0xD2 0 / 8 % 2) c.if-regs-before.false in
    let t = running_timers a.before a.regs.now a.divider a.cycles acts.0 acts.1 in
    record {
      regs = rw (t, c.store_count.ensures, c.counted-c.ensures, c.over_cycles-p.ensures)
          (running_registers a.before a.regs.now a.divider a.cycles acts.0 acts.1 _);
      divider = rw (t, c.over_cycles-p.ensures);
    }
