-- Each return is the definition's case of the tests before it.
use Rattle.std.proofs.Common.{◌≡◌, refl, sym, ◌∙◌, ◌/◌, ◌<◌, length, arith}
use Rattle.std.proofs.Math.Nat.{sub-zero}
use Rattle.base.specs.Lengths.{record_length}
use Rattle.entry.specs.InPlace.{state_with, ended_of, stepped}
use Rattle.machine.specs.Count.{state_behind}
use Rattle.machine.proofs.ReachedLaws.{marks_none, marks_next}
use Rattle.machine.proofs.Joins.{record_read, stop_numbered, no_stop, goes_on, stops, ends, comes_to, retires}
use Rattle.machine.proofs.run_records.Goals as goal

pub loop-i-init : goal.loop-i-init
unfolding state_behind
loop-i-init c = record { rest = rw (sub-zero, c.as_chunks.ensures.front_len, c.from-core.ensures); here = rw c.from-core.ensures; size = refl; marks = marks_none _ _ (λ a. refl) }

pub returns-then-is_some-clause-run : goal.returns-then-is_some-clause-run
returns-then-is_some-clause-run c =
    let v = c.loop-i.invariant in
    let count = c.as_chunks.ensures.front_len in
    let at : c.loop-i.i < length c.args.schedule.now / record_length = omega arith in
    let read = record_read _ _ _ _ c.as_chunks.ensures.front at in
    rw c.with_registers.ensures
    (sym (stops _ _ _ _ _ _ (stepped c.step_in_place-r.new.regs (ended_of c.step_in_place-r.result)) _ c.requires count c.loop-i-test.true read c.step_in_place-r.ensures.step
    (stop_numbered _ (sym c.is_some.ensures ∙ c.if-is_some.true)))
    ∙ v.rest)

pub loop-i-preserved : goal.loop-i-preserved
loop-i-preserved c =
    let v = c.loop-i.invariant in
    let r = stepped c.step_in_place-r.new.regs (ended_of c.step_in_place-r.result) in
    let count = c.as_chunks.ensures.front_len in
    let here : c.loop-i.i < length c.args.schedule.now / record_length = omega arith in
    let at = c.loop-i-test.true in
    let read = record_read _ _ _ _ c.as_chunks.ensures.front here in
    let did = c.step_in_place-r.ensures.step in
    record {
      rest = sym (goes_on _ _ _ _ _ _ r _ c.requires count at read did (no_stop _ (sym c.is_some.ensures ∙ c.if-is_some.false))) ∙ v.rest;
      here = comes_to _ _ _ _ _ _ r _ c.requires count at read did _ v.here;
      size = c.mark_retired.auto.map ∙ v.size;
      marks =
          rw c.mark_retired.ensures
          (marks_next _ _ _ _ _ _ _ (state_with c.loop-i.regs c.loop-i.core) v.here v.size v.marks _
          (retires _ _ _ _ _ _ r _ c.requires count at read did _ c.step_in_place-r.ensures.retired));
    }

pub returns-clause-run : goal.returns-clause-run
returns-clause-run c =
    let end : c.loop-i.i ≡ length c.as_chunks.result.0.now = omega arith in
    rw c.with_registers-2.ensures (sym (ends _ _ _ _ _ _ end) ∙ c.loop-i.invariant.rest)
