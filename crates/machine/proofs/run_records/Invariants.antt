-- The records done so far and the run from there on make the whole run, and the map has the marks of the steps so far.
use Rattle.std.proofs.Common.{◌≡◌, ◌-◌, ◌/◌, length}
use Rattle.base.specs.Lengths.{record_length}
use Rattle.entry.specs.InPlace.{state_with}
use Rattle.semantics.specs.Setup.{setup_of}
use Rattle.semantics.specs.Run.{run_from}
use Rattle.machine.specs.Count.{state_behind}
use Rattle.machine.specs.Reached.{Marks, reached_in}
use Rattle.machine.proofs.run_records.Given as goal

abbrev pub invariant-loop-i : goal.invariant-loop-i
invariant-loop-i l = record {
  rest : run_from (length l.records - l.i) (setup_of l.machine.configuration) l.machine.image.now l.schedule l.i (state_with l.regs l.core)
      ≡ run_from (length l.schedule / record_length) (setup_of l.machine.configuration) l.machine.image.now l.schedule 0 l.fn.state;
  here : state_with l.regs l.core ≡ state_behind l.i (setup_of l.machine.configuration) l.machine.image.now l.schedule 0 l.fn.state;
  size : length l.map ≡ length l.fn.map;
  marks : Marks l.fn.map l.map (reached_in l.i (setup_of l.machine.configuration) l.machine.image.now l.fn.state l.schedule);
}
