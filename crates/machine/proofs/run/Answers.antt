-- The run that marks, with a map of no words; steps and cycles are counted.
use Rattle.std.proofs.Common.{rules}
use Rattle.machine.proofs.CountLaws.{counts_too}
use Rattle.machine.proofs.run.Goals as goal

pub returns-clause-counted : goal.returns-clause-counted
returns-clause-counted c = (counts_too _ _ _ _ _ (search rules) c.run_marking.ensures.run).1
