-- An entry is what it leaves, finished at its cost.
use Rattle.std.proofs.Common.{◌∙◌, ap}
use Rattle.semantics.specs.Step.{act_after_requests}
use Rattle.entry.specs.InPlace.{Ended, rebuilt}
use Rattle.entry.specs.InPlaceLaws.{finishes}
use Rattle.step.proofs.after_requests.Goals as goal

pub returns-then-due : goal.returns-then-due
unfolding act_after_requests
returns-then-due c saved =
    ap (λ (e : Ended). rebuilt saved c.enter.new.regs e) c.enter.ensures.ended
    ∙ finishes saved _ _ _ _ _
    ∙ simp (c.enter.ensures.regs, c.if-due.true)
