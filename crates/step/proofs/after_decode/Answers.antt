-- What was decoded is executed and finished at its cost.
use Rattle.std.proofs.Common.{◌∙◌, ap}
use Rattle.semantics.specs.Step.{after_decode}
use Rattle.semantics.specs.Stops.{next_of}
use Rattle.entry.specs.InPlace.{Ended, rebuilt}
use Rattle.entry.specs.InPlaceLaws.{finishes}
use Rattle.step.proofs.after_decode.Goals as goal

pub returns-in-Ok : goal.returns-in-Ok
unfolding after_decode
returns-in-Ok c saved =
    ap (λ (e : Ended). rebuilt saved c.execute-next.new.regs e) c.finish.ensures
    ∙ finishes saved _ _ (next_of c.execute-next.result) _ _
    ∙ simp (
      c.execute-next.ensures.regs,
      c.execute-next.ensures.next,
      c.cycles.ensures,
      c.byte_at-first.ensures,
      c.action_of.ensures,
      c.from.ensures,
      c.from-in-Ok.ensures,
      c.in-Ok.is,
    )
