-- A step that stops leaves the state before it.
use Rattle.std.proofs.Common.{◌≡◌, ◌∙◌, sym, ap, rules}
use Rattle.semantics.specs.Setup.{setup_of}
use Rattle.semantics.specs.Left.{Stepped}
use Rattle.semantics.specs.Step.{step_of}
use Rattle.semantics.specs.Stops.{number_of}
use Rattle.entry.specs.InPlace.{ended_of, stepped}
use Rattle.machine.proofs.Joins.{refused_step}
use Rattle.machine.proofs.step.Goals as goal

pub returns-in-Some-stop : goal.returns-in-Some-stop
unfolding step_of
returns-in-Some-stop c =
    let K = setup_of c.args.configuration in
    let same : stepped c.step_in_place-r.new.regs (ended_of c.step_in_place-r.result) ≡ step_of K c.args.image.now c.args.state c.args.rec.now = search rules in
    refused_step K c.args.image.now c.args.state c.args.rec.now _ (ap (λ (x : Stepped). x.stop) (sym same) ∙ ap number_of c.in-Some-stop.is)
