-- A wrong configuration or length is refused by 7 with nothing done and nothing marked; else the records are run.
use Rattle.std.proofs.Common.{◌≡◌, ℕ, List, refl, rules}
use Rattle.semantics.specs.Setup.{Setup, setup_of}
use Rattle.semantics.specs.declared.State.{State}
use Rattle.semantics.specs.Run.{ran, run_of}
use Rattle.semantics.specs.Stops.{ran_of}
use Rattle.machine.specs.Reached.{Marks, reached}
use Rattle.machine.proofs.ReachedLaws.{marks_none, marks_too}
use Rattle.machine.proofs.run_marking.Goals as goal

-- a run that does nothing marks nothing
marks_nothing : (K : Setup) (image schedule : List ℕ) (s : State) (m : List ℕ) → ran s 0 7 ≡ run_of K image s schedule → Marks m m (reached K image s schedule)
marks_nothing K image schedule s m e = (marks_too K image schedule s _ m m e (marks_none _ _ (λ a. refl))).1

pub returns-then-not-is_valid-clause-map : goal.returns-then-not-is_valid-clause-map
unfolding run_of
returns-then-not-is_valid-clause-map c = marks_nothing _ _ _ _ _ (search rules)

pub returns-then-schedule-ne0-clause-map : goal.returns-then-schedule-ne0-clause-map
unfolding run_of
returns-then-schedule-ne0-clause-map c = marks_nothing _ _ _ _ _ (search rules)

pub returns-clause-map : goal.returns-clause-map
unfolding run_of
returns-clause-map c =
    let e : ran_of c.run_records.result ≡ run_of (setup_of c.args.machine.now.configuration) c.args.machine.now.image.now c.args.state c.args.schedule.now = search rules in
    (marks_too _ _ _ _ _ _ _ e c.run_records.ensures.map).1
