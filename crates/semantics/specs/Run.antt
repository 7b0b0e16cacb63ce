-- A run over a schedule: the state after its completed steps, how many they are, and the number that ended it.
-- Assumes nothing.
use Rattle.std.specs.Prelude.{ℕ, zero, suc, ◌+◌, ◌*◌, ◌/◌, ◌%◌, true, false, ◌&&◌, List, length, take, drop, eqb}
use Rattle.base.specs.Choice.{pick}
use Rattle.base.specs.Lengths.{record_length}
use Rattle.semantics.specs.Setup.{Setup}
use Rattle.semantics.specs.declared.State.{State}
use Rattle.semantics.specs.Left.{Ran}
use Rattle.semantics.specs.Step.{valid_machine, step_of}

abbrev pub ran : State → ℕ → ℕ → Ran
ran s steps stop = record { state = s; steps = steps; stop = stop }

-- record i of a schedule
abbrev pub record_at : List ℕ → ℕ → List ℕ
record_at schedule i = take record_length (drop (i * record_length) schedule)

-- the next k records from record i on
unfoldable pub run_from : ℕ → Setup → List ℕ → List ℕ → ℕ → State → Ran
run_from zero K image schedule i s = ran s i 0
run_from (suc k) K image schedule i s =
    let r = step_of K image s (record_at schedule i) in
    elim (eqb r.stop 0) [ true ↦ run_from k K image schedule (i + 1) r.state | false ↦ ran r.state i r.stop ]

-- 7 for an entry's cycles above 63, for an image of another length, and for a schedule that is not whole records; then nothing is done
unfoldable pub run_of : Setup → List ℕ → State → List ℕ → Ran
run_of K image s schedule =
    pick (valid_machine K image && eqb (length schedule % record_length) 0)
    (run_from (length schedule / record_length) K image schedule 0 s)
    (ran s 0 7)
