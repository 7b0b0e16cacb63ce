-- Which addresses a run reaches (02, request 06): those at which "the instructions completed in this run" begin; "entries, waiting steps and stopped
-- steps set none". And what a run with a coverage map leaves.
-- Assumes nothing.
use Rattle.std.specs.Prelude.{ℕ, zero, suc, ◌<◌, ◌≡◌, Bool, false, ◌&&◌, ◌||◌, List, length, eqb}
use Rattle.base.specs.Choice.{pick}
use Rattle.semantics.specs.Setup.{Setup}
use Rattle.semantics.specs.declared.State.{State}
use Rattle.semantics.specs.Left.{Ran}
use Rattle.semantics.specs.Step.{acted_of}
use Rattle.semantics.specs.Run.{ran, record_at, run_of}
use Rattle.coverage.specs.Map.{is_map_length, marked, inside, map_of}
use Rattle.machine.specs.Count.{state_behind, completed_steps}
use Rattle.machine.specs.Retired.{Completes}

-- whether step i of a run from s completes an instruction that begins at an address
unfoldable pub begins_at : Setup → List ℕ → State → List ℕ → ℕ → ℕ → Bool
begins_at K image s schedule a i =
    let before = state_behind i K image schedule 0 s in
    (acted_of K image before (record_at schedule i)).retired && eqb before.pc.0 a

-- whether a test holds at some number below n
abbrev pub some_below : ℕ → (ℕ → Bool) → Bool
some_below zero f = false
some_below (suc n) f = f n || some_below n f

-- whether one of the first n steps does
abbrev pub reached_in : ℕ → Setup → List ℕ → State → List ℕ → ℕ → Bool
reached_in n K image s schedule a = some_below n (begins_at K image s schedule a)

-- whether one of the steps that a run completes does
unfoldable pub reached : Setup → List ℕ → State → List ℕ → ℕ → Bool
reached K image s schedule a = reached_in (completed_steps K image s schedule) K image s schedule a

-- a map of any length after what marks the addresses that pass a test, as far as it has bits for them
abbrev pub Marks : List ℕ → List ℕ → (ℕ → Bool) → Type 0
Marks before after f = (a : ℕ) → marked after a ≡ (marked before a || (inside before a && f a))

-- a run with a map of n words: 7 for another number of words than 64, and then nothing is done
unfoldable pub covered_run : Setup → List ℕ → State → List ℕ → ℕ → Ran
covered_run K image s schedule n = pick (is_map_length n) (run_of K image s schedule) (ran s 0 7)

-- "its old bits and those of the instructions completed in this run, no others"
unfoldable pub covered_map : Setup → List ℕ → State → List ℕ → List ℕ → List ℕ
covered_map K image s schedule m = pick (is_map_length (length m)) (map_of (λ a. marked m a || reached K image s schedule a)) m

-- an address at which an instruction began that a run completed: the state before that step was there
pub record Reaches (K : Setup) (image : List ℕ) (s : State) (schedule : List ℕ) (a : ℕ) : Type 0 where
  pub step : ℕ
  pub completed : step < completed_steps K image s schedule
  pub instruction : Completes K image (state_behind step K image schedule 0 s) (record_at schedule step)
  pub address : (state_behind step K image schedule 0 s).pc.0 ≡ a
