-- What a run's steps and cycles count, the completed steps and their costs modulo 2^32; and the state that a run returns.
-- Assumes nothing.
use Rattle.std.specs.Prelude.{ℕ, zero, suc, ◌+◌, ◌/◌, ◌%◌, ◌≡◌, ◌&&◌, List, length, get_or}
use Rattle.std.proofs.Math.Bool.{true, false}
use Rattle.std.proofs.Math.Dec.{eqb}
use Rattle.base.specs.declared.RomAddr.{RomAddr}
use Rattle.base.specs.Choice.{pick}
use Rattle.base.specs.Outcome.{Outcome}
use Rattle.base.specs.Outcome.Outcome.{value, refused}
use Rattle.base.specs.Lengths.{record_length}
use Rattle.isa.specs.declared.FlagSet.{FlagSet}
use Rattle.isa.specs.declared.Instruction.{Instruction}
use Rattle.isa.specs.Map.{cycles_of}
use Rattle.decode.specs.Decode.{decode_at}
use Rattle.semantics.specs.Setup.{Setup}
use Rattle.semantics.specs.declared.Mode.{Mode}
use Rattle.semantics.specs.declared.Mode.TheVariants.{Running, Idle, Stopped}
use Rattle.semantics.specs.declared.State.{State}
use Rattle.semantics.specs.Left.{Stepped, Ran}
use Rattle.semantics.specs.Step.{entry_due, requested, valid_machine, step_of}
use Rattle.semantics.specs.Run.{record_at}

-- the cycles of what was decoded, by its first byte; what does not decode costs nothing
unfoldable pub decoded_cost : Outcome (Instruction × ℕ × FlagSet) → ℕ → ℕ
decoded_cost (value d) first = cycles_of first
decoded_cost (refused n) first = 0

-- the cycles of a step for which no entry is due
unfoldable pub mode_cost : Mode → List ℕ → RomAddr → ℕ
mode_cost Running image pc = decoded_cost (decode_at image pc.0) (get_or image pc.0 0)
mode_cost Idle image pc = 0
mode_cost Stopped image pc = 0

-- the cycles of a step, from the state before it; those of an entry come from the configuration (request 03)
unfoldable pub cost_of : Setup → List ℕ → State → List ℕ → ℕ
cost_of K image s rec = pick (entry_due (requested s rec) s.mode) K.entry_cost (mode_cost s.mode image s.pc)

-- how many steps the next k records complete, from record i on: those before the first that is refused
unfoldable pub completed_of : ℕ → Setup → List ℕ → List ℕ → ℕ → State → ℕ
completed_of zero K image schedule i s = 0
completed_of (suc k) K image schedule i s =
    let r = step_of K image s (record_at schedule i) in
    elim (eqb r.stop 0) [ true ↦ suc (completed_of k K image schedule (i + 1) r.state) | false ↦ 0 ]

-- what those steps cost
unfoldable pub costs_of : ℕ → Setup → List ℕ → List ℕ → ℕ → State → ℕ
costs_of zero K image schedule i s = 0
costs_of (suc k) K image schedule i s =
    let r = step_of K image s (record_at schedule i) in
    elim (eqb r.stop 0) [ true ↦ cost_of K image s (record_at schedule i) + costs_of k K image schedule (i + 1) r.state | false ↦ 0 ]

-- the state behind the next k records from record i on, a step each
unfoldable pub state_behind : ℕ → Setup → List ℕ → List ℕ → ℕ → State → State
state_behind zero K image schedule i s = s
state_behind (suc k) K image schedule i s = state_behind k K image schedule (i + 1) (step_of K image s (record_at schedule i)).state

-- how many steps a run completes, and what they cost: none where the configuration or a length is wrong
unfoldable pub completed_steps : Setup → List ℕ → State → List ℕ → ℕ
completed_steps K image s schedule =
    pick (valid_machine K image && eqb (length schedule % record_length) 0)
    (completed_of (length schedule / record_length) K image schedule 0 s)
    0

unfoldable pub total_cost : Setup → List ℕ → State → List ℕ → ℕ
total_cost K image s schedule =
    pick (valid_machine K image && eqb (length schedule % record_length) 0)
    (costs_of (length schedule / record_length) K image schedule 0 s)
    0

-- a step that is completed adds its cost to the cycle total; a step that is refused leaves the state before it
pub record Accounts (s : State) (cost : ℕ) (after : State) (stop : ℕ) : Type 0 where
  pub completed : stop ≡ 0 → after.cycles ≡ (s.cycles + cost) % 4294967296
  pub refused : (stop ≡ 0 → ⊥) → after ≡ s

-- a run answers the number of its completed steps, and the start's cycle total with their costs
pub record Counted (count cost : ℕ) (s : State) (r : Ran) : Type 0 where
  pub steps : r.steps ≡ count
  pub cycles : r.state.cycles ≡ (s.cycles + cost) % 4294967296

-- two steps that differ at most in the cycle total
pub record SameButCycles (a b : Stepped) : Type 0 where
  pub regs : a.state.regs ≡ b.state.regs
  pub pc : a.state.pc ≡ b.state.pc
  pub mode : a.state.mode ≡ b.state.mode
  pub stop : a.stop ≡ b.stop
