-- What an instruction, a step and a run leave, in the words of the definitions: 0, or the number of a refusal, beside what is left.
-- Assumes nothing.
use Rattle.std.specs.Prelude.{ℕ}
use Rattle.base.specs.declared.RomAddr.{RomAddr}
use Rattle.semantics.specs.declared.Mode.{Mode}
use Rattle.semantics.specs.declared.State.{State}

-- an instruction, beside the registers
pub record Next : Type 0 where
  pub pc : RomAddr
  pub mode : Mode
  pub stop : ℕ

-- the state after a step and 0, or the state before it and the number of the refusal
pub record Stepped : Type 0 where
  pub state : State
  pub stop : ℕ

-- the state after a run's completed steps, how many they are, and the number of the refusal that ended it, or 0
pub record Ran : Type 0 where
  pub state : State
  pub steps : ℕ
  pub stop : ℕ
