-- A state as its registers and the rest, and what a step leaves of each: the code changes the registers in place.
-- Assumes nothing.
use Rattle.std.specs.Prelude.{ℕ, Bool, false, List, [], ◌==◌}
use Rattle.base.specs.declared.RomAddr.{RomAddr}
use Rattle.base.specs.Choice.{pick}
use Rattle.semantics.specs.declared.Mode.{Mode}
use Rattle.semantics.specs.Left.{Next, Stepped}
use Rattle.semantics.specs.declared.State.{State}
use Rattle.semantics.specs.Step.{Acted, moved_to}
use Rattle.semantics.specs.Stops.{number_of}
use Rattle.entry.specs.declared.Core.{Core}
use Rattle.entry.specs.declared.Ended as code_ended

abbrev pub state_with : List ℕ → Core → State
state_with regs s = record { regs = regs; pc = s.pc; mode = s.mode; cycles = s.cycles }

abbrev pub core_of : State → Core
core_of s = record { pc = s.pc; mode = s.mode; cycles = s.cycles }

-- where a step comes to, without the registers
abbrev pub core_after : Core → RomAddr → Mode → ℕ → Core
core_after s pc mode cost = core_of (moved_to (state_with [] s) [] pc mode cost)

-- what a step leaves beside the registers, in the words of the definitions: 0, or the number of the refusal
pub record Ended : Type 0 where
  pub core : Core
  pub stop : ℕ
  pub retired : Bool
  pub elapsed : ℕ

abbrev pub ended_of : code_ended.Ended → Ended
ended_of e = record { core = e.core; stop = number_of e.stop; retired = e.retired; elapsed = e.elapsed }

abbrev pub ended : Core → ℕ → Bool → ℕ → Ended
ended s stop retired elapsed = record { core = s; stop = stop; retired = retired; elapsed = elapsed }

-- the act that left regs and e
abbrev pub acted : List ℕ → Ended → Acted
acted regs e = record { state = state_with regs e.core; stop = e.stop; retired = e.retired; elapsed = e.elapsed }

-- the same, where saved are the registers before it and are to be put back if it stopped
abbrev pub rebuilt : List ℕ → List ℕ → Ended → Acted
rebuilt saved regs e = acted (pick (e.stop == 0) regs saved) e

-- the step that left regs and e
abbrev pub stepped : List ℕ → Ended → Stepped
stepped regs e = record { state = state_with regs e.core; stop = e.stop }

-- what an instruction (retired) or an entry (not retired) leaves beside the registers, at a cost
unfoldable pub finished : Core → Next → Bool → ℕ → Ended
finished s next retired cost =
    pick (next.stop == 0) (ended (core_after s next.pc next.mode cost) 0 retired cost) (ended s next.stop false 0)
