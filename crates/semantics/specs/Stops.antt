-- Refusals by their numbers in the table of answers, and what the code's values tell in the words of the definitions.
-- Assumes nothing.
use Rattle.std.specs.Prelude.{ℕ, Option, None, Some, Result, Ok, Err}
use Rattle.semantics.specs.declared.Stop.{Stop}
use Rattle.semantics.specs.declared.Stop.TheVariants.{InvalidArgument, CutOff, Undefined, OddPair, Unmapped, ProgramMemory}
use Rattle.semantics.specs.declared.State.{State}
use Rattle.semantics.specs.declared.Next as code_next
use Rattle.semantics.specs.declared.Ran as code_ran
use Rattle.semantics.specs.Left.{Next, Stepped, Ran}

abbrev pub stop_number : Stop → ℕ
stop_number InvalidArgument = 7
stop_number CutOff = 10
stop_number Undefined = 11
stop_number OddPair = 12
stop_number Unmapped = 13
stop_number ProgramMemory = 14

-- 0 where nothing stops
abbrev pub number_of : Option Stop → ℕ
number_of None = 0
number_of (Some stop) = stop_number stop

abbrev pub next_of : code_next.Next → Next
next_of n = record { pc = n.pc; mode = n.mode; stop = number_of n.stop }

-- a step from a state: the state after it, or the state before it and the number of the refusal
abbrev pub stepped_of : State → Result State Stop → Stepped
stepped_of before (Ok after) = record { state = after; stop = 0 }
stepped_of before (Err stop) = record { state = before; stop = stop_number stop }

abbrev pub ran_of : code_ran.Ran → Ran
ran_of r = record { state = r.state; steps = r.steps; stop = number_of r.stop }
