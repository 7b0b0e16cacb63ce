-- The addresses of an instruction's stores, and whether FLAGS is among them (02, request 07: 'unless the instruction stores into FLAGS itself'): its
-- destination, direct or pointed, both halves of the pair that LDCI and LDCD step, and where PUSH and CALL write to the stack. SP, the interrupt enable and
-- the named flags, which are set in place, do not count: so neither does IRET's load of FLAGS, all four of which it names.
-- Assumes nothing.
use Rattle.std.specs.Prelude.{ℕ, ◌+◌, ◌%◌, Bool, List, [], ◌∷◌, get_or}
use Rattle.base.specs.declared.RomAddr.{RomAddr}
use Rattle.base.specs.Addresses.{flags_cell}
use Rattle.base.specs.Choice.{pick}
use Rattle.chip.specs.Registers.{among}
use Rattle.alu.specs.Operations.{stores}
use Rattle.action.specs.declared.Action.{Action}
use Rattle.semantics.specs.Operands.{place_of, sp_of, lowered, push_of}

-- FLAGS in the register file
abbrev pub flags_in : List ℕ → ℕ
flags_in r = get_or r flags_cell 0

-- where the two halves of a return address are pushed: SP is lowered before each
abbrev pub pushed_to : List ℕ → RomAddr → List ℕ
pushed_to regs next = sp_of (lowered regs) ∷ sp_of (lowered (push_of regs (next.0 % 256)).regs) ∷ []

-- on the registers after the requests; next is the address behind the instruction
unfoldable pub stored_to : Action → List ℕ → List ℕ → RomAddr → List ℕ
stored_to (Action.Binary op d s) regs rec next = pick (stores op) ((place_of regs rec d).addr.0 ∷ []) []
stored_to (Action.Modify op d) regs rec next = (place_of regs rec d).addr.0 ∷ []
stored_to (Action.Load d s) regs rec next = (place_of regs rec d).addr.0 ∷ []
stored_to (Action.Push s) regs rec next = sp_of (lowered regs) ∷ []
stored_to (Action.Pop d) regs rec next = (place_of regs rec d).addr.0 ∷ []
stored_to (Action.LoadCode d c) regs rec next = d.0 ∷ []
stored_to (Action.LoadCodeStep d p up) regs rec next = d.0 ∷ p.0 ∷ (p.0 + 1) % 256 ∷ []
stored_to Action.External regs rec next = []
stored_to (Action.Jump cc to) regs rec next = []
stored_to (Action.JumpPair p) regs rec next = []
stored_to (Action.Call to) regs rec next = pushed_to regs next
stored_to (Action.CallPair p) regs rec next = pushed_to regs next
stored_to Action.Return regs rec next = []
stored_to Action.InterruptReturn regs rec next = []
stored_to (Action.Carry c) regs rec next = []
stored_to (Action.Interrupts on) regs rec next = []
stored_to Action.Idle regs rec next = []
stored_to Action.Stop regs rec next = []
stored_to Action.Nop regs rec next = []

unfoldable pub stores_flags : Action → List ℕ → List ℕ → RomAddr → Bool
stores_flags act regs rec next = among flags_cell (stored_to act regs rec next)
