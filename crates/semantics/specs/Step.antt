-- One step under a schedule record, in two halves: it acts (requests, then an interrupt entry, or waiting, or one instruction; 01, "One step"),
-- and then it settles.
-- Assumes nothing.
use Rattle.std.specs.Prelude.{ℕ, ◌+◌, ◌*◌, ◌/◌, ◌%◌, Bool, true, false, ◌&&◌, List, length, get_or, eqb}
use Rattle.base.specs.declared.RomAddr.{RomAddr}
use Rattle.base.specs.Addresses.{rom_addr}
use Rattle.base.specs.Choice.{pick}
use Rattle.base.specs.Outcome.{Outcome}
use Rattle.base.specs.Outcome.Outcome.{value, refused}
use Rattle.base.specs.Lengths.{is_entry_cost, record_length}
use Rattle.isa.specs.declared.FlagSet.{FlagSet}
use Rattle.isa.specs.declared.Instruction.{Instruction}
use Rattle.isa.specs.Map.{cycles_of}
use Rattle.decode.specs.Decode.{decode_at}
use Rattle.action.specs.Action.{action_of}
use Rattle.chip.specs.Registers.{inputs_of}
use Rattle.chip.specs.Interrupts.{interrupts_enabled, set_interrupts_of, pending_any, pending_edge, post_of}
use Rattle.semantics.specs.declared.Mode.{Mode}
use Rattle.semantics.specs.declared.Mode.TheVariants.{Running, Idle, Stopped}
use Rattle.semantics.specs.declared.State.{State}
use Rattle.semantics.specs.Left.{Stepped}
use Rattle.semantics.specs.Setup.{Setup}
use Rattle.semantics.specs.Operands.{push_of, push_address, flags_of}
use Rattle.semantics.specs.Execute.{Executed, goes_on, execute_of}

-- the requests of byte 0 that act: all five, but in STOP only bits 2 and 3
unfoldable pub acting_requests : Mode → ℕ → ℕ
acting_requests Running b = b
acting_requests Idle b = b
acting_requests Stopped b = b / 4 % 4 * 4

-- whether an interrupt entry follows the requests: in STOP only the external sources wake
unfoldable pub entry_due : List ℕ → Mode → Bool
entry_due regs Running = interrupts_enabled regs && pending_any regs
entry_due regs Idle = interrupts_enabled regs && pending_any regs
entry_due regs Stopped = interrupts_enabled regs && pending_edge regs

-- a step that is refused leaves the state before it
abbrev pub refuse : State → ℕ → Stepped
refuse s n = record { state = s; stop = n }

-- What a step's act leaves: the state and 0, or the state before it and the number of the refusal. Beside it, whether an instruction began and
-- completed (retired), and the cycles that elapse for the timers: an instruction's or an entry's cost, and what waiting takes.
pub record Acted : Type 0 where
  pub state : State
  pub stop : ℕ
  pub retired : Bool
  pub elapsed : ℕ

-- an act that is refused retires no instruction, and no cycle elapses
abbrev pub refused_act : State → ℕ → Acted
refused_act s n = record { state = s; stop = n; retired = false; elapsed = 0 }

-- where a step from s comes to, at a cost: every state that the machine makes of another is made here
abbrev pub moved_to : State → List ℕ → RomAddr → Mode → ℕ → State
moved_to s regs pc mode cost = record { regs = regs; pc = pc; mode = mode; cycles = (s.cycles + cost) % 4294967296 }

-- the act with what an instruction (retired) or an entry (not retired) leaves, at a cost
unfoldable pub finish_of : State → Executed → Bool → ℕ → Acted
finish_of s e retired cost =
    pick (eqb e.next.stop 0)
    (record { state = moved_to s e.regs e.next.pc e.next.mode cost; stop = 0; retired = retired; elapsed = cost })
    (refused_act s e.next.stop)

-- the interrupt vector
abbrev pub vector_of : List ℕ → ℕ
vector_of image = get_or image 0 0 * 256 + get_or image 1 0

-- an interrupt entry pushes the program counter, low half first, and FLAGS as it then is; SYM.2 becomes 0; the vector is loaded
unfoldable pub enter_of : List ℕ → List ℕ → RomAddr → Executed
enter_of image regs pc =
    let a = push_address regs pc in
    let f = push_of a.regs (flags_of a.regs) in
    record { regs = set_interrupts_of f.regs false; next = goes_on (a.ok && f.ok) (rom_addr (vector_of image)) }

-- the address behind an instruction of n bytes
abbrev pub behind : RomAddr → ℕ → RomAddr
behind pc n = rom_addr ((pc.0 + n) % 65536)

-- the instruction that was decoded at the program counter, on the registers after the requests
unfoldable pub after_decode : Outcome (Instruction × ℕ × FlagSet) → List ℕ → State → List ℕ → List ℕ → Acted
after_decode (value d) image s regs inputs =
    let next = behind s.pc d.1 in
    finish_of s (execute_of (action_of d.0 next) d.2 image regs inputs next) true (cycles_of (get_or image s.pc.0 0))
after_decode (refused n) image s regs inputs = refused_act s n

unfoldable pub instruction_act : List ℕ → State → List ℕ → List ℕ → Acted
instruction_act image s regs inputs = after_decode (decode_at image s.pc.0) image s regs inputs

-- waiting costs nothing and keeps the requests
abbrev pub waiting_act : State → List ℕ → ℕ → Acted
waiting_act s regs elapsed = record { state = moved_to s regs s.pc s.mode 0; stop = 0; retired = false; elapsed = elapsed }

-- the cycles that elapse in a step that waits in IDLE; in STOP none do
abbrev pub idle_cycles : ℕ
idle_cycles = 4

-- the act of a machine for which no entry is due
unfoldable pub mode_act : Mode → List ℕ → State → List ℕ → List ℕ → Acted
mode_act Running image s regs inputs = instruction_act image s regs inputs
mode_act Idle image s regs inputs = waiting_act s regs idle_cycles
mode_act Stopped image s regs inputs = waiting_act s regs 0

unfoldable pub act_after_requests : Bool → Setup → List ℕ → State → List ℕ → List ℕ → Acted
act_after_requests true K image s regs inputs = finish_of s (enter_of image regs s.pc) false K.entry_cost
act_after_requests false K image s regs inputs = mode_act s.mode image s regs inputs

-- the registers after the requests of a record
abbrev pub requested : State → List ℕ → List ℕ
requested s rec = post_of s.regs (acting_requests s.mode (get_or rec 0 0))

-- the first half of a step, its act: what its requests, entry, waiting or instruction do
unfoldable pub acted_of : Setup → List ℕ → State → List ℕ → Acted
acted_of K image s rec =
    act_after_requests (entry_due (requested s rec) s.mode) K image s (requested s rec) (inputs_of K.part.grounds rec)

-- the second half: what settles behind the act of a step from s. Nothing does
unfoldable pub settled : State → Acted → Stepped
settled s a = record { state = a.state; stop = a.stop }

-- what a machine is given: the cycles of an entry, 0 to 63 (request 03), and an image of its part's length (request 04)
abbrev pub valid_machine : Setup → List ℕ → Bool
valid_machine K image = is_entry_cost K.entry_cost && eqb (length image) K.part.rom

-- one step: 7 for an entry's cycles above 63, and for an image or a record of another length
unfoldable pub step_of : Setup → List ℕ → State → List ℕ → Stepped
step_of K image s rec =
    pick (valid_machine K image && eqb (length rec) record_length) (settled s (acted_of K image s rec)) (refuse s 7)
