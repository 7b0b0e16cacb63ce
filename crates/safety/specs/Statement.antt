-- Demand 3: what every run from reset of an accepted image does, whatever the schedule (01, "Demand 3"). Read with the machine's definitions
-- (`semantics`) and the certificate's layout; neither the checker's rules nor the proof's invariant is named here.
-- Assumes nothing.
use Rattle.std.specs.Prelude.{◌≡◌, ◌≢◌, Bool, true, false, ◌||◌, ◌&&◌, List, [], ◌∷◌, ℕ, zero, suc, ◌+◌, ◌/◌, ◌%◌, ◌≤◌, ◌<◌, eqb, length, get_or}
use Rattle.base.specs.declared.RomAddr.{RomAddr}
use Rattle.base.specs.Addresses.{sp_cell}
use Rattle.base.specs.Outcome.{Outcome}
use Rattle.base.specs.Outcome.Outcome.{value, refused}
use Rattle.base.specs.Lengths.{record_length}
use Rattle.base.specs.Parts.{Part}
use Rattle.isa.specs.declared.FlagSet.{FlagSet}
use Rattle.isa.specs.declared.Instruction.{Instruction}
use Rattle.isa.specs.Map.{cycles_of}
use Rattle.decode.specs.Decode.{decode_at}
use Rattle.chip.specs.Registers.{inputs_of}
use Rattle.action.specs.declared.Operand.{Operand}
use Rattle.action.specs.declared.Operand.TheVariants.{Register, Indirect, Immediate}
use Rattle.action.specs.declared.Action.{Action}
use Rattle.action.specs.Action.{action_of}
use Rattle.semantics.specs.declared.Mode.{Mode}
use Rattle.semantics.specs.declared.Mode.TheVariants.{Running, Idle, Stopped}
use Rattle.semantics.specs.declared.State.{State}
use Rattle.semantics.specs.Left.{Stepped}
use Rattle.semantics.specs.Setup.{Setup}
use Rattle.semantics.specs.Operands.{place_of, lowered, word_at, sp_of}
use Rattle.semantics.specs.Execute.{code_address}
use Rattle.semantics.specs.Step.{requested, entry_due, behind, acted_of, step_of}
use Rattle.semantics.specs.Run.{record_at, run_of}
use Rattle.semantics.specs.Reset.{IsReset}
use Rattle.certificate.specs.Layout.{Certificate}

-- The open routines --

-- what opened a routine: reset (main), a CALL, or an interrupt
pub data Opener : Type 0 where
  by_reset : Opener
  by_call : Opener
  by_interrupt : Opener

-- an open routine, with its return address and its cycles, unwrapped
pub record Frame : Type 0 where
  pub routine : ℕ
  pub return_to : ℕ
  pub cycles : ℕ
  pub opener : Opener

-- the innermost, and the others outward
pub record Open : Type 0 where
  pub inner : Frame
  pub outer : List Frame

abbrev pub spends : ℕ → Frame → Frame
spends c f = record { routine = f.routine; return_to = f.return_to; cycles = f.cycles + c; opener = f.opener }

-- outward from a routine, up to and with the first that an interrupt opened, or main
abbrev pub outward : ℕ → List Frame → Opener → List Frame
outward c [] o = []
outward c (g ∷ rest) by_reset = g ∷ rest
outward c (g ∷ rest) by_call = spends c g ∷ outward c rest g.opener
outward c (g ∷ rest) by_interrupt = g ∷ rest

-- an instruction's cost is added to the innermost and outward
abbrev pub charge : ℕ → Open → Open
charge c o = record { inner = spends c o.inner; outer = outward c o.outer o.inner.opener }

abbrev pub opening : Frame → Open → Open
opening f o = record { inner = f; outer = o.inner ∷ o.outer }

-- the innermost closes, unless it is main
abbrev closed : Frame → List Frame → Open
closed f [] = record { inner = f; outer = [] }
closed f (g ∷ rest) = record { inner = g; outer = rest }

abbrev pub closing : Open → Open
closing o = closed o.inner o.outer

-- What a step is: an interrupt entry, waiting, or an instruction with the address behind it --

pub data Event : Type 0 where
  entered : Event
  waited : Event
  executed : Action → RomAddr → Event

abbrev pub decoded_event : Outcome (Instruction × ℕ × FlagSet) → RomAddr → Event
decoded_event (value d) pc = executed (action_of d.0 (behind pc d.1)) (behind pc d.1)
decoded_event (refused n) pc = waited

abbrev pub mode_event : Mode → List ℕ → RomAddr → Event
mode_event Running image pc = decoded_event (decode_at image pc.0) pc
mode_event Idle image pc = waited
mode_event Stopped image pc = waited

abbrev pub due_event : Bool → Mode → List ℕ → RomAddr → Event
due_event true mode image pc = entered
due_event false mode image pc = mode_event mode image pc

unfoldable pub event_of : List ℕ → State → List ℕ → Event
event_of image s rec = due_event (entry_due (requested s rec) s.mode) s.mode image s.pc

-- how an instruction moves between routines
pub data Transfer : Type 0 where
  stays : Transfer
  calls : Transfer
  returns : Transfer
  returns_from_interrupt : Transfer

abbrev pub transfer_of : Action → Transfer
transfer_of (Action.Binary op d s) = stays
transfer_of (Action.Modify op d) = stays
transfer_of (Action.Load d s) = stays
transfer_of (Action.Push s) = stays
transfer_of (Action.Pop d) = stays
transfer_of (Action.LoadCode d c) = stays
transfer_of (Action.LoadCodeStep d p up) = stays
transfer_of Action.External = stays
transfer_of (Action.Jump cc to) = stays
transfer_of (Action.JumpPair p) = stays
transfer_of (Action.Call to) = calls
transfer_of (Action.CallPair p) = calls
transfer_of Action.Return = returns
transfer_of Action.InterruptReturn = returns_from_interrupt
transfer_of (Action.Carry c) = stays
transfer_of (Action.Interrupts on) = stays
transfer_of Action.Idle = stays
transfer_of Action.Stop = stays
transfer_of Action.Nop = stays

-- `LD SP,#T`
abbrev pub loads_top : ℕ → Action → Bool
loads_top top (Action.Load (Register a) (Immediate n)) = eqb a.0 sp_cell && eqb n top
loads_top top (Action.Load (Register a) (Register b)) = false
loads_top top (Action.Load (Register a) (Indirect p x)) = false
loads_top top (Action.Load (Indirect p x) s) = false
loads_top top (Action.Load (Immediate n) s) = false
loads_top top (Action.Binary op d s) = false
loads_top top (Action.Modify op d) = false
loads_top top (Action.Push s) = false
loads_top top (Action.Pop d) = false
loads_top top (Action.LoadCode d c) = false
loads_top top (Action.LoadCodeStep d p up) = false
loads_top top Action.External = false
loads_top top (Action.Jump cc to) = false
loads_top top (Action.JumpPair p) = false
loads_top top (Action.Call to) = false
loads_top top (Action.CallPair p) = false
loads_top top Action.Return = false
loads_top top Action.InterruptReturn = false
loads_top top (Action.Carry c) = false
loads_top top (Action.Interrupts on) = false
loads_top top Action.Idle = false
loads_top top Action.Stop = false
loads_top top Action.Nop = false

-- The machine with its open routines, and whether SP has been loaded with the top --

pub record Monitored : Type 0 where
  pub state : State
  pub frames : Open
  pub loaded : Bool

-- at reset main alone is open, with 0 cycles
abbrev pub from_reset : State → Monitored
from_reset s =
    record { state = s; frames = record { inner = record { routine = 1; return_to = 0; cycles = 0; opener = by_reset }; outer = [] }; loaded = false }

-- a schedule: whole records of bytes
pub record Schedule (schedule : List ℕ) : Type 0 where
  pub whole : length schedule % record_length ≡ 0
  pub bytes : (i : ℕ) → get_or schedule i 0 < 256

-- the cycles of the instruction at the program counter
abbrev pub cost_here : List ℕ → State → ℕ
cost_here image s = cycles_of (get_or image s.pc.0 0)

-- demand 3 speaks of machines of a part (request 04) that got the certificate's number of cycles for an entry (request 03)
abbrev pub setup_for : Part → Certificate → Setup
setup_for P C = record { part = P; entry_cost = C.entry_cost }

module _ (C : Certificate) where
  -- CALL opens the routine that its target's entry names, with the address behind CALL and 0 cycles; RET or IRET closes the innermost
  abbrev pub transferred : Transfer → RomAddr → State → Open → Open
  transferred stays next s' o = o
  transferred calls next s' o = opening (record { routine = C.routine s'.pc.0; return_to = next.0; cycles = 0; opener = by_call }) o
  transferred returns next s' o = closing o
  transferred returns_from_interrupt next s' o = closing o

  abbrev pub moved : Event → State → Open → Open
  moved entered s' o = o
  moved waited s' o = o
  moved (executed act next) s' o = transferred (transfer_of act) next s' o

  abbrev pub loaded_by : Event → Bool → Bool
  loaded_by entered b = b
  loaded_by waited b = b
  loaded_by (executed act next) b = loads_top C.top act || b

module _ (C : Certificate) (image : List ℕ) where
  -- the open routines with what the step costs, before one closes: an entry opens 2 with the address it pushes and its own cost
  abbrev pub spent : Event → State → Open → Open
  spent entered s o = opening (record { routine = 2; return_to = s.pc.0; cycles = C.entry_cost; opener = by_interrupt }) o
  spent waited s o = o
  spent (executed act next) s o = charge (cost_here image s) o

  -- a step that is not stopped, with its act to a, and settled in s'; a stopped step leaves all as it was
  abbrev pub after_step : ℕ → Event → Monitored → State → State → Monitored
  after_step zero e m a s' =
      record { state = s'; frames = moved C e a (spent e m.state m.frames); loaded = loaded_by C e m.loaded }
  after_step (suc n) e m a s' = m

module _ (P : Part) (C : Certificate) (image : List ℕ) where
  -- the step that a record makes
  abbrev pub stepped : Monitored → List ℕ → Stepped
  stepped m rec = step_of (setup_for P C) image m.state rec

  -- the state behind the act of a step, before it settles: where the step goes, whom CALL opens and SP are read there
  abbrev pub acted_state : Monitored → List ℕ → State
  acted_state m rec = (acted_of (setup_for P C) image m.state rec).state

  unfoldable pub monitor_step : Monitored → List ℕ → Monitored
  monitor_step m rec =
      after_step C image (stepped m rec).stop (event_of image m.state rec) m (acted_state m rec) (stepped m rec).state

-- What each step must show --

-- the address that an operand's pointer gives lies in the table of the instruction's address
abbrev pub InTable : Certificate → ℕ → List ℕ → List ℕ → Operand → Type 0
InTable C t regs rec (Register a) = Unit {0}
InTable C t regs rec (Indirect p x) = (C.table (place_of regs rec (Indirect p x)).addr.0 ≡ t) × (t ≢ 0)
InTable C t regs rec (Immediate n) = Unit {0}

-- behind RET the program counter is the closed routine's return address, and a call opened it; behind IRET likewise, and an interrupt did
abbrev pub ReturnsRight : Transfer → Frame → ℕ → Type 0
ReturnsRight stays f pc' = Unit {0}
ReturnsRight calls f pc' = Unit {0}
ReturnsRight returns f pc' = (pc' ≡ f.return_to) × (f.opener ≡ by_call)
ReturnsRight returns_from_interrupt f pc' = (pc' ≡ f.return_to) × (f.opener ≡ by_interrupt)

-- no routine but main spends more cycles than its row's bound
abbrev pub Within : Certificate → List Frame → Type 0
Within C [] = Unit {0}
Within C (f ∷ fs) = (f.routine ≢ 1 → f.cycles ≤ C.bound f.routine) × Within C fs

module _ (C : Certificate) (image : List ℕ) where
  -- every pointer of the instruction, on the registers after the requests (PUSH reads its pointer after lowering SP), where rec are the step's inputs;
  -- LDC's address is in ROM; computed jumps and calls never run
  abbrev pub PointersRight : ℕ → List ℕ → List ℕ → Action → Type 0
  PointersRight t regs rec (Action.Binary op d s) = InTable C t regs rec d × InTable C t regs rec s
  PointersRight t regs rec (Action.Modify op d) = InTable C t regs rec d
  PointersRight t regs rec (Action.Load d s) = InTable C t regs rec d × InTable C t regs rec s
  PointersRight t regs rec (Action.Push s) = InTable C t (lowered regs) rec s
  PointersRight t regs rec (Action.Pop d) = InTable C t regs rec d
  PointersRight t regs rec (Action.LoadCode d c) = code_address c regs rec < length image
  PointersRight t regs rec (Action.LoadCodeStep d p up) = word_at regs rec p.0 < length image
  PointersRight t regs rec Action.External = ⊥
  PointersRight t regs rec (Action.Jump cc to) = Unit {0}
  PointersRight t regs rec (Action.JumpPair p) = ⊥
  PointersRight t regs rec (Action.Call to) = Unit {0}
  PointersRight t regs rec (Action.CallPair p) = ⊥
  PointersRight t regs rec Action.Return = Unit {0}
  PointersRight t regs rec Action.InterruptReturn = Unit {0}
  PointersRight t regs rec (Action.Carry c) = Unit {0}
  PointersRight t regs rec (Action.Interrupts on) = Unit {0}
  PointersRight t regs rec Action.Idle = Unit {0}
  PointersRight t regs rec Action.Stop = Unit {0}
  PointersRight t regs rec Action.Nop = Unit {0}

module _ (P : Part) (C : Certificate) (image : List ℕ) where
  -- an instruction begins at an address whose certificate entry (routine 0 is none) names the innermost open routine
  pub record InstructionRight (t : ℕ) (m : Monitored) (rec : List ℕ) (act : Action) (pc' : ℕ) : Type 0 where
    pub named : 1 ≤ C.routine m.state.pc.0
    pub begins : C.routine m.state.pc.0 ≡ m.frames.inner.routine
    pub pointers : PointersRight C image t (requested m.state rec) (inputs_of P.grounds rec) act
    pub returning : ReturnsRight (transfer_of act) m.frames.inner pc'

  abbrev pub EventRight : (ℕ → ℕ) → Monitored → List ℕ → Event → ℕ → Type 0
  EventRight tables m rec entered pc' = Unit {0}
  EventRight tables m rec waited pc' = Unit {0}
  EventRight tables m rec (executed act next) pc' = InstructionRight (tables m.state.pc.0) m rec act pc'

  -- one step: it does not stop; its event is right; SP, once loaded, lies between floor and top; cycles are within bounds
  pub record StepRight (tables : ℕ → ℕ) (m : Monitored) (rec : List ℕ) : Type 0 where
    pub goes : (stepped P C image m rec).stop ≡ 0
    pub event : EventRight tables m rec (event_of image m.state rec) (acted_state P C image m rec).pc.0
    pub stack :
        loaded_by C (event_of image m.state rec) m.loaded ≡ true
        → (C.floor ≤ sp_of (acted_state P C image m rec).regs) × (sp_of (acted_state P C image m rec).regs ≤ C.top)
    pub within :
        Within C ((spent C image (event_of image m.state rec) m.state m.frames).inner ∷ (spent C image (event_of image m.state rec) m.state m.frames).outer)

  -- the next k records from record i on
  abbrev pub Walk : ℕ → (ℕ → ℕ) → List ℕ → ℕ → Monitored → Type 0
  Walk zero tables schedule i m = Unit {0}
  Walk (suc k) tables schedule i m =
      StepRight tables m (record_at schedule i) × Walk k tables schedule (i + 1) (monitor_step P C image m (record_at schedule i))

  -- the run does every record and no step stops, and every step is right
  pub record RunRight (tables : ℕ → ℕ) (s : State) (schedule : List ℕ) : Type 0 where
    pub steps : (run_of (setup_for P C) image s schedule).steps ≡ length schedule / record_length
    pub stop : (run_of (setup_for P C) image s schedule).stop ≡ 0
    pub walk : Walk (length schedule / record_length) tables schedule 0 (from_reset s)

  -- one table for each ROM address, chosen before the bytes that reset leaves open and before the schedule
  abbrev pub Demand3 : Type 0
  Demand3 = (tables : ℕ → ℕ) × ((s : State) → IsReset s → (schedule : List ℕ) → Schedule schedule → RunRight tables s schedule)
