-- What every step keeps: the invariant of a monitored run, and the effect of an instruction as its summary says it.
-- Assumes nothing.
use Rattle.std.specs.Prelude.{◌≡◌, ◌≢◌, Bool, true, false, List, [], ◌∷◌, ℕ, ◌+◌, ◌-◌, ◌*◌, ◌%◌, ◌≤◌, ◌<◌, eqb, ltb, length, get_or}
use Rattle.base.specs.declared.RomAddr.{RomAddr}
use Rattle.base.specs.Addresses.{flags_cell, sp_cell}
use Rattle.base.specs.Choice.{pick}
use Rattle.base.specs.Lengths.{largest_rom}
use Rattle.isa.specs.declared.Alu.TheVariants.{Cp}
use Rattle.isa.specs.declared.FlagSet.{FlagSet}
use Rattle.isa.specs.Flags.{all_flags}
use Rattle.chip.specs.Interrupts.{interrupts_enabled}
use Rattle.alu.specs.Flags.{condition}
use Rattle.alu.specs.Operations.{compare_flags}
use Rattle.action.specs.declared.Operand.{Operand}
use Rattle.action.specs.declared.Operand.TheVariants.{Register, Indirect, Immediate}
use Rattle.action.specs.declared.CodeAddress.{CodeAddress}
use Rattle.action.specs.declared.Action.{Action}
use Rattle.semantics.specs.declared.Mode.{Mode}
use Rattle.semantics.specs.declared.Mode.TheVariants.{Running, Idle, Stopped}
use Rattle.semantics.specs.Execute.{execute_of}
use Rattle.certificate.specs.declared.NewValue.TheVariants.{Number, OneMore, OneLess, Within, CopyOf, Unknown}
use Rattle.certificate.specs.declared.Write.{Write}
use Rattle.certificate.specs.declared.Access.{Access}
use Rattle.certificate.specs.declared.FlagEffect.{FlagEffect}
use Rattle.certificate.specs.declared.FlagEffect.TheVariants.{Kept, Changed, Compared}
use Rattle.certificate.specs.declared.StackEffect.{StackEffect}
use Rattle.certificate.specs.declared.StackEffect.TheVariants.{Same, Push, Pop, Load}
use Rattle.certificate.specs.declared.Control.{Control}
use Rattle.certificate.specs.declared.Control.TheVariants.{Enable, Disable, Wait}
use Rattle.certificate.specs.declared.Summary.{Summary}
use Rattle.certificate.specs.Layout.{Certificate}
use Rattle.safety.specs.Rules.{ram_end, unloaded, low, high, bound_at, Change, change_of}
use Rattle.safety.specs.Rules.Change.{unchanged, changed}
use Rattle.safety.specs.Statement.{Opener, by_reset, by_call, by_interrupt, Frame, PointersRight}

-- what stands in a register
abbrev pub at : List ℕ → ℕ → ℕ
at r x = get_or r x 0

-- 256 bytes, of FLAGS the kept bits only
pub record Registers (r : List ℕ) : Type 0 where
  pub size : length r ≡ 256
  pub bytes : (x : ℕ) → at r x < 256
  pub flags : at r flags_cell % 16 ≡ 0

-- the machine runs or idles; an accepted program never executes STOP
abbrev pub Awake : Mode → Type 0
Awake Running = Unit {0}
Awake Idle = Unit {0}
Awake Stopped = ⊥

-- the stack bytes that opening a routine takes
abbrev pub frame_size : Opener → ℕ
frame_size by_reset = 0
frame_size by_call = 2
frame_size by_interrupt = 3

-- What an instruction does, as its summary says --

abbrev pub Effect : Change → List ℕ → List ℕ → ℕ → Type 0
Effect unchanged r r' x = at r' x ≡ at r x
Effect (changed (Number n)) r r' x = at r' x ≡ n
Effect (changed OneMore) r r' x = at r' x ≡ (at r x + 1) % 256
Effect (changed OneLess) r r' x = at r' x ≡ (at r x + 255) % 256
Effect (changed (Within q)) r r' x = (q.least ≤ at r' x) × (at r' x ≤ q.greatest)
Effect (changed (CopyOf y)) r r' x = y.0 < ram_end → at r' x ≡ at r y.0
Effect (changed Unknown) r r' x = Unit {0}

abbrev pub FlagsAfter : FlagEffect → List ℕ → List ℕ → Type 0
FlagsAfter Kept r r' = at r' flags_cell ≡ at r flags_cell
FlagsAfter Changed r r' = Unit {0}
FlagsAfter (Compared x k) r r' = x.0 < ram_end → at r' flags_cell ≡ compare_flags (at r x.0) k

abbrev pub sp_after : StackEffect → ℕ → ℕ
sp_after Same s = s
sp_after Push s = s - 1
sp_after Pop s = s + 1
sp_after (Load n) s = n

abbrev pub enabled_after : Control → Bool → Bool
enabled_after Control.Nothing b = b
enabled_after Enable b = true
enabled_after Disable b = false
enabled_after Wait b = b

-- The invariant --

module _ (C : Certificate) where
  -- every RAM cell lies in its range at an address
  abbrev pub Claims : ℕ → List ℕ → Type 0
  Claims a r = (x : ℕ) → x < ram_end → (low C a x ≤ at r x) × (at r x ≤ high C a x)

  -- the compare at an address holds of FLAGS f
  abbrev pub CompareHolds : ℕ → List ℕ → ℕ → Type 0
  CompareHolds a r f = C.compare_cell a < ram_end → f ≡ compare_flags (at r (C.compare_cell a)) (C.compare_number a)

  -- the first claimed cell's value, and the bound that it gives
  unfoldable pub first_now : ℕ → List ℕ → ℕ
  first_now a r = pick (ltb (C.first_cell a) ram_end) (at r (C.first_cell a)) 0

  abbrev pub bound_now : ℕ → List ℕ → ℕ
  bound_now a r = bound_at C a (first_now a r)

  -- the cells of a side's own class that routines from n on may not write
  abbrev pub Agree : ℕ → ℕ → List ℕ → List ℕ → Type 0
  Agree side n r r' = (x : ℕ) → x < ram_end → C.class x ≡ side → C.limit x < n → at r' x ≡ at r x

  -- main's own cells, which no service writes
  abbrev pub AgreeMain : List ℕ → List ℕ → Type 0
  AgreeMain r r' = (x : ℕ) → x < ram_end → C.class x ≡ 1 → at r' x ≡ at r x

  -- stack bytes kept free for an interrupt below a routine of the main side
  unfoldable pub reserve : ℕ → ℕ
  reserve side = pick (eqb side 1) (3 + C.need 2) 0

  -- the stack above address b leaves room for routine f
  abbrev pub Room : ℕ → Frame → Type 0
  Room b f = C.floor + reserve (C.side f.routine) + C.need f.routine ≤ b

  -- what routine g, which waits for f, can rely on when f returns to f's return address with the registers r'
  pub record Back (f g : Frame) (r' : List ℕ) : Type 0 where
    pub claims : Claims f.return_to r'
    pub cost : g.routine ≢ 1 → g.cycles + C.bound f.routine + bound_now f.return_to r' ≤ C.bound g.routine + f.cycles

  pub record BackFromInterrupt (f g : Frame) (flags : ℕ) (r' : List ℕ) : Type 0 where
    pub claims : Claims f.return_to r'
    pub compare : CompareHolds f.return_to r' flags
    pub cost : g.routine ≢ 1 → g.cycles + bound_now f.return_to r' ≤ C.bound g.routine

  -- f, opened by a CALL of g; b is the stack address just above f's own bytes
  pub record CallLink (r : List ℕ) (b : ℕ) (f g : Frame) : Type 0 where
    pub back : at r b * 256 + at r (b + 1) ≡ f.return_to
    pub in_entries : f.return_to < largest_rom
    pub home : C.routine f.return_to ≡ g.routine
    pub used : 1 ≤ g.routine
    pub callee : 3 ≤ f.routine
    pub sides : C.side f.routine ≡ C.side g.routine
    pub greater : g.routine < f.routine
    pub loaded : C.depth f.return_to < unloaded
    pub room : C.depth f.return_to ≤ C.need g.routine
    pub no_compare : C.compare_cell f.return_to < ram_end → ⊥
    pub resumes : (r' : List ℕ) → Agree (C.side g.routine) f.routine r r' → Registers r' → Back f g r'

  -- f, opened by an interrupt in g: FLAGS stands at b, the return address behind it
  pub record InterruptLink (r : List ℕ) (b : ℕ) (f g : Frame) : Type 0 where
    pub back : at r (b + 1) * 256 + at r (b + 2) ≡ f.return_to
    pub flags : at r b % 16 ≡ 0
    pub in_entries : f.return_to < largest_rom
    pub home : C.routine f.return_to ≡ g.routine
    pub used : 1 ≤ g.routine
    pub service : f.routine ≡ 2
    pub side : C.side g.routine ≡ 1
    pub loaded : C.depth f.return_to < unloaded
    pub room : C.depth f.return_to ≤ C.need g.routine
    pub resumes : (r' : List ℕ) → AgreeMain r r' → Registers r' → BackFromInterrupt f g (at r b) r'

  abbrev pub Link : Opener → List ℕ → ℕ → Frame → Frame → Type 0
  Link by_reset r b f g = ⊥
  Link by_call r b f g = CallLink r b f g
  Link by_interrupt r b f g = InterruptLink r b f g

  -- the open routines on the stack; b is the address just above the own bytes of the innermost, f
  abbrev pub Chain : List ℕ → ℕ → Frame → List Frame → Type 0
  Chain r b f [] = (f.opener ≡ by_reset) × (f.routine ≡ 1) × (b ≡ C.top) × Room b f
  Chain r b f (g ∷ rest) =
      Room b f × Link f.opener r b f g × Chain r (b + frame_size f.opener + C.depth f.return_to) g rest

  pub record StackLoaded (r : List ℕ) (pc : ℕ) (f : Frame) (fs : List Frame) : Type 0 where
    pub loaded : C.depth pc < unloaded
    pub room : C.depth pc ≤ C.need (C.routine pc)
    pub chain : Chain r (at r sp_cell + C.depth pc) f fs

  pub record StackUnloaded (pc : ℕ) (f : Frame) (fs : List Frame) : Type 0 where
    pub unloaded : C.depth pc ≡ unloaded
    pub main : f.routine ≡ 1
    pub reset : f.opener ≡ by_reset
    pub alone : fs ≡ []

  abbrev pub Stack : Bool → List ℕ → ℕ → Frame → List Frame → Type 0
  Stack true r pc f fs = StackLoaded r pc f fs
  Stack false r pc f fs = StackUnloaded pc f fs

  -- the invariant: f is the innermost open routine, fs the others outward
  pub record Invariant (loaded : Bool) (r : List ℕ) (pc : ℕ) (f : Frame) (fs : List Frame) : Type 0 where
    pub in_entries : pc < largest_rom
    pub home : C.routine pc ≡ f.routine
    pub used : 1 ≤ C.routine pc
    pub registers : Registers r
    pub claims : Claims pc r
    pub compare : CompareHolds pc r (at r flags_cell)
    pub enabled : interrupts_enabled r ≡ true → (C.side (C.routine pc) ≡ 1) × (loaded ≡ true)
    pub cost : f.routine ≢ 1 → f.cycles + bound_now pc r ≤ C.bound f.routine
    pub stack : Stack loaded r pc f fs

  -- An instruction as its summary says --

  -- the registers r' after an instruction at a with summary S on the registers r
  pub record Refines (a : ℕ) (S : Summary) (r r' : List ℕ) : Type 0 where
    pub registers : Registers r'
    pub cells : (x : ℕ) → x < ram_end → 1 ≤ C.class x → Effect (change_of C a S.write x) r r' x
    pub stack : (x : ℕ) → at r sp_cell ≤ x → C.floor ≤ x → x < C.top → at r' x ≡ at r x
    pub pointer : at r' sp_cell ≡ sp_after S.stack (at r sp_cell)
    pub flags : FlagsAfter S.flags r r'
    pub enabled : interrupts_enabled r' ≡ enabled_after S.control (interrupts_enabled r)

  -- what an instruction at a may rely on
  pub record Before (a : ℕ) (r : List ℕ) : Type 0 where
    pub registers : Registers r
    pub claims : Claims a r
    pub lowest : C.depth a < unloaded → C.floor + C.need (C.routine a) ≤ at r sp_cell + C.depth a
    pub highest : C.depth a < unloaded → at r sp_cell + C.depth a ≤ C.top

  -- the table that an instruction's pointer must stay in: that of the lowest address it reaches
  abbrev pub read_table : ℕ → Access → ℕ → ℕ
  read_table a Access.Nothing t = t
  read_table a (Access.Register x) t = t
  read_table a (Access.Pointed p o) t = C.table (low C a p.0 + o)

  abbrev pub write_table : ℕ → Write → ℕ → ℕ
  write_table a Write.Nothing t = t
  write_table a (Write.Register x v) t = t
  write_table a (Write.Pointed p o) t = C.table (low C a p.0 + o)
  write_table a (Write.RegisterAndPair x q p) t = t

  unfoldable pub table_of : ℕ → Summary → ℕ
  table_of a S = write_table a S.write (read_table a S.second (read_table a S.first 0))

  -- an instruction that stays in its routine, with the flags ns that it names, does not stop, and does what its summary S says
  pub record Does (image : List ℕ) (a : ℕ) (S : Summary) (act : Action) (ns : FlagSet) (r rec : List ℕ) (next : RomAddr) (cc : ℕ) (to : ℕ) : Type 0 where
    pub goes : (execute_of act ns image r rec next).next.stop ≡ 0
    pub mode : Awake (execute_of act ns image r rec next).next.mode
    pub counter : (execute_of act ns image r rec next).next.pc.0 ≡ pick (condition cc (at r flags_cell)) to next.0
    pub refines : Refines a S r (execute_of act ns image r rec next).regs
    pub pointers : PointersRight C image (table_of a S) r rec act

-- a number operand is a byte
abbrev pub Small : Operand → Type 0
Small (Register a) = Unit {0}
Small (Indirect p x) = Unit {0}
Small (Immediate n) = n < 256

-- an offset of 8 bits is a byte
abbrev pub SmallOffset : CodeAddress → Type 0
SmallOffset (CodeAddress.Direct a) = Unit {0}
SmallOffset (CodeAddress.Short p x) = x < 256
SmallOffset (CodeAddress.Long p x) = Unit {0}

-- at most one operand goes through a pointer, no destination is a number, numbers are bytes, CP and IRET name all four flags: so it is of
-- every decoded instruction with the flags that it names
abbrev pub Shaped : FlagSet → Action → Type 0
Shaped ns (Action.Binary op (Register a) s) = Small s × (op ≡ Cp → ns ≡ all_flags)
Shaped ns (Action.Binary op (Indirect p x) s) = ⊥
Shaped ns (Action.Binary op (Immediate n) s) = ⊥
Shaped ns (Action.Modify op (Register a)) = Unit {0}
Shaped ns (Action.Modify op (Indirect p x)) = Unit {0}
Shaped ns (Action.Modify op (Immediate n)) = ⊥
Shaped ns (Action.Load (Register a) s) = Small s
Shaped ns (Action.Load (Indirect p x) (Register b)) = Unit {0}
Shaped ns (Action.Load (Indirect p x) (Indirect q y)) = ⊥
Shaped ns (Action.Load (Indirect p x) (Immediate n)) = n < 256
Shaped ns (Action.Load (Immediate n) s) = ⊥
Shaped ns (Action.Push s) = Small s
Shaped ns (Action.Pop (Register a)) = Unit {0}
Shaped ns (Action.Pop (Indirect p x)) = Unit {0}
Shaped ns (Action.Pop (Immediate n)) = ⊥
Shaped ns (Action.LoadCode d c) = SmallOffset c
Shaped ns (Action.LoadCodeStep d p up) = Unit {0}
Shaped ns Action.External = Unit {0}
Shaped ns (Action.Jump cc to) = Unit {0}
Shaped ns (Action.JumpPair p) = Unit {0}
Shaped ns (Action.Call to) = Unit {0}
Shaped ns (Action.CallPair p) = Unit {0}
Shaped ns Action.Return = Unit {0}
Shaped ns Action.InterruptReturn = ns ≡ all_flags
Shaped ns (Action.Carry c) = Unit {0}
Shaped ns (Action.Interrupts on) = Unit {0}
Shaped ns Action.Idle = Unit {0}
Shaped ns Action.Stop = Unit {0}
Shaped ns Action.Nop = Unit {0}
