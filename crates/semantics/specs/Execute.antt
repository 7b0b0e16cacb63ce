-- What each action does to the registers, the program counter and the mode: the printed actions of the instruction's page in order, each on the
-- state left before it. Of the flags that it computes those are set which the decoder named, n. A register that is not mapped is refusal 13; LDE,
-- LDC that writes, and LDC outside ROM are 14.
-- Assumes nothing.
use Rattle.std.specs.Prelude.{ℕ, ◌+◌, ◌/◌, ◌%◌, Bool, true, false, not, ◌&&◌, List, length, get_or, eqb, ltb}
use Rattle.base.specs.declared.RegAddr.{RegAddr}
use Rattle.base.specs.declared.RomAddr.{RomAddr}
use Rattle.base.specs.Addresses.{rom_addr, flags_cell, stopcon_cell, displaced}
use Rattle.base.specs.Choice.{pick}
use Rattle.isa.specs.declared.Alu.{Alu}
use Rattle.isa.specs.declared.Unary.{Unary}
use Rattle.isa.specs.declared.FlagSet.{FlagSet}
use Rattle.chip.specs.Registers.{mapped_of, load_of, store_of}
use Rattle.chip.specs.Interrupts.{set_interrupts_of}
use Rattle.alu.specs.Flags.{carry, flags_byte, condition}
use Rattle.alu.specs.Operations.{operate, modify, stores}
use Rattle.action.specs.declared.Operand.{Operand}
use Rattle.action.specs.declared.CodeAddress.{CodeAddress}
use Rattle.action.specs.declared.CodeAddress.TheVariants.{Direct, Short, Long}
use Rattle.action.specs.declared.CarryChange.{CarryChange}
use Rattle.action.specs.declared.CarryChange.TheVariants.{Reset, Set, Complement}
use Rattle.action.specs.declared.Action.{Action}
use Rattle.semantics.specs.declared.Mode.{Mode}
use Rattle.semantics.specs.declared.Mode.TheVariants.{Running, Idle, Stopped}
use Rattle.semantics.specs.Left.{Next}
use Rattle.semantics.specs.Operands.{place_of, fetch_of, with_flags, lowered, raised, store_top, push_address, word_at, word_mapped, sp_of}

-- the registers, and what is left beside them
pub record Executed : Type 0 where
  pub regs : List ℕ
  pub next : Next

abbrev pub leaves : RomAddr → Mode → ℕ → Next
leaves pc mode stop = record { pc = pc; mode = mode; stop = stop }

-- goes on at pc; refused by 13 where a register was not mapped
abbrev pub goes_on : Bool → RomAddr → Next
goes_on ok pc = leaves pc Running (pick ok 0 13)

abbrev carry_before : List ℕ → Bool
carry_before regs = carry (get_or regs flags_cell 0)

unfoldable pub store_if : List ℕ → Bool → RegAddr → ℕ → List ℕ
store_if regs on a v = pick on (store_of regs a.0 v) regs

-- ADD, ADC, SUB, SBC, OR, AND, XOR; TCM, TM and CP, which store nothing
unfoldable pub binary_of : Alu → Operand → Operand → FlagSet → List ℕ → List ℕ → RomAddr → Executed
binary_of op d s n regs rec pc =
    let p = place_of regs rec d in
    let q = fetch_of regs rec s in
    let r = operate op (load_of regs rec p.addr.0) q.value (carry_before regs) in
    record { regs = with_flags (store_if regs (stores op) p.addr r.value) n r.flags; next = goes_on (p.ok && q.ok) pc }

-- INC, DEC, COM, CLR, RL, RLC, RR, RRC, SRA
unfoldable pub modify_of : Unary → Operand → FlagSet → List ℕ → List ℕ → RomAddr → Executed
modify_of op d n regs rec pc =
    let p = place_of regs rec d in
    let r = modify op (load_of regs rec p.addr.0) (carry_before regs) in
    record { regs = with_flags (store_of regs p.addr.0 r.value) n r.flags; next = goes_on p.ok pc }

-- LD
unfoldable pub load_into : Operand → Operand → List ℕ → List ℕ → RomAddr → Executed
load_into d s regs rec pc =
    let p = place_of regs rec d in
    let q = fetch_of regs rec s in
    record { regs = store_of regs p.addr.0 q.value; next = goes_on (p.ok && q.ok) pc }

-- PUSH: SP is lowered, then the operand is read
unfoldable pub push_operand : Operand → List ℕ → List ℕ → RomAddr → Executed
push_operand s regs rec pc =
    let low = lowered regs in
    let q = fetch_of low rec s in
    let t = store_top low q.value in
    record { regs = t.regs; next = goes_on (q.ok && t.ok) pc }

-- POP: the byte where SP points is stored, then SP is raised
unfoldable pub pop_operand : Operand → List ℕ → List ℕ → RomAddr → Executed
pop_operand d regs rec pc =
    let p = place_of regs rec d in
    record {
      regs = raised (store_of regs p.addr.0 (load_of regs rec (sp_of regs))) 1;
      next = goes_on (p.ok && mapped_of (sp_of regs)) pc;
    }

-- the address that LDC reads: the pair with its offset, -128 to 127 or 16 bits, modulo 65536; or direct
unfoldable pub code_address : CodeAddress → List ℕ → List ℕ → ℕ
code_address (Direct a) regs rec = a.0
code_address (Short p x) regs rec = displaced (word_at regs rec p.0) x
code_address (Long p x) regs rec = (word_at regs rec p.0 + x) % 65536

-- refused by 14 outside ROM
abbrev pub in_rom : List ℕ → ℕ → RomAddr → Next
in_rom image a pc = leaves pc Running (pick (ltb a (length image)) 0 14)

-- LDC
unfoldable pub load_code_of : RegAddr → CodeAddress → List ℕ → List ℕ → List ℕ → RomAddr → Executed
load_code_of d c image regs rec pc =
    let a = code_address c regs rec in
    record { regs = store_of regs d.0 (get_or image a 0); next = in_rom image a pc }

-- a pair counts up or down modulo 65536
unfoldable pub stepped_pair : List ℕ → List ℕ → ℕ → Bool → List ℕ
stepped_pair regs rec p up =
    let w = (word_at regs rec p + pick up 1 65535) % 65536 in
    store_of (store_of regs p (w / 256)) ((p + 1) % 256) (w % 256)

-- LDCI, LDCD: the destination is loaded, then the pair is stepped as it then is
unfoldable pub load_code_step_of : RegAddr → RegAddr → Bool → List ℕ → List ℕ → List ℕ → RomAddr → Executed
load_code_step_of d p up image regs rec pc =
    let a = word_at regs rec p.0 in
    record { regs = stepped_pair (store_of regs d.0 (get_or image a 0)) rec p.0 up; next = in_rom image a pc }

-- JP, JR: the condition of FLAGS decides
unfoldable pub jump_of : ℕ → RomAddr → List ℕ → RomAddr → Executed
jump_of cc to regs pc = record { regs = regs; next = leaves (pick (condition cc (get_or regs flags_cell 0)) to pc) Running 0 }

unfoldable pub jump_pair_of : RegAddr → List ℕ → List ℕ → Executed
jump_pair_of p regs rec = record { regs = regs; next = goes_on (word_mapped p.0) (rom_addr (word_at regs rec p.0)) }

-- CALL: the address behind it is pushed
unfoldable pub call_of : RomAddr → List ℕ → RomAddr → Executed
call_of to regs pc =
    let t = push_address regs pc in
    record { regs = t.regs; next = goes_on t.ok to }

-- CALL through a pair, which is read after the pushes
unfoldable pub call_pair_of : RegAddr → List ℕ → List ℕ → RomAddr → Executed
call_pair_of p regs rec pc =
    let t = push_address regs pc in
    record { regs = t.regs; next = goes_on (t.ok && word_mapped p.0) (rom_addr (word_at t.regs rec p.0)) }

-- RET: high half from @SP, low half from @(SP + 1), SP + 2
unfoldable pub return_of : List ℕ → List ℕ → Executed
return_of regs rec =
    record { regs = raised regs 2; next = goes_on (word_mapped (sp_of regs)) (rom_addr (word_at regs rec (sp_of regs))) }

-- IRET: the flags that it names, all four, from @SP into FLAGS, SP + 1; then as RET; then SYM.2 is 1
unfoldable pub interrupt_return_of : FlagSet → List ℕ → List ℕ → Executed
interrupt_return_of n regs rec =
    let r = raised (with_flags regs n (load_of regs rec (sp_of regs))) 1 in
    let t = return_of r rec in
    record { regs = set_interrupts_of t.regs true; next = goes_on (mapped_of (sp_of regs) && word_mapped (sp_of r)) t.next.pc }

-- C behind RCF, SCF, CCF (their pages): 0, 1, its opposite
unfoldable pub carry_changed : CarryChange → Bool → Bool
carry_changed Reset c = false
carry_changed Set c = true
carry_changed Complement c = not c

unfoldable pub carry_of : CarryChange → FlagSet → List ℕ → RomAddr → Executed
carry_of change n regs pc =
    record { regs = with_flags regs n (flags_byte (carry_changed change (carry_before regs)) false false false); next = goes_on true pc }

-- STOP waits where STOPCON is A5H, else it loads 0100H
unfoldable pub stop_of : List ℕ → RomAddr → Executed
stop_of regs pc =
    record { regs = regs; next = pick (eqb (get_or regs stopcon_cell 0) 0xA5) (leaves pc Stopped 0) (leaves (rom_addr 0x100) Running 0) }

-- one instruction that names the flags n; pc is the address behind it
unfoldable pub execute_of : Action → FlagSet → List ℕ → List ℕ → List ℕ → RomAddr → Executed
execute_of (Action.Binary op d s) n image regs rec pc = binary_of op d s n regs rec pc
execute_of (Action.Modify op d) n image regs rec pc = modify_of op d n regs rec pc
execute_of (Action.Load d s) n image regs rec pc = load_into d s regs rec pc
execute_of (Action.Push s) n image regs rec pc = push_operand s regs rec pc
execute_of (Action.Pop d) n image regs rec pc = pop_operand d regs rec pc
execute_of (Action.LoadCode d c) n image regs rec pc = load_code_of d c image regs rec pc
execute_of (Action.LoadCodeStep d p up) n image regs rec pc = load_code_step_of d p up image regs rec pc
execute_of Action.External n image regs rec pc = record { regs = regs; next = leaves pc Running 14 }
execute_of (Action.Jump cc to) n image regs rec pc = jump_of cc to regs pc
execute_of (Action.JumpPair p) n image regs rec pc = jump_pair_of p regs rec
execute_of (Action.Call to) n image regs rec pc = call_of to regs pc
execute_of (Action.CallPair p) n image regs rec pc = call_pair_of p regs rec pc
execute_of Action.Return n image regs rec pc = return_of regs rec
execute_of Action.InterruptReturn n image regs rec pc = interrupt_return_of n regs rec
execute_of (Action.Carry change) n image regs rec pc = carry_of change n regs pc
execute_of (Action.Interrupts on) n image regs rec pc = record { regs = set_interrupts_of regs on; next = goes_on true pc }
execute_of Action.Idle n image regs rec pc = record { regs = regs; next = leaves pc Idle 0 }
execute_of Action.Stop n image regs rec pc = stop_of regs pc
execute_of Action.Nop n image regs rec pc = record { regs = regs; next = goes_on true pc }
