-- Checker rules 20 to 27 of 01 as formulas: `decide` of a rule is what the checker computes, `Holds` what it means. A rule that names ROM's end
-- takes the bytes of ROM, rom (request 04).
-- Assumes nothing.
use Rattle.std.specs.Prelude.{ℕ, ◌+◌, ◌-◌, ◌*◌, Bool, true, false, not, ◌&&◌, ◌||◌, List, [], ◌∷◌, get_or, eqb, ltb, leb}
use Rattle.base.specs.Addresses.{flags_cell, sp_cell, sym_cell}
use Rattle.base.specs.Choice.{pick, choose}
use Rattle.base.specs.Formula.{Formula, always, never, le, lt, eq, test, neg, ◌&◌, ◌‖◌, ◌⇒◌, forall_below}
use Rattle.base.specs.Lengths.{largest_rom, greatest_entry_cost}
use Rattle.chip.specs.Registers.{mapped_of}
use Rattle.certificate.specs.declared.NewValue.{NewValue}
use Rattle.certificate.specs.declared.NewValue.TheVariants.{Number, OneMore, OneLess, Within, CopyOf, Unknown}
use Rattle.certificate.specs.declared.Write.{Write}
use Rattle.certificate.specs.declared.Access.{Access}
use Rattle.certificate.specs.declared.CodeAccess.{CodeAccess}
use Rattle.certificate.specs.declared.FlagEffect.{FlagEffect}
use Rattle.certificate.specs.declared.FlagEffect.TheVariants.{Kept, Changed, Compared}
use Rattle.certificate.specs.declared.StackEffect.{StackEffect}
use Rattle.certificate.specs.declared.StackEffect.TheVariants.{Same, Push, Pop, Load}
use Rattle.certificate.specs.declared.Control.{Control}
use Rattle.certificate.specs.declared.Control.TheVariants.{Enable, Disable, Wait}
use Rattle.certificate.specs.declared.Flow.{Flow}
use Rattle.certificate.specs.declared.Flow.TheVariants.{Step, Call, Return, InterruptReturn, Forbidden}
use Rattle.certificate.specs.declared.Summary.{Summary}
use Rattle.certificate.specs.Layout.{Certificate}

-- cell FFH is none
abbrev pub no_cell : ℕ
no_cell = 0xFF

abbrev pub present : ℕ → Formula
present x = neg (eq x no_cell)

-- where RAM ends
abbrev pub ram_end : ℕ
ram_end = 0xD0

-- depth 255: SP not yet loaded
abbrev pub unloaded : ℕ
unloaded = 255

-- an edge of the control flow: its condition, whether it is the one on which the condition holds, and where it goes
pub record Edge : Type 0 where
  pub condition : ℕ
  pub outcome : Bool
  pub to : ℕ

-- the condition that always holds
abbrev pub plain_edge : ℕ → Edge
plain_edge t = record { condition = 8; outcome = true; to = t }

-- p on the edge where the condition holds, its opposite on the other
abbrev pub on_edge : Bool → Formula → Formula
on_edge true p = p
on_edge false p = neg p

-- of a cell that was compared with k: the values that meet C, NC, Z, NZ, ULE, UGT, unsigned
abbrev pub told : Bool → ℕ → ℕ → List (ℕ × Formula)
told o v k =
    (7, on_edge o (lt v k)) ∷ (15, on_edge o (le k v)) ∷ (6, on_edge o (eq v k)) ∷ (14, on_edge o (neg (eq v k)))
    ∷ (3, on_edge o (le v k)) ∷ (11, on_edge o (lt k v)) ∷ []

-- any other condition says nothing
unfoldable pub meets : ℕ → Bool → ℕ → ℕ → Formula
meets cc o v k = choose cc (told o v k) always

-- what a write may leave in a cell: nothing new, or a value
pub data Change : Type 0 where
  unchanged : Change
  changed : NewValue → Change

-- Parts of the rules that need no certificate --

-- rule 22, on a side: EI or IDLE on side 2
abbrev pub control_allowed : ℕ → Control → Formula
control_allowed side Control.Nothing = always
control_allowed side Enable = eq side 1
control_allowed side Disable = always
control_allowed side Wait = eq side 1

-- rule 22, in routine n: undefined or cut off, JP/CALL through a register, LDE, writing LDC, STOP; RET outside 3 to 63, IRET outside 2
abbrev pub flow_allowed : ℕ → Flow → Formula
flow_allowed n (Step cc to) = always
flow_allowed n (Call to) = always
flow_allowed n Return = le 3 n & le n 63
flow_allowed n InterruptReturn = eq n 2
flow_allowed n Forbidden = never

abbrev pub mapped : ℕ → Formula
mapped x = test (mapped_of x)

abbrev pub direct_read : Access → Formula
direct_read Access.Nothing = always
direct_read (Access.Register x) = mapped x.0
direct_read (Access.Pointed p o) = always

-- rule 23: of the writes to D9H only `LD SP,#T` at depth 255 is excepted: its class excludes every side
abbrev pub stack_load : ℕ → ℕ → StackEffect → Formula
stack_load depth top Same = always
stack_load depth top Push = always
stack_load depth top Pop = always
stack_load depth top (Load n) = eq depth unloaded & eq n top

-- SP is loaded at this depth
abbrev pub loaded : ℕ → Formula
loaded depth = neg (eq depth unloaded)

-- depth as the instruction makes it
abbrev pub depth_after : StackEffect → ℕ → ℕ
depth_after Same d = d
depth_after Push d = d + 1
depth_after Pop d = d - 1
depth_after (Load n) d = 0

-- rule 25: at depth 255 PUSH, POP; POP at 0; depth after PUSH above own need
abbrev pub stack_rule : ℕ → ℕ → StackEffect → Formula
stack_rule depth need Same = always
stack_rule depth need Push = loaded depth & le (depth + 1) need
stack_rule depth need Pop = loaded depth & lt 0 depth
stack_rule depth need (Load n) = always

-- rule 25: at depth 255 EI
abbrev pub enable_rule : ℕ → Control → Formula
enable_rule depth Control.Nothing = always
enable_rule depth Enable = loaded depth
enable_rule depth Disable = always
enable_rule depth Wait = always

-- a rule on each edge: behind the instruction unless the condition always holds, to the jump's target unless it never does
abbrev pub edges : Flow → ℕ → (Edge → Formula) → Formula
edges (Step cc to) next rule =
    (neg (eq cc 8) ⇒ rule (record { condition = cc; outcome = false; to = next }))
    & (neg (eq cc 0) ⇒ rule (record { condition = cc; outcome = true; to = to.0 }))
edges (Call to) next rule = always
edges Return next rule = always
edges InterruptReturn next rule = always
edges Forbidden next rule = always

-- a rule on a CALL's target
abbrev pub calls : Flow → (ℕ → Formula) → Formula
calls (Step cc to) rule = always
calls (Call to) rule = rule to.0
calls Return rule = always
calls InterruptReturn rule = always
calls Forbidden rule = always

-- a rule on returns
abbrev pub ends : Flow → Formula → Formula
ends (Step cc to) rule = always
ends (Call to) rule = always
ends Return rule = rule
ends InterruptReturn rule = rule
ends Forbidden rule = always

-- l to h holds every byte
abbrev pub full_range : ℕ → ℕ → Formula
full_range l h = eq l 0 & le 255 h

abbrev pub is_unchanged : Change → Formula
is_unchanged unchanged = always
is_unchanged (changed v) = never

module _ (C : Certificate) where
  -- the range of a cell at an address: its claim's, else 0 to 255; of FFH, which marks no claim, it says nothing
  unfoldable pub low : ℕ → ℕ → ℕ
  low a x = pick (eqb x (C.first_cell a)) (C.first_low a) (pick (eqb x (C.second_cell a)) (C.second_low a) 0)

  unfoldable pub high : ℕ → ℕ → ℕ
  high a x = pick (eqb x (C.first_cell a)) (C.first_high a) (pick (eqb x (C.second_cell a)) (C.second_high a) 255)

  unfoldable pub claimed : ℕ → ℕ → Formula
  claimed a x = present x & (eq x (C.first_cell a) ‖ eq x (C.second_cell a))

  -- B, plus M × (hi - c) going up or M × (c - lo) going down, c being the first claimed cell
  unfoldable pub bound_at : ℕ → ℕ → ℕ
  bound_at a c =
      C.base a
      + C.slope a * pick (eqb (C.direction a) 1) (C.first_high a - c) (pick (eqb (C.direction a) 2) (c - C.first_low a) 0)

  -- its greatest value over the claim
  unfoldable pub worst : ℕ → ℕ
  worst a = C.base a + pick (eqb (C.direction a) 0) 0 (C.slope a * (C.first_high a - C.first_low a))

  -- Rule 20 --

  -- a row is used if it is not all zero
  unfoldable pub used : ℕ → Formula
  used n = neg (eq (C.start n) 0 & eq (C.side n) 0 & eq (C.need n) 0 & eq (C.bound n) 0)

  abbrev in_stack : ℕ → Formula
  in_stack x = le C.floor x & lt x C.top

  -- class <= 3; class and table 0 for stack bytes, D5H, D9H, DFH and unmapped
  unfoldable pub cell_rule : ℕ → Formula
  cell_rule x =
      le (C.class x) 3
      & (in_stack x ‖ eq x flags_cell ‖ eq x sp_cell ‖ eq x sym_cell ‖ neg (test (mapped_of x)) ⇒ eq (C.class x) 0 & eq (C.table x) 0)

  -- claimed and compared cells are RAM outside the stack, of the side's own class
  unfoldable pub claimable : ℕ → ℕ → Formula
  claimable a x = lt x ram_end & neg (in_stack x) & eq (C.class x) (C.side (C.routine a))

  -- lo <= hi; of an absent claim the other bytes are 0
  unfoldable pub claim_rule : ℕ → ℕ → ℕ → ℕ → Formula
  claim_rule a x l h = (present x ⇒ le l h & claimable a x) & (eq x no_cell ⇒ eq l 0 & eq h 0)

  unfoldable pub compare_rule : ℕ → Formula
  compare_rule a =
      (present (C.compare_cell a) ⇒ claimable a (C.compare_cell a)) & (eq (C.compare_cell a) no_cell ⇒ eq (C.compare_number a) 0)

  -- no instruction starts here: all 14 bytes zero
  unfoldable pub empty_entry : ℕ → Formula
  empty_entry a =
      eq (C.depth a) 0 & eq (C.base a) 0 & eq (C.slope a) 0 & eq (C.direction a) 0
      & eq (C.first_cell a) 0 & eq (C.first_low a) 0 & eq (C.first_high a) 0
      & eq (C.second_cell a) 0 & eq (C.second_low a) 0 & eq (C.second_high a) 0
      & eq (C.compare_cell a) 0 & eq (C.compare_number a) 0

  -- entries name used routines, direction <= 2, M only with a direction and a direction only with a first claim, the two claims distinct,
  -- depth 255 only in main, main has B, M, direction 0
  unfoldable pub entry_rule : ℕ → Formula
  entry_rule a =
      lt (C.routine a) 64
      & used (C.routine a)
      & le (C.direction a) 2
      & (eq (C.direction a) 0 ⇒ eq (C.slope a) 0)
      & (neg (eq (C.direction a) 0) ⇒ present (C.first_cell a))
      & claim_rule a (C.first_cell a) (C.first_low a) (C.first_high a)
      & claim_rule a (C.second_cell a) (C.second_low a) (C.second_high a)
      & (present (C.first_cell a) ⇒ neg (eq (C.first_cell a) (C.second_cell a)))
      & compare_rule a
      & (eq (C.depth a) unloaded ⇒ eq (C.routine a) 1)
      & (eq (C.routine a) 1 ⇒ eq (C.base a) 0 & eq (C.slope a) 0 & eq (C.direction a) 0)

  -- an address with or without an entry; request 04: "allows no certificate entry past" ROM's end
  unfoldable pub address_rule : ℕ → ℕ → Formula
  address_rule rom a = (eq (C.routine a) 0 ⇒ empty_entry a) & (neg (eq (C.routine a) 0) ⇒ lt a rom & entry_rule a)

  -- every start has its own routine's entry, depth 0 (main 255)
  unfoldable pub start_rule : ℕ → ℕ → Formula
  start_rule rom n =
      used n
      ⇒ lt (C.start n) rom & eq (C.routine (C.start n)) n & eq (C.depth (C.start n)) (pick (eqb n 1) unloaded 0)
      & (eq (C.side n) 1 ‖ eq (C.side n) 2)

  -- without claims or compare
  unfoldable pub bare_rule : ℕ → Formula
  bare_rule a = eq (C.first_cell a) no_cell & eq (C.second_cell a) no_cell & eq (C.compare_cell a) no_cell

  -- F < T <= C0H; main starts at 0100H, side 1, bound 0; service starts at the vector, side 2; row 0 is zero; an entry's cycles are 0 to 63
  unfoldable pub rule20 : ℕ → List ℕ → Formula
  rule20 rom image =
      lt C.floor C.top
      & le C.top 0xC0
      & forall_below 256 cell_rule
      & neg (used 0)
      & eq (C.start 1) 0x100
      & eq (C.side 1) 1
      & eq (C.bound 1) 0
      & eq (C.start 2) (get_or image 0 0 * 256 + get_or image 1 0)
      & eq (C.side 2) 2
      & forall_below 64 (start_rule rom)
      & bare_rule (C.start 1)
      & bare_rule (C.start 2)
      & forall_below largest_rom (address_rule rom)
      & le C.entry_cost greatest_entry_cost

  -- What the rules at an address say of an instruction there: a its address, S its summary, next the address behind it --

  abbrev pub side_at : ℕ → ℕ
  side_at a = C.side (C.routine a)

  -- the routine that a CALL of t opens
  abbrev pub callee : ℕ → ℕ
  callee t = C.routine t

  -- Rule 22 --

  unfoldable pub rule22 : ℕ → Summary → Formula
  rule22 a S = control_allowed (side_at a) S.control & flow_allowed (C.routine a) S.flow

  -- Rule 21 --

  -- each successor is an entry of the same routine, n
  unfoldable pub successor : ℕ → ℕ → ℕ → Formula
  successor rom n t = lt t rom & eq (C.routine t) n

  -- CALL in routine n goes to the start of a greater number on the same side
  unfoldable pub call_target : ℕ → ℕ → ℕ → Formula
  call_target rom n t = lt t rom & lt n (callee t) & eq (C.start (callee t)) t & eq (C.side (callee t)) (C.side n)

  unfoldable pub rule21 : ℕ → ℕ → Summary → ℕ → Formula
  rule21 rom a S next =
      rule22 a S
      ⇒ edges S.flow next (λ e. successor rom (C.routine a) e.to)
      & calls S.flow (λ t. successor rom (C.routine a) next & call_target rom (C.routine a) t)

  -- Rule 23 --

  -- routine n may write x: the class includes the side, and the routine is not above the writer limit
  unfoldable pub writable : ℕ → ℕ → Formula
  writable n x = (eq (C.class x) (C.side n) ‖ eq (C.class x) 3) & le n (C.limit x)

  abbrev pub direct_write : ℕ → Write → Formula
  direct_write n Write.Nothing = always
  direct_write n (Write.Register x v) = mapped x.0 & writable n x.0
  direct_write n (Write.Pointed p o) = always
  direct_write n (Write.RegisterAndPair x q p) =
      mapped x.0 & writable n x.0 & mapped p.0 & writable n p.0 & mapped (p.0 + 1) & writable n (p.0 + 1)

  unfoldable pub rule23 : ℕ → Summary → Formula
  rule23 a S = direct_read S.first & direct_read S.second & direct_write (C.routine a) S.write & stack_load (C.depth a) C.top S.stack

  -- Rule 24 --

  -- every address that the pointer's claim, plus the offset, reaches lies in one nonzero table, and the rule holds there
  unfoldable pub reach : ℕ → ℕ → ℕ → (ℕ → Formula) → Formula
  reach a p o rule =
      claimed a p
      & lt (high a p + o) 256
      & neg (eq (C.table (low a p + o)) 0)
      & forall_below 256 (λ x. le (low a p + o) x & le x (high a p + o) ⇒ eq (C.table x) (C.table (low a p + o)) & rule x)

  abbrev pub pointed_read : ℕ → Access → Formula
  pointed_read a Access.Nothing = always
  pointed_read a (Access.Register x) = always
  pointed_read a (Access.Pointed p o) = reach a p.0 o (λ x. always)

  abbrev pub pointed_write : ℕ → Write → Formula
  pointed_write a Write.Nothing = always
  pointed_write a (Write.Register x v) = always
  pointed_write a (Write.Pointed p o) = reach a p.0 o (λ x. mapped x & writable (C.routine a) x)
  pointed_write a (Write.RegisterAndPair x q p) = always

  -- request 14: every address that the claims on both halves of the pair, with the offset unwrapped, let LDC reach lies in ROM. These two are the
  -- lowest and the highest of them. A high half without a claim counts as 0 to 255, and so reaches past ROM
  abbrev pub code_in_rom : ℕ → ℕ → CodeAccess → Formula
  code_in_rom rom a CodeAccess.Nothing = always
  code_in_rom rom a (CodeAccess.Direct t) = lt t.0 rom
  code_in_rom rom a (CodeAccess.Pair p up down) =
      claimed a p.0 & le down (low a p.0 * 256 + low a (p.0 + 1) + up)
      & lt (high a p.0 * 256 + high a (p.0 + 1) + up) (rom + down)

  -- by the test of what LDC reaches
  abbrev pub rule24_by : (ℕ → CodeAccess → Formula) → ℕ → Summary → Formula
  rule24_by in_rom a S = pointed_read a S.first & pointed_read a S.second & pointed_write a S.write & in_rom a S.code

  unfoldable pub rule24 : ℕ → ℕ → Summary → Formula
  rule24 rom a S = rule24_by (code_in_rom rom) a S

  -- Rule 25 --

  -- at CALL, depth 255, and depth + 2 + callee's need above own need
  unfoldable pub call_depth : ℕ → ℕ → ℕ → ℕ → Formula
  call_depth depth need next t = loaded depth & eq (C.depth next) depth & le (depth + 2 + C.need (callee t)) need

  -- at 0100H, need(1) + 3 + need(2) above T - F
  abbrev pub stack_fits : ℕ → Formula
  stack_fits a = eq a 0x100 ⇒ le (C.need 1 + 3 + C.need 2 + C.floor) C.top

  unfoldable pub rule25 : ℕ → Summary → ℕ → Formula
  rule25 a S next =
      stack_rule (C.depth a) (C.need (C.routine a)) S.stack
      & enable_rule (C.depth a) S.control
      & edges S.flow next (λ e. eq (C.depth e.to) (depth_after S.stack (C.depth a)))
      & calls S.flow (call_depth (C.depth a) (C.need (C.routine a)) next)
      & ends S.flow (eq (C.depth a) 0)
      & stack_fits a

  -- Rule 26 --

  -- what a write may leave in cell x
  abbrev pub change_of : ℕ → Write → ℕ → Change
  change_of a Write.Nothing x = unchanged
  change_of a (Write.Register y v) x = pick (eqb x y.0) (changed v) unchanged
  change_of a (Write.Pointed p o) x =
      pick (leb (low a p.0 + o) x && leb x (high a p.0 + o)) (changed Unknown) unchanged
  -- the pair counts as 0 to 255, and so does a destination that belongs to it
  change_of a (Write.RegisterAndPair y q p) x =
      pick (eqb x p.0 || eqb x (p.0 + 1)) (changed Unknown) (pick (eqb x y.0) (changed (Within q)) unchanged)

  -- the cell is compared, and claimed
  unfoldable pub narrowed : ℕ → ℕ → Formula
  narrowed a x = eq x (C.compare_cell a) & claimed a x

  -- value v of cell x is left on the edge
  unfoldable pub left : ℕ → Edge → ℕ → ℕ → Formula
  left a e x v =
      le (low a x) v & le v (high a x) & (narrowed a x ⇒ meets e.condition e.outcome v (C.compare_number a))

  -- some value of the compared and claimed cell is left; an edge with none is skipped
  unfoldable pub feasible : ℕ → Edge → Formula
  feasible a e = claimed a (C.compare_cell a) ⇒ neg (forall_below 256 (λ v. neg (left a e (C.compare_cell a) v)))

  -- the range l to h follows for cell x
  abbrev pub follows : ℕ → Edge → Change → ℕ → ℕ → ℕ → Formula
  follows a e unchanged x l h = forall_below 256 (λ v. left a e x v ⇒ le l v & le v h)
  follows a e (changed (Number n)) x l h = le l n & le n h
  follows a e (changed OneMore) x l h =
      (lt (high a x) 255 ⇒ le l (low a x + 1) & le (high a x + 1) h) & (le 255 (high a x) ⇒ full_range l h)
  follows a e (changed OneLess) x l h =
      (lt 0 (low a x) ⇒ le l (low a x - 1) & le (high a x - 1) h) & (eq (low a x) 0 ⇒ full_range l h)
  follows a e (changed (Within q)) x l h = le l q.least & le q.greatest h
  follows a e (changed (CopyOf y)) x l h = le l (low a y.0) & le (high a y.0) h
  follows a e (changed Unknown) x l h = full_range l h

  unfoldable pub claim_follows : ℕ → Edge → Write → ℕ → ℕ → ℕ → Formula
  claim_follows a e w x l h = present x ⇒ follows a e (change_of a w x) x l h

  abbrev pub claims_follow : ℕ → Edge → Write → Formula
  claims_follow a e w =
      claim_follows a e w (C.first_cell e.to) (C.first_low e.to) (C.first_high e.to)
      & claim_follows a e w (C.second_cell e.to) (C.second_low e.to) (C.second_high e.to)

  -- from its own CP, or from the same compare over an instruction that names no flag and cannot write its cell
  abbrev pub flags_follow : ℕ → Write → FlagEffect → ℕ → Formula
  flags_follow a w Kept t =
      eq (C.compare_cell t) (C.compare_cell a) & eq (C.compare_number t) (C.compare_number a)
      & is_unchanged (change_of a w (C.compare_cell t))
  flags_follow a w Changed t = never
  flags_follow a w (Compared x k) t = eq (C.compare_cell t) x.0 & eq (C.compare_number t) k

  unfoldable pub compare_follows : ℕ → Write → FlagEffect → ℕ → Formula
  compare_follows a w f t = present (C.compare_cell t) ⇒ flags_follow a w f t

  unfoldable pub edge26 : ℕ → Summary → Edge → Formula
  edge26 a S e = feasible a e ⇒ claims_follow a e S.write & compare_follows a S.write S.flags e.to

  -- after CALL a claim survives if the callee's number exceeds the writer limit
  unfoldable pub survives : ℕ → ℕ → ℕ → ℕ → ℕ → Formula
  survives a k x l h =
      present x
      ⇒ (lt (C.limit x) k ⇒ le l (low a x) & le (high a x) h) & (le k (C.limit x) ⇒ full_range l h)

  -- behind CALL, where a compare never holds, and at the start that it goes to; f is its flag effect
  unfoldable pub call26 : ℕ → FlagEffect → ℕ → ℕ → Formula
  call26 a f next t =
      survives a (callee t) (C.first_cell next) (C.first_low next) (C.first_high next)
      & survives a (callee t) (C.second_cell next) (C.second_low next) (C.second_high next)
      & eq (C.compare_cell next) no_cell
      & claims_follow a (plain_edge t) Write.Nothing
      & compare_follows a Write.Nothing f t

  unfoldable pub rule26 : ℕ → Summary → ℕ → Formula
  rule26 a S next = edges S.flow next (edge26 a S) & calls S.flow (call26 a S.flags next)

  -- Rule 27 --

  -- c is a value of the first claimed cell left on the edge; without a first claim there is one case
  unfoldable pub first_value : ℕ → Edge → ℕ → Formula
  first_value a e c = (present (C.first_cell a) ⇒ left a e (C.first_cell a) c) & (eq (C.first_cell a) no_cell ⇒ eq c 0)

  -- both have the same first cell
  unfoldable pub same_first : ℕ → ℕ → Bool
  same_first a t = eqb (C.first_cell t) (C.first_cell a) && not (eqb (C.first_cell a) no_cell)

  -- the successor's bound where c goes along if it is unwritten or stepped unwrapped by INC or DEC; else the successor's worst
  abbrev pub bound_along : Change → ℕ → ℕ → ℕ
  bound_along unchanged t c = bound_at t c
  bound_along (changed (Number n)) t c = worst t
  bound_along (changed OneMore) t c = pick (ltb c 255) (bound_at t (c + 1)) (worst t)
  bound_along (changed OneLess) t c = pick (ltb 0 c) (bound_at t (c - 1)) (worst t)
  bound_along (changed (Within q)) t c = worst t
  bound_along (changed (CopyOf y)) t c = worst t
  bound_along (changed Unknown) t c = worst t

  unfoldable pub bound_after : ℕ → Write → ℕ → ℕ → ℕ
  bound_after a w t c = pick (same_first a t) (bound_along (change_of a w (C.first_cell a)) t c) (worst t)

  -- the callee's bound, and behind CALL c goes along if no callee can write the cell
  unfoldable pub bound_after_call : ℕ → ℕ → ℕ → ℕ → ℕ
  bound_after_call a next t c =
      C.bound (callee t) + pick (same_first a next && ltb (C.limit (C.first_cell a)) (callee t)) (bound_at next c) (worst next)

  -- main is exempt
  abbrev pub exempt : ℕ → Formula
  exempt a = eq (C.routine a) 1

  -- for each c left on the edge: cost and what comes after it within the entry's bound
  unfoldable pub paid : ℕ → Edge → ℕ → (ℕ → ℕ) → Formula
  paid a e cost after = exempt a ‖ forall_below 256 (λ c. first_value a e c ⇒ le (cost + after c) (bound_at a c))

  unfoldable pub edge27 : ℕ → Summary → ℕ → Edge → Formula
  edge27 a S cost e = feasible a e ⇒ paid a e cost (bound_after a S.write e.to)

  -- the cycles that a routine has spent when its first instruction begins: the service's are those of the entry (request 03)
  abbrev pub opening_cost : ℕ → ℕ
  opening_cost n = pick (eqb n 2) C.entry_cost 0

  -- a row's bound below its start's worst and what opening costs, reported at the start
  unfoldable pub row_rule : ℕ → Formula
  row_rule a = exempt a ‖ (eq (C.start (C.routine a)) a ⇒ le (opening_cost (C.routine a) + worst a) (C.bound (C.routine a)))

  unfoldable pub rule27 : ℕ → Summary → ℕ → ℕ → Formula
  rule27 a S cost next =
      edges S.flow next (edge27 a S cost)
      & calls S.flow (λ t. paid a (plain_edge next) cost (bound_after_call a next t))
      & ends S.flow (paid a (plain_edge 0) cost (λ c. 0))
      & row_rule a
