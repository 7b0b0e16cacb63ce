-- Each flag that a first byte names is changed by some step of that first byte without a store into FLAGS. One image, one RAM and one record do for all:
-- the bytes behind the first are 21H and 20H; RAM holds 20H in even cells and 31H in odd ones, so pointers stay in RAM; SP is 20H. FLAGS is 00H, F0H or 70H
-- before. antt computes the steps, for both parts, all first bytes and flags in one test. No interrupt is due, so it is the same whatever an entry costs.
-- Assumes nothing.
use Rattle.std.specs.Prelude.{ℕ, zero, suc, ◌-◌, ◌≡◌, ◌≢◌, Bool, not, ◌&&◌, ◌||◌, List, [], ◌∷◌, ◌++◌, eqb, length, get_or, replicate}
use Rattle.std.specs.Bool.{beq}
use Rattle.std.proofs.Math.Bool.{true, false}
use Rattle.base.specs.Addresses.{rom_addr}
use Rattle.base.specs.Cells.{Bytes}
use Rattle.base.specs.declared.Profile.{Profile}
use Rattle.base.specs.Lengths.{record_length}
use Rattle.base.specs.Parts.{part_of}
use Rattle.base.specs.Choice.{pick}
use Rattle.base.specs.Outcome.{Outcome}
use Rattle.base.specs.Outcome.Outcome.{value, refused}
use Rattle.isa.specs.declared.Flag.{Flag}
use Rattle.isa.specs.declared.FlagSet.{FlagSet}
use Rattle.isa.specs.declared.Instruction.{Instruction}
use Rattle.isa.specs.Flags.{flag_in}
use Rattle.isa.specs.Map.{names_of}
use Rattle.decode.specs.Decode.{decode_at}
use Rattle.chip.specs.Registers.{inputs_of}
use Rattle.action.specs.Action.{action_of}
use Rattle.semantics.specs.declared.Mode.TheVariants.{Running}
use Rattle.semantics.specs.declared.State.{State}
use Rattle.semantics.specs.Setup.{Setup}
use Rattle.semantics.specs.Step.{requested, behind, acted_of, step_of}
use Rattle.flag_names.specs.Stores.{flags_in, stores_flags}

-- a step of a machine that got K, whose instruction begins with this byte, completes, does not store into FLAGS, and changes the flag
pub record ChangedBy (K : Setup) (first : ℕ) (g : Flag) : Type 0 where
  pub image : List ℕ
  pub state : State
  pub rec : List ℕ
  pub sizes : (length image ≡ K.part.rom) × ((length state.regs ≡ 256) × (length rec ≡ record_length))
  pub bytes : Bytes image × (Bytes state.regs × Bytes rec)
  pub begins : get_or image state.pc.0 0 ≡ first
  pub instruction : Instruction × ℕ × FlagSet
  pub found : decode_at image state.pc.0 ≡ value instruction
  pub retired : (acted_of K image state rec).retired ≡ true
  pub goes : (step_of K image state rec).stop ≡ 0
  pub elsewhere :
      stores_flags (action_of instruction.0 (behind state.pc instruction.1)) (requested state rec) (inputs_of K.part.grounds rec)
      (behind state.pc instruction.1)
      ≡ false
  pub changes : flag_in g (flags_in (step_of K image state rec).state.regs) ≢ flag_in g (flags_in state.regs)

unfoldable pub image_of : ℕ → ℕ → List ℕ
image_of rom first = first ∷ 0x21 ∷ replicate (rom - 2) 0x20

-- n even cells, each with the odd one behind it
unfoldable pub alternating : ℕ → List ℕ
alternating zero = []
alternating (suc n) = 0x20 ∷ 0x31 ∷ alternating n

-- RAM up to CFH; FLAGS is at D5H, SP at D9H
unfoldable pub registers_with : ℕ → List ℕ
registers_with flags = alternating 104 ++ (0 ∷ 0 ∷ 0 ∷ 0 ∷ 0 ∷ flags ∷ 0 ∷ 0 ∷ 0 ∷ 0x20 ∷ replicate 38 0)

unfoldable pub state_with : ℕ → State
state_with flags = record { regs = registers_with flags; pc = rom_addr 0; mode = Running; cycles = 0 }

unfoldable pub no_requests : List ℕ
no_requests = replicate 8 0

-- what was decoded does not store into FLAGS, on a part that grounds A/D inputs or not
unfoldable pub avoids : Bool → State → Outcome (Instruction × ℕ × FlagSet) → Bool
avoids grounds s (value d) =
    not (stores_flags (action_of d.0 (behind s.pc d.1)) (requested s no_requests) (inputs_of grounds no_requests) (behind s.pc d.1))
avoids grounds s (refused n) = false

module _ (cost : ℕ) where
  abbrev pub setup_on : Profile → Setup
  setup_on p = record { part = part_of p; entry_cost = cost }

  -- the step from FLAGS f changes the flag, and so on
  unfoldable pub tells : Profile → ℕ → Flag → ℕ → Bool
  tells p first g f =
      let s = state_with f in
      let image = image_of (part_of p).rom first in
      let a = acted_of (setup_on p) image s no_requests in
      not (beq (flag_in g (flags_in a.state.regs)) (flag_in g f))
      && (a.retired && (eqb a.stop 0 && avoids (part_of p).grounds s (decode_at image 0)))

  -- a flag that is named is changed from one of these
  unfoldable pub witnessed : Profile → ℕ → Flag → Bool
  witnessed p first g = pick (flag_in g (names_of first).0) (tells p first g 0 || (tells p first g 0xF0 || tells p first g 0x70)) true
