-- Image P in the customer's words: its machine after some records, and the instruction that adds.
-- Assumes nothing.
use Rattle.std.specs.Prelude.{Bool, true, ◌&&◌, List, [], ◌∷◌, ℕ, zero, suc, ◌+◌, ltb}
use Rattle.base.specs.Addresses.{reg_addr}
use Rattle.base.specs.declared.Profile.TheVariants.{Rom4K}
use Rattle.base.specs.Parts.{Part, part_of}
use Rattle.isa.specs.declared.Alu.{Alu}
use Rattle.action.specs.declared.Operand.TheVariants.{Register, Indirect}
use Rattle.action.specs.declared.Action.{Action}
use Rattle.semantics.specs.Run.{record_at}
use Rattle.certificate.specs.Layout.{certificate_of}
use Rattle.safety.specs.Statement.{Monitored, monitor_step}
use Rattle.logger_cases.specs.Program.{image_with, certificate_with}

-- 01's part, image P and its certificate
abbrev pub part : Part
part = part_of Rom4K

abbrev pub image : List ℕ
image = image_with 0x7B

abbrev pub certificate : List ℕ
certificate = certificate_with 364 0xA0

-- a list of bytes
abbrev pub all_bytes : List ℕ → Bool
all_bytes [] = true
all_bytes (x ∷ xs) = ltb x 256 && all_bytes xs

-- the machine with its open routines after k records from record i on
abbrev pub after : ℕ → List ℕ → ℕ → Monitored → Monitored
after zero schedule i m = m
after (suc k) schedule i m = after k schedule (i + 1) (monitor_step part (certificate_of certificate) image m (record_at schedule i))

-- ADD R3,@R2, at 0122H
abbrev pub add_gauge : Action
add_gauge = Action.Binary Alu.Add (Register (reg_addr 0xC3)) (Indirect (reg_addr 0xC2) 0)
