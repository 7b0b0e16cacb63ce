-- An instruction with its summary and the address behind it, as the checker's code holds it.
-- Assumes nothing.
use Rattle.std.specs.Prelude.{ℕ, ◌+◌, ◌%◌, List}
use Rattle.base.specs.Addresses.{rom_addr}
use Rattle.base.specs.Outcome.{Outcome}
use Rattle.isa.specs.declared.FlagSet.{FlagSet}
use Rattle.isa.specs.declared.Instruction.{Instruction}
use Rattle.decode.specs.Decode.{decode_at}
use Rattle.certificate.specs.declared.Range.{Range}
use Rattle.certificate.specs.declared.CodeAccess.{CodeAccess}
use Rattle.certificate.specs.Layout.{Certificate}
use Rattle.certificate.specs.Summaries.{forbidden}
use Rattle.safety.specs.CodeRange.{load_range}
use Rattle.safety.specs.Verdicts.{summary_from, size_from}
use Rattle.located.specs.declared.Located.{Located}

-- where the decoder refuses
abbrev pub none_at : ℕ → Located
none_at a = record { summary = forbidden; next = rom_addr ((a + 1) % 65536) }

-- from what the decoder answers at a: as `summary_at` and `next_at`
unfoldable pub located_in : (CodeAccess → Range) → Outcome (Instruction × ℕ × FlagSet) → ℕ → Located
located_in load d a = record { summary = summary_from load d a; next = rom_addr ((a + size_from d) % 65536) }

abbrev pub located_at : Certificate → List ℕ → ℕ → Located
located_at C image a = located_in (load_range C image a) (decode_at image a) a
