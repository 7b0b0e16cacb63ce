-- The state that `reset` gives is one that a reset leaves.
-- Assumes nothing.
use Rattle.std.specs.Prelude.{refl}
use Rattle.chip.specs.Reset.{reset_registers}
use Rattle.chip.specs.ResetLaws.{reset_length, reset_bytes}
use Rattle.semantics.specs.Reset.{reset_state, IsReset}

pub reset_is_reset : IsReset reset_state
unfolding reset_state reset_registers
reset_is_reset =
    record {
      size = reset_length;
      bytes = reset_bytes;
      control = λ a _ _ _ _ _ _. refl;
      flags = refl;
      counter = refl;
      mode = refl;
      cycles = refl;
    }
