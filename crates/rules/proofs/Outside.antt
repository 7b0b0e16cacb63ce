-- Past FFH no register is mapped.
-- Assumes nothing.
use mathlib.Core.Path.{◌≡◌, refl}
use mathlib.Core.Bool.{false}
use Rattle.chip.specs.Registers.{mapped_of}

pub mapped_outside : mapped_of 256 ≡ false
unfolding mapped_of
mapped_outside = refl
