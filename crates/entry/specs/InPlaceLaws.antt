-- What an instruction or an entry leaves beside the registers is what it leaves of the whole state.
-- Assumes nothing.
use Rattle.std.specs.Prelude.{◌≡◌, ℕ, Bool, true, false, List, ◌==◌, refl}
use Rattle.base.specs.Choice.{pick}
use Rattle.semantics.specs.Left.{Next}
use Rattle.semantics.specs.Step.{refused_act, finish_of}
use Rattle.entry.specs.InPlace.{Ended, state_with, finished, ended, acted, rebuilt}
use Rattle.entry.specs.declared.Core.{Core}

-- the act that ends in after where b holds, and else is refused
ends_by : (b : Bool) (saved regs : List ℕ) (s : Core) (after : Ended) (stop : ℕ) → (stop == 0) ≡ b → (after.stop == 0) ≡ true
    → rebuilt saved regs (pick b after (ended s stop false 0)) ≡ pick b (acted regs after) (refused_act (state_with saved s) stop)
ends_by true saved regs s after stop e o = rw o
ends_by false saved regs s after stop e o = rw e

pub finishes : (saved regs : List ℕ) (s : Core) (next : Next) (retired : Bool) (cost : ℕ)
    → rebuilt saved regs (finished s next retired cost) ≡ finish_of (state_with saved s) (record { regs = regs; next = next }) retired cost
unfolding finished finish_of
finishes saved regs s next retired cost = ends_by (next.stop == 0) saved regs s _ next.stop refl refl
