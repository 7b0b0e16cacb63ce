-- A walk whose every step is right is the machine's run: it does every record and does not stop.
-- Assumes nothing.
use Rattle.std.specs.Prelude.{◌≡◌, refl, List, length, get_or, drop}
use Prim.Native.Nat.{ℕ, zero, suc, ◌+◌, ◌*◌, ◌/◌, ◌<◌}
use native.Mathlib.Omega.{arith}
use Rattle.std.proofs.Common.{length-take, length-drop}
use Rattle.base.specs.Formula.{eqb_yes}
use Rattle.base.specs.Lengths.{record_length}
use Rattle.base.specs.Parts.{Part}
use Rattle.semantics.specs.declared.State.{State}
use Rattle.semantics.specs.Left.{Ran}
use Rattle.semantics.specs.Run.{record_at, run_from}
use Rattle.certificate.specs.Layout.{Certificate}
use Rattle.safety.proofs.ByteLaws.{take_bytes, drop_bytes}
use Rattle.safety.specs.Statement.{Event, Monitored, setup_for, stepped, acted_state, after_step, monitor_step, event_of, Walk}

pub record_bytes : (schedule : List ℕ) → ((i : ℕ) → get_or schedule i 0 < 256) → (k i : ℕ) → get_or (record_at schedule k) i 0 < 256
record_bytes schedule h k i =
    take_bytes record_length (drop (k * record_length) schedule) (drop_bytes (k * record_length) schedule h) i

pub record_length_lem : (schedule : List ℕ) (k : ℕ) → k < length schedule / record_length → length (record_at schedule k) ≡ record_length
record_length_lem schedule k h = simp (length-take, length-drop) (omega arith)

-- steps and number of a run
abbrev Done : Ran → ℕ → Type 0
Done r n = (r.steps ≡ n) × (r.stop ≡ 0)

module _ (P : Part) (C : Certificate) (image : List ℕ) where
  -- the monitored machine is the machine
  after_state : (n : ℕ) (e : Event) (m : Monitored) (a s' : State) → n ≡ 0 → (after_step C image n e m a s').state ≡ s'
  after_state zero e m a s' h = refl
  after_state (suc n) e m a s' h = absurd (omega arith)

  pub step_state : (m : Monitored) (rec : List ℕ) → (stepped P C image m rec).stop ≡ 0 → (monitor_step P C image m rec).state ≡ (stepped P C image m rec).state
  unfolding monitor_step
  step_state m rec h =
      after_state (stepped P C image m rec).stop (event_of image m.state rec) m (acted_state P C image m rec) (stepped P C image m rec).state h

  pub walk_run : (k : ℕ) (tables : ℕ → ℕ) (schedule : List ℕ) (i : ℕ) (m : Monitored) → Walk P C image k tables schedule i m
      → Done (run_from k (setup_for P C) image schedule i m.state) (i + k)
  unfolding run_from
  walk_run zero tables schedule i m w = (omega arith, refl)
  walk_run (suc k) tables schedule i m w =
      let rec = record_at schedule i in
      let g = w.0.goes in
      let next = walk_run k tables schedule (i + 1) (monitor_step P C image m rec) w.1 in
      let e : i + 1 + k ≡ i + suc k = omega arith in
      rw (eqb_yes g, run_from) (rw (← e, ← (step_state m rec g)) next)
