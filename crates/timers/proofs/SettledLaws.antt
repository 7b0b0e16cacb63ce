-- Laws of the timers in the registers.
-- Assumes nothing.
use Rattle.std.specs.Prelude.{ℕ, ◌+◌, ◌*◌, ◌/◌, ◌%◌, ◌<◌, ◌≡◌, ◌≢◌, Bool, true, not, ◌||◌, List, set, length, eqb}
use Rattle.std.proofs.Math.Path.{refl, sym}
use Rattle.std.proofs.Common.{◌∙◌, length-set, get_or-set_same}
use Rattle.std.proofs.Math.Bool.{false}
use Rattle.std.proofs.lemmas.Bool.{false≢true}
use native.Mathlib.Omega.{arith}
use Rattle.std.proofs.Math.ListN.{get_or}
use Rattle.std.proofs.Math.Seq.{set-get_or, get_or-set_other}
use Rattle.std.specs.Int.Bits.{bit_or}
use Rattle.std.proofs.lemmas.Nat.{or_lt}
use borrow.Author.Tests.{eq-eqb, ne_eqb, eqb-true, eqb-false}
use Rattle.base.specs.Cells.{Bytes, set_cells}
use Rattle.base.specs.Choice.{pick}
use Rattle.base.specs.ChoiceLaws.{pick_has}
use Rattle.timers.specs.declared.Before.{Before}
use Rattle.timers.specs.declared.Timers.{Timers}
use Rattle.timers.specs.Periods.{periods_of, advanced}
use Rattle.timers.specs.Counting.{ticks}
use Rattle.timers.specs.Dividing.{t0_passes}
use Rattle.timers.specs.Closed.{passed_of}
use Rattle.timers.proofs.ClosedLaws.{periods_closed, periods_quiet}
use Rattle.timers.specs.Settled.{held, timers_after, with_count, registers_with}
use Rattle.timers.proofs.Laws.{counts_byte}

-- neither acts
pub neither_acts : (a b h : ℕ) → (not (eqb a b) || eqb h 1) ≡ false → (a ≡ b) × (h ≢ 1)
neither_acts a b h e = go (eqb a b) (eqb h 1) refl refl e
  where
    go : (x y : Bool) → eqb a b ≡ x → eqb h 1 ≡ y → (not x || y) ≡ false → (a ≡ b) × (h ≢ 1)
    go true false q r e = (eqb-true a b q, eqb-false h 1 r)
    go true true q r e = absurd (false≢true (sym e))
    go false y q r e = absurd (false≢true (sym e))

-- while T0 is not held and nothing is cleared, T0 ticks as often as its multiple is passed
module _ (before : Before) (regs : List ℕ) (divider cycles : ℕ) (acts : get_or regs 0xDC 0 % 4 ≡ before.btcon % 4) (free : get_or regs 0xD2 0 / 8 % 2 ≢ 1) where
  same_bit : get_or regs 0xDC 0 % 2 ≡ before.btcon % 2
  same_bit = omega arith

  pub running_timers : timers_after before regs divider cycles
      ≡ record {
        divider = (passed_of before divider cycles).end % 4096;
        t0 = ticks before.t0data (passed_of before divider cycles).ticks (record { count = get_or regs 0xD0 0; matched = false });
      }
  unfolding timers_after advanced
  running_timers =
      simp (eq-eqb _ _ same_bit, ne_eqb _ _ free) (periods_closed before false divider (get_or regs 0xD0 0) (cycles * periods_of before.clkcon))

  -- BTCON stays
  pub running_registers : (t : Timers) → with_count regs t.t0 ≡ registers_with before regs t
  unfolding registers_with
  running_registers t =
      let l = with_count regs t.t0 in
      let z : get_or regs 0xDC 0 / 4 * 4 + before.btcon % 4 ≡ get_or l 0xDC 0 =
      let y : get_or regs 0xDC 0 / 4 * 4 + before.btcon % 4 ≡ get_or regs 0xDC 0 = omega arith in
      y ∙ sym (get_or-set_other (set regs 0xD0 t.t0.count) 0xD2 0xDC _ 0 (λ e. omega arith) ∙ get_or-set_other regs 0xD0 0xDC t.t0.count 0 (λ e. omega arith)) in
      sym (rw z (set-get_or l 0xDC 0))

  -- without a tick the registers stay
  pub quiet_timers : (passed_of before divider cycles).ticks ≡ 0
      → (regs ≡ registers_with before regs (timers_after before regs divider cycles))
      × ((passed_of before divider cycles).end ≡ (timers_after before regs divider cycles).divider)
  unfolding timers_after registers_with advanced
  quiet_timers none =
      let n = cycles * periods_of before.clkcon in
      let t = t0_passes before.t0con (divider % 4096) n in
      let z : get_or regs 0xDC 0 / 4 * 4 + before.btcon % 4 ≡ get_or regs 0xDC 0 = omega arith in
      let p = periods_quiet before false divider (get_or regs 0xD0 0) n (omega arith) in
      rw (eq-eqb _ _ same_bit, ne_eqb _ _ free, p, z) (rw (set-get_or regs 0xD0 0, set-get_or regs 0xD2 0, set-get_or regs 0xDC 0) refl, refl)

abbrev with0 : List ℕ → Timers → List ℕ
with0 regs t = set regs 0xD0 t.t0.count

abbrev t0con : List ℕ → Timers → ℕ
t0con regs t = pick t.t0.matched (bit_or (get_or regs 0xD2 0) 1) (get_or regs 0xD2 0)

abbrev with2 : List ℕ → Timers → List ℕ
with2 regs t = set (with0 regs t) 0xD2 (t0con regs t)

abbrev btcon : Before → List ℕ → ℕ
btcon before regs = get_or regs 0xDC 0 / 4 * 4 + before.btcon % 4

abbrev byte : ℕ → ℕ → Type 0
byte a x = x < 256

-- the timers touch D0H, D2H and DCH alone
pub settled_length : (before : Before) (regs : List ℕ) (t : Timers) → length (registers_with before regs t) ≡ length regs
unfolding registers_with
settled_length before regs t = simp length-set

pub settled_other : (before : Before) (regs : List ℕ) (t : Timers) (a : ℕ) → a ≢ 0xD0 → a ≢ 0xD2 → a ≢ 0xDC → get_or (registers_with before regs t) a 0 ≡ get_or regs a 0
unfolding registers_with
settled_other before regs t a h0 h2 hc =
    get_or-set_other (with2 regs t) 0xDC a (btcon before regs) 0 hc ∙ get_or-set_other (with0 regs t) 0xD2 a (t0con regs t) 0 h2
    ∙ get_or-set_other regs 0xD0 a t.t0.count 0 h0

-- in T0CON pending is only ever set: T0CON stays, or gets bit 0
pub settled_pending : (before : Before) (regs : List ℕ) (t : Timers) → length regs ≡ 256
    → get_or (registers_with before regs t) 0xD2 0 ≡ pick t.t0.matched (bit_or (get_or regs 0xD2 0) 1) (get_or regs 0xD2 0)
unfolding registers_with
settled_pending before regs t l =
    get_or-set_other (with2 regs t) 0xDC 0xD2 (btcon before regs) 0 (λ e. omega arith)
    ∙ get_or-set_same (with0 regs t) 0xD2 (t0con regs t) 0 (rw (length-set regs 0xD0 t.t0.count, l) (omega arith))

-- the count is where it is read
pub settled_count : (before : Before) (regs : List ℕ) (t : Timers) → length regs ≡ 256 → get_or (registers_with before regs t) 0xD0 0 ≡ t.t0.count
unfolding registers_with
settled_count before regs t l =
    get_or-set_other (with2 regs t) 0xDC 0xD0 (btcon before regs) 0 (λ e. omega arith)
    ∙ get_or-set_other (with0 regs t) 0xD2 0xD0 (t0con regs t) 0 (λ e. omega arith)
    ∙ get_or-set_same regs 0xD0 t.t0.count 0 (rw l (omega arith))

-- bytes stay bytes
pub settled_bytes : (before : Before) (regs : List ℕ) (t : Timers) → t.t0.count < 256 → Bytes regs → Bytes (registers_with before regs t)
unfolding registers_with
settled_bytes before regs t c h =
    set_cells byte (with2 regs t) 0xDC (btcon before regs)
    (set_cells byte (with0 regs t) 0xD2 (t0con regs t) (set_cells byte regs 0xD0 t.t0.count h c)
    (pick_has (λ (x : ℕ). x < 256) t.t0.matched _ _ (λ _. or_lt 8 (get_or regs 0xD2 0) 1 (h 0xD2) (omega arith)) (λ _. h 0xD2)))
    (omega (arith, h 0xDC))

-- the count behind a step is a byte
pub count_stays_byte : (before : Before) (regs : List ℕ) (divider cycles : ℕ) → get_or regs 0xD0 0 < 256
    → (timers_after before regs divider cycles).t0.count < 256
unfolding timers_after advanced
count_stays_byte before regs divider cycles h =
    counts_byte before (held regs) (cycles * periods_of before.clkcon) _
    (pick_has (λ (x : ℕ). x < 256) (held regs) 0 (get_or regs 0xD0 0) (λ _. omega arith) (λ _. h))
