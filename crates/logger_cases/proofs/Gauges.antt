-- Image P in the customer's words: on every run, whatever the interrupts do, the byte that the loop adds comes from registers 00H to 0FH.
-- Assumes nothing.
use Rattle.std.specs.Prelude.{◌≡◌, ◌≢◌, List, [], ◌∷◌, ℕ, zero, suc, ◌+◌, ◌/◌, ◌<◌, T, length, get_or}
use Rattle.std.proofs.Common.{sym, subst, ◌∙◌, ap, arith}
use Rattle.base.specs.declared.RomAddr.{RomAddr}
use Rattle.base.specs.Addresses.{reg_addr}
use Rattle.base.specs.Formula.{sound, of_true, test, lt, neg, eq, ◌&◌, ◌⇒◌, forall_below}
use Rattle.base.specs.Lengths.{largest_rom, record_length}
use Rattle.chip.specs.Registers.{inputs_of}
use Rattle.action.specs.declared.Operand.TheVariants.{Indirect}
use Rattle.semantics.specs.declared.State.{State}
use Rattle.semantics.specs.Operands.{place_of}
use Rattle.semantics.specs.Step.{requested}
use Rattle.semantics.specs.Run.{record_at}
use Rattle.semantics.specs.Reset.{IsReset}
use Rattle.certificate.specs.Layout.{Certificate, certificate_from, certificate_of}
use Rattle.safety.specs.Statement.{Event, executed, event_of, Monitored, acted_state, monitor_step, EventRight, StepRight, Walk, from_reset, Schedule, Demand3}
use Rattle.safety.proofs.Theorem.{demand3}
use Rattle.logger_cases.specs.Gathered.{gathered, up_to, certificate_bytes, certificate_is}
use Rattle.logger_cases.specs.Program.{image_for, entry, cell, row, certificate_for, ends, entry_length, cell_length_lem, row_length}
use Rattle.logger_cases.proofs.Cases.{accepted_p_lem}
use Rattle.logger_cases.specs.Gauges.{part, image, certificate, all_bytes, after, add_gauge}

bytes_of : (l : List ℕ) → T (all_bytes l) → (i : ℕ) → get_or l i 0 < 256
bytes_of [] t i = omega arith
bytes_of (x ∷ l) t zero = (sound (lt x 256 & test (all_bytes l)) t).0
bytes_of (x ∷ l) t (suc i) = bytes_of l (of_true (all_bytes l) (sound (lt x 256 & test (all_bytes l)) t).1) i

image_bytes : T (all_bytes image)
unfolding image_for
image_bytes = tt

certificate_bytes_lem : T (all_bytes certificate)
unfolding certificate_for certificate_bytes gathered entry cell row
certificate_bytes_lem = tt

pub demand_met : Demand3 part (certificate_of certificate) image
demand_met = demand3 part (omega arith) image certificate (bytes_of image image_bytes) (bytes_of certificate certificate_bytes_lem) accepted_p_lem

-- the only table is 00H to 0FH
tables_table : (x : ℕ) → x < 256 → (certificate_from (up_to largest_rom entry) (up_to 256 cell) (up_to 64 (row 10 364)) 0xA0 0xC0 0).table x ≢ 0 → x < 16
unfolding certificate_from cell
tables_table x h n =
    sound (forall_below 256 (λ (x : ℕ). neg (eq ((certificate_from (up_to largest_rom entry) (up_to 256 cell) (up_to 64 (row 10 364)) 0xA0 0xC0 0).table x) 0) ⇒ lt x 16)) tt x h n

table_is : (x : ℕ) → x < 256 → (certificate_of certificate).table x ≢ 0 → x < 16
unfolding certificate_for
table_is x h n =
    let e : certificate_of certificate ≡ certificate_from (up_to largest_rom entry) (up_to 256 cell) (up_to 64 (row 10 364)) 0xA0 0xC0 0
    = certificate_is entry cell (row 10 364) (ends 0xA0) entry_length cell_length_lem (row_length 10 364) in
    tables_table x h (λ z. n (ap (λ (C : Certificate). C.table x) e ∙ z))

walk_at : (n : ℕ) (tables : ℕ → ℕ) (schedule : List ℕ) (i : ℕ) (m : Monitored) → Walk part (certificate_of certificate) image n tables schedule i m
    → (k : ℕ) → k < n → StepRight part (certificate_of certificate) image tables (after k schedule i m) (record_at schedule (i + k))
walk_at zero tables schedule i m w k h = absurd (omega arith)
walk_at (suc n) tables schedule i m w zero h = let e : i + 0 ≡ i = omega arith in rw e w.0
walk_at (suc n) tables schedule i m w (suc k) h =
    let e : i + suc k ≡ i + 1 + k = omega arith in
    rw e (walk_at n tables schedule (i + 1) (monitor_step part (certificate_of certificate) image m (record_at schedule i)) w.1 k (omega arith))

small : (r rec : List ℕ) → (place_of r rec (Indirect (reg_addr 0xC2) 0)).addr.0 < 256
unfolding place_of
small r rec = omega arith

-- wherever a step runs it, its pointer gives a register below 10H
pub gauges_in_table : (s : State) → IsReset s → (schedule : List ℕ) → Schedule schedule → (k : ℕ)
    → k < length schedule / record_length → (next : RomAddr)
    → event_of image (after k schedule 0 (from_reset s)).state (record_at schedule k) ≡ executed add_gauge next
    → (place_of (requested (after k schedule 0 (from_reset s)).state (record_at schedule k)) (inputs_of part.grounds (record_at schedule k)) (Indirect (reg_addr 0xC2) 0)).addr.0 < 16
gauges_in_table s reset schedule sc k h next e =
    let C = certificate_of certificate in
    let start = from_reset s in
    let m = after k schedule 0 start in
    let rec = record_at schedule k in
    let inputs = inputs_of part.grounds rec in
    let tables = demand_met.0 in
    let w = (demand_met.1 s reset schedule sc).walk in
    let z : 0 + k ≡ k = omega arith in
    let there = walk_at (length schedule / record_length) tables schedule 0 start w k h in
    let r : StepRight part C image tables m rec = subst (λ (j : ℕ). StepRight part C image tables m (record_at schedule j)) z there in
    let to = (acted_state part C image m rec).pc.0 in
    let p = (subst (λ (x : Event). EventRight part C image tables m rec x to) e r.event).pointers.1 in
    let regs = requested m.state rec in
    table_is (place_of regs inputs (Indirect (reg_addr 0xC2) 0)).addr.0 (small regs inputs) (λ q. p.1 (sym p.0 ∙ q))
