-- Records of a schedule: what the step of one says of the run.
-- Assumes nothing.
use Rattle.std.specs.Prelude.{zero, [], get_or, Option, None, Some, Err}
use Rattle.std.specs.Simd.{first_chunks}
use Rattle.std.specs.Option.{is_some}
use Rattle.std.proofs.lemmas.List.{drop-drop}
use Rattle.std.proofs.lemmas.Bool.{false≢true}
use Rattle.std.proofs.Common.{refl, false, ◌≡◌, ◌∙◌, sym, ap, ap₂, Bool, true, List, ℕ, suc, ◌+◌, ◌-◌, ◌*◌, ◌/◌, ◌<◌, arith, eq-eqb, ne_eqb, length, take, drop, length-take, length-drop}
use Rattle.base.specs.Lengths.{record_length}
use Rattle.semantics.specs.Setup.{Setup}
use Rattle.semantics.specs.declared.State.{State}
use Rattle.semantics.specs.Left.{Stepped}
use Rattle.semantics.specs.Step.{refuse, acted_of, settled, valid_machine, step_of}
use Rattle.semantics.specs.Refusals.{step_stops}
use Rattle.semantics.specs.declared.Stop.{Stop}
use Rattle.semantics.specs.declared.Stop.TheVariants.{InvalidArgument, CutOff, Undefined, OddPair, Unmapped, ProgramMemory}
use Rattle.semantics.specs.Stops.{stop_number, number_of, stepped_of}
use Rattle.semantics.specs.Run.{record_at, run_from, ran}
use Rattle.machine.specs.Count.{state_behind}
use Rattle.machine.proofs.ReachedLaws.{state_next}

-- a step on what is valid
pub step_right : (K : Setup) (image : List ℕ) (s : State) (rec : List ℕ) → valid_machine K image ≡ true → length rec ≡ record_length
    → step_of K image s rec ≡ settled s (acted_of K image s rec)
unfolding step_of
step_right K image s rec h g = rw (h, g)

-- chunk i of a schedule is its record i
chunk_at : (n i : ℕ) (schedule : List ℕ) → i < n → get_or (first_chunks record_length n schedule) i [] ≡ record_at schedule i
chunk_at zero i schedule h = absurd (omega (arith, h))
chunk_at (suc n) zero schedule h = refl
chunk_at (suc n) (suc i) schedule h =
    let e : record_length + i * record_length ≡ suc i * record_length = omega arith in
    chunk_at n i (drop record_length schedule) (omega (arith, h)) ∙ ap (λ (l : List ℕ). take record_length l) (drop-drop (i * record_length) record_length schedule ∙ ap (λ (m : ℕ). drop m schedule) e)

pub record_read : (n i : ℕ) (schedule : List ℕ) (records : List (List ℕ)) → records ≡ first_chunks record_length n schedule → i < n
    → get_or records i [] ≡ record_at schedule i
record_read n i schedule records e h = ap (λ (l : List (List ℕ)). get_or l i []) e ∙ chunk_at n i schedule h

-- a refusal has a number other than 0, and where there is none the number is 0
number_not_zero : (stop : Stop) → stop_number stop ≡ 0 → ⊥
number_not_zero InvalidArgument e = omega (arith, e)
number_not_zero CutOff e = omega (arith, e)
number_not_zero Undefined e = omega (arith, e)
number_not_zero OddPair e = omega (arith, e)
number_not_zero Unmapped e = omega (arith, e)
number_not_zero ProgramMemory e = omega (arith, e)

-- a step that is refused leaves the state before it
pub refused_step : (K : Setup) (image : List ℕ) (s : State) (rec : List ℕ) (stop : Stop) → (step_of K image s rec).stop ≡ stop_number stop
    → stepped_of s (Err stop) ≡ step_of K image s rec
refused_step K image s rec stop e =
    sym (ap₂ (λ (after : State) (n : ℕ). refuse after n) ((step_stops s K image rec).unchanged (λ z. number_not_zero stop (sym e ∙ z))) e)

pub stop_numbered : (o : Option Stop) → is_some o ≡ true → number_of o ≡ 0 → ⊥
stop_numbered None h e = false≢true h
stop_numbered (Some stop) h e = number_not_zero stop e

pub no_stop : (o : Option Stop) → is_some o ≡ false → number_of o ≡ 0
no_stop None h = refl
no_stop (Some stop) h = absurd (false≢true (sym h))

module _ (n i : ℕ) (K : Setup) (image schedule : List ℕ) (s : State) (r : Stepped) (rec : List ℕ) (valid : valid_machine K image ≡ true)
    (count : n ≡ length schedule / record_length) (h : i < n) (w : rec ≡ record_at schedule i) (e : r ≡ settled s (acted_of K image s rec)) where
  this_step : r ≡ step_of K image s (record_at schedule i)
  this_step =
      let g : length (record_at schedule i) ≡ record_length = simp (length-take, length-drop) (omega arith) in
      rw w at e ∙ sym (step_right K image s (record_at schedule i) valid g)

  -- it completes an instruction if the step of the record does
  pub retires : (b : Bool) → b ≡ (acted_of K image s rec).retired → b ≡ (acted_of K image s (record_at schedule i)).retired
  retires b q = rw w at q

  -- it leads to the state behind one record more
  pub comes_to : (start : State) → s ≡ state_behind i K image schedule 0 start → r.state ≡ state_behind (i + 1) K image schedule 0 start
  comes_to start q =
      ap (λ (x : Stepped). x.state) this_step ∙ ap (λ (x : State). (step_of K image x (record_at schedule i)).state) q ∙ sym (state_next i K image schedule start)

  next_record : n - i ≡ suc (n - (i + 1))
  next_record = omega arith

  -- a run goes on after a record that was not refused
  pub goes_on : r.stop ≡ 0 → run_from (n - i) K image schedule i s ≡ run_from (n - (i + 1)) K image schedule (i + 1) r.state
  unfolding run_from
  goes_on z = rw (next_record, this_step) (rw (run_from, eq-eqb (step_of K image s (record_at schedule i)).stop 0 (rw this_step at z)))

  -- and ends at one that was
  pub stops : (r.stop ≡ 0 → ⊥) → run_from (n - i) K image schedule i s ≡ ran r.state i r.stop
  unfolding run_from
  stops z = rw (next_record, this_step) (rw (run_from, ne_eqb (step_of K image s (record_at schedule i)).stop 0 (rw this_step at z)))

pub ends : (n i : ℕ) (K : Setup) (image schedule : List ℕ) (s : State) → i ≡ n → run_from (n - i) K image schedule i s ≡ ran s n 0
unfolding run_from
ends n i K image schedule s e =
    let q : n - i ≡ 0 = omega arith in
    rw (q, e)
