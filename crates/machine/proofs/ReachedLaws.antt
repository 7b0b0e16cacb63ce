-- What a run reaches, step by step: the state before the next step, and the marks that it adds.
-- Assumes nothing.
use Rattle.std.specs.Prelude.{ℕ, zero, suc, ◌+◌, ◌/◌, ◌≡◌, refl, Bool, true, false, ◌&&◌, ◌||◌, List, length, ltb}
use Rattle.std.proofs.Common.{◌∙◌, sym, ap₂, arith, add-zero, zero-add, add-one}
use Rattle.std.proofs.Math.Path.{ap}
use Rattle.std.proofs.Math.Bool.{or-false, or_comm, and-false}
use Rattle.std.proofs.Math.Dec.{eqb}
use Rattle.base.specs.Choice.{pick}
use Rattle.base.specs.Formula.{eqb_yes, ltb_yes}
use Rattle.semantics.specs.Setup.{Setup}
use Rattle.semantics.specs.declared.State.{State}
use Rattle.semantics.specs.Step.{acted_of, step_of}
use Rattle.semantics.specs.Left.{Ran}
use Rattle.semantics.specs.Run.{record_at, run_of}
use Rattle.coverage.specs.Map.{map_words, marked, inside, with_mark}
use Rattle.coverage.specs.MapLaws.{Words, marked_with, map_of_marks}
use Rattle.machine.specs.Count.{state_behind}
use Rattle.machine.proofs.CountLaws.{steps_completed}
use Rattle.machine.specs.Reached.{Marks, begins_at, reached_in, reached, covered_map}

-- the state behind one record more
step_more : (k : ℕ) (K : Setup) (image schedule : List ℕ) (i : ℕ) (s : State)
    → state_behind (suc k) K image schedule i s ≡ (step_of K image (state_behind k K image schedule i s) (record_at schedule (i + k))).state
unfolding state_behind
step_more zero K image schedule i s = rw (add-zero i)
step_more (suc k) K image schedule i s =
    let e : i + 1 + k ≡ i + suc k = omega arith in
    rw (← e) (step_more k K image schedule (i + 1) (step_of K image s (record_at schedule i)).state)

pub state_more : (k : ℕ) (K : Setup) (image schedule : List ℕ) (s : State)
    → state_behind (suc k) K image schedule 0 s ≡ (step_of K image (state_behind k K image schedule 0 s) (record_at schedule k)).state
state_more k K image schedule s = rw (zero-add k) at (step_more k K image schedule 0 s)

pub state_next : (i : ℕ) (K : Setup) (image schedule : List ℕ) (s : State)
    → state_behind (i + 1) K image schedule 0 s ≡ (step_of K image (state_behind i K image schedule 0 s) (record_at schedule i)).state
state_next i K image schedule s = rw (add-one i) (state_more i K image schedule s)

-- a map before anything is marked
pub marks_none : (m : List ℕ) (f : ℕ → Bool) → ((a : ℕ) → f a ≡ false) → Marks m m f
marks_none m f none a = rw (none a, and-false (inside m a)) (sym (or-false (marked m a)))

or_parts : (old n some one : Bool) → (old || (n && some) || (n && one)) ≡ (old || (n && (one || some)))
or_parts true n some one = refl
or_parts false true some one = or_comm some one
or_parts false false some one = refl

-- what the step of record i marks
retired_marks : (m : List ℕ) (pc : ℕ) (retired : Bool) → Marks m (pick retired (with_mark m pc) m) (λ a. retired && eqb pc a)
retired_marks m pc true a = marked_with m pc a
retired_marks m pc false a = marks_none m (λ _. false) (λ _. refl) a

module _ (K : Setup) (image schedule : List ℕ) (s : State) (before m : List ℕ) (i : ℕ) (here : State) (e : here ≡ state_behind i K image schedule 0 s) where
  begins : (retired : Bool) → retired ≡ (acted_of K image here (record_at schedule i)).retired → (a : ℕ)
      → (retired && eqb here.pc.0 a) ≡ begins_at K image s schedule a i
  unfolding begins_at
  begins retired r a =
      ap (λ (b : Bool). b && eqb here.pc.0 a) r
      ∙ ap (λ (x : State). (acted_of K image x (record_at schedule i)).retired && eqb x.pc.0 a) e

  -- the marks with one step more
  pub marks_next : length m ≡ length before → Marks before m (reached_in i K image s schedule)
      → (retired : Bool) → retired ≡ (acted_of K image here (record_at schedule i)).retired
      → Marks before (pick retired (with_mark m here.pc.0) m) (reached_in (i + 1) K image s schedule)
  marks_next size h retired r a =
      retired_marks m here.pc.0 retired a
      ∙ ap₂ (λ (x y : Bool). x || y) (h a) (ap₂ (λ (n : ℕ) (y : Bool). ltb (a / 64) n && y) size (begins retired r a))
      ∙ or_parts (marked before a) (inside before a) (reached_in i K image s schedule a) (begins_at K image s schedule a i)
      ∙ ap (λ (k : ℕ). marked before a || (inside before a && reached_in k K image s schedule a)) (sym (add-one i))

-- the marks of what is equal to the run
pub marks_too : (K : Setup) (image schedule : List ℕ) (s : State) (r : Ran) (before after : List ℕ) → r ≡ run_of K image s schedule
    → Marks before after (reached_in r.steps K image s schedule) → (r ≡ run_of K image s schedule) × Marks before after (reached K image s schedule)
unfolding reached
marks_too K image schedule s r before after e h = (e, rw (e, steps_completed K image schedule s) at h)

-- a map of 64 words with the marks of a run is the one that is defined
pub covered : (K : Setup) (image schedule : List ℕ) (s : State) (before after : List ℕ) → length before ≡ map_words → length after ≡ map_words → Words after
    → Marks before after (reached K image s schedule) → after ≡ covered_map K image s schedule before
unfolding covered_map
covered K image schedule s before after size size' small h =
    rw (eqb_yes size)
    (map_of_marks after (λ a. marked before a || reached K image s schedule a) size' small
    (λ a l. h a ∙ rw (size, ltb_yes {a = a / 64} {b = map_words} (omega (arith, l)))))
