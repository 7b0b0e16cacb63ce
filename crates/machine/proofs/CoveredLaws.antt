-- What a coverage map holds after a run: its old marks and where the completed instructions began; runs with one map join what each marks.
-- Assumes nothing.
use Rattle.std.specs.Prelude.{ℕ, zero, suc, ◌+◌, ◌%◌, ◌<◌, ◌≤◌, ◌≡◌, refl, ◌≢◌, ◌⊎◌, Bool, true, false, ◌&&◌, ◌||◌}
use Rattle.std.proofs.Common.{◌∙◌, ap, ap₂, inl, inr, ⊎_elim, lt_of_lt_of_le, arith}
use Rattle.std.proofs.Math.Path.{sym}
use Rattle.std.proofs.Math.Bool.{or-false, or-true, and-eq-true_iff}
use Rattle.std.proofs.lemmas.Bool.{false≢true}
use mathlib.Core.List.{List}
use Rattle.std.proofs.Math.ListN.{length}
use Rattle.std.proofs.Math.Dec.{eqb}
use borrow.Author.Tests.{eqb-true}
use Rattle.base.specs.Choice.{pick, from, count}
use Rattle.base.specs.ChoiceLaws.{pick_has}
use Rattle.base.specs.Formula.{eqb_yes, case_bool, same?, le?}
use Rattle.base.specs.Lengths.{largest_rom, is_entry_cost, record_length}
use Rattle.semantics.specs.Setup.{Setup}
use Rattle.semantics.specs.declared.State.{State}
use Rattle.semantics.specs.Left.{Ran}
use Rattle.semantics.specs.Step.{valid_machine, acted_of}
use Rattle.semantics.specs.Refusals.{StepNumber, run_number, run_seven}
use Rattle.semantics.specs.Run.{ran, record_at, run_of}
use Rattle.coverage.specs.Map.{map_words, is_map_length, marked, map_of, empty_map, joined, marked_count}
use Rattle.coverage.specs.BitLaws.{count_same}
use Rattle.coverage.specs.MapLaws.{Words, marked_map_of, map_of_marks, length_map_of, words_map_of, marked_past, same_marks, marked_empty, marked_joined, words_joined, length_joined}
use Rattle.machine.specs.Count.{state_behind, completed_steps}
use Rattle.machine.specs.Reached.{Reaches, begins_at, some_below, reached, covered_run, covered_map}
use Rattle.machine.specs.Retired.{retired_completes, completes_retired, completes_place}

-- a test that holds somewhere below n
has_some : (n : ℕ) (f : ℕ → Bool) (i : ℕ) → i < n → f i ≡ true → some_below n f ≡ true
has_some zero f i l h = absurd (omega (arith, l))
has_some (suc n) f i l h =
    ⊎_elim (λ (e : i ≡ n). ap (λ (t : Bool). t || some_below n f) (rw e at h))
    (λ (e : i ≢ n). ap (λ (t : Bool). f n || t) (has_some n f i (omega (arith, l, e)) h) ∙ or-true (f n)) (same? i n)

some_has : (n : ℕ) (f : ℕ → Bool) → some_below n f ≡ true → (i : ℕ) × (i < n) × (f i ≡ true)
some_has zero f h = absurd (false≢true h)
some_has (suc n) f h =
    ⊎_elim (λ (e : f n ≡ true). (n, omega arith, e))
    (λ (e : f n ≡ false).
    let r = some_has n f (rw e at h) in
    let l = r.1 in
    (r.0, omega (arith, l), r.2)) (case_bool (f n))

module _ (K : Setup) (image : List ℕ) (s : State) (schedule : List ℕ) where
  -- what is reached, in both forms
  reaches : (a : ℕ) → reached K image s schedule a ≡ true → Reaches K image s schedule a
  unfolding reached begins_at
  reaches a h =
      let r = some_has (completed_steps K image s schedule) (begins_at K image s schedule a) h in
      let q = (and-eq-true_iff (acted_of K image (state_behind r.0 K image schedule 0 s) (record_at schedule r.0)).retired _).0 r.2 in
      record {
        step = r.0;
        completed = r.1;
        instruction = retired_completes K image (state_behind r.0 K image schedule 0 s) (record_at schedule r.0) q.0;
        address = eqb-true (state_behind r.0 K image schedule 0 s).pc.0 a q.1;
      }

  reached_where : (a : ℕ) → Reaches K image s schedule a → reached K image s schedule a ≡ true
  unfolding reached begins_at
  reached_where a r =
      has_some (completed_steps K image s schedule) (begins_at K image s schedule a) r.step r.completed
      (rw (completes_retired K image (state_behind r.step K image schedule 0 s) (record_at schedule r.step) r.instruction, eqb_yes r.address))

  -- an address that is reached is one of ROM
  reached_in_rom : (a : ℕ) → Reaches K image s schedule a → a < K.part.rom
  unfolding completed_steps
  reached_in_rom a r =
      let e = r.address in
      let l = completes_place K image (state_behind r.step K image schedule 0 s) (record_at schedule r.step) r.instruction in
      pick_has (λ (n : ℕ). r.step < n → a < K.part.rom) (valid_machine K image && eqb (length schedule % record_length) 0) _ 0
      (λ h _.
      let valid = ((and-eq-true_iff (valid_machine K image) _).0 h).0 in
      let size = eqb-true (length image) K.part.rom ((and-eq-true_iff (is_entry_cost K.entry_cost) _).0 valid).1 in
      omega (arith, e, l, size)) (λ _ f. absurd (omega (arith, f))) r.completed

  module _ (m : List ℕ) where
    pub covered_length : length (covered_map K image s schedule m) ≡ length m
    unfolding covered_map
    covered_length =
        pick_has (λ (x : List ℕ). length x ≡ length m) (is_map_length (length m)) _ m (λ h. length_map_of _ ∙ sym (eqb-true (length m) map_words h)) (λ _. refl)

    module _ (size : length m ≡ map_words) where
      covered_marked : (a : ℕ) → a < largest_rom → marked (covered_map K image s schedule m) a ≡ (marked m a || reached K image s schedule a)
      unfolding covered_map
      covered_marked a h = rw (eqb_yes size) (marked_map_of (λ a. marked m a || reached K image s schedule a) a h)

      covered_words : Words (covered_map K image s schedule m)
      unfolding covered_map
      covered_words = rw (eqb_yes size) (words_map_of (λ a. marked m a || reached K image s schedule a))

      -- a mark is an address of the largest ROM
      mark_in_rom : (n : List ℕ) → length n ≡ map_words → (a : ℕ) → marked n a ≡ true → a < largest_rom
      mark_in_rom n e a h = ⊎_elim (λ (l : largest_rom ≤ a). absurd (false≢true (sym (marked_past n a e l) ∙ h))) (λ (l : a < largest_rom). l) (le? largest_rom a)

      pub mark_stays : (a : ℕ) → marked m a ≡ true → marked (covered_map K image s schedule m) a ≡ true
      mark_stays a h = covered_marked a (mark_in_rom m size a h) ∙ ap (λ (t : Bool). t || reached K image s schedule a) h

      -- a map has a bit for every address of a part's ROM
      pub completed_marked : K.part.rom ≤ largest_rom → (a : ℕ) → Reaches K image s schedule a → marked (covered_map K image s schedule m) a ≡ true
      completed_marked fits a r =
          covered_marked a (lt_of_lt_of_le (reached_in_rom a r) fits) ∙ ap (λ (t : Bool). marked m a || t) (reached_where a r) ∙ or-true (marked m a)

      pub no_other_mark : (a : ℕ) → marked (covered_map K image s schedule m) a ≡ true → (marked m a ≡ true) ⊎ Reaches K image s schedule a
      no_other_mark a h =
          let l = mark_in_rom (covered_map K image s schedule m) (covered_length ∙ size) a h in
          ⊎_elim (λ (e : marked m a ≡ true). inl e)
          (λ (e : marked m a ≡ false). inr (reaches a (sym (ap (λ (t : Bool). t || reached K image s schedule a) e) ∙ sym (covered_marked a l) ∙ h)))
          (case_bool (marked m a))

-- the empty map has 64 words
empty_length : length empty_map ≡ map_words
unfolding empty_map
empty_length = refl

-- two runs with one map, of any configuration and image and from any state each, join what each marks in an empty map
pub covered_joins : (K K' : Setup) (image image' : List ℕ) (s s' : State) (a b m : List ℕ) → length m ≡ map_words → Words m
    → covered_map K' image' s' b (covered_map K image s a m) ≡ joined (joined m (covered_map K image s a empty_map)) (covered_map K' image' s' b empty_map)
covered_joins K K' image image' s s' a b m size small =
    same_marks second (joined (joined m one) other) (covered_length K' image' s' b first ∙ full) (length_joined (joined m one) other)
    (covered_words K' image' s' b first full)
    (words_joined (joined m one) other (words_joined m one small (covered_words K image s a empty_map empty_length)) (covered_words K' image' s' b empty_map empty_length))
    (λ x h.
    covered_marked K' image' s' b first full x h
    ∙ ap₂ (λ (t u : Bool). t || u) (covered_marked K image s a m size x h ∙ ap (λ (t : Bool). marked m x || t) (alone K image s a x h)
    ∙ sym (marked_joined m one x h)) (alone K' image' s' b x h)
    ∙ sym (marked_joined (joined m one) other x h))
  where
    first : List ℕ
    first = covered_map K image s a m

    second : List ℕ
    second = covered_map K' image' s' b first

    one : List ℕ
    one = covered_map K image s a empty_map

    other : List ℕ
    other = covered_map K' image' s' b empty_map

    full : length first ≡ map_words
    full = covered_length K image s a m ∙ size

    alone : (K : Setup) (image : List ℕ) (s : State) (a : List ℕ) (x : ℕ) → x < largest_rom → reached K image s a x ≡ marked (covered_map K image s a empty_map) x
    alone K image s a x h = sym (covered_marked K image s a empty_map empty_length x h ∙ ap (λ (t : Bool). t || reached K image s a x) (marked_empty x h))

-- where the configuration or a length is wrong, the run is refused by 7 and the map is as it was
pub covered_refused : (K : Setup) (image : List ℕ) (s : State) (schedule m : List ℕ) → Words m
    → (is_map_length (length m) && (valid_machine K image && eqb (length schedule % record_length) 0)) ≡ false
    → (covered_run K image s schedule (length m) ≡ ran s 0 7) × (covered_map K image s schedule m ≡ m)
unfolding covered_run covered_map run_of reached completed_steps
covered_refused K image s schedule m small = on (is_map_length (length m)) refl
  where
    on : (t : Bool) → is_map_length (length m) ≡ t → (t && (valid_machine K image && eqb (length schedule % record_length) 0)) ≡ false
        → (pick t (run_of K image s schedule) (ran s 0 7) ≡ ran s 0 7) × (pick t (map_of (λ a. marked m a || reached K image s schedule a)) m ≡ m)
    on true h wrong = (
      rw wrong,
      sym (map_of_marks m (λ a. marked m a || reached K image s schedule a) (eqb-true (length m) map_words h) small
          (λ a _. rw wrong (sym (or-false (marked m a))))),
    )
    on false h wrong = (refl, refl)

pub covered_number : (K : Setup) (image : List ℕ) (s : State) (schedule m : List ℕ) → StepNumber (covered_run K image s schedule (length m)).stop
unfolding covered_run
covered_number K image s schedule m =
    pick_has (λ (r : Ran). StepNumber r.stop) (is_map_length (length m)) (run_of K image s schedule) (ran s 0 7) (λ _. run_number K image schedule s)
    (λ _. inr (inl refl))

-- a run that is refused by 7 leaves the map
pub covered_seven : (K : Setup) (image : List ℕ) (s : State) (schedule m : List ℕ) → Words m → (covered_run K image s schedule (length m)).stop ≡ 7
    → covered_map K image s schedule m ≡ m
unfolding covered_run
covered_seven K image s schedule m small = on (is_map_length (length m)) refl
  where
    on : (t : Bool) → is_map_length (length m) ≡ t → (pick t (run_of K image s schedule) (ran s 0 7)).stop ≡ 7 → covered_map K image s schedule m ≡ m
    on true h z = (covered_refused K image s schedule m small (rw h (run_seven K image schedule s z))).1
    on false h z = (covered_refused K image s schedule m small (rw h)).1

-- the count from an empty map is how many addresses the run reaches
pub covered_count : (K : Setup) (image : List ℕ) (s : State) (schedule : List ℕ)
    → marked_count (covered_map K image s schedule empty_map) ≡ count (reached K image s schedule) (from largest_rom 0)
unfolding marked_count
covered_count K image s schedule =
    count_same (marked (covered_map K image s schedule empty_map)) (reached K image s schedule) largest_rom 0 0
    (λ a l.
    let h : 0 + a < largest_rom = omega (arith, l) in
    covered_marked K image s schedule empty_map empty_length (0 + a) h ∙ ap (λ (t : Bool). t || reached K image s schedule (0 + a)) (marked_empty (0 + a) h))
