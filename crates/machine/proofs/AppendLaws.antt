-- A run over two schedules in turn: it is the run over the first, and from the state behind that the run over the second; what it reaches, and the
-- map that it leaves.
-- Assumes nothing.
use Prim.Native.Nat.{ℕ, zero, suc, ◌+◌, ◌*◌, ◌/◌, ◌%◌, ◌<◌, ◌≤◌}
use Rattle.std.specs.Prelude.{◌≡◌, ◌≢◌, Bool, ◌&&◌, ◌||◌, length, drop}
use Rattle.std.proofs.Common.{◌∙◌, ⊎_elim, arith, zero-add, add-suc, suc-add, length-append, length-drop, eqb-true}
use Rattle.std.proofs.Math.Path.{refl, sym, ap, ap₂}
use Rattle.std.proofs.Math.Bool.{true, false, and-true, or_assoc, or_comm}
use mathlib.Core.List.{List, ◌++◌}
use Rattle.std.proofs.Math.Nat.{add-zero}
use Rattle.std.proofs.lemmas.List.{take-append-le, drop-append-le}
use Rattle.std.proofs.Math.Seq.{drop-append-add}
use Rattle.std.proofs.Math.Dec.{eqb}
use Rattle.std.proofs.lemmas.Bool.{eqb-false}
use Rattle.base.specs.Choice.{pick}
use Rattle.base.specs.ChoiceLaws.{pick_has}
use Rattle.base.specs.Formula.{eqb_yes, eqb_no, case_bool}
use Rattle.base.specs.Lengths.{record_length}
use Rattle.semantics.specs.Setup.{Setup}
use Rattle.semantics.specs.declared.State.{State}
use Rattle.semantics.specs.Left.{Stepped, Ran}
use Rattle.semantics.specs.Step.{valid_machine, acted_of, step_of}
use Rattle.semantics.specs.Run.{ran, record_at, run_from, run_of}
use Rattle.coverage.specs.Map.{is_map_length, marked, map_of}
use Rattle.coverage.specs.MapLaws.{length_map_of, marked_map_of, same_map_of}
use Rattle.machine.specs.Count.{completed_of, completed_steps, state_behind}
use Rattle.machine.proofs.CountLaws.{run_steps, run_state, steps_completed}
use Rattle.machine.specs.Reached.{begins_at, some_below, reached, covered_map}
use Rattle.machine.proofs.ReachedLaws.{state_more}

-- the choice that a run makes by whether a step is completed
abbrev fork : {A : Type 0} → Bool → A → A → A
fork {A} b x y = elim b as (λ _. A) [ true ↦ x | false ↦ y ]

-- a run over k records completes c steps: no more than k, and k if it is not refused
record Counts (k c : ℕ) (r : Ran) : Type 0 where
  few : c ≤ k
  all : r.stop ≡ 0 → c ≡ k

from_counts : (k : ℕ) (K : Setup) (image schedule : List ℕ) (i : ℕ) (s : State)
    → Counts k (completed_of k K image schedule i s) (run_from k K image schedule i s)
unfolding run_from completed_of
from_counts zero K image schedule i s = record { few = omega arith; all = λ _. refl }
from_counts (suc k) K image schedule i s = on (eqb r.stop 0) refl (from_counts k K image schedule (i + 1) r.state)
  where
    r : Stepped
    r = step_of K image s (record_at schedule i)

    x : Ran
    x = run_from k K image schedule (i + 1) r.state

    c : ℕ
    c = completed_of k K image schedule (i + 1) r.state

    on : (b : Bool) → eqb r.stop 0 ≡ b → Counts k c x → Counts (suc k) (fork b (suc c) 0) (fork b x (ran r.state i r.stop))
    on true e h = record { few = omega arith; all = λ z. ap suc (h.all z) }
    on false e h = record { few = omega arith; all = λ z. absurd (eqb-false r.stop 0 e z) }

-- the k records from record i of one schedule on are those from record j of another on
abbrev Same : ℕ → List ℕ → ℕ → List ℕ → ℕ → Type 0
Same k a i b j = (n : ℕ) → n < k → record_at a (i + n) ≡ record_at b (j + n)

module _ (k : ℕ) (a : List ℕ) (i : ℕ) (b : List ℕ) (j : ℕ) (same : Same (suc k) a i b j) where
  same_first : record_at a i ≡ record_at b j
  same_first = rw (add-zero i, add-zero j) at (same 0 (omega arith))

  same_rest : Same k a (i + 1) b (j + 1)
  same_rest n l =
      let e : i + 1 + n ≡ i + suc n = omega arith in
      let f : j + 1 + n ≡ j + suc n = omega arith in
      rw (e, f) (same (suc n) (omega arith))

-- a run over records of a whole, of which the first k are those of a part: the run over the part, and if it is not refused over n records more
module _ (K : Setup) (image whole part : List ℕ) (n : ℕ) where
  abbrev go_on : ℕ → ℕ → Ran → Ran
  go_on i steps r = pick (eqb r.stop 0) (run_from n K image whole i r.state) (ran r.state steps r.stop)

  run_then : (k i j : ℕ) (s : State) → Same k whole i part j
      → run_from (k + n) K image whole i s ≡ go_on (i + k) (i + completed_of k K image part j s) (run_from k K image part j s)
  unfolding run_from completed_of
  run_then zero i j s same = rw (zero-add n, add-zero i)
  run_then (suc k) i j s same =
      rw (suc-add k n)
      (ap (λ (q : List ℕ). first (eqb (step_of K image s q).stop 0) (step_of K image s q)) (same_first k whole i part j same)
      ∙ on (eqb r.stop 0) refl (run_then k (i + 1) (j + 1) r.state (same_rest k whole i part j same)))
    where
      r : Stepped
      r = step_of K image s (record_at part j)

      x : Ran
      x = run_from k K image part (j + 1) r.state

      c : ℕ
      c = completed_of k K image part (j + 1) r.state

      first : Bool → Stepped → Ran
      first b q = fork b (run_from (k + n) K image whole (i + 1) q.state) (ran q.state i q.stop)

      on : (b : Bool) → eqb r.stop 0 ≡ b → first true r ≡ go_on (i + 1 + k) (i + 1 + c) x
          → first b r ≡ go_on (i + suc k) (i + fork b (suc c) 0) (fork b x (ran r.state j r.stop))
      on true e h = h ∙ ap₂ (λ (p q : ℕ). go_on p q x) (omega arith) (omega arith)
      on false e h = rw (e, add-zero i)

-- over no more
run_same : (K : Setup) (image whole part : List ℕ) (k i : ℕ) (s : State) → Same k whole i part 0
    → let r = run_from k K image part 0 s in run_from k K image whole i s ≡ ran r.state (i + completed_of k K image part 0 s) r.stop
unfolding run_from
run_same K image whole part k i s same =
    let r = run_from k K image part 0 s in
    ap (λ (l : ℕ). run_from l K image whole i s) (sym (add-zero k)) ∙ run_then K image whole part 0 k i 0 s same
    ∙ pick_has (λ (x : Ran). x ≡ ran r.state (i + completed_of k K image part 0 s) r.stop) (eqb r.stop 0) _ _
    (λ e. let z = eqb-true r.stop 0 e in rw (z, (from_counts k K image part 0 s).all z)) (λ _. refl)

-- behind m records of a whole, its next k records being those of a part: the state behind them, and what begins at each
module _ (K : Setup) (image whole part : List ℕ) (m : ℕ) (s t : State) (e : state_behind m K image whole 0 s ≡ t) where
  behind_then : (k : ℕ) → Same k whole m part 0 → state_behind (m + k) K image whole 0 s ≡ state_behind k K image part 0 t
  unfolding state_behind
  behind_then zero same = rw (add-zero m) e
  behind_then (suc k) same =
      rw (add-suc m k)
      (state_more (m + k) K image whole s
      ∙ ap₂ (λ (x : State) (q : List ℕ). (step_of K image x q).state) (behind_then k (λ n l. same n (omega arith)))
      (rw (zero-add k) at (same k (omega arith)))
      ∙ sym (state_more k K image part t))

  begins_then : (k : ℕ) → Same k whole m part 0 → (x j : ℕ) → j < k → begins_at K image s whole x (m + j) ≡ begins_at K image t part x j
  unfolding begins_at
  begins_then k same x j l =
      ap₂ (λ (y : State) (q : List ℕ). (acted_of K image y q).retired && eqb y.pc.0 x) (behind_then j (λ n h. same n (omega arith)))
      (rw (zero-add j) at (same j l))

-- a test below m + n, in two parts
some_parts : (m n : ℕ) (f : ℕ → Bool) → some_below (m + n) f ≡ (some_below n (λ j. f (m + j)) || some_below m f)
some_parts m zero f = rw (add-zero m)
some_parts m (suc n) f = rw (add-suc m n) (ap (λ (b : Bool). f (m + n) || b) (some_parts m n f) ∙ sym (or_assoc (f (m + n)) _ _))

some_same : (n : ℕ) (f g : ℕ → Bool) → ((j : ℕ) → j < n → f j ≡ g j) → some_below n f ≡ some_below n g
some_same zero f g h = refl
some_same (suc n) f g h = ap₂ (λ (x y : Bool). x || y) (h n (omega arith)) (some_same n f g (λ j l. h j (omega arith)))

pick_each : {A : Type 0} (b : Bool) (x y p q : A) → (b ≡ true → x ≡ p) → (b ≡ false → y ≡ q) → pick b x y ≡ pick b p q
pick_each true x y p q f g = f refl
pick_each false x y p q f g = g refl

-- a run over a whole schedule, by the tests before it
module _ (K : Setup) (image : List ℕ) (s : State) (schedule : List ℕ) where
  abbrev records : ℕ
  records = length schedule / record_length

  counts : Counts records (completed_steps K image s schedule) (run_of K image s schedule)
  unfolding run_of completed_steps
  counts = on (valid_machine K image && eqb (length schedule % record_length) 0)
    where
      on : (b : Bool) → Counts records (pick b (completed_of records K image schedule 0 s) 0) (pick b (run_from records K image schedule 0 s) (ran s 0 7))
      on true = from_counts records K image schedule 0 s
      on false = record { few = omega arith; all = λ z. absurd (omega (arith, z)) }

  run_by : (b : Bool) → valid_machine K image ≡ b → length schedule % record_length ≡ 0
      → run_of K image s schedule ≡ pick b (run_from records K image schedule 0 s) (ran s 0 7)
  unfolding run_of
  run_by b e w = rw (e, eqb_yes w, and-true b)

  covered_by : (m : List ℕ) (b : Bool) → is_map_length (length m) ≡ b
      → covered_map K image s schedule m ≡ pick b (map_of (λ x. marked m x || reached K image s schedule x)) m
  unfolding covered_map
  covered_by m b e = rw e

module _ (K : Setup) (image : List ℕ) (s : State) (a b : List ℕ) (wa : length a % record_length ≡ 0) (wb : length b % record_length ≡ 0) where
  abbrev k : ℕ
  k = length a / record_length

  abbrev n : ℕ
  n = length b / record_length

  abbrev both : List ℕ
  both = a ++ b

  abbrev middle : State
  middle = (run_of K image s a).state

  lengths : length both % record_length ≡ 0 × length both / record_length ≡ k + n
  lengths = let e = length-append a b in (omega arith, omega arith)

  first_records : Same k both 0 a 0
  first_records j l =
      let i : ℕ = (0 + j) * record_length in
      let h : record_length ≤ length (drop i a) = rw (length-drop i a) (omega arith) in
      rw (drop-append-le i a b (omega arith), take-append-le record_length (drop i a) b h)

  next_records : Same n both k b 0
  next_records j l =
      let e : (k + j) * record_length ≡ length a + j * record_length = omega arith in
      rw (e, drop-append-add a b (j * record_length), zero-add j)

  -- the run over both, by the runs p over the first and q over the second
  abbrev in_turn : Ran → Ran → Ran
  in_turn p q = pick (eqb p.stop 0) (ran q.state (p.steps + q.steps) q.stop) p

  from_turns : let p = run_from k K image a 0 s in run_from (k + n) K image both 0 s ≡ in_turn p (run_from n K image b 0 p.state)
  from_turns =
      let p = run_from k K image a 0 s in
      let q = run_from n K image b 0 p.state in
      let c = from_counts k K image a 0 s in
      let i = run_steps k K image a 0 s in
      let j = run_steps n K image b 0 p.state in
      run_then K image both a n k 0 0 s first_records
      ∙ pick_each (eqb p.stop 0) _ _ _ _
      (λ e. run_same K image both b n (0 + k) p.state (rw (zero-add k) next_records)
      ∙ ap (λ (l : ℕ). ran q.state l q.stop) (omega (arith, i, j, c.all (eqb-true p.stop 0 e))))
      (λ _. ap (λ (l : ℕ). ran p.state l p.stop) (sym i))

  turns : run_of K image s both ≡ in_turn (run_of K image s a) (run_of K image (run_of K image s a).state b)
  turns =
      ⊎_elim
      (λ t. rw (run_by K image s both true t lengths.0, run_by K image s a true t wa, run_by K image (run_from k K image a 0 s).state b true t wb, lengths.1) from_turns)
      (λ f. rw (run_by K image s both false f lengths.0, run_by K image s a false f wa)) (case_bool (valid_machine K image))

  -- where the run over the first is not refused, and where it is
  pub run_in_turn : (run_of K image s a).stop ≡ 0
      → let ra = run_of K image s a in let rb = run_of K image ra.state b in run_of K image s (a ++ b) ≡ ran rb.state (ra.steps + rb.steps) rb.stop
  run_in_turn z = turns ∙ rw (eqb_yes z)

  pub run_stopped : (run_of K image s a).stop ≢ 0 → run_of K image s (a ++ b) ≡ run_of K image s a
  run_stopped z = turns ∙ rw (eqb_no z)

  -- what the first i steps of both reach
  first_reached : (x i : ℕ) → i ≤ k → some_below i (begins_at K image s both x) ≡ some_below i (begins_at K image s a x)
  unfolding state_behind
  first_reached x i h =
      some_same i (begins_at K image s both x) (begins_at K image s a x)
      (λ j l. rw (zero-add j) at (begins_then K image both a 0 s s refl k first_records x j (omega arith)))

  reached_stopped : (run_of K image s a).stop ≢ 0 → (x : ℕ) → reached K image s (a ++ b) x ≡ reached K image s a x
  unfolding reached
  reached_stopped z x =
      let e : completed_steps K image s both ≡ completed_steps K image s a =
      sym (steps_completed K image both s) ∙ ap (λ (r : Ran). r.steps) (run_stopped z) ∙ steps_completed K image a s in
      rw e (first_reached x (completed_steps K image s a) (counts K image s a).few)

  pub covered_stopped : (run_of K image s a).stop ≢ 0 → (m : List ℕ) → covered_map K image s (a ++ b) m ≡ covered_map K image s a m
  covered_stopped z m =
      let e = same_map_of (λ x. marked m x || reached K image s both x) (λ x. marked m x || reached K image s a x)
      (λ x _. ap (λ (t : Bool). marked m x || t) (reached_stopped z x)) in
      covered_by K image s both m (is_map_length (length m)) refl ∙ ap (λ (x : List ℕ). pick (is_map_length (length m)) x m) e
      ∙ sym (covered_by K image s a m (is_map_length (length m)) refl)

  module _ (z : (run_of K image s a).stop ≡ 0) where
    all_first : completed_steps K image s a ≡ k
    all_first = (counts K image s a).all z

    behind_first : state_behind k K image both 0 s ≡ middle
    unfolding state_behind
    behind_first = (rw (zero-add k) at (behind_then K image both a 0 s s refl k first_records)) ∙ sym (rw all_first at (run_state K image a s))

    reached_in_turn : (x : ℕ) → reached K image s (a ++ b) x ≡ (reached K image s a x || reached K image (run_of K image s a).state b x)
    unfolding reached
    reached_in_turn x =
        let i = completed_steps K image middle b in
        let d = (counts K image middle b).few in
        let e : completed_steps K image s both ≡ k + i =
        sym (steps_completed K image both s) ∙ ap (λ (r : Ran). r.steps) (run_in_turn z)
        ∙ ap₂ (λ (p q : ℕ). p + q) (steps_completed K image a s ∙ all_first) (steps_completed K image b middle) in
        rw (e, all_first)
        (some_parts k i (begins_at K image s both x)
        ∙ ap₂ (λ (p q : Bool). p || q)
        (some_same i _ (begins_at K image middle b x) (λ j l. begins_then K image both b k s middle behind_first n next_records x j (omega arith)))
        (first_reached x k (omega arith))
        ∙ or_comm (some_below i (begins_at K image middle b x)) (some_below k (begins_at K image s a x)))

    pub covered_in_turn : (m : List ℕ)
        → covered_map K image s (a ++ b) m ≡ covered_map K image (run_of K image s a).state b (covered_map K image s a m)
    covered_in_turn m =
        let f : ℕ → Bool = λ x. marked m x || reached K image s a x in
        ⊎_elim
        (λ t. rw (covered_by K image s both m true t, covered_by K image s a m true t, covered_by K image middle b (map_of f) true (eqb_yes (length_map_of f)))
        (same_map_of _ _ (λ x l. rw (marked_map_of f x l, reached_in_turn x) (sym (or_assoc (marked m x) _ _)))))
        (λ e. rw (covered_by K image s both m false e, covered_by K image s a m false e, covered_by K image middle b m false e))
        (case_bool (is_map_length (length m)))
