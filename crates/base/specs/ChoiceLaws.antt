-- What holds of a choice: by a test, or by a list of rows.
-- Assumes nothing.
use Rattle.std.specs.Prelude.{◌≡◌, ℕ, Bool, true, false, List, [], ◌∷◌, ◌==◌, ◌≢◌, refl}
use Rattle.std.proofs.Common.{◌∙◌, sym, ne_eqb}
use Rattle.std.proofs.lemmas.Bool.{false≢true}
use Rattle.base.specs.Choice.{pick, choose}

-- by cases of a choice
pub pick_has : {A : Type 0} (P : A → Type 0) (b : Bool) (x y : A) → (b ≡ true → P x) → (b ≡ false → P y) → P (pick b x y)
pick_has P true x y f g = f refl
pick_has P false x y f g = g refl

-- a choice between one and the same
pub pick_same : {A : Type 0} (b : Bool) (x : A) → pick b x x ≡ x
pick_same true x = refl
pick_same false x = refl

-- P holds of each row's number and value
abbrev pub Each : {A : Type 0} → (ℕ → A → Type 0) → List (ℕ × A) → Type 0
Each P [] = Unit {0}
Each P (e ∷ r) = P e.0 e.1 × Each P r

-- what holds of each row's value and of the default holds of the choice
pub choose_has : {A : Type 0} (P : A → Type 0) (h : ℕ) (rows : List (ℕ × A)) (d : A) → Each (λ (k : ℕ) (x : A). P x) rows → P d
    → P (choose h rows d)
choose_has P h [] d each p = p
choose_has P h (e ∷ r) d each p =
    pick_has P (h == e.0) e.1 (choose h r d) (λ _. each.0) (λ _. choose_has P h r d each.1 p)

-- h is none of the list's numbers, as the tuple that the `_` arm of a `match` on a number gives
abbrev pub Misses : {A : Type 0} → ℕ → List (ℕ × A) → Type 0 → Type 0
Misses h [] acc = acc
Misses h (e ∷ r) acc = Misses h r (acc × (h ≢ e.0))

misses_first : {A : Type 0} (h : ℕ) (r : List (ℕ × A)) (acc : Type 0) → Misses h r acc → acc
misses_first h [] acc m = m
misses_first h (e ∷ r) acc m = (misses_first h r (acc × (h ≢ e.0)) m).0

choose_miss_on : {A : Type 0} (h : ℕ) (r : List (ℕ × A)) (d : A) (acc : Type 0) → Misses h r acc → choose h r d ≡ d
choose_miss_on h [] d acc m = refl
choose_miss_on h (e ∷ r) d acc m =
    rw (ne_eqb h e.0 (misses_first h r (acc × (h ≢ e.0)) m).1) (choose_miss_on h r d (acc × (h ≢ e.0)) m)

-- a number that the list does not have chooses the default
pub choose_miss : {A : Type 0} (h : ℕ) (r : List (ℕ × A)) (d : A) → Misses h r (Unit {0}) → choose h r d ≡ d
choose_miss h r d m = choose_miss_on h r d (Unit {0}) m

-- the test fails at each row's number
abbrev pub fails : {A : Type 0} → (ℕ → Bool) → List (ℕ × A) → Bool
fails f [] = true
fails f (e ∷ r) = pick (f e.0) false (fails f r)

-- where such a choice is true the first test fails and the second holds
pub first_fails : (b c : Bool) → pick b false c ≡ true → (b ≡ false) × (c ≡ true)
first_fails true c e = absurd (false≢true e)
first_fails false c e = (refl, e)

-- a number at which the test holds is none of the rows', and chooses the default
pub choose_other : {A : Type 0} (f : ℕ → Bool) (h : ℕ) (r : List (ℕ × A)) (d : A) → f h ≡ true → fails f r ≡ true → choose h r d ≡ d
choose_other f h [] d t n = refl
choose_other f h (e ∷ r) d t n =
    let q = first_fails (f e.0) (fails f r) n in
    rw (ne_eqb h e.0 (λ (p : h ≡ e.0). false≢true (sym q.0 ∙ (rw p at t)))) (choose_other f h r d t q.1)
