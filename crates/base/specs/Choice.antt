-- Choosing by a test or by a number, at any type; the numbers from one up; how many pass a test.
-- Assumes nothing.
use Rattle.std.specs.Prelude.{ℕ, zero, suc, ◌+◌, Bool, true, false, List, [], ◌∷◌, ◌==◌}

-- a where the test holds, else b
abbrev pub pick {ℓ} : {A : Type ℓ} → Bool → A → A → A
pick true a b = a
pick false a b = b

-- what stands beside h in a list of numbers and values, or d
abbrev pub choose {ℓ} : {A : Type ℓ} → ℕ → List (ℕ × A) → A → A
choose h [] d = d
choose h (e ∷ r) d = pick (h == e.0) e.1 (choose h r d)

-- i, i + 1, .., n of them
abbrev pub from : ℕ → ℕ → List ℕ
from zero i = []
from (suc n) i = i ∷ from n (suc i)

-- how many of the list pass the test
abbrev pub count : (ℕ → Bool) → List ℕ → ℕ
count f [] = 0
count f (a ∷ r) = pick (f a) 1 0 + count f r
