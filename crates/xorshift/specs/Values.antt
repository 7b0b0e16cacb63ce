-- The first states from two seeds, as they are published.
-- Assumes nothing.
use Rattle.std.specs.Prelude.{ℕ, zero, suc, ◌≡◌, refl, List, [], ◌∷◌}
use Rattle.xorshift.specs.Xorshift.{round}

-- the first n states, one after each round
abbrev pub states_from : ℕ → ℕ → List ℕ
states_from zero x = []
states_from (suc n) x = round x ∷ states_from n (round x)

-- from Marsaglia's own seed
pub marsaglia_first : states_from 5 2463534242 ≡ 723471715 ∷ 2497366906 ∷ 2064144800 ∷ 2008045182 ∷ 3532304609 ∷ []
unfolding round
marsaglia_first = refl

pub one_first : states_from 5 1 ≡ 270369 ∷ 67634689 ∷ 2647435461 ∷ 307599695 ∷ 2398689233 ∷ []
unfolding round
one_first = refl
