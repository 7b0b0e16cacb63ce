-- A table that is a rule's values in order, which antt sees by computing both, holds the rule's value at each place.
-- Assumes nothing.
use Rattle.std.specs.Prelude.{◌≡◌, ℕ, zero, suc, ◌+◌, ◌<◌, List, map, get_or, slice_index_or, refl}
use Rattle.std.proofs.Common.{◌∙◌, sym, ap, add-zero, zero-add, add-suc, suc-add, le_of_suc-le-suc, not-suc-le-zero}
use Rattle.base.specs.Choice.{from}

get_d_from : {A : Type 0} (f : ℕ → A) (d : A) (n i k : ℕ) → k < n → slice_index_or (map f (from n i)) k d ≡ f (i + k)
get_d_from f d zero i k h = absurd (not-suc-le-zero h)
get_d_from f d (suc n) i zero h = ap f (sym (add-zero i))
get_d_from f d (suc n) i (suc k) h = get_d_from f d n (suc i) k (le_of_suc-le-suc h) ∙ ap f (suc-add i k ∙ sym (add-suc i k))

pub table_at : {A : Type 0} (f : ℕ → A) (d : A) (n : ℕ) (xs : List A) → xs ≡ map f (from n 0) → (k : ℕ) → k < n
    → slice_index_or xs k d ≡ f k
table_at f d n xs e k h = ap {B = _} (λ (l : List _). get_or l k d) e ∙ (get_d_from f d n 0 k h ∙ ap f (zero-add k))

-- two functions with the same values at 0 to n - 1, which antt sees by computing both lists
pub agree : {A : Type 0} (f g : ℕ → A) (d : A) (n : ℕ) → map f (from n 0) ≡ map g (from n 0) → (k : ℕ) → k < n → f k ≡ g k
agree f g d n e k h = sym (table_at f d n (map f (from n 0)) refl k h) ∙ table_at g d n (map f (from n 0)) e k h
