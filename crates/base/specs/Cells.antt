-- What holds of every cell of a list: where all hold one value, and once another is stored. Lists of bytes.
-- Assumes nothing.
use Rattle.std.specs.Prelude.{ℕ, zero, suc, ◌<◌, List, [], ◌∷◌, ◌++◌, map, replicate, slice_index, slice_set}
use Rattle.std.proofs.Common.{arith}

-- P holds of each place and what stands there, past the end of 0
abbrev pub Cells : (ℕ → ℕ → Type 0) → List ℕ → Type 0
Cells P xs = (k : ℕ) → P k (slice_index xs k)

pub filled_cells : (P : ℕ → ℕ → Type 0) (n x : ℕ) → ((k : ℕ) → P k x) → ((k : ℕ) → P k 0) → Cells P (replicate n x)
filled_cells P zero x h z k = z k
filled_cells P (suc n) x h z zero = h zero
filled_cells P (suc n) x h z (suc k) = filled_cells (λ (i v : ℕ). P (suc i) v) n x (λ (i : ℕ). h (suc i)) (λ (i : ℕ). z (suc i)) k

pub set_cells : (P : ℕ → ℕ → Type 0) (xs : List ℕ) (a x : ℕ) → Cells P xs → P a x → Cells P (slice_set xs a x)
set_cells P [] a x h p k = h k
set_cells P (y ∷ l) zero x h p zero = p
set_cells P (y ∷ l) zero x h p (suc k) = h (suc k)
set_cells P (y ∷ l) (suc a) x h p zero = h zero
set_cells P (y ∷ l) (suc a) x h p (suc k) = set_cells (λ (i v : ℕ). P (suc i) v) l a x (λ (i : ℕ). h (suc i)) p k

-- every cell holds a byte
abbrev pub Bytes : List ℕ → Type 0
Bytes = Cells (λ (k x : ℕ). x < 256)

pub bytes_cons : (b : ℕ) (r : List ℕ) → b < 256 → Bytes r → Bytes (b ∷ r)
bytes_cons b r h p zero = h
bytes_cons b r h p (suc k) = p k

pub bytes_append : (a b : List ℕ) → Bytes a → Bytes b → Bytes (a ++ b)
bytes_append [] b p q = q
bytes_append (x ∷ a) b p q = bytes_cons x (a ++ b) (p zero) (bytes_append a b (λ (k : ℕ). p (suc k)) q)

pub bytes_map : (f : ℕ → ℕ) → ((i : ℕ) → f i < 256) → (l : List ℕ) → Bytes (map f l)
bytes_map f h [] = λ (k : ℕ). omega arith
bytes_map f h (i ∷ l) = bytes_cons (f i) (map f l) (h i) (bytes_map f h l)
